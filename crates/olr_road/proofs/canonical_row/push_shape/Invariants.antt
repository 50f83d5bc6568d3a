use Rattle.olr_road.proofs.Common.{coordinates_of, place_text, ◌≡◌, ℕ, List, ◌++◌, map, take, codes, string_bytes, flat_map}
use Rattle.olr_road.proofs.canonical_row.push_shape.Given as goal

-- the places so far are added behind the first one, each with a semicolon in front of it
abbrev pub invariant-loop-place : goal.invariant-loop-place
invariant-loop-place l = string_bytes l.text
    ≡ string_bytes l.initial.text ++ flat_map (λ (text : List ℕ). codes ";" ++ text)
    (map place_text (map coordinates_of (take l.place-index l.others)))
