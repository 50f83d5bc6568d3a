-- The pieces of a walk, line by line.
use Rattle.std.proofs.Common.{◌≡◌, ℕ, ◌+◌, ◌<◌, ◌≤◌, List, [], ◌∷◌, ◌++◌, Option, None, Some, drop, get_or, length, sym, ap, ◌∙◌, append_assoc, add-one, option_map, unwrap_or, slice_get}
use Rattle.std.proofs.Math.Seq.{drop-cons}
use Rattle.std.proofs.lemmas.List.{drop_all}
use Rattle.olr_road.specs.RoadMap.{RoadLine, RoadMap, head_of}
use Rattle.olr_road.specs.declared.line.Line.{Line}
use Rattle.olr_road.specs.declared.place.Place.{Place}
use Rattle.olr_route.specs.Walk.{length_at, pieces_of, start_of}
use Rattle.olr_route.specs.declared.piece.Piece.{Piece}

long_of : (found : Option RoadLine) (head : Line) → option_map head_of found ≡ Some head
    → unwrap_or (option_map (λ (line : RoadLine). line.length) found) 0 ≡ head.length
long_of None head is = absurd (cc)
long_of (Some line) head is =
    let same : head_of line ≡ head = cc in
    ap (λ (head : Line). head.length) same

pub long_is : (road : RoadMap) (rank : ℕ) (head : Line)
    → option_map head_of (slice_get road.lines rank) ≡ Some head
    → head.length ≡ length_at road rank
long_is road rank head is = sym (long_of (slice_get road.lines rank) head is)

pub next_piece : (road : RoadMap) (begin to : Place) (behind : List ℕ) (index : ℕ)
    (pieces all : List Piece) → index < length behind
    → pieces ++ pieces_of road begin to (drop index behind) ≡ all
    → (pieces ++ record { line = begin.line; from = begin.at; to = length_at road begin.line } ∷ [])
    ++ pieces_of road (start_of (get_or behind index 0)) to (drop (index + 1) behind) ≡ all
next_piece road begin to behind index pieces all inside is =
    let next : drop index behind ≡ get_or behind index 0 ∷ drop (index + 1) behind =
    drop-cons behind index 0 inside
    ∙ ap (λ (k : ℕ). get_or behind index 0 ∷ drop k behind) (sym (add-one index)) in
    append_assoc pieces (record {
      line = begin.line;
      from = begin.at;
      to = length_at road begin.line;
    } ∷ []) (pieces_of road (start_of (get_or behind index 0)) to (drop (index + 1) behind))
    ∙ sym (ap (λ (rest : List ℕ). pieces ++ pieces_of road begin to rest) next) ∙ is

pub last_piece : (road : RoadMap) (begin to : Place) (behind : List ℕ) (index : ℕ)
    (pieces all : List Piece) → length behind ≤ index
    → pieces ++ pieces_of road begin to (drop index behind) ≡ all
    → pieces ++ record { line = begin.line; from = begin.at; to = to.at } ∷ [] ≡ all
last_piece road begin to behind index pieces all past is =
    sym (ap (λ (rest : List ℕ). pieces ++ pieces_of road begin to rest)
    (drop_all index behind past)) ∙ is
