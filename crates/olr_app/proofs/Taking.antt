-- A sink that takes bytes piece by piece.
use Rattle.olr_app.proofs.Common.{◌≡◌, ℕ, List, ◌++◌, take, drop, sym, ap, ◌∙◌, append_assoc, take-append-drop, Option, Appends}
use Rattle.std.proofs.KnownBytes.{Appends-trans}

-- one piece more of what was left
pub taken_more : (a b c : Option (List ℕ)) (bytes front rest : List ℕ) (n : ℕ)
    → bytes ≡ front ++ rest → Appends a b front → Appends b c (take n rest)
    → (bytes ≡ (front ++ take n rest) ++ drop n rest) × Appends a c (front ++ take n rest)
taken_more a b c bytes front rest n whole first second = (
  whole ∙ ap (λ xs. front ++ xs) (sym (take-append-drop n rest))
      ∙ sym (append_assoc front (take n rest) (drop n rest)),
  Appends-trans a b c front (take n rest) first second,
)
