-- Where the first dashes of a text are.
use Rattle.std.proofs.Common.{◌≡◌, ◌∙◌, ap, refl, inl, inr, ℕ, arith, List, ◌++◌, length, drop, Some}
use Rattle.std.proofs.lemmas.Bool.{cases_lt}
use Rattle.std.proofs.lemmas.List.{drop_at}
use Rattle.std.specs.Str.Pattern.{FindsText}
use Rattle.olr_words.specs.RecordWords.{IsAtDashes, dashes}

-- where the first ` -- ` is found
pub at_dashes : (text before reference : List ℕ) (i j : ℕ) → FindsText dashes text (Some (i, j))
    → length before ≡ i → text ≡ before ++ (dashes ++ reference) → IsAtDashes text before reference
at_dashes text before reference i j found at whole = record {
  whole = whole;
  first = λ front rest is. elim (cases_lt (length front) i) [
    | inl less ↦ absurd (found.0 (length front) less rest
        (ap (drop (length front)) is ∙ drop_at front (dashes ++ rest) (length front) refl))
    | inr more ↦ omega (arith, more, at)
  ];
}
