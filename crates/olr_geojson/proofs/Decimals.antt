-- The decimals of the rest of a degree, one after the other.
use Rattle.std.proofs.Common.{◌≡◌, ℕ, List, [], ◌∷◌, ◌++◌, Bool, true, false, cond, filter, map, refl, sym, ap, ◌∙◌, append_assoc, append-nil}
use Rattle.olr_geojson.specs.Coordinate.{decimal_text, decimals_text, is_written, digit_of, units}

module _ (rest : ℕ) where
  -- what is written of a unit, and of others
  one_more : (written : Bool) (unit : ℕ) (others : List ℕ)
      → cond written (digit_of rest unit ∷ []) [] ++ map (digit_of rest) others
      ≡ map (digit_of rest) (cond written (unit ∷ others) others)
  one_more true unit others = refl
  one_more false unit others = refl

  step : (old : List ℕ) (unit : ℕ) (others : List ℕ)
      → (old ++ decimal_text rest unit) ++ map (digit_of rest) (filter (is_written rest) others)
      ≡ old ++ map (digit_of rest) (filter (is_written rest) (unit ∷ others))
  step old unit others =
      append_assoc old (decimal_text rest unit)
      (map (digit_of rest) (filter (is_written rest) others))
      ∙ ap (λ text. old ++ text)
      (one_more (is_written rest unit) unit (filter (is_written rest) others))

  -- a text with what is written of each of these units
  abbrev added : List ℕ → List ℕ → List ℕ
  added old [] = old
  added old (unit ∷ others) = added (old ++ decimal_text rest unit) others

  added_are : (old units : List ℕ)
      → added old units ≡ old ++ map (digit_of rest) (filter (is_written rest) units)
  added_are old [] = sym (append-nil old)
  added_are old (unit ∷ others) =
      added_are (old ++ decimal_text rest unit) others ∙ step old unit others

  pub decimals_are : (old : List ℕ)
      → (((((old ++ decimal_text rest 100000) ++ decimal_text rest 10000) ++ decimal_text rest 1000)
      ++ decimal_text rest 100) ++ decimal_text rest 10) ++ decimal_text rest 1
      ≡ old ++ decimals_text rest
  decimals_are old = added_are old units
