-- Reading the records of a text one after the other, by the machine that `csv` states.
use Rattle.olr_records.proofs.Common.{◌≡◌, ℕ, zero, suc, ◌<◌, Bool, true, false, cond, List, [], ◌∷◌, length, Some, None, refl, ap, inl, inr, ◌⊎◌, arith, Option, Read, step, next_record, is_end, ends_at_end, default_config, records_from, records_next, State}
use Rattle.csv.specs.declared.parser.State.TheVariants as st

-- after the end of a record no further record is at hand
end_state : (s : State) (c : ℕ) → is_end (step default_config s c).1 ≡ true
    → ends_at_end (step default_config s c).0 ≡ false
end_state st.InEscape c h = absurd cc
end_state s c h = grind arith

-- a record takes bytes, and leaves a state in which no record is at hand
pub record BytesLeft (text : List ℕ) (p : Read) : Type 0 where
  pub shorter : length p.2 < length text
  pub state : ends_at_end p.1 ≡ false

cases_read : (b : Bool) (here : Read) (more : Option Read) (p : Read)
    → cond b (Some here) more ≡ Some p → ((b ≡ true) × (here ≡ p)) ⊎ (more ≡ Some p)
cases_read true here more p e = inl (refl, cc)
cases_read false here more p e = inr e

next_shorter : (rest : List ℕ) (c : ℕ) (s : State) (fields : List (List ℕ)) (field : List ℕ)
    (p : Read)
    → next_record default_config s fields field (c ∷ rest) ≡ Some p → BytesLeft (c ∷ rest) p
unfolding next_record
next_shorter [] c s fields field p e = grind (arith, cases_read, end_state)
next_shorter (d ∷ rest) c s fields field p e =
    elim (cases_read (is_end (step default_config s c).1) _ _ p e) [
      | inl here ↦ rw (← here.1) (record { shorter = omega arith; state = end_state s c here.0 })
      | inr more ↦ let left = next_shorter rest d _ _ _ p more in
          record { shorter = omega arith; state = left.state }
    ]

-- what a read of a record leaves
pub left_after : (s : State) (text : List ℕ) (p : Read) → ends_at_end s ≡ false
    → next_record default_config s [] [] text ≡ Some p → BytesLeft text p
unfolding next_record
left_after s [] p state e = grind (arith, cases_read)
left_after s (c ∷ rest) p state e = next_shorter _ c s _ _ p e

-- more turns than bytes give the same records
pub same_records : (m n : ℕ) (s : State) (text : List ℕ) → ends_at_end s ≡ false → length text < m
    → length text < n → records_from default_config m s text ≡ records_from default_config n s text
unfolding records_from
same_records zero n s text state a b = absurd (omega arith)
same_records (suc m) zero s text state a b = absurd (omega arith)
same_records (suc m) (suc n) s text state a b = elim (next_record default_config s [] [] text)
    as (λ r. next_record default_config s [] [] text ≡ r
    → records_next (records_from default_config m) r
    ≡ records_next (records_from default_config n) r) [
      | None ↦ λ e. refl
      | Some p ↦ λ e.
          let left = left_after s _ p state e in
          ap (λ (rs : List (List (List ℕ))). p.0 ∷ rs)
          (same_records m n _ _ left.state (omega arith) (omega arith))
    ] refl
