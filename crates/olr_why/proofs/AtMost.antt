-- Tolerances that are at most others. One value with another one in place of one of them is known
-- by that value.
use Rattle.olr_why.proofs.Common.{IsChanged, Lowest, Tolerance, order_of, Tolerances, value_of, ◌≡◌, ◌≢◌, ℕ, ◌≤◌, inl, inr, refl, sym, ◌∙◌, arith, cases_eq, one_changed, same_name}

-- each tolerance is at most the other one, and what is added to the lowest class is the same
pub record AreAtMost (before after : Tolerances) : Type 0 where
  pub each : (name : Tolerance) → value_of before name ≤ value_of after name
  pub lowest : before.lowest ≡ after.lowest

-- ---- one tolerance changed

module _ {name : Tolerance} {value wider : ℕ} {given before after : Tolerances}
    (at_most : value ≤ wider)
    (is : IsChanged name value given before)
    (also : IsChanged name wider given after) where
  unchanged : (other : Tolerance) → order_of other ≢ order_of name
      → value_of before other ≡ value_of after other
  unchanged other differ = is.others other differ ∙ sym (also.others other differ)

  no_greater : (other : Tolerance) → value_of before other ≤ value_of after other
  no_greater other = elim (cases_eq (order_of other) (order_of name)) [
    | inl same ↦ rw (same_name name other same) (omega (arith, is.changed_is, also.changed_is))
    | inr differ ↦ omega (arith, unchanged other differ)
  ]

  -- with a greater value of another tolerance than that of the lowest class
  pub at_most_wider : order_of name ≢ order_of Lowest → AreAtMost before after
  at_most_wider differ =
      record { each = no_greater; lowest = unchanged Lowest (λ same. differ (sym same)) }

-- with the same value
pub at_most_same : {name : Tolerance} {value : ℕ} {given before after : Tolerances}
    → IsChanged name value given before → IsChanged name value given after → AreAtMost before after
at_most_same {name} {value} {given} {before} {after} is also = rw (one_changed is also)
    (record { each = λ name. omega arith; lowest = refl })
