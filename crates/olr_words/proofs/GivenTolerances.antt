-- Tolerances while they take the given values, one name after the other.
use Rattle.olr_words.proofs.Common.{◌≡◌, ℕ, ◌+◌, ◌<◌, ◌≤◌, get_or, length, inl, inr, sym, ◌∙◌, ap, arith, Option, None, Some, unwrap_or, order_at, same_name, names, order_of, value_of, profile_value, Radius, Tolerances, Given}
use Rattle.std.proofs.lemmas.Bool.{cases_eq}
use Rattle.olr_candidates.specs.Values as tolerance
use Rattle.olr_candidates.specs.Values.{IsChanged}
use Rattle.olr_candidates.specs.declared.tolerances.Tolerance.{Tolerance}

-- those before a place have the values, and the others those of the profile
pub record AreUpTo (given : Given) (k : ℕ) (tolerances : Tolerances) : Type 0 where
  pub before : (name : Tolerance) → order_of name < k
      → tolerance.value_of tolerances name ≡ value_of given name
  pub behind : (name : Tolerance) → k ≤ order_of name
      → tolerance.value_of tolerances name ≡ profile_value given.profile name

pub one_given : {given : Given} {k value : ℕ} {before after : Tolerances} → k < length names
    → AreUpTo given k before
    → get_or given.tolerances (order_of (get_or names k Radius)) None ≡ Some value
    → IsChanged (get_or names k Radius) value before after
    → AreUpTo given (k + 1) after
one_given {given} {k} inside are found is = record {
  before = λ name less. elim (cases_eq (order_of name) (order_of (get_or names k Radius))) [
    | inl same ↦ rw (same_name (get_or names k Radius) name same) (is.changed_is
        ∙ sym (ap (λ (o : Option ℕ). unwrap_or o (profile_value given.profile (get_or names k Radius))) found))
    | inr differ ↦ is.others name differ
        ∙ are.before name (omega (arith, less, differ, order_at k Radius inside))
  ];
  behind = λ name more. is.others name (λ same. omega (arith, same, more, order_at k Radius inside))
      ∙ are.behind name (omega (arith, more));
}
