-- The values of tolerances by their names: each is in its range, and they decide the tolerances.
use mathlib.Core.Path.{fun_ext}
use Rattle.olr_candidates.proofs.Common.{◌≡◌, ℕ, zero, suc, ◌<◌, get_or, length, refl, ap, arith, subst, cases_eq, Tolerances}
use Rattle.std.proofs.Props.{props}
use Rattle.olr_candidates.proofs.Cutting.{Lacks}
use Rattle.olr_candidates.proofs.Joined.{AreSmall, joined_lacks, same_numbers}
use Rattle.olr_candidates.specs.Tolerances.{IsTolerance, names, order_of}
use Rattle.olr_candidates.specs.Values.{IsChanged, numbers, tolerances_text, value_of}
use Rattle.olr_candidates.specs.declared.tolerances.Tolerance.{Tolerance}
use Rattle.olr_candidates.specs.declared.tolerances.Tolerance.TheVariants.{Radius, Bearing, Class, Lowest, Percent, Slack}

-- each value is in its range
abbrev pub in_range : (tolerances : Tolerances) (name : Tolerance)
    → IsTolerance name (value_of tolerances name)
in_range tolerances Radius = tolerances.radius_in_range
in_range tolerances Bearing = tolerances.bearing_in_range
in_range tolerances Class = tolerances.class_in_range
in_range tolerances Lowest = tolerances.lowest_in_range
in_range tolerances Percent = tolerances.percent_in_range
in_range tolerances Slack = tolerances.slack_in_range

-- ---- the order of names

-- a name is the one at its place in the order
name_at : (name : Tolerance) → get_or names (order_of name) Radius ≡ name
name_at Radius = refl
name_at Bearing = refl
name_at Class = refl
name_at Lowest = refl
name_at Percent = refl
name_at Slack = refl

-- so two names of one place are the same
pub same_name : (name other : Tolerance) → order_of other ≡ order_of name → other ≡ name
same_name name other same = grind (arith, name_at)

-- ---- the same values

-- a value of the tolerance of a name
abbrev Value : Tolerance → Type 0
Value name = (value : ℕ) × IsTolerance name value

-- a value is in its range in one way
same_in_range : (name : Tolerance) (a b : Value name) → a.0 ≡ b.0 → a ≡ b
same_in_range name a b same =
    let one : (value : ℕ) → IsProp (IsTolerance name value) = λ value. hlevel props in
    let Same : ℕ → Type 0 = λ n. (is : IsTolerance name n) → ◌≡◌ {A = Value name} a (n, is) in
    subst Same same (λ is. ap (λ (known : IsTolerance name a.0). (a.0, known)) (one a.0 a.1 is)) b.1

abbrev each : (tolerances : Tolerances) (name : Tolerance) → Value name
each tolerances name = (value_of tolerances name, in_range tolerances name)

abbrev made : ((name : Tolerance) → Value name) → Tolerances
made values = record {
  radius = (values Radius).0;
  bearing = (values Bearing).0;
  class = (values Class).0;
  lowest = (values Lowest).0;
  percent = (values Percent).0;
  slack = (values Slack).0;
  radius_in_range = (values Radius).1;
  bearing_in_range = (values Bearing).1;
  class_in_range = (values Class).1;
  lowest_in_range = (values Lowest).1;
  percent_in_range = (values Percent).1;
  slack_in_range = (values Slack).1;
}

pub same_tolerances : (a b : Tolerances) → ((name : Tolerance) → value_of a name ≡ value_of b name)
    → a ≡ b
same_tolerances a b same = ap made
    (fun_ext λ name. same_in_range name (each a name) (each b name) (same name))

-- ---- one tolerance changed

-- one value of tolerances has a given value of one of them, all others being as given
pub one_changed : {name : Tolerance} {value : ℕ} {given a b : Tolerances} → IsChanged name value
    given a → IsChanged name value given b → a ≡ b
one_changed {name} {value} {given} {a} {b} one other =
    grind (arith, same_tolerances, cases_eq, same_name)

-- ---- the text of the numbers

-- equal numbers are of the same tolerances
same_values : (a b : Tolerances) → numbers a ≡ numbers b → (name : Tolerance)
    → value_of a name ≡ value_of b name
same_values a b same Radius = cc
same_values a b same Bearing = cc
same_values a b same Class = cc
same_values a b same Lowest = cc
same_values a b same Percent = cc
same_values a b same Slack = cc

small : (t : Tolerances) → AreSmall (numbers t)
small t = grind arith

-- equal texts are of the same tolerances
pub same_text : (a b : Tolerances) → tolerances_text a ≡ tolerances_text b → a ≡ b
same_text a b same = same_tolerances a b (same_values a b
    (same_numbers (numbers a) (numbers b) (small a) (small b) same))

-- and have no line feed
pub text_is_one_line : (t : Tolerances) → Lacks 10 (tolerances_text t)
text_is_one_line t = joined_lacks 10 (numbers t) (omega arith) (small t)

-- ---- each name at its place

pub order_at : (k : ℕ) (other : Tolerance) → k < length names → order_of (get_or names k other) ≡ k
order_at zero other inside = refl
order_at (suc zero) other inside = refl
order_at (suc (suc zero)) other inside = refl
order_at (suc (suc (suc zero))) other inside = refl
order_at (suc (suc (suc (suc zero)))) other inside = refl
order_at (suc (suc (suc (suc (suc zero))))) other inside = refl
order_at (suc (suc (suc (suc (suc (suc k)))))) other inside = absurd (omega (arith, inside))
