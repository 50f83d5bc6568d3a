use Rattle.olr_words.proofs.Common.{◌≡◌, ℕ, ◌<◌, get_or, length, ap, subst, arith, Option, None, Some, unwrap_or, in_range, order_at, IsFirstOutOfRange, IsTolerance, names, order_of, Radius, Tolerances, profile_value, value_of, Given}
use Rattle.olr_words.proofs.GivenTolerances.{AreUpTo, one_given}
use Rattle.olr_words.proofs.words.Given.tolerances.Goals as goal

pub loop-name-preserved : goal.loop-name-preserved
loop-name-preserved c = one_given c.loop-name-test.true c.loop-name.invariant
    (rw (← c.order.ensures) c.in-Some.is) c.with-tolerances.ensures

-- a given value that is out of its range, where those before it are taken
first_out : {given : Given} {k value : ℕ} {tolerances : Tolerances} → k < length names
    → AreUpTo given k tolerances
    → get_or given.tolerances (order_of (get_or names k Radius)) None ≡ Some value
    → (IsTolerance (get_or names k Radius) value → ⊥)
    → IsFirstOutOfRange (value_of given) (get_or names k Radius)
first_out {given} {k} {value} {tolerances} inside are found beyond = record {
  beyond = λ is. beyond (subst (IsTolerance (get_or names k Radius))
      (ap (λ (o : Option ℕ). unwrap_or o (profile_value given.profile (get_or names k Radius))) found) is);
  before = λ other less. subst (IsTolerance other)
      (are.before other (omega (arith, less, order_at k Radius inside))) (in_range tolerances other);
}

pub returns-then-not-allows-clause-refused : goal.returns-then-not-allows-clause-refused
returns-then-not-allows-clause-refused c = first_out c.loop-name-test.true c.loop-name.invariant
    (rw (← c.order.ensures) c.in-Some.is)
    (λ is. cc (c.if-not-allows.true, c.allows.ensures.1 is))
