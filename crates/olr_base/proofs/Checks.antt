-- At most one check of a list is the first to fail, and there is one unless all pass.
use Rattle.std.proofs.Common.{◌≡◌, List, [], ◌∷◌, ◌++◌, inl, inr, refl, sym, ◌∙◌}
use Rattle.olr_base.specs.Checks.{Check, needs, forbids, Passes, Fails, Each, AllPass, Refuses, EachFault}

-- no check both passes and fails
apart : {Fault : Type 0} (check : Check Fault) → Passes check → Fails check → ⊥
apart (needs Holds fault) holds fails = fails holds
apart (forbids Holds fault) passes holds = passes holds

-- and it can't be that it does neither
either : {Fault : Type 0} (check : Check Fault) → (Fails check → ⊥) → (Passes check → ⊥) → ⊥
either (needs Holds fault) not_fails fails = not_fails fails
either (forbids Holds fault) passes not_passes = not_passes passes

-- the fault that is reported is one
pub fault_once : {Fault : Type 0} (checks : List (Check Fault)) (a b : Fault) → Refuses checks a
    → Refuses checks b → a ≡ b
fault_once [] a b is other = absurd is
fault_once (check ∷ rest) a b (inl is) (inl other) = is.1 ∙ sym other.1
fault_once (check ∷ rest) a b (inl is) (inr other) = absurd (apart check other.0 is.0)
fault_once (check ∷ rest) a b (inr is) (inl other) = absurd (apart check is.0 other.0)
fault_once (check ∷ rest) a b (inr is) (inr other) = fault_once rest a b is.1 other.1

-- none is, where all checks pass
pub none_refuses : {Fault : Type 0} (checks : List (Check Fault)) (fault : Fault) → AllPass checks
    → Refuses checks fault → ⊥
none_refuses [] fault pass refuses = refuses
none_refuses (check ∷ rest) fault pass (inl fails) = apart check pass.0 fails.0
none_refuses (check ∷ rest) fault pass (inr later) = none_refuses rest fault pass.1 later.1

-- one is, or all checks pass: it can't be that neither is so
pub decided : {Fault : Type 0} (checks : List (Check Fault))
    → ((fault : Fault) → Refuses checks fault → ⊥) → (AllPass checks → ⊥) → ⊥
decided [] none not_all = not_all tt
decided (check ∷ rest) none not_all =
    either check (λ fails. none _ (inl (fails, refl)))
    (λ passes. decided rest (λ fault later. none fault (inr (passes, later)))
    (λ all. not_all (passes, all)))

-- what is so of some checks and of those behind them is so of all, and the other way round
pub each_of_both : {Fault : Type 0} (Is : Check Fault → Type 0) (front rest : List (Check Fault))
    → Each Is front → Each Is rest → Each Is (front ++ rest)
each_of_both Is [] rest first second = second
each_of_both Is (check ∷ front) rest first second =
    (first.0, each_of_both Is front rest first.1 second)

pub each_in_front : {Fault : Type 0} (Is : Check Fault → Type 0) (front rest : List (Check Fault))
    → Each Is (front ++ rest) → Each Is front
each_in_front Is [] rest each = tt
each_in_front Is (check ∷ front) rest each = (each.0, each_in_front Is front rest each.1)

pub each_behind : {Fault : Type 0} (Is : Check Fault → Type 0) (front rest : List (Check Fault))
    → Each Is (front ++ rest) → Each Is rest
each_behind Is [] rest each = each
each_behind Is (check ∷ front) rest each = each_behind Is front rest each.1

-- where some checks pass, those behind them decide
pub refuses_behind : {Fault : Type 0} (front rest : List (Check Fault)) (fault : Fault)
    → AllPass front → Refuses rest fault
    → Refuses (front ++ rest) fault
refuses_behind [] rest fault pass refuses = refuses
refuses_behind (check ∷ front) rest fault pass refuses =
    inr (pass.0, refuses_behind front rest fault pass.1 refuses)

-- where one of some checks fails, those behind them count for nothing
pub refuses_among : {Fault : Type 0} (front rest : List (Check Fault)) (fault : Fault)
    → Refuses front fault → Refuses (front ++ rest) fault
refuses_among [] rest fault refuses = absurd refuses
refuses_among (check ∷ front) rest fault (inl fails) = inl fails
refuses_among (check ∷ front) rest fault (inr later) =
    inr (later.0, refuses_among front rest fault later.1)

-- what holds of the fault of each check holds of the one that is reported
pub reported : {Fault : Type 0} (Is : Fault → Type 0) (checks : List (Check Fault)) (fault : Fault)
    → EachFault Is checks → Refuses checks fault → Is fault
reported Is [] fault each refuses = absurd refuses
reported Is (check ∷ rest) fault each (inl fails) = rw fails.1 each.0
reported Is (check ∷ rest) fault each (inr later) = reported Is rest fault each.1 later.1
