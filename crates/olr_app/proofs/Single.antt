-- Stages that have one result at most, and two of them one after the other.
use Rattle.olr_app.proofs.Common.{Fault, AndThen, ◌≡◌, Ok, Err, ap, refl, sym, ◌∙◌, subst, inl, inr, IsErrAnd, Result}
use Rattle.olr_app.specs.Stages.{NoFault}
pub use Rattle.olr_app.specs.Stages.{IsSingle}

-- ---- results

-- a result of these types
abbrev pub ok_of : (A E : Type 0) → A → Result A E
ok_of A E found = Ok found

abbrev pub err_of : (A E : Type 0) → E → Result A E
err_of A E fault = Err fault

pub same_ok : {A E : Type 0} {one other : A} → ok_of A E one ≡ Ok other → one ≡ other
same_ok same = cc

pub same_err : {A E : Type 0} {one other : E} → err_of A E one ≡ Err other → one ≡ other
same_err same = cc

pub no_ok_and_err : {A E X : Type 0} {found : A} {fault : E} → ok_of A E found ≡ Err fault → X
no_ok_and_err same = absurd cc

-- what the exit of a `?` returns
exit_of : {T E : Type 0} (result : Result T E) (why : E) → IsErrAnd result (λ fault. fault ≡ why)
    → result ≡ Err why
exit_of (Ok found) why is = absurd is
exit_of (Err fault) why is = ap Err is

pub exit : {T E : Type 0} {result : Result T E} {why : E} → IsErrAnd result (λ fault. fault ≡ why)
    → result ≡ Err why
exit {result = result} {why = why} is = exit_of result why is

-- ---- stages

-- a stage without a fault has one result where it finds one thing
pub no_fault_once : {A : Type 0} (Is : A → Type 0)
    → ((one other : A) → Is one → Is other → one ≡ other) → IsSingle (NoFault Is)
no_fault_once Is once (Ok one) (Ok other) is again = ap Ok (once one other is again)
no_fault_once Is once (Ok one) (Err other) is again = absurd again
no_fault_once Is once (Err one) other is again = absurd is

-- Two stages have one result where each has, the second one for what the first one finds: the first
-- stage that has a fault ends both.
module _ {A B : Type 0} (First : Result A Fault → Type 0) (Next : A → Result B Fault → Type 0)
  where
    -- the result of both, by that of the first
    abbrev GoesOn : Result A Fault → Result B Fault → Type 0
    GoesOn (Ok found) result = Next found result
    GoesOn (Err fault) result = result ≡ Err fault

    record Begun (result : Result B Fault) : Type 0 where
      first : Result A Fault
      is : First first
      goes_on : GoesOn first result

    begun : (result : Result B Fault) → AndThen First Next result → Begun result
    begun (Ok found) is = record { first = Ok is.0; is = is.1; goes_on = is.2 }
    begun (Err fault) is = elim is [
      | inl ends ↦ record { first = Err fault; is = ends; goes_on = refl }
      | inr later ↦ record { first = Ok later.0; is = later.1; goes_on = later.2 }
    ]

    module _ (single : IsSingle First) (next : (found : A) → First (Ok found)
        → IsSingle (Next found))
      where
        from_first : (first : Result A Fault) (one other : Result B Fault) → First first
            → GoesOn first one → GoesOn first other → one ≡ other
        from_first (Ok found) one other is here there = next found is one other here there
        from_first (Err fault) one other is here there = here ∙ sym there

        pub first_then : IsSingle (AndThen First Next)
        first_then one other is again =
            let a = begun one is in
            let b = begun other again in
            from_first a.first one other a.is a.goes_on
            (subst (λ first. GoesOn first other)
            (single b.first a.first b.is a.is) b.goes_on)
