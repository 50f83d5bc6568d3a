-- One step of the run.
use Rattle.olr_batch.proofs.Common.{◌≡◌, ◌↔◌, ℕ, List, [], ◌∷◌, Bool, true, false, Option, None, Some, refl, sym, inl, inr, Contains, IsTrue, Result, Appends, IsAtEnd, prepend_known, Appends-trans, append-nil, Failed, IsPassedOn, IsSame, MayAsk}
use Rattle.std.specs.Bool.{MatchBool}

-- the case of what is found
pub where_found : (A B : Type 0) (found : Bool) → found ≡ true → MatchBool found A B → A
where_found A B true is all = all
where_found A B false is all = absurd cc

pub where_over : (A B : Type 0) (found : Bool) → found ≡ false → MatchBool found A B → B
where_over A B false is all = all
where_over A B true is all = absurd cc

-- where nothing is left at hand and in the source, the source is at its end
pub at_end_of : (at_hand : List ℕ) (left : Option (List ℕ)) → IsAtEnd (prepend_known at_hand left)
    → IsAtEnd left
at_end_of at_hand None is = tt
at_end_of [] (Some bytes) is = is
at_end_of (byte ∷ at_hand) (Some bytes) is = absurd cc

-- no byte was taken
pub takes_none : (known : Option (List ℕ)) → Appends known known []
takes_none None = tt
takes_none (Some bytes) = sym (append-nil bytes)

module _ {O : Type 0} {taken : O → Option (List ℕ)} {failed : O → ℕ}
    {flush_gives : O → Result (Unit {0}) Failed → O → Type 0} where
  pub same : {sink : O} → IsSame taken failed flush_gives sink sink
  same {sink} = record { kept = takes_none (taken sink); none_failed = refl }

  -- whether a whole record is at hand or not, no byte was taken
  pub same_passed : (at_hand : Bool) {old new : O}
      → IsPassedOn taken failed flush_gives at_hand old new
      → IsSame taken failed flush_gives old new
  same_passed true is = rw is same
  same_passed false is = is.0

  -- bytes that were taken after that
  pub takes_after : {old at : O} (new : O) (bytes : List ℕ) → IsSame taken failed flush_gives old at
      → Appends (taken at) (taken new) bytes → Appends (taken old) (taken new) bytes
  takes_after {old} {at} new bytes is more =
      Appends-trans (taken old) (taken at) (taken new) [] bytes is.kept more

-- the input may be asked once that was found out, and passed on
pub may_ask : {O : Type 0} (taken : O → Option (List ℕ)) (failed : O → ℕ)
    (flush_gives : O → Result (Unit {0}) Failed → O → Type 0) (is_at_hand : Bool)
    (at_hand : List ℕ) (old new : O) → (IsTrue is_at_hand ↔ Contains at_hand 10)
    → IsPassedOn taken failed flush_gives is_at_hand old new → MayAsk flush_gives at_hand new
may_ask taken failed flush_gives true at_hand old new whole passed = inl (whole.0 refl)
may_ask taken failed flush_gives false at_hand old new whole passed = inr (old, passed.1)
