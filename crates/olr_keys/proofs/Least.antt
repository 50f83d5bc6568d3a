-- The least of all keys that something holds of.
use Rattle.std.proofs.Common.{arith}
use Rattle.olr_keys.proofs.Common.{◌≡◌, ◌⊎◌, Bool, false, Option, Some, None, inl, refl, Decides, IsHeldBefore, KeyValue, IsBefore, IsAfter, IsLeastOf, IsHeld, transitive, compared}

-- a key held that the other one doesn't come before
pub stays_held : (after held : Option KeyValue) {key h : KeyValue} {test : Bool} → held ≡ Some h
    → Decides test (IsBefore key h) → test ≡ false
    → IsLeastOf (λ (other : KeyValue). IsHeld held other ⊎ ((other ≡ key) × IsAfter after other))
    (Some h)
stays_held after None is decides fails = absurd cc
stays_held after (Some g) {key} {h} is decides fails = grind (arith, compared)

module _ (P Q : KeyValue → Type 0) where
  -- of the same keys
  pub same_least : ((key : KeyValue) → P key → Q key) → ((key : KeyValue) → Q key → P key)
      → (found : Option KeyValue) → IsLeastOf P found → IsLeastOf Q found
  same_least forth back None none = λ key there. none key (back key there)
  same_least forth back (Some least) is = (forth least is.0, λ key there. is.1 key (back key there))

  -- of the same keys, and others that all come after the one found
  pub later_least : ((key : KeyValue) → P key → Q key) → (found : Option KeyValue)
      → ((key : KeyValue) → Q key → P key ⊎ IsHeldBefore found key) → IsLeastOf P found
      → IsLeastOf Q found
  later_least forth None split none = grind arith
  later_least forth (Some least) split is = grind arith

  -- of the keys that held one is the least of, and more
  pub more_least : (held found : Option KeyValue) → IsLeastOf P held
      → IsLeastOf (λ (key : KeyValue). IsHeld held key ⊎ Q key) found
      → IsLeastOf (λ (key : KeyValue). P key ⊎ Q key) found
  more_least None None none is = grind arith
  more_least None (Some least) none is = grind arith
  more_least (Some held) None old_is is = absurd (is held (inl refl))
  more_least (Some held) (Some least) old_is is = grind (arith, transitive)
