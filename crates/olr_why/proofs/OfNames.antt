-- The remedies of names, one name after the other.
use Rattle.std.specs.Option.{option_to_list}
use native.Mathlib.Numerals.{unary_clauses}
use Rattle.olr_why.proofs.Common.{Lowest, Tolerance, order_of, ◌≡◌, ◌≢◌, ℕ, zero, suc, ◌+◌, ◌<◌, ◌≤◌, List, [], ◌∷◌, ◌++◌, length, get_or, drop, refl, sym, ◌∙◌, subst, append_assoc, append-nil, drop-cons, arith, Option, drop_all, AreOfNames, narrowed, Remedy}

module _ (IsOf : Tolerance → Option Remedy → Type 0) where
  -- those of the names before a place, which those of the names from there on complete
  abbrev pub AreUpTo : List Tolerance → ℕ → List Remedy → Type 0
  AreUpTo names k remedies = (rest : List Remedy) → AreOfNames IsOf (drop k names) rest
      → AreOfNames IsOf names (remedies ++ rest)

  pub one_more : (names : List Tolerance) (k : ℕ) (other : Tolerance) (remedies : List Remedy)
      (remedy : Option Remedy) → k < length names → IsOf (get_or names k other) remedy
      → AreUpTo names k remedies → AreUpTo names (k + 1) (remedies ++ option_to_list remedy)
  unfolding AreOfNames
  one_more names k other remedies remedy inside is up_to = λ rest are.
      let later : AreOfNames IsOf (drop (suc k) names) rest = simp unary_clauses at are in
      rw (append_assoc remedies (option_to_list remedy) rest)
      (up_to (option_to_list remedy ++ rest)
      (rw (drop-cons names k other inside) (remedy, rest, is, later, refl)))

  pub all_of_them : (names : List Tolerance) (k : ℕ) (remedies : List Remedy) → length names ≤ k
      → AreUpTo names k remedies → AreOfNames IsOf names remedies
  unfolding AreOfNames
  all_of_them names k remedies all up_to = subst (AreOfNames IsOf names) (append-nil remedies)
      (up_to [] (rw (drop_all k names all) refl))

  -- there is one list of them
  pub one_of_names : ((name : Tolerance) (a b : Option Remedy) → IsOf name a → IsOf name b → a ≡ b)
      → (names : List Tolerance) (a b : List Remedy) → AreOfNames IsOf names a
      → AreOfNames IsOf names b → a ≡ b
  unfolding AreOfNames
  one_of_names one [] a b is also = is ∙ sym also
  one_of_names one (name ∷ names) a b is also = rw (
    is.4,
    also.4,
    one name is.0 also.0 is.2 also.2,
    one_of_names one names is.1 also.1 is.3 also.3,
  ) refl

-- no lesser value of what is added to the lowest class is looked for
pub not_lowest : (k : ℕ) (other : Tolerance) → k < length narrowed
    → order_of (get_or narrowed k other) ≢ order_of Lowest
not_lowest zero other inside = λ same. omega (arith, same)
not_lowest (suc zero) other inside = λ same. omega (arith, same)
not_lowest (suc (suc zero)) other inside = λ same. omega (arith, same)
not_lowest (suc (suc (suc k))) other inside = absurd (omega (arith, inside))
