-- A point has one list of candidates. A place in it is the number of the candidates before it.
use Rattle.std.proofs.lemmas.Bool.Decides.{Decides-or, Decides-and, Decides-ltb, Decides-eqb}
use Rattle.olr_candidates.proofs.Common.{Coordinates, Point, RoadLine, Candidate, Tolerances, IsBefore, IsOneOf, AreCandidates, no_longer, ◌≡◌, ℕ, ◌≤◌, Bool, List, length, get_or, Some, arith, slice_get, filter, Contains, Decides, All-contains, AreTooMany, is_before, same_list, place_counts}
use Rattle.olr_candidates.proofs.ByNumbers as numbers

-- no two candidates come before each other
one_way : (a b : Candidate) → IsBefore a b → IsBefore b a → ⊥
one_way = numbers.one_way _ _

pub before_decides : (a b : Candidate) → Decides (is_before a b) (IsBefore a b)
before_decides a b = grind (arith, Decides-or, Decides-ltb, Decides-and, Decides-eqb)

module _ (tolerances : Tolerances) (origin : Coordinates) (point : Point) (is_last : Bool)
    (lines : List RoadLine) where
  -- a member of one list is a member of the other
  contained : (a b : List Candidate) → AreCandidates tolerances origin point is_last lines a
      → AreCandidates tolerances origin point is_last lines b → (c : Candidate) → Contains a c
      → Contains b c
  contained a b one other c there =
      other.each c (All-contains (IsOneOf _ _ _ _ _) a c one.only there)

  pub one_list : (a b : List Candidate) → AreCandidates tolerances origin point is_last lines a
      → AreCandidates tolerances origin point is_last lines b → a ≡ b
  one_list a b one other = same_list IsBefore one_way a b one.rise other.rise
      (contained a b one other) (contained b a other one)

  pub not_too_many : (candidates : List Candidate)
      → AreCandidates tolerances origin point is_last lines candidates → length candidates ≤ 64
      → AreTooMany tolerances origin point is_last lines → ⊥
  not_too_many candidates are at_most many = omega (
    arith,
    no_longer _ _ many.differ
        (λ k d inside. are.each (get_or many.found k d) (many.only k d inside)),
  )

  pub ranks_count : (candidates : List Candidate) (index : ℕ) (candidate : Candidate)
      → AreCandidates tolerances origin point is_last lines candidates
      → slice_get candidates index ≡ Some candidate
      → length (filter (λ other. is_before other candidate) candidates) ≡ index
  ranks_count candidates index candidate are at =
      place_counts IsBefore one_way is_before before_decides _ _ _ are.rise at
