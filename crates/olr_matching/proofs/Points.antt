-- The points of a reference, and their candidates.
use Rattle.olr_matching.proofs.Common.{Candidate, LeadsOn, Next, Reference, RoadLine, Tolerances, ◌≡◌, ℕ, ◌+◌, ◌<◌, ◌≤◌, List, [], length, get_or, refl, inl, inr, arith, MatchOption, Option, None, Some, slice_get, slice_get-get_or, slice_get_cases, Point, AreLinked, IsReference, points_of, AreLists, IsListOf}
use Rattle.olr_binary.specs.declared.reference.Reference.TheVariants.{Line, PointAlong}

-- what a list has at a place before its end
pub some_at : {X : Type 0} (xs : List X) (i : ℕ) → i < length xs → (x : X)
    × (slice_get xs i ≡ Some x)
some_at xs i inside = elim (slice_get_cases xs i).1 [
  | inl found ↦ (found.0, found.2)
  | inr past ↦ absurd (omega (arith, inside, past.0))
]

-- a reference has 2 to 32 points
pub at_least_two : (reference : Reference) → IsReference reference
    → 2 ≤ length (points_of reference)
at_least_two (Line points positive negative) sound = sound.at_least
at_least_two (PointAlong points orientation side positive) sound = omega arith

pub at_most_32 : (reference : Reference) → IsReference reference → length (points_of reference) ≤ 32
at_most_32 (Line points positive negative) sound = sound.at_most
at_most_32 (PointAlong points orientation side positive) sound = omega arith

-- each point but the last has a next one
linked : (reference : Reference) → IsReference reference → AreLinked (points_of reference)
linked (Line points positive negative) sound = sound.linked
linked (PointAlong points orientation side positive) sound = sound.linked

-- a point of which there is a next one is not the last
pub leads_within : (reference : Reference) (layer : ℕ) (next : Next) → IsReference reference
    → LeadsOn reference layer next → layer + 1 < length (points_of reference)
leads_within reference layer next sound leads =
    rw leads.next_is at (linked reference sound layer leads.point leads.point_is)

-- the next one, where the other case can't be
next_from : (next : Option Next) (last : Type 0) (within : Next → Type 0) → (last → ⊥)
    → MatchOption next last within → (one : Next) × (next ≡ Some one)
next_from None last within not_last is = absurd (not_last is)
next_from (Some one) last within not_last is = (one, refl)

-- a point that isn't the last leads on
pub leads_on : (reference : Reference) (layer : ℕ) → IsReference reference
    → layer + 1 < length (points_of reference) → (next : Next) × LeadsOn reference layer next
leads_on reference layer sound within =
    let points : List Point = points_of reference in
    let not_last : layer + 1 ≡ length points → ⊥ = λ last. omega (arith, last, within) in
    let point : (d : Point) × (slice_get points layer ≡ Some d) =
    some_at points layer (omega (arith, within)) in
    let found = next_from point.0.next (layer + 1 ≡ length points) (λ _. layer + 1 < length points)
    not_last (linked reference sound layer point.0 point.1) in
    (found.0, record { point = point.0; point_is = point.1; next_is = found.1 })

-- the candidates of a point, from those of all
pub list_of : (tolerances : Tolerances) (reference : Reference) (lines : List RoadLine)
    (lists : List (List Candidate)) (layer : ℕ)
    → AreLists tolerances reference lines lists → layer < length lists
    → IsListOf tolerances reference lines layer (get_or lists layer [])
list_of tolerances reference lines lists layer all inside =
    all.each layer (get_or lists layer []) (slice_get-get_or _ _ _ inside)
