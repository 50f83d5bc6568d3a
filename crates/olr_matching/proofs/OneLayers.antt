-- A reference and tolerances have one value of layers on a map at most.
use Rattle.std.proofs.Math.Nat.{div-add-mod, div-lt_iff_lt-mul, eq-zero-or-pos, mod-lt}
use Rattle.olr_matching.proofs.Common.{AreLayersOn, Candidate, class_limit, IsAdmittedLength, LayersValue, LeadsOn, leg_penalties, leg_penalty, Next, Place, RoadMap, Tolerances, ◌≡◌, ℕ, ◌+◌, ◌*◌, ◌/◌, ◌%◌, ◌<◌, List, [], length, get_or, refl, sym, ◌∙◌, ap, subst, inl, inr, arith, Option, None, Some, option_map, slice_get, ext_get_or, length-map, slice_get-get_or, OneLists, AreLists, Penalties, OneLayers}
use Rattle.olr_matching.proofs.Admitted.{one_length}
use Rattle.olr_matching.proofs.LegLaws.{count_is, layers_count}
use Rattle.olr_matching.proofs.LengthRows.{no_candidate}
use Rattle.olr_matching.proofs.Points.{leads_on}

-- ---- one leg

-- two places have one admitted length at most
same_length : (road : RoadMap) (tolerances : Tolerances) (next : Next) (from to : Place)
    (a b : Option ℕ) → IsAdmittedLength road tolerances next from to a
    → IsAdmittedLength road tolerances next from to b → a ≡ b
same_length road tolerances next from to None None a b = refl
same_length road tolerances next from to None (Some length) a b = absurd (a length b)
same_length road tolerances next from to (Some length) None a b = absurd (b length a)
same_length road tolerances next from to (Some length) (Some other) a b =
    ap (λ (n : ℕ). Some n) (one_length road (class_limit tolerances next) from to length other
    a.is_least b.is_least)

-- the lengths of a leg, by the places of their candidates
abbrev Has : RoadMap → Tolerances → Next → List Candidate → List Candidate → List (Option ℕ)
    → Type 0
Has road tolerances next firsts seconds lengths = (first second : ℕ) (from to : Candidate)
    → slice_get firsts first ≡ Some from → slice_get seconds second ≡ Some to
    → IsAdmittedLength road tolerances next from.place to.place
    (get_or lengths (first * length seconds + second) None)

-- there is a second candidate where there is a pair
pub not_empty : (k m n : ℕ) → k < m * n → 0 < n
not_empty k m n inside = elim (eq-zero-or-pos n) [
  | inl zero ↦ absurd (omega (arith, inside, ap (λ (c : ℕ). m * c) zero))
  | inr pos ↦ pos
]

same_leg : (road : RoadMap) (tolerances : Tolerances) (next : Next)
    (firsts seconds : List Candidate) (a b : List (Option ℕ))
    → length a ≡ length firsts * length seconds → length b ≡ length firsts * length seconds
    → Has road tolerances next firsts seconds a → Has road tolerances next firsts seconds b → a ≡ b
same_leg road tolerances next firsts seconds a b a_long b_long a_has b_has =
    ext_get_or None a b (a_long ∙ sym b_long)
    (λ k inside.
    let n : ℕ = length seconds in
    let pos : 0 < n = not_empty k (length firsts) n (omega (arith, inside, a_long)) in
    let first : ℕ = k / n in
    let second : ℕ = k % n in
    let first_inside : first < length firsts =
    (div-lt_iff_lt-mul pos).1 (omega (arith, inside, a_long)) in
    let second_inside : second < n = mod-lt k pos in
    let place : first * n + second ≡ k = omega (arith, div-add-mod k n) in
    let from : Candidate = get_or firsts first no_candidate in
    let to : Candidate = get_or seconds second no_candidate in
    let from_is = slice_get-get_or firsts first no_candidate first_inside in
    let to_is = slice_get-get_or seconds second no_candidate second_inside in
    let same = same_length road tolerances next from.place to.place _ _
    (a_has first second from to from_is to_is) (b_has first second from to from_is to_is) in
    subst (λ (j : ℕ). get_or a j None ≡ get_or b j None) place same)

-- ---- all legs

-- how many lengths the leg from a point has
pub long : (road : RoadMap) (layers : LayersValue) (layer : ℕ) (next : Next)
    → AreLayersOn road layers → layer < length layers.lengths → LeadsOn layers.reference layer next
    → length (get_or layers.lengths layer []) ≡ length (get_or layers.candidates layer []) * length
    (get_or layers.candidates (layer + 1) [])
long road layers layer next are inside leads =
    let p : Penalties = layers.penalties in
    let within : layer < length p.legs = omega (arith, layers_count are) in
    let pairs = (are.table.legs layer (get_or p.legs layer [])
    (slice_get-get_or p.legs layer [] within)).pairs in
    let here = sym (length-map (get_or layers.lengths layer [])
    (λ (length : Option ℕ). option_map (leg_penalty next) length))
    ∙ sym (ap (λ (l : List (Option ℕ)). length l) (are.legs layer next leads)) ∙ pairs in
    rw (
      count_is p layers.candidates layer are.penalties,
      count_is p layers.candidates (layer + 1) are.penalties,
    ) at here

same_penalties : (a b : Penalties) → a.candidates ≡ b.candidates → a.legs ≡ b.legs → a ≡ b
same_penalties a b one other = λ i. record { candidates = one i; legs = other i }

same_layers : (a b : LayersValue) → a.reference ≡ b.reference → a.tolerances ≡ b.tolerances
    → a.candidates ≡ b.candidates → a.lengths ≡ b.lengths → a.penalties ≡ b.penalties → a ≡ b
same_layers a b reference tolerances candidates lengths penalties = λ i.
    record {
      reference = reference i;
      tolerances = tolerances i;
      candidates = candidates i;
      lengths = lengths i;
      penalties = penalties i;
    }

-- the one layers, but for their legs, which are those of the others
abbrev with_legs_of : LayersValue → LayersValue → LayersValue
with_legs_of a b = record a { lengths = b.lengths; penalties = b.penalties }

-- layers with the same reference, tolerances and candidates have the same lengths
same_lengths : (road : RoadMap) (a b : LayersValue) → AreLayersOn road a
    → AreLayersOn road (with_legs_of a b) → a.lengths ≡ b.lengths
same_lengths road a b are other =
    ext_get_or [] a.lengths b.lengths (omega (arith, are.between, other.between))
    (λ layer inside.
    let leads = leads_on a.reference layer are.reference
    (omega (arith, inside, are.between, are.lists.all)) in
    let next : Next = leads.0 in
    same_leg road a.tolerances next (get_or a.candidates layer [])
    (get_or a.candidates (layer + 1) []) (get_or a.lengths layer []) (get_or b.lengths layer [])
    (long road a layer next are inside leads.1)
    (long road (with_legs_of a b) layer next other
    (omega (arith, inside, are.between, other.between)) leads.1)
    (λ first second from to from_is to_is. are.lengths layer next first second from to leads.1
    from_is to_is)
    (λ first second from to from_is to_is. other.lengths layer next first second from to leads.1
    from_is to_is))

-- and the same penalties
same_legs : (road : RoadMap) (a b : LayersValue) → a.lengths ≡ b.lengths → AreLayersOn road a
    → AreLayersOn road (with_legs_of a b) → a.penalties.legs ≡ b.penalties.legs
same_legs road a b lengths are other =
    let count = layers_count are in
    let others = layers_count other in
    ext_get_or [] a.penalties.legs b.penalties.legs (omega arith) (λ layer inside.
    let leads = leads_on a.reference layer are.reference (omega arith) in
    are.legs layer leads.0 leads.1 ∙ ap
    (λ (l : List (List (Option ℕ))). leg_penalties leads.0 (get_or l layer [])) lengths
    ∙ sym (other.legs layer leads.0 leads.1))

pub one_layers : OneLists → OneLayers
one_layers one_lists road a b are other reference tolerances =
    let lists : AreLists a.tolerances a.reference road.lines b.candidates =
    rw (reference, tolerances) other.lists in
    let candidates : a.candidates ≡ b.candidates =
    one_lists a.tolerances a.reference road.lines a.candidates b.candidates are.lists lists in
    let same : b ≡ with_legs_of a b =
    same_layers b (with_legs_of a b) (sym reference) (sym tolerances) (sym candidates) refl refl in
    let other_are : AreLayersOn road (with_legs_of a b) = subst (AreLayersOn road) same other in
    let lengths : a.lengths ≡ b.lengths = same_lengths road a b are other_are in
    let legs : a.penalties.legs ≡ b.penalties.legs = same_legs road a b lengths are other_are in
    let penalties : a.penalties ≡ b.penalties =
    same_penalties a.penalties b.penalties (are.penalties ∙ sym other_are.penalties) legs in
    same_layers a b reference tolerances candidates lengths penalties
