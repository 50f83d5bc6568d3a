-- The lengths of legs and of their joined route.
use Rattle.olr_binary.specs.Reference.{IsReference}
use Rattle.olr_report.proofs.Common.{IsJoinedRoute, Leg, Line, Piece, piece_length, PointAlong, Reference, steps_of, steps_of_legs, ◌≡◌, ℕ, ◌+◌, ◌*◌, ◌^◌, ◌<◌, ◌≤◌, List, [], ◌∷◌, ◌++◌, length, take, get_or, ap, length-append, arith, All, sum_by, All-get_or, AreLegsOf, IsMeasured}
use Rattle.olr_report.proofs.Appending.{steps_taken}
use Rattle.olr_report.proofs.StepLists.{length-steps_of}

some_leg : (reference : Reference) (legs : List Leg) → IsReference reference
    → AreLegsOf reference legs → 0 < length legs
some_leg (Line points positive negative) legs is legs_are =
    omega (arith, is.at_least, legs_are.count)
some_leg (PointAlong points orientation side positive) legs is legs_are =
    omega (arith, is.two, legs_are.count)

-- the steps of a leg are as many as it is long
leg_steps : (leg : Leg) → IsMeasured leg → length (steps_of leg.route) ≡ leg.length
leg_steps leg is = cc (length-steps_of leg.route)

-- one leg more
pub total_more : (legs : List Leg) (leg : Leg) (i total : ℕ) → All IsMeasured legs → i < length legs
    → leg ≡ get_or legs i leg
    → (total ≡ length (steps_of_legs (take i legs))) × (total ≤ i * 2 ^ 20)
    → (total + leg.length ≡ length (steps_of_legs (take (i + 1) legs)))
    × (total + leg.length ≤ (i + 1) * 2 ^ 20)
total_more legs leg i total measured inside is (so_far, below) =
    let here : IsMeasured leg = rw is (All-get_or IsMeasured legs i leg inside measured) in
    let more : steps_of_legs (take i legs) ++ steps_of (get_or legs i leg).route
    ≡ steps_of_legs (take (i + 1) legs) = steps_taken (λ l. steps_of l.route) [] legs i leg inside
    in
    let same : length (steps_of (get_or legs i leg).route) ≡ leg.length = cc (leg_steps leg here) in (
      omega (
        arith,
        so_far,
        same,
        ap length more,
        length-append (steps_of_legs (take i legs)) (steps_of (get_or legs i leg).route),
      ),
      omega (arith, below, here.below),
    )

-- the joined route is as long as the legs together
joined_length : (legs : List Leg) (route : List Piece) → IsJoinedRoute legs route
    → sum_by piece_length route ≡ length (steps_of_legs legs)
joined_length legs route is = cc (length-steps_of route)

first_steps : (legs : List Leg) (d : Leg) → All IsMeasured legs → 0 < length legs
    → (1 ≤ (get_or legs 0 d).length) × ((get_or legs 0 d).length ≤ length (steps_of_legs legs))
first_steps [] d measured some = absurd (omega (arith, some))
first_steps (leg ∷ legs) d measured some =
    let here : IsMeasured leg = measured 0 leg some in (
      here.at_least,
      omega (arith, leg_steps leg here, length-append (steps_of leg.route) (steps_of_legs legs)),
    )

-- and so it isn't empty, and reaches as far as the first leg is long
pub reaches : (reference : Reference) (legs : List Leg) (route pieces : List Piece) (d : Leg)
    (distance : ℕ) → IsReference reference → AreLegsOf reference legs
    → IsJoinedRoute legs route → pieces ≡ route → distance ≤ (get_or legs 0 d).length
    → (0 < sum_by piece_length pieces) × (distance ≤ sum_by piece_length pieces)
reaches reference legs route pieces d distance is legs_are joined same within =
    let steps = first_steps legs d legs_are.measured (some_leg reference legs is legs_are) in
    let total : sum_by piece_length pieces ≡ length (steps_of_legs legs) =
    cc (joined_length legs route joined) in
    (omega (arith, steps.0, steps.1, total), omega (arith, within, steps.1, total))
