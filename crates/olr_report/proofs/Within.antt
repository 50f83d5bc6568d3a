-- The inner part of a line lies within the outer one.
use Rattle.olr_report.proofs.Common.{Piece, Step, steps_of, steps_of_legs, ◌≡◌, ℕ, ◌+◌, ◌-◌, ◌*◌, ◌≤◌, List, ◌++◌, length, take, drop, refl, sym, ap, ◌∙◌, append_assoc, arith, None, Option, Some, slice_range, drop-drop, take-add, IsPartBetween, earliest_offset, first_length, last_length, latest_offset}
use Rattle.olr_report.specs.PartLaws.{InnerLiesWithinOuter}

-- the earliest distance of an offset isn't behind its latest
in_order : (share : Option ℕ) (length : ℕ)
    → earliest_offset share length ≤ latest_offset share length
in_order None length = omega arith
in_order (Some share) length =
    let more : (share + 1) * length ≡ share * length + length = omega arith in
    omega (arith, more)

-- a range of a list, cut where another range within it begins and ends
range_within : {X : Type 0} (xs : List X) (a b c d : ℕ) → a ≤ b → b ≤ c → c ≤ d
    → slice_range xs a d ≡ take (b - a) (drop a xs)
    ++ (slice_range xs b c ++ take (d - c) (drop (c - b) (drop b xs)))
range_within {X} xs a b c d ab bc cd =
    let ys : List X = drop a xs in
    let count : d - a ≡ (b - a) + ((c - b) + (d - c)) = omega (arith, ab, bc, cd) in
    let whole : a + (b - a) ≡ b = omega (arith, ab) in
    let behind : drop (b - a) ys ≡ drop b xs = cc (drop-drop (b - a) a xs) in
    ap (λ n. take n ys) count ∙ take-add (b - a) ((c - b) + (d - c)) ys
    ∙ ap (λ l. take (b - a) ys ++ l) (take-add (c - b) (d - c) (drop (b - a) ys))
    ∙ ap (λ l. take (b - a) ys ++ (take (c - b) l ++ take (d - c) (drop (c - b) l))) behind

part_within : (steps : List Step) (earliest earliest_behind latest latest_behind : ℕ)
    (outer : Option (List Piece)) (inner : List Piece)
    → earliest ≤ latest → earliest_behind ≤ latest_behind
    → IsPartBetween steps earliest earliest_behind outer
    → IsPartBetween steps latest latest_behind (Some inner)
    → (part : List Piece) × (before : List Step) × (behind : List Step) × (outer ≡ Some part)
    × (steps_of part ≡ before ++ steps_of inner ++ behind)
part_within steps e f l m None inner one other out is =
    absurd (omega (arith, one, other, out, is.0))
part_within steps e f l m (Some part) inner one other out is =
    let n : ℕ = length steps in
    let before : List Step = take (l - e) (drop e steps) in
    let behind : List Step = take (n - f - (n - m)) (drop (n - m - l) (drop l steps)) in
    let cut = range_within steps e l (n - m) (n - f) one (omega (arith, is.0))
    (omega (arith, other)) in
    let same = out.1.steps_are ∙ cut ∙ ap (λ steps. before ++ (steps ++ behind)) (cc) in
    (part, before, behind, refl, same ∙ sym (append_assoc before (steps_of inner) behind))

pub inner_within : InnerLiesWithinOuter
inner_within legs positive negative outer inner is =
    part_within (steps_of_legs legs) (earliest_offset positive (first_length legs))
    (earliest_offset negative (last_length legs))
    (latest_offset positive (first_length legs)) (latest_offset negative (last_length legs)) outer
    inner
    (in_order positive (first_length legs)) (in_order negative (last_length legs)) is.outer_part
    is.inner_part
