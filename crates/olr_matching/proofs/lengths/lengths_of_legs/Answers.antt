use Rattle.olr_matching.proofs.Common.{lengths_of, lists_of, ◌≡◌, Bool, true, false, ℕ, ◌++◌, List, [], ◌∷◌, ◌∙◌, ap, arith, All, None, Option, Vec, length-map, map-append, All-push, AreLengthsOfLeg}
use Rattle.olr_matching.proofs.LengthRows.{lengths_of_leg}
use Rattle.olr_matching.proofs.Lists.{holds_of_one_more}
use Rattle.olr_matching.proofs.Points.{at_least_two}
use Rattle.olr_matching.proofs.lengths.lengths_of_legs.Goals as goal
use Rattle.olr_matching.proofs.lengths.lengths_of_legs.Goals.{else-stops_early-via-then-stops_early+else-admits_none, else-stops_early-via-else-stops_early}

-- no answer is both
yes_and_no : (answer : Bool) → answer ≡ true → answer ≡ false → ⊥
yes_and_no answer is_true is_false = cc

pub loop-layer-preserved : goal.loop-layer-preserved
loop-layer-preserved c =
    let lists = lists_of c.args.candidates.now in
    let Has : ℕ → List (Option ℕ) → Type 0 = λ layer lengths.
    AreLengthsOfLeg c.args.on.now.map.now c.args.on.now.tolerances c.args.on.now.reference.now lists
    layer lengths in
    let IsNone = All (λ length. length ≡ None) in
    let layer = c.loop-layer.layer in
    let leg = c.in_ok-of_leg.of_leg in
    let here = lengths_of_leg _ _ _ _ layer c.leg_at-leg.result leg.items c.leg_at-leg.ensures
    c.in_ok-of_leg.ensures.lengths in
    let is : lengths_of c.push.new.self.items ≡ lengths_of c.loop-layer.lengths.items ++ leg.items
    ∷ [] = ap lengths_of c.in_ok-push.ensures.items
    ∙ map-append (λ (one : Vec (Option ℕ)). one.items) c.loop-layer.lengths.items (leg ∷ []) in
    record {
      legs = rw is (holds_of_one_more Has [] layer (lengths_of c.loop-layer.lengths.items) leg.items
          c.loop-layer.invariant.legs here);
      admit = λ stops. rw is
          (All-push (λ (lengths : List (Option ℕ)). IsNone lengths → ⊥)
          (lengths_of c.loop-layer.lengths.items) leg.items (c.loop-layer.invariant.admit stops)
          (λ none. elim c.else-stops_early.branch [
            | else-stops_early-via-then-stops_early+else-admits_none w ↦
                yes_and_no w.admits_none.result
                (w.admits_none.ensures.1 (rw w.deref.ensures.value none)) w.if-admits_none.false
            | else-stops_early-via-else-stops_early w
                ↦ yes_and_no c.args.stops_early stops w.if-stops_early.false
          ]));
      searches = rw (← c.leg_at-leg.ensures.map_is) c.in_ok-of_leg.ensures.searches;
    }

pub returns-clause-lengths : goal.returns-clause-lengths
returns-clause-lengths c =
    let count = length-map c.args.candidates.now (λ list. list.items) in
    let two = at_least_two _ c.args.on.now.is_reference in (
      record {
        count = omega arith;
        each = λ layer below. c.loop-layer.invariant.legs.1 layer (omega arith);
      },
      c.loop-layer.invariant.admit,
    )
