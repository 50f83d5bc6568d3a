use Rattle.olr_messages.proofs.Common.{List, ℕ, ◌+◌, ◌≤◌, ◌++◌, ◌∷◌, length, take, ap, sym, ◌∙◌, arith, slice_range, Reading, front_of}
use Rattle.olr_messages.proofs.Chunks.{behind_lf, lf_found, no_lf_before, no_lf_found, none_at_hand, rest_at_hand}
use Rattle.olr_messages.proofs.Fronts.{front_short}
use Rattle.olr_messages.proofs.messages.Messages.read_to_lf.Goals as goal

pub invariant_of-self : goal.invariant_of-self
invariant_of-self c =
    let it = c.self.inside in
    let sound = c.self.invariant in
    record {
      ordered = omega arith;
      inside = sound.inside;
      some = sound.some;
      held = rw c.hold.ensures.front (front_short _);
      has_room = c.hold.ensures.room;
    }

pub returns-in_default : goal.returns-in_default
returns-in_default c =
    let it = c.self.inside in
    let hand = slice_range c.deref.result.now it.from it.to in
    let old_hand = ap (λ (l : List ℕ). slice_range l it.from it.to) c.deref.ensures.value
    ∙ ap (λ (r : Reading). r.at_hand) c.self.view_is in
    let old_front = ap (λ (r : Reading). r.front) c.self.view_is in
    record {
      none_at_hand = none_at_hand it.chunk.items it.to;
      no_lf = rw (← old_hand) (no_lf_found _ c.in_default.ensures);
      front = c.hold.ensures.front ∙ ap (λ (l : List ℕ). front_of (it.line.items ++ l)) old_hand
          ∙ ap (λ (l : List ℕ). front_of (l ++ c.args.self.now.at_hand)) old_front;
    }

pub invariant_of-self-2 : goal.invariant_of-self-2
invariant_of-self-2 c =
    let it = c.self.inside in
    let sound = c.self.invariant in
    let hand = slice_range c.deref.result.now it.from it.to in
    let inside : it.to ≤ length c.deref.result.now = rw c.deref.ensures.value sound.inside in
    record {
      ordered = behind_lf _ sound.ordered inside c.in-Some.ensures.0.high;
      inside = sound.inside;
      some = sound.some;
      held = rw c.hold-2.ensures.front (front_short _);
      has_room = c.hold-2.ensures.room;
    }

pub returns : goal.returns
returns c =
    let it = c.self.inside in
    let end = c.in-Some.end in
    let hand = slice_range c.deref.result.now it.from it.to in
    let old_hand = ap (λ (l : List ℕ). slice_range l it.from it.to) c.deref.ensures.value
    ∙ ap (λ (r : Reading). r.at_hand) c.self.view_is in
    let old_front = ap (λ (r : Reading). r.front) c.self.view_is in
    let rest = rest_at_hand _ _ _ _ (behind_lf _ c.self.invariant.ordered
    (rw c.deref.ensures.value c.self.invariant.inside) c.in-Some.ensures.0.high) ∙ ap
    (λ (l : List ℕ). slice_range l (it.from + (end + 1)) it.to) c.deref.ensures.value in
    record {
      part = take end hand;
      split = sym old_hand ∙ lf_found _ _ c.in-Some.ensures.0 c.in-Some.ensures.1
          ∙ ap (λ (l : List ℕ). take end hand ++ 10 ∷ l) rest;
      no_lf = no_lf_before _ _ c.in-Some.ensures.0;
      front = c.hold-2.ensures.front ∙ ap (λ (l : List ℕ). front_of (l ++ take end hand)) old_front;
    }
