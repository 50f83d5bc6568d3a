use Rattle.std.proofs.Common.{◌≡◌, ℕ, ◌+◌, ◌∙◌, ap, arith, heap_len, refl, subst, sym, slice_index_or}
use Rattle.olr_route.specs.Walk.{length_at}
use Rattle.olr_legs.specs.Labels.{IsOffered}
use Rattle.olr_legs.specs.declared.labels.Labels.{Labels}
use Rattle.olr_legs.proofs.GoingBack.{IsGoingBack, going_on, going_over, gone_back}
use Rattle.olr_legs.proofs.Walks.{first_inside}
use Rattle.olr_legs.proofs.Turns.{ends_there, head_length, into_inside, turn_from}
use Rattle.olr_legs.proofs.labels.Labels.go_back.Goals as goal
use Rattle.olr_legs.proofs.labels.Labels.go_back.Goals.{then-may_precede+in_ok-offer, else-may_precede}

pub line-requires : goal.line-requires
line-requires c =
    first_inside _ _ _ _ _ c.requires.ready.to c.requires.way.2.on

pub may_precede-requires-clause-line : goal.may_precede-requires-clause-line
may_precede-requires-clause-line c =
    into_inside c.args.search.now.map.now _ _ _ c.lines_into-lines.ensures.lines c.loop-before-test.true

pub line-requires-then-may_precede : goal.line-requires-then-may_precede
line-requires-then-may_precede c =
    into_inside c.args.search.now.map.now _ _ _ c.lines_into-lines.ensures.lines c.loop-before-test.true

pub loop-before-preserved-then-banned : goal.loop-before-preserved-then-banned
loop-before-preserved-then-banned c = let inv = c.loop-before.invariant in record {
  going = going_over _ _ _ _ _ _ _ _ inv.going _ refl
      (λ turn. absurd (turn.allowed c.if-banned.ensures));
  turns = inv.turns;
  more = inv.more;
  waiting = inv.waiting;
}

pub loop-before-preserved : goal.loop-before-preserved
loop-before-preserved c =
    let inv = c.loop-before.invariant in
    let search = c.args.search.now in
    let line = c.args.line in
    let before : ℕ = slice_index_or c.lines_into-lines.result.now c.loop-before.before-index 0 in
    record {
      going = elim c.if-may_precede.branch [
        | then-may_precede+in_ok-offer w ↦
            let turn = turn_from search.map.now line _ c.line.ensures.line before
            (c.lines_into-lines.ensures.lines.only c.loop-before.before-index 0
            c.loop-before-test.true) c.if-banned.ensures in
            let long : w.from-long.result ≡ length_at search.map.now before =
            w.from-long.ensures ∙ sym (head_length search.map.now before _
            w.line-then-may_precede.ensures.line) in
            subst (λ (new : Labels). IsGoingBack search line c.args.length c.args.behind.now
            c.lines_into-lines.result.now (c.loop-before.before-index + 1) c.args.self.now new)
            (sym w.self-is)
            (going_on _ _ _ _ _ _ _ _ w.offer.new.self inv.going _ c.requires.way.1 c.requires.way.2 before refl
            turn (w.if-may_precede.ensures.0 refl)
            (subst (λ l. IsOffered before (l + c.args.length) c.args.behind.now c.loop-before.self
            w.offer.new.self) long w.in_ok-offer.ensures.offered))
        | else-may_precede w ↦
            subst (λ (new : Labels). IsGoingBack search line c.args.length c.args.behind.now
            c.lines_into-lines.result.now (c.loop-before.before-index + 1) c.args.self.now new)
            (sym w.self-is)
            (going_over _ _ _ _ _ _ _ _ inv.going before refl
            (λ _ may. absurd (let never = w.if-may_precede.ensures.1 may in cc)))
      ];
      turns = omega arith;
      more = omega arith;
      waiting = elim c.if-may_precede.branch [
        | then-may_precede+in_ok-offer w ↦
            omega (
              arith,
              ap (λ (l : Labels). heap_len l.waiting) w.self-is,
              w.in_ok-offer.ensures.waiting,
            )
        | else-may_precede w ↦ omega (arith, ap (λ (l : Labels). heap_len l.waiting) w.self-is)
      ];
    }

pub returns-clause-settled : goal.returns-clause-settled
returns-clause-settled c =
    let inv = c.loop-before.invariant in (
      inv.turns,
      gone_back _ _ _ _ _ _ _ _ _ inv.going c.lines_into-lines.ensures.lines c.loop-before-test.false
          (ends_there _ _ _ c.line.ensures.line),
    )
