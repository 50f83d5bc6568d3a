use Rattle.std.proofs.Common.{◌≡◌, arith}
use Rattle.olr_route.proofs.Lines.{head_length}
use Rattle.olr_route.proofs.shortest.start_on_path.Goals as goal

pub returns-then-not-has_tight_turn : goal.returns-then-not-has_tight_turn
returns-then-not-has_tight_turn c = λ at_start leads.
    let long = head_length c.args.search.now.map.now c.args.line _ c.line.ensures.line in
    let same : at_start ≡ c.in_ok-at_start.at_start =
    omega arith in
    c.if-not-has_tight_turn.ensures leads.next (rw same at leads.tight)
