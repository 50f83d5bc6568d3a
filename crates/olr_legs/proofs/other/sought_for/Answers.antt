use Rattle.std.proofs.lemmas.List.Elements.{All-weaker}
use Rattle.olr_report.specs.Joined.{IsForwards}
use Rattle.olr_route.specs.Route.{IsPieceOn}
use Rattle.olr_legs.proofs.Apart.{asked_for_all, of_reach}
use Rattle.olr_legs.proofs.other.sought_for.Goals as goal

pub starts_of-requires-clause-forwards : goal.starts_of-requires-clause-forwards
starts_of-requires-clause-forwards c =
    let leg = c.args.leg in
    let is = c.requires.leg in
    let pieces = c.pieces_of_route.ensures leg.map.now leg.limit leg.from leg.to leg.length
    leg.route.now c.sound.ensures is.from is.to is.route in
    All-weaker (IsPieceOn leg.map.now) IsForwards (λ piece on. on.forwards) leg.route.now
    pieces.on_map

pub first_missing_any-requires-clause-seek : goal.first_missing_any-requires-clause-seek
first_missing_any-requires-clause-seek c =
    let leg = c.args.leg in
    let is = c.requires.leg in
    let pieces = c.pieces_of_route.ensures leg.map.now leg.limit leg.from leg.to leg.length
    leg.route.now c.sound.ensures is.from is.to is.route in
    record {
      held = c.in_ok-reach.ensures.held;
      all = asked_for_all c.in_ok-reach.reach.asked c.in_ok-reach.ensures.covers;
      to = is.to;
      forwards = All-weaker (IsPieceOn leg.map.now) IsForwards (λ piece on. on.forwards)
          leg.route.now pieces.on_map;
      length_is = c.one_least_length.ensures leg.map.now leg.limit leg.from leg.to leg.length _
          is.least pieces.least;
    }

pub returns : goal.returns
returns c =
    let leg = c.args.leg in
    let is = c.requires.leg in
    let pieces = c.pieces_of_route.ensures leg.map.now leg.limit leg.from leg.to leg.length
    leg.route.now c.sound.ensures is.from is.to is.route in
    of_reach leg.map.now leg.limit leg.from leg.to leg.route.now c.in_ok-starts.starts.items _ _
    c.args.bound c.first_missing_any.new.turns c.in_ok-sought.sought c.in_ok-reach.ensures.asked.0
    c.in_ok-reach.ensures.asked.1 c.requires.not_ahead pieces.on_map c.in_ok-starts.ensures
    (rw c.deref.ensures.value at c.in_ok-sought.ensures)
