use Rattle.olr_legs.proofs.OneLine.{none_apart}
use Rattle.olr_legs.proofs.OtherPaths.{lines_on_map, nothing, path_is}
use Rattle.olr_legs.proofs.other.other_of.Goals as goal

pub returns-then-is_ahead-clause-other : goal.returns-then-is_ahead-clause-other
returns-then-is_ahead-clause-other c = λ behind apart hardly_longer.
    let leg = c.args.leg in
    let ahead = c.is_ahead.ensures.0 c.if-is_ahead.true in
    none_apart leg.map.now leg.limit leg.from leg.to c.sound.ensures c.requires.leg.to ahead.0 ahead.1
    c.no_beginning_of_another.ensures leg.length leg.route.now c.requires.leg.route behind apart

pub path_of-requires-clause-lines : goal.path_of-requires-clause-lines
path_of-requires-clause-lines c =
    let found = rw c.in-Found.is at c.in_ok-sought_for.ensures in
    lines_on_map c.args.leg c.requires.leg c.args.near c.bound_of.result c.bound_of.ensures c.sought_for.new.turns
    c.in-Found.way found

pub returns-in-Nothing-clause-other : goal.returns-in-Nothing-clause-other
returns-in-Nothing-clause-other c =
    let found = rw c.in-Nothing.is at c.in_ok-sought_for.ensures in
    nothing c.args.leg c.requires.leg c.args.near c.bound_of.result c.bound_of.ensures c.sought_for.new.turns found

pub returns-in_ok-path_of-in-Found-clause-other : goal.returns-in_ok-path_of-in-Found-clause-other
returns-in_ok-path_of-in-Found-clause-other c =
    let found = rw c.in-Found.is at c.in_ok-sought_for.ensures in
    path_is c.args.leg c.requires.leg c.args.near c.bound_of.result c.bound_of.ensures c.sought_for.new.turns
    c.in-Found.way found c.in_ok-path_of-in-Found.field-0
    c.in_ok-path_of-in-Found.ensures.longer c.in_ok-path_of-in-Found.ensures.pieces
