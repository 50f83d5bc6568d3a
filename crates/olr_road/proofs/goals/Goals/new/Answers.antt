use Rattle.olr_road.proofs.Common.{Position, List, subst, sym, AreDeficits}
use Rattle.olr_road.proofs.Outside.{goals_on}
use Rattle.olr_road.proofs.goals.Goals.new.Goals as goal

pub returns-clause-goals : goal.returns-clause-goals
returns-clause-goals c nodes points bans =
    let are = subst (λ (positions : List Position). AreDeficits c.args.entries.now positions
    c.args.axes.now.deficits) (sym c.deref-positions.ensures.value) c.requires.deficits in
    let north = c.new-north.ensures in
    let east = c.new-east.ensures in
    goals_on nodes _ _ bans _ _ _ _ _ _ _
    are c.bounds_of.ensures north.low north.high east.low east.high
