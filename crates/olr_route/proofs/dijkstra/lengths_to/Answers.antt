use Rattle.olr_route.proofs.Common.{◌∙◌, sym}
use Rattle.olr_route.proofs.Ending.{held_by}
use Rattle.olr_route.proofs.dijkstra.lengths_to.Goals as goal

pub returns-clause-held : goal.returns-clause-held
returns-clause-held c =
    rw (sym c.new.ensures) at (held_by c.args.map.now _ c.sound.ensures c.requires.from
    (rw (c.goals.ensures.lines ∙ c.deref.ensures.value) at c.in_ok-starts.ensures))
