use Rattle.olr_road.proofs.Sets.{ids_of_entries}
use Rattle.olr_road.proofs.line_set.LineSet.find.Goals as goal

pub rank_of_key-requires-clause-rise : goal.rank_of_key-requires-clause-rise
rank_of_key-requires-clause-rise c =
    rw c.deref.ensures.value (rw (← (ids_of_entries c.self.inside.points.items _))
    (rw c.self.view_is c.requires))

pub returns : goal.returns
returns c = rw (← c.self.view_is) (rw (ids_of_entries c.self.inside.points.items _)
    (rw c.deref.ensures.value at c.rank_of_key.ensures))
