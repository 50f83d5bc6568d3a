use Rattle.std.proofs.Common.{length, ap, arith}
use Rattle.olr_index.proofs.Firsts.{bucket_at, none_behind, ordered, are_of_first}
use Rattle.olr_index.proofs.pair_index.PairIndex.of_first.Goals as goal

pub returns-in_default : goal.returns-in_default
returns-in_default g c = rw (← c.self.view_is) (none_behind _ _ _ _ c.self.invariant
    (omega (arith, ap length c.deref.ensures.value)))

pub slice_bounds-result-count : goal.slice_bounds-result-count
slice_bounds-result-count g c =
    let key_of = g.T.Keyed.key_of in
    let items = c.self.inside.items.items in
    let at = bucket_at c.self.invariant c.deref.ensures.value c.from.ensures c.in-Some.ensures in
    ordered key_of items c.args.first at.0 at.1

pub slice_bounds-result-start : goal.slice_bounds-result-start
slice_bounds-result-start g c =
    let key_of = g.T.Keyed.key_of in
    let items = c.self.inside.items.items in
    let at = bucket_at c.self.invariant c.deref.ensures.value c.from.ensures c.in-Some.ensures in
    ordered key_of items c.args.first at.0 at.1

pub returns : goal.returns
returns g c =
    let key_of = g.T.Keyed.key_of in
    let items = c.self.inside.items.items in
    let at = bucket_at c.self.invariant c.deref.ensures.value c.from.ensures c.in-Some.ensures in
    rw (c.deref-2.ensures.value, ← c.self.view_is)
    (are_of_first key_of items c.args.first at.0 at.1 c.self.invariant.rise)
