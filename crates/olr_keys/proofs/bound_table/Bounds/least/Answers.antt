use Rattle.olr_keys.proofs.Common.{sym, subst, arith, IsBound, Penalties}
use Rattle.olr_keys.proofs.Bounding.{held_bound}
use Rattle.olr_keys.proofs.bound_table.Bounds.least.Goals as goal

pub returns : goal.returns
returns c =
    let p = c.self.inside.table.now in
    let inside =
    rw (sym c.self.view_is) at c.requires.layer in
    let most =
    rw (sym c.self.view_is) at c.requires.rank.1 in
    subst (λ (p : Penalties). IsBound p c.args.layer c.args.rank c.bound_at.result) c.self.view_is (
    held_bound _ _ _ _ _ _ c.self.invariant inside c.requires.rank.0 most
    (omega (arith, c.layers.ensures.count)) (omega (arith, c.from.ensures)) c.deref.ensures.value
    c.list_at-bounds.ensures c.bound_at.ensures)
