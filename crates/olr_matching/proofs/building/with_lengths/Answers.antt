use Rattle.olr_matching.proofs.Common.{LayersValue, lengths_of, lists_of, sym, ◌∙◌, ap, subst, Penalties, ArePenaltiesOfLegs}
use Rattle.olr_matching.proofs.Tables.{are_layers, table_of_vectors}
use Rattle.olr_matching.proofs.building.with_lengths.Goals as goal

pub new-requires : goal.new-requires
new-requires c =
    let are_legs = rw c.deref-2.ensures.value at c.in_ok-legs.ensures in
    let are_penalties = rw c.deref.ensures.value at c.in_ok-penalties.ensures in
    rw (c.deref-3.ensures.value, c.deref-4.ensures.value)
    (table_of_vectors _ _ _ _ _
    _ _ c.sound.ensures c.bounds.ensures.penalty c.args.on.now.is_reference
    c.requires.lists c.requires.lengths are_penalties are_legs)

pub returns-clause-layers : goal.returns-clause-layers
returns-clause-layers c =
    let layers : LayersValue = record {
      reference = c.in_ok-copy_of.field-0;
      tolerances = c.args.on.now.tolerances;
      candidates = lists_of c.args.candidates.items;
      lengths = lengths_of _;
      penalties = c.in_ok-table.table;
    } in
    let table = rw (c.deref-3.ensures.value, c.deref-4.ensures.value) at c.in_ok-table.ensures in
    let are_legs =
    subst (λ (it : Penalties). ArePenaltiesOfLegs c.args.on.now.reference.now layers.lengths
    it.legs) (sym table) (rw c.deref-2.ensures.value at c.in_ok-legs.ensures) in
    let are_penalties = ap (λ it. it.candidates) table
    ∙ (rw c.deref.ensures.value at c.in_ok-penalties.ensures) in
    let is_table = rw c.table.view_is at c.table.invariant in
    are_layers _ _ _ c.in_ok-copy_of.ensures c.args.on.now.is_reference c.requires.lists
    c.requires.lengths is_table are_penalties are_legs
