use Rattle.olr_keys.proofs.Common.{ℕ, List, [], length, map, arith, ap, ◌∙◌, slice_index_or, Vec, penalties_of}
use Rattle.olr_keys.proofs.Bounds.{layer_sound}
use Rattle.olr_keys.proofs.table.Table.layer.Goals as goal

pub returns-clause-at_most : goal.returns-clause-at_most
returns-clause-at_most c =
    let it = layer_sound (penalties_of c.self.inside.candidates.items c.self.inside.legs.items)
    c.args.layer c.self.invariant in
    let here = c.list_at.ensures ∙ ap
    (λ (lists : List (Vec ℕ)). slice_index_or (map (λ (layer : Vec ℕ). layer.items) lists)
    c.args.layer []) c.deref.ensures.value in
    omega (arith, ap (λ (l : List ℕ). length l) here)
