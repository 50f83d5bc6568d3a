use Rattle.olr_why.proofs.explaining.nearest_to.Goals as goal

pub returns-clause-on_map : goal.returns-clause-on_map
returns-clause-on_map c = λ k d inside.
    let laws = c.nearest_are_near.ensures in
    (laws.line c.args.on.now.tolerances c.args.on.now.reference.now c.args.on.now.map.now.lines
    c.args.index _ _
    (laws.near c.args.on.now.tolerances c.args.on.now.reference.now c.args.on.now.map.now.lines
    c.args.index _ _ c.in_ok-lines.ensures k d inside)).1
