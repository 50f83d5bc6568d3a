use Rattle.olr_road.specs.declared.node.Node.{Node as NodeByRank}
use Rattle.olr_map.proofs.Common.{IsNodeSet, IsLineSet, node_of, nodes_of, List, arith, subst, sym, ◌∙◌, err_from_is_err_and, length-map}
use Rattle.olr_map.proofs.Soundness.{nodes_are_sound}
use Rattle.olr_map.proofs.Reported.{lines_fault, not_of_bans, lines_accepted}
use Rattle.olr_map.proofs.files.read_network.Goals as goal

pub returns-in_err-lines-clause-fault : goal.returns-in_err-lines-clause-fault
returns-in_err-lines-clause-fault g c =
    let p = err_from_is_err_and c.from_residual-in_err-lines.result
    c.from_residual-in_err-lines.ensures.1 in
    let read = c.in_ok-rows.ensures.nodes in
    let set = subst (λ (l : List NodeByRank). IsNodeSet read.0 (nodes_of l))
    (sym c.in_ok-index.ensures) read.2 in
    rw (p.1, p.2) (λ bans_left. lines_fault g.S2.Source.left g.S2.Source.failed c.args.lines.now
    c.read_lines.new.source (g.S1.Source.left c.args.nodes.now) bans_left
    (nodes_of c.in_ok-index.index)
    c.in_err-lines.field-0.0 (read.0, read.1, set) c.in_err-lines.ensures.fault)

pub returns-in_err-lines-clause-of_two : goal.returns-in_err-lines-clause-of_two
returns-in_err-lines-clause-of_two g c =
    let p = err_from_is_err_and c.from_residual-in_err-lines.result
    c.from_residual-in_err-lines.ensures.1 in
    rw (p.1, p.2) (not_of_bans g.S2.Source.left g.S2.Source.failed c.args.lines.now
    c.read_lines.new.source (nodes_of c.in_ok-index.index)
    c.in_err-lines.field-0.0 c.in_err-lines.ensures.fault)

pub returns-clause-accepted : goal.returns-clause-accepted
returns-clause-accepted g c =
    let rows = c.in_ok-rows.ensures.nodes in
    let read = c.in_ok-lines.ensures.lines in
    let nodes = subst (λ (l : List NodeByRank). IsNodeSet rows.0 (nodes_of l))
    (sym (c.into_items.ensures ∙ c.in_ok-index.ensures)) rows.2 in
    let lines = subst (λ (l : List NodeByRank). IsLineSet (nodes_of l) read.0
    c.in_ok-lines.lines) (sym c.into_items.ensures) read.2 in
    lines_accepted (rows.0, rows.1, nodes) (read.0, read.1, lines)

pub index_nodes-requires-clause-at_most : goal.index_nodes-requires-clause-at_most
index_nodes-requires-clause-at_most g c =
    let read = c.in_ok-rows.ensures.nodes in
    omega (arith, (nodes_are_sound read.2).at_most, length-map c.in_ok-rows.rows.items node_of)
