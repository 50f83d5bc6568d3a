use Rattle.olr_road.proofs.Common.{node_of, node_fields, arith, codes, string_bytes}
use Rattle.olr_road.proofs.CanonicalRows.{row_added}
use Rattle.olr_road.proofs.map.Map.push_row_of_nodes.Goals as goal

pub returns-in_ok-push_node : goal.returns-in_ok-push_node
returns-in_ok-push_node c = row_added node_fields (codes "nodes") _ c.args.number
    (node_of c.node.result) (string_bytes c.args.text.now)
    (λ none. omega arith) c.node.ensures.node c.in_ok-push_node.ensures
