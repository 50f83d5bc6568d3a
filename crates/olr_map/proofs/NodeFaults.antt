-- The checks on a record of the file of nodes: a record that spells a node passes them.
use Rattle.olr_map.proofs.Common.{arith, AllPass, Node, IsNode, nodes_table, IsSettled, fields_of, ℕ, List}
use Rattle.olr_map.proofs.LineRows.{number_once}
use Rattle.olr_map.proofs.OneRow.{node_once}
use Rattle.olr_map.proofs.OneTable.{IsLawful}

node_passes : (fields : List (List ℕ)) (node : Node) → IsNode fields node → (n : ℕ)
    → AllPass (fields_of nodes_table n fields)
node_passes fields node is n = grind arith

pub nodes_settled : IsSettled nodes_table
nodes_settled = grind (arith, node_passes)

pub nodes_lawful : IsLawful nodes_table
nodes_lawful = grind (arith, node_once, nodes_settled, number_once)
