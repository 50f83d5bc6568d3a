-- Three texts have one map, or one fault, and not both.
use Rattle.olr_map.proofs.Common.{File, Ban, MapFault, Node, RoadLine, RoadMap, lines_table, bans_table, IsLinesFault, IsBansFault, IsNodeSet, IsLineSet, IsBanSet, ◌≡◌, ℕ, List, Option, Some, None, refl, subst, Nodes, Lines, Bans, known, IsMapOf, file_of, IsOfText, IsFaultWithin, IsFaultIn, IsFaultOf}
use Rattle.olr_map.specs.declared.fault.MapFault.TheVariants as fault
use Rattle.olr_map.specs.Tables.{IsNodesFault}
use Rattle.olr_map.proofs.NodeFaults.{nodes_lawful}
use Rattle.olr_map.proofs.LineFaults.{lines_lawful}
use Rattle.olr_map.proofs.BanFaults.{bans_lawful}
use Rattle.olr_map.proofs.OneTable.{IsLawful, keys_differ, table_once, table_or_fault, table_fault_once}

-- ---- the three tables of the texts

module _ (nodes_text lines_text bans_text : List ℕ) where
  node_set_once : (a b : List Node) → IsNodeSet nodes_text a → IsNodeSet nodes_text b → a ≡ b
  node_set_once a b is other = table_once nodes_lawful a b is other

  -- the lines of the text of lines, on the nodes of the text of nodes
  record AreLinesOf (nodes : List Node) (lines : List RoadLine) : Type 0 where
    set : IsNodeSet nodes_text nodes
    is : IsLineSet nodes lines_text lines

  lawful_lines : (nodes : List Node) → IsNodeSet nodes_text nodes → IsLawful (lines_table nodes)
  lawful_lines nodes set = lines_lawful _ (keys_differ _ _ _ set)

  lawful_bans : (nodes : List Node) (lines : List RoadLine) → AreLinesOf nodes lines
      → IsLawful (bans_table lines)
  lawful_bans nodes lines are = bans_lawful _ (keys_differ _ _ _ are.is)

  line_set_once : (m n : List Node) (a b : List RoadLine) → AreLinesOf m a → AreLinesOf n b → a ≡ b
  line_set_once m n a b are other = table_once (lawful_lines n other.set) a b
      (rw (← (node_set_once m n are.set other.set)) are.is) other.is

  -- a fault of the texts, with all that it rests on
  data HasFault (why : MapFault) : Type 0 where
    of_nodes : IsNodesFault nodes_text why → HasFault why
    of_lines : (nodes : List Node) → IsNodeSet nodes_text nodes → IsLinesFault nodes lines_text why
        → HasFault why
    of_bans : (nodes : List Node) (lines : List RoadLine) → AreLinesOf nodes lines
        → IsBansFault lines bans_text why → HasFault why

  -- where a text is known, a fault that lies in it is its fault
  known_within : (IsFault : List ℕ → MapFault → Type 0) (text : List ℕ) (why : MapFault)
      → IsOfText why → IsFaultWithin IsFault (Some text) why → IsFault text why
  known_within IsFault text (fault.ReadFailed file) of_text is = absurd of_text
  known_within IsFault text fault.NoMemory of_text is = absurd of_text
  known_within IsFault text other of_text is = is

  -- a fault that lies in a text is of a file
  has_file : (why : MapFault) → IsOfText why → file_of why ≡ None → ⊥
  has_file (fault.ReadFailed file) of_text same = absurd of_text
  has_file fault.NoMemory of_text same = absurd of_text
  has_file _ of_text same = absurd cc

  fault_cases : (why : MapFault) → IsFaultOf nodes_text lines_text bans_text why → HasFault why
  fault_cases why is = by_file (file_of why) refl is.1
    where
      by_file : (file : Option File) → file_of why ≡ file
          → IsFaultIn file (known nodes_text lines_text bans_text) why → HasFault why
      by_file None same its = absurd (has_file _ is.0 same)
      by_file (Some Nodes) same its = of_nodes (known_within IsNodesFault _ _ is.0 its)
      by_file (Some Lines) same its = of_lines its.nodes its.accepted.text
          (known_within (IsLinesFault its.nodes) _ _ is.0 its.text)
      by_file (Some Bans) same its = of_bans its.nodes its.lines (record {
        set = its.accepted.nodes_accepted.text;
        is = its.accepted.text;
      }) (known_within (IsBansFault its.lines) _ _ is.0 its.text)

  -- ---- what is accepted has no fault

  no_nodes_fault : (nodes : List Node) (why : MapFault) → IsNodeSet nodes_text nodes
      → IsNodesFault nodes_text why → ⊥
  no_nodes_fault nodes why set fault = table_or_fault nodes_lawful set fault

  no_lines_fault : (m n : List Node) (lines : List RoadLine) (why : MapFault) → AreLinesOf m lines
      → IsNodeSet nodes_text n → IsLinesFault n lines_text why → ⊥
  no_lines_fault m n lines why are set fault = table_or_fault (lawful_lines m are.set) are.is
      (subst (λ (l : List Node). IsLinesFault l lines_text why) (node_set_once n m set are.set)
      fault)

  no_bans_fault : (m n : List Node) (a b : List RoadLine) (bans : List Ban) (why : MapFault)
      → AreLinesOf m a → IsBanSet a bans_text bans → AreLinesOf n b → IsBansFault b bans_text why
      → ⊥
  no_bans_fault m n a b bans why are set other fault = table_or_fault (lawful_bans m a are) set
      (subst (λ (l : List RoadLine). IsBansFault l bans_text why)
      (line_set_once n m b a other are) fault)

  lines_of_map : (road : RoadMap) → IsMapOf nodes_text lines_text bans_text road
      → AreLinesOf road.nodes road.lines
  lines_of_map road is = record { set = is.nodes; is = is.lines }

  -- ---- the laws

  pub map_once : (a b : RoadMap) → IsMapOf nodes_text lines_text bans_text a
      → IsMapOf nodes_text lines_text bans_text b → a ≡ b
  map_once a b is other =
      let nodes = node_set_once _ _ is.nodes other.nodes in
      let lines = line_set_once _ _ _ _ (lines_of_map a is) (lines_of_map b other) in
      let bans = table_once (lawful_bans _ _ (lines_of_map b other)) _ _
      (rw (← lines) is.bans) other.bans in
      λ i. record { nodes = nodes i; lines = lines i; bans = bans i }

  no_fault : (road : RoadMap) (why : MapFault) → IsMapOf nodes_text lines_text bans_text road
      → HasFault why → ⊥
  no_fault road why is (of_nodes fault) = no_nodes_fault _ _ is.nodes fault
  no_fault road why is (of_lines nodes set fault) =
      no_lines_fault _ _ _ _ (lines_of_map _ is) set fault
  no_fault road why is (of_bans nodes lines are fault) =
      no_bans_fault _ _ _ _ _ _ (lines_of_map _ is) is.bans are fault

  pub map_without_fault : (road : RoadMap) (why : MapFault)
      → IsMapOf nodes_text lines_text bans_text road → IsFaultOf nodes_text lines_text bans_text why
      → ⊥
  map_without_fault road why is fault = no_fault _ _ is (fault_cases _ fault)

  one_fault : (a b : MapFault) → HasFault a → HasFault b → a ≡ b
  one_fault a b (of_nodes is) (of_nodes other) = table_fault_once _ nodes_lawful _ a b is other
  one_fault a b (of_nodes is) (of_lines nodes set other) = absurd (no_nodes_fault _ a set is)
  one_fault a b (of_nodes is) (of_bans nodes lines are other) =
      absurd (no_nodes_fault _ a are.set is)
  one_fault a b (of_lines nodes set is) (of_nodes other) = absurd (no_nodes_fault _ b set other)
  one_fault a b (of_lines m set is) (of_lines n other_set other) =
      table_fault_once _ (lawful_lines n other_set) _ a b
      (rw (← (node_set_once m n set other_set)) is) other
  one_fault a b (of_lines m set is) (of_bans n lines are other) =
      absurd (no_lines_fault n m _ a are set is)
  one_fault a b (of_bans nodes lines are is) (of_nodes other) =
      absurd (no_nodes_fault _ b are.set other)
  one_fault a b (of_bans m lines are is) (of_lines n set other) =
      absurd (no_lines_fault m n _ b are set other)
  one_fault a b (of_bans m lines are is) (of_bans n others other_are other) =
      table_fault_once _ (lawful_bans n _ other_are) _ a b
      (rw (← (line_set_once m n _ _ are other_are)) is) other

  pub fault_once : (a b : MapFault) → IsFaultOf nodes_text lines_text bans_text a
      → IsFaultOf nodes_text lines_text bans_text b → a ≡ b
  fault_once a b is other = one_fault a b (fault_cases a is) (fault_cases b other)
