-- A record of each of the three files spells a row that may be added, where no condition holds of
-- it.
use Rattle.olr_map.proofs.Common.{IsLength, Coordinates, Ban, SpellsAt, Node, node_ids, IsNodeAt, RoadLine, line_ids, ArePoints, NamesLines, nodes_table, lines_table, bans_table, ◌≡◌, ℕ, zero, suc, ◌<◌, ◌≤◌, List, [], ◌∷◌, ◌++◌, length, Some, refl, ap, inl, inr, arith, slice_get, slice_index_or, Contains, slice_get-get_or}
use Rattle.olr_map.proofs.TableOutcome.{IsDecided}

pub nodes_decided : IsDecided nodes_table
nodes_decided n fields pass later no_row =
    let id = pass.1.0 in
    let lon = pass.1.1.0 in
    let lat = pass.1.1.1.0 in
    no_row (record { id = id.0; place = record { lon = lon.0; lat = lat.0 } })
    (record { three = pass.0; id = id.1; lon = lon.1; lat = lat.1 })

-- ---- lines

-- an id among those of nodes is that of one
node_of_id : (nodes : List Node) (id k : ℕ) → k < length (node_ids nodes)
    → slice_index_or (node_ids nodes) k id ≡ id → (rank : ℕ) × (place : Coordinates)
    × IsNodeAt nodes id rank place
node_of_id [] id k inside same = absurd (omega arith)
node_of_id (node ∷ nodes) id zero inside same =
    (0, node.place, ap (λ (i : ℕ). Some (with_id i)) same)
  where
    with_id : ℕ → Node
    with_id i = record { id = i; place = node.place }
node_of_id (node ∷ nodes) id (suc k) inside same = let rest =
    node_of_id nodes id k (omega arith) same in (suc rest.0, rest.1, rest.2)

-- an end of a line is a node that there is
end_known : (nodes : List Node) (id : ℕ) → ((Contains (node_ids nodes) id → ⊥) → ⊥)
    → ((rank : ℕ) (place : Coordinates) → IsNodeAt nodes id rank place → ⊥) → ⊥
end_known nodes id known none = grind (arith, node_of_id)

positive : (size : ℕ) (P : ℕ → Type 0) → P size → (P 0 → ⊥) → 1 ≤ size
positive zero P is none = absurd (none is)
positive (suc size) P is none = omega arith

pub lines_decided : (nodes : List Node) → IsDecided (lines_table nodes)
lines_decided nodes n fields pass later no_row =
    let id = pass.1.0 in
    let from = pass.1.1.0 in
    let to = pass.1.1.1.0 in
    let class = pass.1.1.1.1.0 in
    let form = pass.1.1.1.1.1.0 in
    let size = pass.1.1.1.1.1.1.0 in
    let shape = pass.1.1.1.1.1.1.1.0 in
    end_known _ _ (λ unknown. later.0 (inl (from.0, from.1, unknown))) (λ start first at_start.
    end_known _ _ (λ unknown. later.0 (inr (to.0, to.1, unknown))) (λ end last at_end.
    let points = first ∷ shape.0 ++ last ∷ [] in
    let are : ArePoints nodes fields start end points = record {
      first = first;
      last = last;
      shape = shape.0;
      start = record { id = from.0; spelled = from.1; node = at_start };
      end = record { id = to.0; spelled = to.1; node = at_end };
      between = shape.1;
      joined = refl;
    } in
    no_row (record {
      id = id.0;
      from = start;
      to = end;
      class = class.0;
      form = form.0;
      length = size.0;
      points = points;
    }) (record {
      seven = pass.0;
      id = id.1;
      class = class.1;
      form = form.1;
      length = size.1;
      points = are;
      long = positive _ (SpellsAt IsLength fields 5) size.1 later.1.0;
      apart = λ equal. later.1.1.0 (start, end, points, are, equal);
    })))

-- ---- bans

line_known : (lines : List RoadLine) (id : ℕ) → ((Contains (line_ids lines) id → ⊥) → ⊥)
    → ((rank : ℕ) → slice_get (line_ids lines) rank ≡ Some id → ⊥) → ⊥
line_known lines id known none = grind (arith, slice_get-get_or)

pub bans_decided : (lines : List RoadLine) → IsDecided (bans_table lines)
bans_decided lines n fields pass later no_row =
    let from = pass.1.0 in
    let to = pass.1.1.0 in
    line_known _ _ (λ unknown. later.0 (inl (from.0, from.1, unknown))) (λ first at_first.
    line_known _ _ (λ unknown. later.0 (inr (to.0, to.1, unknown))) (λ second at_second.
    let ban : Ban = record { from = first; to = second } in
    let named : NamesLines lines fields ban = record {
      from = record { id = from.0; spelled = from.1; line = at_first };
      to = record { id = to.0; spelled = to.1; line = at_second };
    } in
    later.1.0 (
      ban,
      named,
      λ adjacent. no_row ban (record { two = pass.0; named = named; adjacent = adjacent }),
    )))
