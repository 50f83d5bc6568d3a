-- A record spells one node, or one line, at most.
use Rattle.olr_base.proofs.Neither.{neither_less}
use Rattle.olr_map.proofs.Common.{Coordinates, SpellsAt, Node, node_ids, IsNode, RoadLine, IsNodeAt, IsEnd, ArePoints, IsLine, AllDiffer, ◌≡◌, ℕ, ◌<◌, List, length, get_or, Option, sym, ap, ◌∙◌, arith, unwrap_or, slice_get, length-map, get_or-map, get_or_from_slice_get, slice_get_within}
use Rattle.olr_records.proofs.Signs.{signed_once}
use Rattle.olr_map.proofs.OneShape.{shape_once}
use Rattle.olr_map.proofs.LineRows.{number_once}

-- a field spells one value, where its text does
spells_once : {A : Type 0} {Spells : List ℕ → A → Type 0}
    → ((text : List ℕ) (a b : A) → Spells text a → Spells text b → a ≡ b)
    → {fields : List (List ℕ)} (at : ℕ) {a b : A} → SpellsAt Spells fields at a
    → SpellsAt Spells fields at b → a ≡ b
spells_once once at {a} {b} one other = grind arith

-- ---- a node

pub node_once : (fields : List (List ℕ)) (a b : Node) → IsNode fields a → IsNode fields b → a ≡ b
node_once fields a b is other =
    let id = number_once 1 _ 0 _ is.id other.id in
    let lon = spells_once (λ text y z p q. signed_once text y z p.number q.number) 1 is.lon
    other.lon in
    let lat = spells_once (λ text y z p q. signed_once text y z p.number q.number) 2 is.lat
    other.lat in
    λ i. record { id = id i; place = record { lon = lon i; lat = lat i } }

-- ---- a line, on nodes whose ids differ

abbrev node_at : ℕ → Coordinates → Node
node_at id place = record { id = id; place = place }

-- an id has one rank
pub rank_once : (ids : List ℕ) (i j : ℕ) → AllDiffer ids → i < length ids → j < length ids
    → get_or ids i 0 ≡ get_or ids j 0 → i ≡ j
rank_once ids i j differ inside_i inside_j same = grind (arith, neither_less)

-- the id at the rank of a node is its own
id_there : (nodes : List Node) (id rank : ℕ) (place : Coordinates) → IsNodeAt nodes id rank place
    → get_or (node_ids nodes) rank 0 ≡ id
id_there nodes id rank place at =
    let inside = slice_get_within nodes rank (node_at id place) at in
    get_or-map _ _ _ (node_at id place) 0 inside
    ∙ ap (λ (n : Node). n.id) (get_or_from_slice_get nodes rank _ (node_at id place) at)

rank_inside : (nodes : List Node) (id rank : ℕ) (place : Coordinates) → IsNodeAt nodes id rank place
    → rank < length (node_ids nodes)
rank_inside nodes id rank place at = grind (arith, slice_get_within, rank, place, length-map)

-- two ends are one
record SameEnd (from to : ℕ) (first last : Coordinates) : Type 0 where
  rank : from ≡ to
  place : first ≡ last

-- a field spells the id of one node
end_once : {nodes : List Node} {fields : List (List ℕ)} (index i j : ℕ) {p q : Coordinates}
    → AllDiffer (node_ids nodes) → IsEnd nodes fields index i p → IsEnd nodes fields index j q
    → SameEnd i j p q
end_once {nodes} index i j {p} {q} differ is other =
    let id = number_once 1 _ _ _ is.spelled other.spelled in
    let same = id_there _ _ i p is.node ∙ id ∙ sym (id_there _ _ j q other.node) in
    let rank = rank_once _ i j differ (rank_inside _ _ i p is.node) (rank_inside _ _ j q other.node)
    same in
    record {
      rank = rank;
      place = ap (λ (o : Option Node). (unwrap_or o (node_at is.id p)).place) (sym is.node
          ∙ ap (λ (k : ℕ). slice_get nodes k) rank ∙ other.node);
    }

-- the ends of two lines are one, and their points
pub record SamePoints (a c b d : ℕ) (ps qs : List Coordinates) : Type 0 where
  pub from : a ≡ b
  pub to : c ≡ d
  pub points : ps ≡ qs

pub points_once : {nodes : List Node} {fields : List (List ℕ)} {a c b d : ℕ}
    {points others : List Coordinates} → AllDiffer (node_ids nodes)
    → ArePoints nodes fields a c points → ArePoints nodes fields b d others
    → SamePoints a c b d points others
points_once {a} {c} {b} {d} {points} differ is other =
    let start = end_once 1 a b differ is.start other.start in
    let last = end_once 2 c d differ is.end other.end in
    let between = spells_once shape_once 6 is.between other.between in
    record { from = start.rank; to = last.rank; points = cc }

pub line_once : {nodes : List Node} → AllDiffer (node_ids nodes)
    → (fields : List (List ℕ)) (a b : RoadLine) → IsLine nodes fields a → IsLine nodes fields b
    → a ≡ b
line_once differ fields a b is other =
    let id = number_once 1 _ 0 _ is.id other.id in
    let class = number_once 0 7 3 _ is.class other.class in
    let form = number_once 0 7 4 _ is.form other.form in
    let size = number_once 0 _ 5 _ is.length other.length in
    let same = points_once differ is.points other.points in
    λ i. record {
      id = id i;
      from = same.from i;
      to = same.to i;
      class = class i;
      form = form i;
      length = size i;
      points = same.points i;
    }
