-- The fields of the rows of a map's canonical text: which bytes they lack, and that they decide the
-- node, the line or the ban.
use Rattle.olr_map.proofs.Common.{Coordinates, IsInRange, AllDiffer, rising_differ, Ban, Node, node_ids, RoadLine, line_ids, IsAdjacent, IsSoundNode, AreSoundNodes, IsSoundLine, JoinsNodes, AreSoundLines, place_text, shape_text, between_ends, node_fields, line_fields, ban_fields, ◌≡◌, ℕ, ◌^◌, ◌<◌, ◌≤◌, List, [], ◌∷◌, ◌++◌, length, Some, refl, sym, ap, arith, rules, All, slice_get, slice_index, decimal, signed_decimal, mag, length-append, length-map, take_at, All-drop, All-take, All-map, All-weaker, decimal_injective, signed_decimal_injective, slice_get_within}
use Rattle.olr_map.proofs.OneRow.{rank_once}
use Rattle.olr_map.proofs.CanonicalTexts.{Lacks, AllLack, joined_once, map_once, joined_lacks, each_lacks, decimal_lacks, signed_lacks}

-- ---- coordinates

-- coordinates in range are short
record AreSmall (place : Coordinates) : Type 0 where
  lon : mag place.lon < 2 ^ 63
  lat : mag place.lat < 2 ^ 63

are_small : (place : Coordinates) → IsInRange place → AreSmall place
are_small place is = search rules

-- ---- a place, and a shape

place_lacks : (byte : ℕ) → (32 ≡ byte → ⊥) → (45 ≤ byte → 57 < byte) → (place : Coordinates)
    → IsInRange place → Lacks byte (place_text place)
place_lacks byte space other place is =
    let small = are_small _ is in
    joined_lacks byte 32 (signed_decimal place.lon ∷ signed_decimal place.lat ∷ []) space
    (signed_lacks byte _ other small.lon, (signed_lacks byte _ other small.lat, tt))

place_once : (a b : Coordinates) → IsInRange a → IsInRange b → place_text a ≡ place_text b → a ≡ b
place_once a b is other same =
    let p = are_small a is in
    let q = are_small b other in
    let outside : 45 ≤ 32 → 57 < 32 = search rules in
    let texts = joined_once _ _ (signed_decimal a.lat ∷ [])
    (signed_decimal b.lon) (signed_decimal b.lat ∷ [])
    (signed_lacks 32 _ outside p.lon, (signed_lacks 32 _ outside p.lat, tt))
    (signed_lacks 32 _ outside q.lon, (signed_lacks 32 _ outside q.lat, tt)) same in
    let lon = signed_decimal_injective a.lon b.lon p.lon q.lon cc in
    let lat = signed_decimal_injective a.lat b.lat p.lat q.lat cc in
    λ i. record { lon = lon i; lat = lat i }

-- a byte that stands between fields, or rows: it occurs in none of them
pub record IsCut (byte : ℕ) : Type 0 where
  pub below : byte < 45
  pub space : 32 ≡ byte → ⊥

shape_lacks : {byte : ℕ} → IsCut byte → (places : List Coordinates) → All IsInRange places
    → Lacks byte (shape_text places)
shape_lacks cut places all = joined_lacks _ _ _ (λ e. omega arith)
    (each_lacks _ _ _ (place_lacks _ cut.space (λ low. omega arith)) _ all)

-- the text of a place isn't empty
place_not_empty : (place : Coordinates) (rest : List ℕ) → [] ≡ place_text place ++ rest → ⊥
place_not_empty place rest none =
    let lon = signed_decimal place.lon in
    let lat = signed_decimal place.lat in
    omega (
      arith,
      ap length none,
      length-append (place_text place) rest,
      length-append lon (32 ∷ (lat ++ [])),
    )

pub shape_once : (ps qs : List Coordinates) → All IsInRange ps → All IsInRange qs
    → shape_text ps ≡ shape_text qs → ps ≡ qs
shape_once [] [] all other same = refl
shape_once [] (q ∷ qs) all other same = absurd (place_not_empty q _ same)
shape_once (p ∷ ps) [] all other same = absurd (place_not_empty p _ (sym same))
shape_once (p ∷ ps) (q ∷ qs) all other same =
    let lacks = place_lacks 59 (λ e. omega arith) (λ low. omega arith) in
    let texts = joined_once _ _ _ _ _
    (each_lacks _ _ _ lacks (p ∷ ps) all) (each_lacks _ _ _ lacks (q ∷ qs) other) same in
    map_once _ _ place_once _ _ all other texts

-- ---- the fields of a node

pub node_lacks : {byte : ℕ} {node : Node} → IsCut byte → IsSoundNode node
    → AllLack byte (node_fields node)
node_lacks cut is =
    let small = are_small _ is.inside in (
      decimal_lacks _ _ (λ low. omega arith) (omega arith),
      (
        signed_lacks _ _ (λ low. omega arith) small.lon,
        (signed_lacks _ _ (λ low. omega arith) small.lat, tt),
      ),
    )

pub node_by_fields : (a b : Node) → IsSoundNode a → IsSoundNode b → node_fields a ≡ node_fields b
    → a ≡ b
node_by_fields a b is other same =
    let p = are_small _ is.inside in
    let q = are_small _ other.inside in
    let id = decimal_injective _ _ (omega arith) (omega arith) cc in
    let lon = signed_decimal_injective _ _ p.lon q.lon cc in
    let lat = signed_decimal_injective _ _ p.lat q.lat cc in
    λ i. record { id = id i; place = record { lon = lon i; lat = lat i } }

-- ---- ids by rank

-- ids that differ, each of them a number of 64 bits
record AreIds (ids : List ℕ) : Type 0 where
  differ : AllDiffer ids
  small : All (λ (id : ℕ). id < 2 ^ 64) ids

ids_of_nodes : {nodes : List Node} → AreSoundNodes nodes → AreIds (node_ids nodes)
ids_of_nodes sound = record {
  differ = rising_differ _ sound.rise;
  small = All-map (λ (id : ℕ). id < 2 ^ 64) _ _
      (All-weaker IsSoundNode (λ (node : Node). node.id < 2 ^ 64) (λ node is. omega arith) _
      sound.each);
}

ids_of_lines : {nodes : List Node} {lines : List RoadLine} → AreSoundLines nodes lines
    → AreIds (line_ids lines)
ids_of_lines {nodes} sound = record {
  differ = rising_differ _ sound.rise;
  small = All-map (λ (id : ℕ). id < 2 ^ 64) _ _
      (All-weaker (IsSoundLine (length nodes)) (λ (line : RoadLine). line.id < 2 ^ 64)
      (λ line is. omega arith) _ sound.each);
}

id_lacks : {byte : ℕ} {ids : List ℕ} {rank : ℕ} → IsCut byte → AreIds ids → rank < length ids
    → Lacks byte (decimal (slice_index ids rank))
id_lacks {rank} cut are inside = decimal_lacks _ _ (λ low. omega arith) (are.small rank 0 inside)

rank_by_id : {ids : List ℕ} {i j : ℕ} → AreIds ids → i < length ids → j < length ids
    → decimal (slice_index ids i) ≡ decimal (slice_index ids j) → i ≡ j
rank_by_id {i} {j} are inside_i inside_j same = grind (arith, rank_once, decimal_injective)

-- ---- the fields of a line

-- the line is sound, and joins two of the nodes
pub record IsOn (nodes : List Node) (line : RoadLine) : Type 0 where
  pub sound : IsSoundLine (length nodes) line
  pub joins : JoinsNodes nodes line

node_inside : (nodes : List Node) (rank : ℕ) → rank < length nodes → rank < length (node_ids nodes)
node_inside nodes rank inside = omega (arith, length-map nodes (λ (node : Node). node.id))

between_in_range : (points : List Coordinates) → All IsInRange points
    → All IsInRange (between_ends points)
between_in_range points all = All-take IsInRange _ _ (All-drop IsInRange 1 _ all)

between_is : (first : Coordinates) (shape : List Coordinates) (last : Coordinates)
    → between_ends (first ∷ shape ++ last ∷ []) ≡ shape
between_is first shape last = grind (arith, take_at, length-append)

pub line_lacks : {byte : ℕ} {nodes : List Node} {line : RoadLine} → IsCut byte → AreSoundNodes nodes
    → IsOn nodes line → AllLack byte (line_fields nodes line)
line_lacks {byte} cut sound is =
    let ids = ids_of_nodes sound in
    let number : (n : ℕ) → n < 2 ^ 64 → Lacks byte (decimal n) =
    λ n small. decimal_lacks _ n (λ low. omega arith) small in (
      number _ (omega arith),
      (
        id_lacks cut ids (node_inside _ _ is.sound.from),
        (
          id_lacks cut ids (node_inside _ _ is.sound.to),
          (
            number _ (omega arith),
            (
              number _ (omega arith),
              (
                number _ (omega arith),
                (shape_lacks cut _ (between_in_range _ is.sound.inside), tt),
              ),
            ),
          ),
        ),
      ),
    )

-- the points of a line, by its nodes and its shape
points_by_shape : (nodes : List Node) (a b : RoadLine) → JoinsNodes nodes a → JoinsNodes nodes b
    → a.from ≡ b.from → a.to ≡ b.to
    → between_ends a.points ≡ between_ends b.points → a.points ≡ b.points
points_by_shape nodes a b is other from to same = grind (arith, between_is)

pub line_by_fields : {nodes : List Node} → AreSoundNodes nodes → (a b : RoadLine) → IsOn nodes a
    → IsOn nodes b → line_fields nodes a ≡ line_fields nodes b → a ≡ b
line_by_fields sound a b is other same =
    let ids = ids_of_nodes sound in
    let id = decimal_injective _ _ (omega arith) (omega arith) cc in
    let from = rank_by_id ids (node_inside _ _ is.sound.from) (node_inside _ _ other.sound.from)
    cc in
    let to = rank_by_id ids (node_inside _ _ is.sound.to) (node_inside _ _ other.sound.to) cc in
    let class = decimal_injective _ _ (omega arith) (omega arith) cc in
    let form = decimal_injective _ _ (omega arith) (omega arith) cc in
    let size = decimal_injective _ _ (omega arith) (omega arith) cc in
    let shape = shape_once _ _ (between_in_range _ is.sound.inside)
    (between_in_range _ other.sound.inside) cc in
    let points = points_by_shape _ a b is.joins other.joins from to shape in
    λ i. record {
      id = id i;
      from = from i;
      to = to i;
      class = class i;
      form = form i;
      length = size i;
      points = points i;
    }

-- ---- the fields of a ban

line_inside : (lines : List RoadLine) (rank : ℕ) (line : RoadLine)
    → slice_get lines rank ≡ Some line → rank < length (line_ids lines)
line_inside lines rank line there = grind (arith, slice_get_within, length-map)

pub ban_lacks : {byte : ℕ} {nodes : List Node} {lines : List RoadLine} {ban : Ban} → IsCut byte
    → AreSoundLines nodes lines → IsAdjacent lines ban → AllLack byte (ban_fields lines ban)
ban_lacks cut sound is =
    let ids = ids_of_lines sound in
    (id_lacks cut ids (line_inside _ _ _ is.from), (id_lacks cut ids (line_inside _ _ _ is.to), tt))

pub ban_by_fields : {nodes : List Node} {lines : List RoadLine} → AreSoundLines nodes lines
    → (a b : Ban) → IsAdjacent lines a → IsAdjacent lines b
    → ban_fields lines a ≡ ban_fields lines b → a ≡ b
ban_by_fields sound a b is other same =
    let ids = ids_of_lines sound in
    let from = rank_by_id ids (line_inside _ _ _ is.from) (line_inside _ _ _ other.from) cc in
    let to = rank_by_id ids (line_inside _ _ _ is.to) (line_inside _ _ _ other.to) cc in
    λ i. record { from = from i; to = to i }
