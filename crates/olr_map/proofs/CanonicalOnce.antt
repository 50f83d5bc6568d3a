-- Sound maps of one canonical text are one: the text decides its rows and their fields, and these
-- decide the map.
use Rattle.std.specs.Prelude.{All, codes, decimal}
use Rattle.olr_map.proofs.Common.{Ban, Node, RoadLine, IsAdjacent, RoadMap, IsSoundNode, AreSoundNodes, AreSoundLines, IsSoundMap, joined, node_fields, line_fields, ban_fields, part, row_text, ◌≡◌, ℕ, ◌^◌, ◌<◌, List, [], ◌∷◌, ◌++◌, append_assoc, map, length, drop, refl, sym, ap, ◌∙◌, subst, arith, concat, append-nil, append_cancel_left, length-map, All-cons, All-append, All-map, All-weaker, decimal_injective}
use Rattle.olr_road.specs.Canonical.{heading, nodes_part, lines_part, bans_part, canonical_fields, canonical_text}
use Rattle.olr_map.proofs.CanonicalTexts.{Lacks, AllLack, ended, ended_once, joined_once, map_once, joined_lacks, each_lacks, decimal_lacks}
use Rattle.olr_map.proofs.CanonicalFields.{IsCut, IsOn, node_lacks, node_by_fields, line_lacks, line_by_fields, ban_lacks, ban_by_fields}

-- ---- from the text to the fields

comma : IsCut 44
comma = record { below = omega arith; space = λ e. omega arith }

line_feed : IsCut 10
line_feed = record { below = omega arith; space = λ e. omega arith }

-- the fields of a row: at least one, and no byte that stands between fields or rows is in any
abbrev AreFields : List (List ℕ) → Type 0
AreFields [] = ⊥
AreFields (field ∷ fields) = (byte : ℕ) → IsCut byte → AllLack byte (field ∷ fields)

row_once : (xs ys : List (List ℕ)) → AreFields xs → AreFields ys
    → joined (codes ",") xs ≡ joined (codes ",") ys → xs ≡ ys
row_once [] ys are other same = absurd are
row_once (x ∷ xs) [] are other same = absurd other
row_once (x ∷ xs) (y ∷ ys) are other same =
    joined_once _ x _ y _ (are 44 comma) (other 44 comma) same

rows_lack : (rows : List (List (List ℕ))) → All AreFields rows
    → AllLack 10 (map (joined (codes ",")) rows)
rows_lack rows all = each_lacks _ _ _ row_lacks _ all
  where
    row_lacks : (fields : List (List ℕ)) → AreFields fields → Lacks 10 (joined (codes ",") fields)
    row_lacks [] are = absurd are
    row_lacks (x ∷ xs) are = joined_lacks 10 44 (x ∷ xs) (λ e. omega arith) (are 10 line_feed)

rows_ended : (rows : List (List (List ℕ)))
    → concat (map row_text rows) ≡ ended 10 (map (joined (codes ",")) rows)
rows_ended [] = refl
rows_ended (row ∷ rows) = grind (arith, append_assoc, rows, rows_ended rows)

rows_by_text : {xs ys : List (List (List ℕ))} → All AreFields xs → All AreFields ys
    → concat (map row_text xs) ≡ concat (map row_text ys) → xs ≡ ys
rows_by_text all other same =
    let texts = ended_once _ _ _ (rows_lack _ all) (rows_lack _ other) (cc (rows_ended _)) in
    map_once _ _ row_once _ _ all other texts

-- ---- from the fields to the parts

-- two lists of one length, each with more behind it
record SameParts {X : Type 0} (xs ys more others : List X) : Type 0 where
  rows : xs ≡ ys
  rest : more ≡ others

split_at_length : {X : Type 0} (xs ys more others : List X) → length xs ≡ length ys
    → xs ++ more ≡ ys ++ others → SameParts xs ys more others
split_at_length [] [] more others size same = record { rows = refl; rest = same }
split_at_length (x ∷ xs) (y ∷ ys) more others size same =
    let behind : xs ++ more ≡ ys ++ others = cc in
    let first : x ≡ y = cc in
    let deeper = split_at_length xs ys more others (omega arith) behind in
    let rows = deeper.rows in
    record { rows = cc; rest = deeper.rest }
split_at_length _ _ more others size same = absurd (omega arith)

-- the number of a heading
count_once : (name : List ℕ) (m n : ℕ) → m < 2 ^ 64 → n < 2 ^ 64 → heading name m ≡ heading name n
    → m ≡ n
count_once name m n small other same =
    grind (arith, append_cancel_left, decimal_injective, append-nil)

part_once : (name : List ℕ) (xs ys more others : List (List (List ℕ))) → length xs < 2 ^ 64
    → length ys < 2 ^ 64 → part name xs ++ more ≡ part name ys ++ others
    → SameParts xs ys more others
part_once name xs ys more others small other same = grind (arith, split_at_length, count_once)

-- ---- the fields of a map

-- the name of a part
abbrev IsName : List ℕ → Type 0
IsName name = (byte : ℕ) → byte < 45 → Lacks byte name

part_is : (name : List ℕ) (rows : List (List (List ℕ))) → IsName name → length rows < 2 ^ 64
    → All AreFields rows → All AreFields (part name rows)
part_is name rows is small all = All-cons AreFields (heading name (length rows)) _ (λ byte cut. (
  joined_lacks byte 32 (name ∷ decimal (length rows) ∷ []) cut.space
      (is byte cut.below, (decimal_lacks byte _ (λ low. omega arith) small, tt)),
  tt,
)) all

lines_on : {nodes : List Node} {lines : List RoadLine} → AreSoundLines nodes lines
    → All (IsOn nodes) lines
lines_on sound = grind arith

nodes_are : {nodes : List Node} → AreSoundNodes nodes → All AreFields (map node_fields nodes)
nodes_are sound = All-map AreFields _ _
    (All-weaker IsSoundNode (λ node. AreFields (node_fields node))
    (λ node is byte cut. node_lacks cut is) _ sound.each)

lines_are : {nodes : List Node} {lines : List RoadLine} → AreSoundNodes nodes
    → AreSoundLines nodes lines → All AreFields (map (line_fields nodes) lines)
lines_are {nodes} sound_nodes sound =
    All-map AreFields _ _ (All-weaker (IsOn nodes) (λ line. AreFields (line_fields nodes line))
    (λ line is byte cut. line_lacks cut sound_nodes is) _ (lines_on sound))

bans_are : {nodes : List Node} {lines : List RoadLine} (bans : List Ban) → AreSoundLines nodes lines
    → All (IsAdjacent lines) bans → All AreFields (map (ban_fields lines) bans)
bans_are {lines} bans sound each =
    All-map AreFields _ _ (All-weaker (IsAdjacent lines) (λ ban. AreFields (ban_fields lines ban))
    (λ ban is byte cut. ban_lacks cut sound is) _ each)

nodes_name : IsName (codes "nodes")
nodes_name byte low = grind arith

lines_name : IsName (codes "lines")
lines_name byte low = grind arith

bans_name : IsName (codes "bans")
bans_name byte low = grind arith

fields_are : (road : RoadMap) → IsSoundMap road → All AreFields (canonical_fields road)
fields_are road sound =
    let nodes = part_is (codes "nodes") _ nodes_name
    (omega (arith, length-map road.nodes node_fields)) (nodes_are sound.nodes) in
    let lines = part_is (codes "lines") _ lines_name
    (omega (arith, length-map road.lines (line_fields road.nodes)))
    (lines_are sound.nodes sound.lines) in
    let bans = part_is (codes "bans") _ bans_name
    (omega (arith, length-map road.bans (ban_fields road.lines)))
    (bans_are _ sound.lines sound.bans.each) in
    All-append AreFields (nodes_part road ++ lines_part road) (bans_part road)
    (All-append AreFields (nodes_part road) (lines_part road) nodes lines) bans

-- ---- from the parts to the map

lines_by_rows : {nodes others : List Node} {xs : List RoadLine} (ys : List RoadLine)
    → AreSoundNodes nodes → AreSoundLines nodes xs → AreSoundLines others ys → nodes ≡ others
    → map (line_fields nodes) xs ≡ map (line_fields others) ys → xs ≡ ys
lines_by_rows ys sound_nodes sound other same rows =
    let moved = subst (λ (l : List Node). AreSoundLines l ys) (sym same) other in
    map_once _ _ (line_by_fields sound_nodes) _ _ (lines_on sound) (lines_on moved) (cc)

bans_by_rows : {nodes : List Node} {lines others : List RoadLine} {xs ys : List Ban}
    → AreSoundLines nodes lines → All (IsAdjacent lines) xs → All (IsAdjacent others) ys
    → lines ≡ others → map (ban_fields lines) xs ≡ map (ban_fields others) ys → xs ≡ ys
bans_by_rows sound each other same rows =
    map_once _ _ (ban_by_fields sound) _ _ each (rw same other) (cc)

pub map_by_text : (a b : RoadMap) → IsSoundMap a → IsSoundMap b
    → canonical_text a ≡ canonical_text b → a ≡ b
map_by_text a b sound other same =
    let rows = rows_by_text (fields_are a sound) (fields_are b other) same in
    let apart = λ (road : RoadMap). append_assoc (nodes_part road) (lines_part road)
    (bans_part road) in
    let first = part_once (codes "nodes") _ _ _ _
    (omega (arith, length-map a.nodes node_fields)) (omega (arith, length-map b.nodes node_fields))
    (sym (apart a) ∙ rows ∙ apart b) in
    let second = part_once (codes "lines") _ _ (bans_part a) (bans_part b)
    (omega (arith, length-map a.lines (line_fields a.nodes)))
    (omega (arith, length-map b.lines (line_fields b.nodes))) first.rest in
    let nodes = map_once _ _ node_by_fields _ _ sound.nodes.each other.nodes.each first.rows in
    let lines = lines_by_rows _ sound.nodes sound.lines other.lines nodes second.rows in
    let ban_rows : map (ban_fields a.lines) a.bans ≡ map (ban_fields b.lines) b.bans =
    ap (λ (l : List (List (List ℕ))). drop 1 l) second.rest in
    let bans = bans_by_rows sound.lines sound.bans.each other.bans.each lines ban_rows in
    λ i. record { nodes = nodes i; lines = lines i; bans = bans i }
