-- The nodes, the lines and the bans of three texts make a sound map.
use Rattle.olr_map.proofs.Common.{Coordinates, IsInRange, Ban, IsItem, AreItems, IsShape, Node, IsNode, RoadLine, IsLine, IsEnd, IsAdjacent, SpellsAt, RoadMap, IsNodeSet, IsLineSet, IsBanSet, IsSoundNode, AreSoundNodes, IsSoundLine, JoinsNodes, AreSoundLines, AreSoundBans, IsSoundMap, rules, ℕ, ◌≤◌, List, [], ◌∷◌, length, ap, ◌∙◌, inl, inr, arith, All, AllZip, length-append, All-nil, All-cons, All-get_or, All-append, All-permutation, length_permutation, slice_get_within, get_or_from_slice_get}

-- what holds of each two that belong together gives what holds of each second one
each_second : {A B : Type 0} (R : A → B → Type 0) (P : B → Type 0) → ((x : A) (y : B) → R x y → P y)
    → (xs : List A) (ys : List B) → AllZip R xs ys → All P ys
each_second R P gives [] [] all = All-nil P
each_second R P gives (x ∷ xs) (y ∷ ys) all =
    grind (arith, All-cons, each_second R P gives xs ys all.1)
each_second R P gives _ _ all = absurd all

-- ---- nodes

node_is_sound : (fields : List (List ℕ)) (node : Node) → IsNode fields node → IsSoundNode node
node_is_sound fields node is = search rules

pub nodes_are_sound : {text : List ℕ} {nodes : List Node} → IsNodeSet text nodes
    → AreSoundNodes nodes
nodes_are_sound {nodes} is = record {
  rise = is.2.rise;
  at_most = omega (arith, length_permutation is.0 nodes is.2.same);
  each = All-permutation IsSoundNode _ _ is.2.same
      (each_second _ _ node_is_sound _ _ is.1.accepted.each);
}

-- ---- lines

item_in_range : {text : List ℕ} {place : Coordinates} → IsItem text place → IsInRange place
item_in_range is = search rules

items_in_range : (text : List ℕ) (places : List Coordinates) → AreItems text places
    → All IsInRange places
items_in_range text [] is = absurd is
items_in_range text (place ∷ []) is = All-cons IsInRange place [] (item_in_range is) (All-nil _)
items_in_range text (place ∷ next ∷ places) is =
    grind (arith, All-cons, item_in_range, items_in_range is.1 (next ∷ places) is.4)

shape_in_range : {fields : List (List ℕ)} {shape : List Coordinates}
    → SpellsAt IsShape fields 6 shape → All IsInRange shape
shape_in_range spelled = elim spelled.spells [
  | inl none ↦ rw none.1 (All-nil _)
  | inr items ↦ items_in_range _ _ items.0
]

few_between : {fields : List (List ℕ)} {shape : List Coordinates} → SpellsAt IsShape fields 6 shape
    → length shape ≤ 64
few_between spelled = grind arith

end_in_range : {nodes : List Node} → All IsSoundNode nodes
    → {fields : List (List ℕ)} (index : ℕ) {rank : ℕ} {place : Coordinates}
    → IsEnd nodes fields index rank place → IsInRange place
end_in_range {nodes} sound index {rank} {place} is =
    let node : Node = record { id = is.id; place = place } in
    let its : IsSoundNode node = rw (← (get_or_from_slice_get nodes rank _ node is.node))
    (All-get_or IsSoundNode _ _ node (slice_get_within nodes rank node is.node) sound) in
    its.inside

line_is_sound : (nodes : List Node) → All IsSoundNode nodes
    → (fields : List (List ℕ)) (line : RoadLine) → IsLine nodes fields line
    → IsSoundLine (length nodes) line
line_is_sound nodes sound fields line is =
    let at = is.points in
    let few = few_between at.between in
    let size = ap length at.joined ∙ length-append (at.first ∷ at.shape) (at.last ∷ []) in
    let first = end_in_range sound 1 at.start in
    let last = end_in_range sound 2 at.end in
    let behind = All-append IsInRange _ _ (shape_in_range at.between)
    (All-cons IsInRange at.last [] last (All-nil _)) in
    record {
      named = is.id.spells.above;
      id = is.id.spells.below;
      from = slice_get_within nodes line.from _ at.start.node;
      to = slice_get_within nodes line.to _ at.end.node;
      class = is.class.spells.below;
      form = is.form.spells.below;
      long = is.long;
      short = is.length.spells.below;
      points_at_least = omega arith;
      points_at_most = omega arith;
      inside = rw at.joined (All-cons IsInRange at.first _ first behind);
      apart = is.apart;
    }

line_joins : {nodes : List Node} (fields : List (List ℕ)) (line : RoadLine)
    → IsLine nodes fields line → JoinsNodes nodes line
line_joins fields line is = search rules

pub lines_are_sound : {text : List ℕ} {nodes : List Node} {lines : List RoadLine}
    → AreSoundNodes nodes → IsLineSet nodes text lines → AreSoundLines nodes lines
lines_are_sound {nodes} {lines} sound is =
    let Sound = IsSoundLine (length nodes) in
    let Joins = JoinsNodes nodes in
    record {
      rise = is.2.rise;
      at_most = omega (arith, length_permutation is.0 lines is.2.same);
      each = All-permutation Sound _ _ is.2.same
          (each_second _ _ (line_is_sound _ sound.each) _ _ is.1.accepted.each);
      joined = All-permutation Joins _ _ is.2.same
          (each_second _ _ (line_joins) _ _ is.1.accepted.each);
    }

-- ---- bans

pub bans_are_sound : {text : List ℕ} {lines : List RoadLine} {bans : List Ban}
    → IsBanSet lines text bans → AreSoundBans lines bans
bans_are_sound {lines} {bans} is = record {
  rise = is.2.rise;
  at_most = omega (arith, length_permutation is.0 bans is.2.same);
  each = All-permutation (IsAdjacent lines) _ _ is.2.same
      (each_second _ _ (λ fields ban is. is.adjacent) _ _ is.1.accepted.each);
}

pub no_bans_are_sound : {lines : List RoadLine} → AreSoundBans lines []
no_bans_are_sound = grind (arith, All-nil)

-- ---- the map

pub map_is_sound : (nodes_text lines_text bans_text : List ℕ) (road : RoadMap)
    → IsNodeSet nodes_text road.nodes → IsLineSet road.nodes lines_text road.lines
    → IsBanSet road.lines bans_text road.bans → IsSoundMap road
map_is_sound nodes_text lines_text bans_text road nodes lines bans =
    let sound = nodes_are_sound nodes in
    record { nodes = sound; lines = lines_are_sound sound lines; bans = bans_are_sound bans }
