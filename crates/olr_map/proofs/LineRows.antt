-- The row of a line's record: its ends among the nodes, and its points behind those of other lines.
use Rattle.olr_map.proofs.Common.{Degrees, Coordinates, coordinates_of, SpellsAt, Node, node_ids, IsNodeAt, ◌≡◌, ℕ, List, [], ◌∷◌, ◌++◌, map, ap, ◌∙◌, arith, Contains, length-map, get_or-map, map-append, get_or_from_slice_get, slice_get_within, Contains-get_or, IsUnknown}
use Rattle.olr_records.specs.Fields.{IsNumberWithin}

-- a field spells one number
pub number_once : (least greatest : ℕ) {fields : List (List ℕ)} (at : ℕ) {a : ℕ} (b : ℕ)
    → SpellsAt (IsNumberWithin least greatest) fields at a
    → SpellsAt (IsNumberWithin least greatest) fields at b → a ≡ b
number_once least greatest at {a} b one other = grind arith

-- the node of a rank is one of the nodes
pub node_among : (nodes : List Node) (id rank : ℕ) (place : Coordinates)
    → IsNodeAt nodes id rank place → Contains (node_ids nodes) id
node_among nodes id rank place at =
    let inside = slice_get_within nodes rank (node id place) at in
    let size = length-map nodes (λ (n : Node). n.id) in
    let there = get_or-map _ _ _ (node id place) 0 inside
    ∙ ap (λ (n : Node). n.id) (get_or_from_slice_get nodes rank _ (node id place) at) in
    rw (← there) (Contains-get_or _ _ 0 (omega arith))
  where
    node : ℕ → Coordinates → Node
    node id place = record { id = id; place = place }

-- an end that is a node is known
pub known : (nodes : List Node) (fields : List (List ℕ)) (at id rank : ℕ) (place : Coordinates)
    → SpellsAt (IsNumberWithin 1 9007199254740992) fields at id → IsNodeAt nodes id rank place
    → IsUnknown nodes fields at → ⊥
known nodes fields at id rank place spelled node unknown =
    grind (arith, number_once, node_among, node)

-- the points of a line, and those that lie behind the ones before them
abbrev pub joined : Degrees → List Degrees → Degrees → List Degrees
joined first shape last = first ∷ shape ++ last ∷ []

pub coordinates_joined : (first : Degrees) (shape : List Degrees) (last : Degrees)
    → map coordinates_of (joined first shape last) ≡ coordinates_of first ∷ map coordinates_of shape
    ++ coordinates_of last ∷ []
coordinates_joined first shape last = cc (map-append coordinates_of shape (last ∷ []))
