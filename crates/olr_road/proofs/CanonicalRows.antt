-- The rows of a map's canonical text, by number.
use Rattle.std.proofs.lemmas.List.Folds.{concat-append}
use Rattle.olr_road.proofs.Common.{Degrees, Coordinates, coordinates_of, Node, node_ids, RoadLine, joined, between_ends, line_fields, part, shape_text, row_text, ◌≡◌, ℕ, zero, suc, ◌+◌, ◌-◌, ◌<◌, List, [], ◌∷◌, ◌++◌, append_assoc, map, length, get_or, take, drop, Some, refl, ap, ◌∙◌, arith, codes, decimal, option_map, slice_get, slice_index, concat, append-nil, length-map, take-map, drop-map, take_more, head_of, line_of}
use Rattle.olr_road.specs.declared.line.Line.{Line}

-- ---- the row of a line

-- the row of the line of a rank, by what `line` and `points` give
row_of_line : (nodes : List Node) (lines : List RoadLine) (rank : ℕ) (head : Line)
    (points : List Coordinates) → option_map head_of (slice_get lines rank) ≡ Some head
    → option_map (λ (line : RoadLine). line.points) (slice_get lines rank) ≡ Some points
    → get_or (map row_text (map (line_fields nodes) lines)) rank []
    ≡ row_text (line_fields nodes (line_of head points))
row_of_line nodes [] rank head points its its_points = absurd cc
row_of_line nodes (line ∷ lines) zero head points its its_points = grind arith
row_of_line nodes (line ∷ lines) (suc rank) head points its its_points =
    row_of_line nodes lines rank head points its its_points

-- the places between the ends
between_places : (points : List Degrees)
    → map coordinates_of (take (length points - 1 - 1) (drop 1 points))
    ≡ between_ends (map coordinates_of points)
between_places points = grind (arith, length-map, take-map, drop-map)

-- the pieces of such a row, one after the other
by_pieces : (comma end old id from to class form size shape : List ℕ)
    → ((old ++ (id
    ++ (comma ++ (from
    ++ (comma ++ (to
    ++ (comma ++ (class ++ (comma ++ (form ++ (comma ++ (size ++ comma)))))))))))) ++ shape) ++ end
    ≡ old ++ (joined comma (id ∷ from ∷ to ∷ class ∷ form ∷ size ∷ shape ∷ []) ++ end)
by_pieces comma end old id from to class form size shape = simp (append_assoc, append-nil)

-- the row of the line of a rank is added: its fields before the shape, its shape, and the end of
-- the row
pub line_added : (nodes : List Node) (lines : List RoadLine) (rank : ℕ) (head : Line)
    (points : List Degrees) (from to : ℕ) (old : List ℕ) {fields shaped text : List ℕ}
    → option_map head_of (slice_get lines rank) ≡ Some head
    → option_map (λ (line : RoadLine). line.points) (slice_get lines rank)
    ≡ Some (map coordinates_of points)
    → from ≡ slice_index (node_ids nodes) head.from → to ≡ slice_index (node_ids nodes) head.to
    → fields ≡ old ++ (decimal head.id ++ 44
    ∷ (decimal from ++ 44 ∷ (decimal to ++ 44
    ∷ (decimal head.class ++ 44 ∷ (decimal head.form ++ 44 ∷ (decimal head.length ++ 44 ∷ []))))))
    → shaped ≡ fields ++ shape_text
    (map coordinates_of (take (length points - 1 - 1) (drop 1 points)))
    → text ≡ shaped ++ codes "\n"
    → text ≡ old ++ get_or (map row_text (map (line_fields nodes) lines)) rank []
line_added nodes lines rank head points from to old its its_points from_is to_is first second
    third =
    let shape = shape_text (map coordinates_of (take (length points - 1 - 1) (drop 1 points))) in
    third ∙ ap (λ (l : List ℕ). l ++ codes "\n") (cc)
    ∙ by_pieces (codes ",") (codes "\n") old (decimal head.id) (decimal from) (decimal to)
    (decimal head.class) (decimal head.form) (decimal head.length) shape
    ∙ ap (λ (l : List ℕ). old ++ l)
    (rw (row_of_line _ _ _ _ _ its its_points, from_is, to_is, between_places points))

-- ---- the rows of a part

-- behind the heading there are the rows in their order
row_behind : {X : Type 0} (fields : X → List (List ℕ)) (xs : List X) (rank : ℕ) (x : X)
    → slice_get xs rank ≡ Some x → row_text (fields x)
    ≡ get_or (map row_text (map fields xs)) rank []
row_behind fields [] rank x its = absurd cc
row_behind fields (y ∷ xs) zero x its = cc
row_behind fields (y ∷ xs) (suc rank) x its = row_behind fields xs rank x its

-- such a row is added
pub row_added : {X : Type 0} (fields : X → List (List ℕ)) (name : List ℕ) (xs : List X) (number : ℕ)
    (x : X) (before : List ℕ) {text : List ℕ} → (number ≡ 0 → ⊥)
    → slice_get xs (number - 1) ≡ Some x → text ≡ before ++ row_text (fields x)
    → text ≡ before ++ get_or (map row_text (part name (map fields xs))) number []
row_added fields name xs zero x before other its added = absurd (other refl)
row_added fields name xs (suc rank) x before other its added = grind (arith, row_behind)

-- ---- the rows of the text

-- the rows so far, and one more
pub row_more : (rows : List (List ℕ)) (number : ℕ) → number < length rows
    → concat (take number rows) ++ get_or rows number [] ≡ concat (take (number + 1) rows)
row_more rows number inside = cc (
  append-nil (get_or rows number []),
  concat-append (take number rows) (get_or rows number [] ∷ []),
  take_more _ _ [] inside,
)
