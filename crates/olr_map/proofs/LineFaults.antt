-- The checks on a record of the file of lines: what a record passes whose row was read, and that
-- one that spells a line passes all.
use Rattle.olr_map.proofs.Common.{AllPass, Coordinates, MapFault, LineRow, AllDiffer, Node, node_ids, RoadLine, IsLine, lines_table, IsSettled, StopsAfter, fields_of, SpellsLine, IsLateFault, ℕ, ◌+◌, ◌<◌, List, ◌≡◌, length, Some, inl, inr, arith}
use Rattle.olr_map.proofs.Checked.{stops_later}
use Rattle.olr_map.proofs.LineRows.{number_once, known}
use Rattle.olr_map.proofs.OneRow.{line_once, points_once}
use Rattle.olr_map.proofs.OneTable.{IsLawful}

row_passes : (nodes : List Node) {fields : List (List ℕ)} {shape : List Coordinates} {row : LineRow}
    → SpellsLine fields shape row → (n : ℕ) → AllPass (fields_of (lines_table nodes) n fields)
row_passes nodes {shape} {row} says n = grind arith

line_passes : {nodes : List Node} (fields : List (List ℕ)) (line : RoadLine)
    → IsLine nodes fields line → (n : ℕ) → AllPass (fields_of (lines_table nodes) n fields)
line_passes fields line is n = grind arith

-- a record whose row was read and is no line
pub stops_late : {nodes : List Node} {lines : List RoadLine} {bad : List (List ℕ)} {row : LineRow}
    {shape : List Coordinates} {stop : MapFault} {before : ℕ} → length lines ≡ before
    → before < 200000 → SpellsLine bad shape row → IsLateFault nodes bad (before + 1) stop
    → StopsAfter (lines_table nodes) lines bad (record { fault = stop; key = Some row.id })
stops_late {nodes} {lines} {bad} {row} {stop} size room says late =
    stops_later (lines_table nodes) lines bad row.id stop size room (row_passes nodes says)
    (λ among. (row.id, says.numbers.id, among))
    (λ repeat. rw (← (number_once 1 _ 0 _ repeat.1 says.numbers.id)) repeat.2) late

pub lines_settled : {nodes : List Node} → IsSettled (lines_table nodes)
lines_settled = grind (arith, line_passes)

pub lines_lawful : (nodes : List Node) → AllDiffer (node_ids nodes) → IsLawful (lines_table nodes)
lines_lawful nodes differ = record {
  row_once = line_once differ;
  settled = lines_settled;
  new = λ before fields line is repeat. rw (← (number_once 1 _ 0 _ repeat.1 is.id)) repeat.2;
  later = λ n fields line is. (
    λ unknown. elim unknown [
      | inl from ↦ known _ _ 1 _ _ _ is.points.start.spelled is.points.start.node from
      | inr to ↦ known _ _ 2 _ _ _ is.points.end.spelled is.points.end.node to
    ],
    (
      λ none. let same = number_once 0 _ 5 0 is.length none in let long = is.long in
          omega arith,
      (λ equal. is.apart (rw (← (points_once differ equal.3 is.points).points) equal.4), tt),
    ),
  );
}
