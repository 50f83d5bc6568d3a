use Rattle.olr_map.proofs.Common.{Degrees, Coordinates, coordinates_of, IsLength, SpellsAt, Node, SpellsLine, LineRow, ℕ, List, map, inl, inr, refl, ap, ◌∙◌, subst, HasUnknownEnd, AreEnds}
use Rattle.olr_map.specs.declared.lines.Ends.{Ends}
use Rattle.olr_map.proofs.LineRows.{number_once, known, coordinates_joined}
use Rattle.olr_map.proofs.lines.make_line.Goals as goal

-- nodes that were found are known
known_ends : {nodes : List Node} {fields : List (List ℕ)} {shape : List Coordinates} {row : LineRow}
    {ends : Ends} → SpellsLine fields shape row → AreEnds nodes row ends
    → HasUnknownEnd nodes fields → ⊥
known_ends says ends unknown = elim unknown [
  | inl from ↦ known _ _ 1 _ _ _ says.numbers.from ends.from from
  | inr to ↦ known _ _ 2 _ _ _ says.numbers.to ends.to to
]

pub returns-then-has_equal_neighbours-clause-line : goal.returns-then-has_equal_neighbours-clause-line
returns-then-has_equal_neighbours-clause-line c = λ nodes fields says has.
    let ends = rw c.in-Some.is at has in
    let points = ap (λ (l : List Degrees). map coordinates_of l)
    (c.deref.ensures.value ∙ c.in_ok-join_points.ensures)
    ∙ coordinates_joined c.in-Some.ends.first _ _ in
    inr (
      known_ends says ends,
      inr (
        λ zero. c.if-row-eq0.false (number_once 0 _ 5 0 says.numbers.size zero),
        inl (
          (
            c.in-Some.ends.from,
            c.in-Some.ends.to,
            _,
            record {
              first = coordinates_of c.in-Some.ends.first;
              last = coordinates_of c.in-Some.ends.last;
              shape = map coordinates_of c.args.shape.now;
              start = record {
                id = c.args.row.now.from;
                spelled = says.numbers.from;
                node = ends.from;
              };
              end = record { id = c.args.row.now.to; spelled = says.numbers.to; node = ends.to };
              between = says.between;
              joined = refl;
            },
            rw (← points) c.if-has_equal_neighbours.ensures,
          ),
          refl,
        ),
      ),
    )

pub returns-then-row-eq0-clause-line : goal.returns-then-row-eq0-clause-line
returns-then-row-eq0-clause-line c = λ nodes fields says has. inr (
  known_ends says (rw c.in-Some.is at has),
  inl (subst (λ (n : ℕ). SpellsAt IsLength fields 5 n) c.if-row-eq0.true says.numbers.size, refl),
)
