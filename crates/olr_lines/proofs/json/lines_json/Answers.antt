use Rattle.std.proofs.Common.{arith, subst, string_bytes}
use Rattle.std.specs.Prelude.{codes}
use Rattle.serde_json.specs.Data.{array, boolean, member, no_members, object}
use Rattle.serde_json.specs.View.{items_of}
use Rattle.olr_text.specs.JsonValues.{IsJsonLine}
use Rattle.olr_text.proofs.Nesting.{items_nest}
use Rattle.olr_lines.specs.Json.{line_value}
use Rattle.olr_lines.specs.declared.lines_on.RankedLine.{RankedLine}
use Rattle.olr_lines.proofs.Shown.{by_rank, line_nests}
use Rattle.olr_lines.proofs.json.lines_json.Goals as goal

pub to_json_line-requires : goal.to_json_line-requires
to_json_line-requires c = (
  omega arith,
  (
    (
      omega arith,
      items_nest _ 125 (λ (line : RankedLine).
          line_nests 125 (omega arith) c.args.map.now c.args.shapes line.rank)
          c.in_ok-lines.lines.items,
    ),
    (tt, tt),
  ),
)

pub returns : goal.returns
returns c = subst (λ values. IsJsonLine (object (member (codes "lines") (array (items_of values)) (
    member (codes "more") (boolean c.args.found.now.more) no_members))) (string_bytes c.in_ok-text.text))
    (by_rank (line_value c.args.map.now c.args.shapes) c.in_ok-lines.lines.items
    c.args.found.now.ranks.items (rw c.deref.ensures.value at c.in_ok-lines.ensures))
    c.in_ok-text.ensures
