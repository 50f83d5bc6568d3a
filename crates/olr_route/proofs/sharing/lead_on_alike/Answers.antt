use Rattle.std.proofs.Common.{arith, sym, ◌∙◌}
use Rattle.olr_route.proofs.Lines.{free_of_bans, open_of}
use Rattle.olr_route.proofs.sharing.lead_on_alike.Goals as goal

pub returns-then-is_empty : goal.returns-then-is_empty
returns-then-is_empty c =
    let one = open_of _ _ _ c.line-one.ensures.line c.args.class c.if-one-class.false in
    let another = open_of _ _ _ c.line-another.ensures.line c.args.class c.if-another-class.false in
    let other_none = free_of_bans c.args.map.now _ _ c.bans_from-then-is_empty.ensures in (
      λ is. record {
        one = one.0;
        another = another.0;
        meets = omega arith;
        free = (free_of_bans c.args.map.now _ _ c.bans_from.ensures).0 (sym c.is_empty.ensures
            ∙ c.if-is_empty.true);
        other_free = other_none.0 (sym c.is_empty-then-is_empty.ensures ∙ is);
      },
      λ alike. c.is_empty-then-is_empty.ensures ∙ other_none.1 alike.other_free,
    )

pub returns-else-is_empty : goal.returns-else-is_empty
returns-else-is_empty c = grind (arith, free_of_bans c.args.map.now _ _ c.bans_from.ensures)
