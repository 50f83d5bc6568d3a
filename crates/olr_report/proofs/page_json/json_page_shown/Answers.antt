use Rattle.olr_report.proofs.Common.{map, map_shown, rules, arith, entry_of, items_nest, option_nests}
use Rattle.olr_report.proofs.JsonShape.{entry_nests}
use Rattle.olr_report.proofs.ShownPage.{same_page}
use Rattle.olr_report.proofs.page_json.json_page_shown.Goals as goal

pub to_json_line-requires : goal.to_json_line-requires
to_json_line-requires c = search (rules, arith, items_nest, option_nests, entry_nests)

pub returns : goal.returns
returns c =
    let list = c.in_ok-matchings.matchings.items in record {
      entries = map entry_of list;
      are_entries = c.in_ok-matchings.ensures;
      json = rw (← (same_page (map_shown c.args.on.now) list _ _ _ _ c.next_cursor-next.ensures
          c.next_after.ensures)) c.in_ok-line.ensures;
    }
