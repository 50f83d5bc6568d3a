use Rattle.std.proofs.Common.{map, rules, arith}
use Rattle.olr_text.proofs.Nesting.{items_nest, option_nests}
use Rattle.olr_report.specs.ShownMap.{map_shown}
use Rattle.olr_detail.specs.Page.{detailed_of}
use Rattle.olr_detail.proofs.Pages.{detailed_nests, same_page}
use Rattle.olr_detail.proofs.page.json_page_in_detail.Goals as goal

pub to_json_line-requires : goal.to_json_line-requires
to_json_line-requires c = search (rules, arith, items_nest, option_nests, detailed_nests)

pub returns : goal.returns
returns c =
    let list = c.in_ok-matchings.matchings.items in record {
      all = map detailed_of list;
      are = c.in_ok-matchings.ensures;
      json = rw (← c.new-shown.ensures) (rw (← (same_page (map_shown c.new-shown.result) list _ _ _ _
          c.next_cursor-next.ensures c.next_after.ensures)) c.in_ok-line.ensures);
    }
