use Rattle.std.proofs.Common.{length, map, take}
use Rattle.std.specs.Prelude.{All}
use Rattle.olr_report.specs.Entries.{AreEntriesOf}
use Rattle.olr_detail.specs.MatchingDetail.{IsDetailed, entries_of}
use Rattle.olr_detail.specs.Page.{detailed_of}
use Rattle.olr_detail.proofs.page.detailed_entries.Given as goal

-- the matchings of the keys so far
abbrev pub invariant-loop-key : goal.invariant-loop-key
invariant-loop-key l =
    let count = length l.yielded in let all = map detailed_of l.all.items in
    AreEntriesOf l.on.reference.now (take count l.page.keys.items) (take count l.fn.matched)
    (entries_of all)
    × All (IsDetailed l.on.tolerances l.on.reference.now l.on.map.now) all
