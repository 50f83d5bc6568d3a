use Rattle.std.proofs.Common.{arith}
use Rattle.olr_report.specs.ShownMap.{map_shown}
use Rattle.olr_likely.proofs.Nested.{shown_nests}
use Rattle.olr_likely.proofs.json.shown_json.Goals as goal

pub to_json_line-requires : goal.to_json_line-requires
to_json_line-requires c =
    shown_nests (map_shown c.args.on.now) _ (omega arith) c.args.shown.now
