use Rattle.std.proofs.Common.{◌≡◌, take}
use Rattle.olr_lines.specs.LinesInBox.{lines_meeting}
use Rattle.olr_lines.proofs.Meeting.{first_within}
use Rattle.olr_lines.proofs.lines.lines_in.Goals as goal

pub returns-clause-ranks : goal.returns-clause-ranks
returns-clause-ranks c =
    let ranks = c.truncate.new.self.items in
    let are : ranks ≡ take c.args.most (lines_meeting c.args.map.now.lines c.args.wanted.now) =
    cc (c.truncate.ensures.items, c.in_ok-ranks.ensures) in
    first_within c.args.map.now.lines c.args.wanted.now c.args.most ranks are
