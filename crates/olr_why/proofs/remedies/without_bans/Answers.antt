use Rattle.olr_why.proofs.Common.{IsUnbanned, without_bans, IsCrowded}
use Rattle.olr_why.proofs.Tried.{not_both}
use Rattle.olr_why.proofs.remedies.without_bans.Goals as goal

pub returns-in-Crowded : goal.returns-in-Crowded
returns-in-Crowded c bans matching =
    let other : IsUnbanned c.args.on.now.map.now c.in-Some.unbanned.now =
    rw c.in-Some.is at c.requires.unbanned in
    let crowded : IsCrowded c.in-Some.unbanned.now c.args.on.now.tolerances
    c.args.on.now.reference.now = rw c.in-Crowded.is at c.in_ok-try_tolerances.ensures in
    not_both (without_bans c.args.on.now.map.now) _ c.args.on.now.tolerances
    (rw other.is at crowded) c.requires.uncrowded
