use Rattle.olr_matching.proofs.Common.{All-push, AreLengthsOn}
use Rattle.olr_matching.proofs.searches.Searches.keep.Goals as goal

pub returns-clause-searches : goal.returns-clause-searches
returns-clause-searches c = λ road they is.
    rw c.in_ok-push.ensures.items (All-push (AreLengthsOn road) _ c.args.reach
    (rw c.self.view_is (c.make_room.ensures road they)) is)

pub returns-in_err-push-clause-searches : goal.returns-in_err-push-clause-searches
returns-in_err-push-clause-searches c =
    λ road they is. rw (c.in_err-push.ensures.items, c.self.view_is) (c.make_room.ensures road they)
