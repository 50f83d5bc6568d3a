use Rattle.olr_places.proofs.Common.{is_close_to, entry_of, Opener, ◌≡◌, take, false, All}
use Rattle.olr_places.proofs.opener.place_of.Given as goal

abbrev pub invariant-loop-index : goal.invariant-loop-index
invariant-loop-index l =
    All (λ (one : Opener). is_close_to l.limits (entry_of l.opener) (entry_of one) ≡ false)
    (take l.index l.openers)
