use Rattle.olr_route.proofs.Common.{IsAllowed, ◌≡◌, ◌<◌, ℕ, Some, get_or, Contains, HasUpTo}
use Rattle.olr_route.proofs.tight_turns.first_tight_turn.Given as goal

-- of the lines so far, the least one to which the turn isn't banned
abbrev pub invariant-loop-next : goal.invariant-loop-next
invariant-loop-next l = record {
  among : (rank : ℕ) → l.first ≡ Some rank → Contains l.ahead rank
      × IsAllowed l.search.map.now l.place.line rank;
  least : (k d : ℕ) → k < l.next-index
      → IsAllowed l.search.map.now l.place.line (get_or l.ahead k d)
      → HasUpTo l.first (get_or l.ahead k d);
}
