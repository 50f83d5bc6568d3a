use Rattle.std.proofs.lemmas.Iterator.{cases_from_any, YieldsList-from_slice}
use Rattle.olr_route.proofs.Common.{IsAllowed, rules}
use Rattle.olr_route.proofs.Tight.{tight_found}
use Rattle.olr_route.proofs.tight_turns.has_tight_turn.Goals as goal

pub returns : goal.returns
returns c =
    tight_found _ _ _ _ _ c.tight_ahead.ensures _
    (cases_from_any _ _ _ (λ next. IsAllowed c.args.search.now.map.now c.args.place.line next)
    (λ next. IsAllowed c.args.search.now.map.now c.args.place.line next → ⊥) c.any.ensures.ran
    (YieldsList-from_slice _ cc) (λ x q k. search rules)
    (λ x q k. search rules))
