use Rattle.std.proofs.Common.{List, ℕ, ap, refl}
use Rattle.std.specs.Map.{lookup}
use Rattle.std.specs.Prelude.{nat_eq}
use Rattle.olr_legs.specs.declared.way.Way.{Way}
use Rattle.olr_legs.proofs.Beginning.{begun_settled, begun_sound}
use Rattle.olr_legs.proofs.labels.Labels.new.Goals as goal

pub returns-clause-sound : goal.returns-clause-sound
returns-clause-sound c =
    begun_sound c.args.search.now _ c.offer.new.self
    (λ line. ap (λ (es : List (ℕ × Way)). lookup (nat_eq line) es) c.new.ensures.empty)
    (rw c.from.ensures at c.in_ok-offer.ensures.offered) (c.if-not-may_end.ensures.0 refl)

pub returns-clause-settled : goal.returns-clause-settled
returns-clause-settled c =
    begun_settled c.args.search.now _ c.offer.new.self
    (λ line. ap (λ (es : List (ℕ × Way)). lookup (nat_eq line) es) c.new.ensures.empty)
    (rw c.from.ensures at c.in_ok-offer.ensures.offered)

pub returns-clause-end : goal.returns-clause-end
returns-clause-end c = λ may. (rw c.from.ensures at c.in_ok-offer.ensures.offered).known
