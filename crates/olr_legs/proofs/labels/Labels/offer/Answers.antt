use Rattle.std.proofs.Common.{◌≡◌, refl, sym, subst, Some}
use Rattle.olr_legs.specs.Labels.{IsOffered, way_in}
use Rattle.olr_legs.specs.Way.{IsUpToWay}
use Rattle.olr_legs.specs.declared.labels.Labels.{Labels}
use Rattle.olr_legs.specs.declared.way.Way.{Way}
use Rattle.olr_legs.proofs.Offering.{earlier_than, offered_kept, offered_new}
use Rattle.olr_legs.proofs.labels.Labels.offer.Goals as goal
use Rattle.olr_legs.proofs.labels.Labels.offer.Goals.{in-Some+else-not-is_behind, in_default}

pub returns-then-not-is_behind-clause-offered : goal.returns-then-not-is_behind-clause-offered
returns-then-not-is_behind-clause-offered c =
    offered_kept _ _ _ _ c.in-Some.way.now (sym c.in-Some.ensures.value) c.if-not-is_behind.ensures

pub returns-clause-offered : goal.returns-clause-offered
returns-clause-offered c =
    let new : Labels = record { ways = c.insert.new.self; waiting = c.push.new.self } in
    let same : c.match-get.self ≡ c.args.self.now =
    elim c.match-get.branch [
      | in-Some+else-not-is_behind w ↦ w.self-is
      | in_default w ↦ w.self-is
    ] in
    let earlier : (prior : Way) → way_in c.args.self.now c.args.line ≡ Some prior
    → IsUpToWay c.args.length c.args.behind.now prior.length prior.behind.items =
    elim c.match-get.branch [
      | in-Some+else-not-is_behind w ↦ earlier_than c.args.self.now c.args.line c.args.length _
          w.in-Some.way.now (sym w.in-Some.ensures.value) w.if-not-is_behind.ensures
      | in_default w ↦ λ prior is. absurd (let none = w.in_default.ensures.value in cc)
    ] in
    subst (λ (old : Labels). IsOffered c.args.line c.args.length c.args.behind.now old new) same
    (offered_new c.match-get.self new c.args.line c.args.length c.args.behind.now
    (record { length = c.args.length; behind = c.in_ok-behind.behind })
    (subst (λ (old : Labels). (prior : Way) → way_in old c.args.line ≡ Some prior
    → IsUpToWay c.args.length c.args.behind.now prior.length prior.behind.items) (sym same) earlier)
    c.in_ok-insert.ensures.updates.1 refl
    c.in_ok-behind.ensures.items c.in_ok-insert.ensures.updates.2 c.in_ok-push.ensures.permutation)
