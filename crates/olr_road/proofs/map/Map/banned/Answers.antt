use Rattle.olr_road.proofs.Common.{ban_keys, ban_of, ◌≡◌, ℕ, Some, subst, arith, MatchOption, slice_get, Contains}
use Rattle.olr_road.proofs.Banned.{is_there, answered}
use Rattle.olr_road.proofs.map.Map.banned.Goals as goal

pub returns : goal.returns
returns c =
    let bans = c.self.inside.bans in
    let ban = ban_of c.args.from c.args.to in
    let found = subst (λ (key : ℕ). MatchOption c.find.result (Contains (ban_keys bans) key → ⊥)
    (λ rank. slice_get (ban_keys bans) rank ≡ Some key)) c.key.ensures c.find.ensures in
    rw (← c.self.view_is) (answered _ _ c.is_some.ensures
    (is_there _ _ _ _ c.self.invariant.sound.bans (omega arith) (omega arith) found))
