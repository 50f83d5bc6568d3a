use Rattle.olr_map.proofs.Common.{wrong_row, unknown, apart, ban_of, inl, inr, refl}
use Rattle.olr_map.proofs.BanRows.{names, never_meets}
use Rattle.olr_map.proofs.bans.ban_of.Goals as goal

pub returns-in-Err-clause-stop : goal.returns-in-Err-clause-stop
returns-in-Err-clause-stop c = wrong_row c.in-Err.error c.in-Err.ensures.error (cc)

pub returns-in_default-clause-stop : goal.returns-in_default-clause-stop
returns-in_default-clause-stop c = unknown c.in-Ok.ids.0 c.in-Ok.ids.1 c.in-Ok.ensures.ids
    (inr (c.in-Ok.ids.1, c.in-Ok.ensures.ids.to, c.in_default.ensures')) refl

pub returns-in_default-2-clause-stop : goal.returns-in_default-2-clause-stop
returns-in_default-2-clause-stop c = unknown c.in-Ok.ids.0 c.in-Ok.ids.1 c.in-Ok.ensures.ids
    (inl (c.in-Ok.ids.0, c.in-Ok.ensures.ids.from, rw c.in_default.is-0 at c.find.ensures)) refl

pub returns-then-line-clause-stop : goal.returns-then-line-clause-stop
returns-then-line-clause-stop c =
    let named = names _ _ _ _ _ _ c.in-Ok.ensures.ids c.in-Some-Some.ensures
    c.in-Some-Some.ensures' in
    apart (ban_of c.in-Some-Some.from c.in-Some-Some.to) c.in-Ok.ensures.ids.two named
    (never_meets _ _ _ _ _ c.line.ensures c.line-2.ensures c.if-line.true) (cc)
