use Rattle.olr_keys.proofs.Common.{sym, ◌∙◌, ap, arith, is_some}
use Rattle.olr_keys.proofs.PageLists.{more_read, one_longer, page_read, position_read}
use Rattle.olr_keys.proofs.paging.page_after.Goals as goal

pub next-requires : goal.next-requires
next-requires g c =
    position_read c.loop-taken.invariant.0 c.deref.ensures.value c.last_or.ensures
    c.loop-taken.invariant.1

pub returns-in_default-clause-page : goal.returns-in_default-clause-page
returns-in_default-clause-page g c =
    page_read c.loop-taken.invariant.0 c.deref.ensures.value c.last_or.ensures
    c.loop-taken.invariant.1
    (g.met.F.Finder.rise c.args.finder.now) _ c.in_ok-key.ensures.next
    (sym (ap is_some c.in_default.is)) (λ more. absurd cc)
    (omega arith)

pub loop-taken-preserved : goal.loop-taken-preserved
loop-taken-preserved g c =
    let more =
    more_read c.loop-taken.invariant.0
    c.deref.ensures.value c.last_or.ensures c.loop-taken.invariant.1
    (g.met.F.Finder.rise c.args.finder.now) _ c.in_ok-key.ensures.next c.in-Some.is
    c.in_ok-push.ensures.items in (
      c.in_ok-key.ensures.same ∙ c.loop-taken.invariant.0,
      more,
      one_longer _ _ c.in_ok-push.ensures.items c.loop-taken.invariant.2,
    )

pub next-requires-2 : goal.next-requires-2
next-requires-2 g c =
    position_read c.loop-taken.invariant.0 c.deref-2.ensures.value c.last_or-2.ensures
    c.loop-taken.invariant.1

pub returns-clause-page : goal.returns-clause-page
returns-clause-page g c =
    page_read c.loop-taken.invariant.0 c.deref-2.ensures.value c.last_or-2.ensures
    c.loop-taken.invariant.1
    (g.met.F.Finder.rise c.args.finder.now) _ c.in_ok-next.ensures.next c.is_some-more.ensures
    (λ more. omega arith) (omega arith)
