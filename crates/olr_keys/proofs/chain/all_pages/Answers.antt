use Rattle.std.proofs.Common.{None}
use Rattle.olr_keys.proofs.Chains.{ends, fewer_left, position_found}
use Rattle.olr_keys.proofs.chain.all_pages.Goals as goal

pub page_after-requires : goal.page_after-requires
page_after-requires g c =
    position_found c.pages.invariant.0 None c.keys-count.ensures.keys c.deref.ensures.value
    c.last_key.ensures c.pages.invariant.1

pub returns-then-not-more-clause-pages : goal.returns-then-not-more-clause-pages
returns-then-not-more-clause-pages g c =
    ends c.pages.invariant.0 None c.keys-count.ensures.keys c.deref.ensures.value c.last_key.ensures
    c.pages.invariant.1
    (g.met.F.Finder.rise c.args.finder.now) _ c.in_ok-page.ensures.page c.in_ok-push.ensures.items
    c.if-not-more.true

pub returns-then-not-more-clause-headline : goal.returns-then-not-more-clause-headline
returns-then-not-more-clause-headline g c = λ penalties are. returns-then-not-more-clause-pages g c

pub pages-smaller : goal.pages-smaller
pages-smaller g c =
    fewer_left c.pages.invariant.0 None c.keys-count.ensures.keys c.deref.ensures.value
    c.last_key.ensures c.pages.invariant.1
    (g.met.F.Finder.rise c.args.finder.now) _ c.in_ok-page.ensures.page c.in_ok-push.ensures.items
    c.if-not-more.false
