use Rattle.std.proofs.Common.{◌++◌, ap, ◌∙◌, string_bytes}
use Rattle.olr_app.proofs.PagesOf.{one_more, all_pages_added}
use Rattle.olr_app.proofs.matching.added_for_pages.Goals as goal

pub loop-page-preserved : goal.loop-page-preserved
loop-page-preserved c =
    let before = c.loop-page.invariant in
    let grown = c.in_ok-push_str.ensures.bytes
    ∙ ap (λ more. string_bytes c.loop-page.output ++ more) c.deref.ensures in (
      c.added_for_page.ensures.same ∙ before.0,
      one_more _ _ _ _ _ c.args.pages.now c.loop-page.page-index _ (string_bytes c.loop-page.output) _
          _ c.loop-page-test.true c.page-item.is before.1
          (rw (before.0, c.as_ref.ensures.value) at c.in_ok-added.ensures.added) grown,
    )

pub returns : goal.returns
returns c =
    all_pages_added _ _ _ _ _ c.args.pages.now c.loop-page.page-index
    (string_bytes c.loop-page.output)
    c.loop-page-test.false c.loop-page.invariant.1
