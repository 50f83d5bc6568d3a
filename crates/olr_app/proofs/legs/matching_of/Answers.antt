use Rattle.std.specs.Prelude.{length, slice_get}
use Rattle.std.specs.Option.{option_copied}
use Rattle.std.proofs.lemmas.Option.{slice_get_read}
use Rattle.olr_app.proofs.Common.{ap, refl, sym, ◌∙◌}
use Rattle.olr_app.proofs.LegsOf.{behind_empty, here_first, none_behind}
use Rattle.olr_app.proofs.legs.matching_of.Goals as goal

pub loop-page-init : goal.loop-page-init
loop-page-init c = refl

pub returns-in-Some-first : goal.returns-in-Some-first
returns-in-Some-first c =
    let pages = c.args.pages.now in
    let index = c.loop-page.page-index in
    let page = c.page-item.result in
    let here = sym (slice_get_read pages (length pages) index page refl c.loop-page-test.true
    c.page-item.is) in
    let key = ap option_copied (sym c.in-Some-first.is) ∙ c.first.ensures.value
    ∙ ap (λ keys. slice_get keys 0) c.deref.ensures.value in
    rw c.in_default.is
    (sym (here_first pages index page c.in-Some-first.key.now here key) ∙ c.loop-page.invariant)

pub loop-page-preserved : goal.loop-page-preserved
loop-page-preserved c =
    let pages = c.args.pages.now in
    let index = c.loop-page.page-index in
    let page = c.page-item.result in
    let here = sym (slice_get_read pages (length pages) index page refl c.loop-page-test.true
    c.page-item.is) in
    let none = ap option_copied (sym c.in_default-first.is) ∙ c.first.ensures.value
    ∙ ap (λ keys. slice_get keys 0) c.deref.ensures.value in
    sym (behind_empty pages index page here none) ∙ c.loop-page.invariant

pub returns : goal.returns
returns c =
    rw c.in_default.is
    (sym (none_behind c.args.pages.now c.loop-page.page-index c.loop-page-test.false)
    ∙ c.loop-page.invariant)
