use Rattle.olr_app.proofs.Common.{AreLayers, ArePages, IsKey, IsStartHere, ap, string_bytes, subst, ◌∙◌}
use Rattle.olr_app.proofs.LegsOf.{is_matching, key_shown}
use Rattle.olr_app.proofs.PagesOf.{fault_after, fault_here}
use Rattle.olr_app.proofs.Single.{exit}
use Rattle.olr_app.specs.Legs.{AreLegsIn, AreLegsOf, AreLegsOnLayers, AreLegsOnStart, AreLegsShown, matching_of}
use Rattle.olr_app.specs.Matching.{values_of}
use Rattle.olr_app.specs.Stages.{NoFault}
use Rattle.olr_request.specs.Request.{matching_request}
use Rattle.olr_app.proofs.legs.output_by.Goals as goal

pub returns-in_err-pages-clause-fault : goal.returns-in_err-pages-clause-fault
returns-in_err-pages-clause-fault c =
    let asked = c.args.asked.now in
    let one = matching_request asked in
    let accepted = c.args.accepted.now in
    let road = c.args.map.now in
    let layers = c.in_ok-layers.layers in
    let why = c.in_err-pages.field-0.0 in
    rw (exit c.from_residual-in_err-pages.ensures.1)
    (fault_after (IsStartHere one road accepted.start)
    (AreLegsOnStart asked road accepted.reference) accepted.start why
    (rw (c.requires.one) at c.in_ok-check_inputs.ensures.here)
    (fault_after (AreLayers asked.tolerances accepted.reference road)
    (AreLegsOnLayers asked road accepted.start) layers why c.in_ok-layers.ensures.layers
    (fault_here (ArePages one layers accepted.start)
    (λ pages. NoFault (AreLegsShown asked road layers (matching_of accepted.start pages))) why
    (rw (c.requires.one) at c.in_err-pages.ensures.fault))))

pub legs_of_key-requires-clause-key : goal.legs_of_key-requires-clause-key
legs_of_key-requires-clause-key c =
    let start = c.args.accepted.now.start in
    let layers = c.in_ok-layers.layers in
    let pages = c.in_ok-pages.pages.items in
    key_shown (IsKey layers.penalties) c.matching_of-matching.result (matching_of start (values_of pages))
    (c.matching_of-matching.ensures ∙ ap (λ list. matching_of start (values_of list)) c.deref.ensures.value)
    (is_matching c.args.asked.now layers start pages
    (rw c.requires.one at c.in_ok-pages.ensures.pages))

pub returns-clause-output : goal.returns-clause-output
returns-clause-output c =
    let asked = c.args.asked.now in
    let start = c.args.accepted.now.start in
    let road = c.args.map.now in
    let layers = c.in_ok-layers.layers in
    let pages = c.in_ok-pages.pages.items in
    let legs = c.in_ok-legs.legs.items in
    let output = string_bytes c.in_ok-output.output in
    let key = matching_of start (values_of pages) in
    let same = c.matching_of-matching.ensures
    ∙ ap (λ list. matching_of start (values_of list)) c.deref.ensures.value in
    let shown : AreLegsShown asked road layers key output =
    record {
      legs = legs;
      are = subst (λ near. AreLegsOf road layers near key legs) c.thousandths-near.ensures
          (subst (λ one. AreLegsOf road layers c.thousandths-near.result one legs) same
          c.in_ok-legs.ensures);
      printed = subst (λ list. AreLegsIn asked.format road key list output) c.deref-2.ensures.value
          (subst (λ one. AreLegsIn asked.format road one c.deref-2.result.now output) same
          c.in_ok-output.ensures);
    } in (
      start,
      rw c.requires.one at c.in_ok-check_inputs.ensures.here,
      (
        layers,
        c.in_ok-layers.ensures.layers,
        (values_of pages, rw c.requires.one at c.in_ok-pages.ensures.pages, shown),
      ),
    )
