use Rattle.olr_report.proofs.Common.{Matched, ap, ◌∙◌}
use Rattle.olr_report.proofs.Shown.{on_map}
use Rattle.olr_report.proofs.page_entries.entry_of.Goals as goal

pub returns-clause-on_map : goal.returns-clause-on_map
returns-clause-on_map c = λ road has. on_map road c.args.reference.now _ has (record {
  route = rw (← (c.deref.ensures.value
      ∙ ap (λ (matched : Matched). matched.legs) c.matched.view_is)) c.in_ok-route.ensures;
  location = rw (← (c.deref-3.ensures.value
      ∙ ap (λ (matched : Matched). matched.legs) c.matched.view_is)) c.in_ok-location.ensures;
})
