use Rattle.std.proofs.Common.{◌≡◌, List, [], ◌++◌, refl}
use Rattle.olr_confidence.specs.Reasons.{all_weighed, heavy_ones}
use Rattle.olr_confidence.specs.declared.reason.Reason.{Reason}
use Rattle.olr_confidence.specs.declared.reason.WeighedReason.{WeighedReason}
use Rattle.olr_confidence.proofs.reasons.reasons_of.Goals as goal

listed : (items old : List Reason) (all shown : List WeighedReason) → old ≡ []
    → items ≡ old ++ heavy_ones all → all ≡ shown → items ≡ heavy_ones shown
listed items old all shown empty items_are all_is = rw (items_are, empty, all_is) refl

pub returns : goal.returns
returns c = record {
  terms = c.terms_of-terms.result;
  are_terms = c.terms_of-terms.ensures;
  reasons_are = listed c.push_heavy.new.reasons.items c.new-reasons.result.items
      c.all_weighed-all.result
      (all_weighed c.args.weights.now c.args.detail.now c.terms_of-terms.result c.args.least
      c.args.count)
      c.new-reasons.ensures.items c.in_ok-push_heavy.ensures c.all_weighed-all.ensures;
}
