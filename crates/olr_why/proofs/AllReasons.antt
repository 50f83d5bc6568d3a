-- The verdict and the legs of a reference, by what is known of its layers.
use Rattle.olr_why.proofs.Common.{AreLayersOn, Crowded, LayersValue, LegReason, Reference, RoadMap, Tolerances, Verdict, ℕ, List, refl, NoListOfPointAndTooMany, NoListsAndTooMany, IsLayersFault, AreLegReasons, AreLegsFor, IsVerdict}
use Rattle.olr_candidates.specs.declared.fault.LayersFault.TheVariants.{TooManyCandidates}

pub crowded_verdict : NoListOfPointAndTooMany
    → (road : RoadMap) (tolerances : Tolerances) (reference : Reference) (number : ℕ)
    → IsLayersFault tolerances reference road.lines (TooManyCandidates number)
    → IsVerdict road tolerances reference (Crowded number)
crowded_verdict not_both road tolerances reference number (index, first, is) = (
  index,
  is,
  record {
    holds = first.too_many;
    before = λ lesser less many. let list = first.before lesser less in
        not_both tolerances reference road.lines lesser list.0 list.1 many;
  },
)

module _ (not_both : NoListsAndTooMany) {road : RoadMap} {layers : LayersValue}
    (on : AreLayersOn road layers) where
  -- legs of layers are those that the verdict asks for
  pub legs_in : (verdict : Verdict) (legs : List LegReason)
      → IsVerdict road layers.tolerances layers.reference verdict → AreLegReasons road layers legs
      → AreLegsFor road layers.tolerances layers.reference verdict legs
  legs_in (Crowded number) legs (index, is, first) are =
      absurd (not_both layers.tolerances layers.reference road.lines layers.candidates index
      on.lists first.holds)
  legs_in _ legs is are = record {
    layers = layers;
    layers_are = record { on = on; reference_is = refl; tolerances_is = refl };
    are = are;
  }
