-- What would help a reference is the same in all reasons.
use Rattle.olr_why.proofs.Common.{KeyValue, MatchingHasKey, Tolerance, OneLayers, Reference, RoadMap, Tolerances, Verdict, ◌≡◌, ℕ, ◌<◌, List, refl, sym, ◌∙◌, ap, arith, MatchOption, Option, Some, slice_get, one_changed, OneList, same_some, HasMatching, IsFirstMatching, AreRemedies, AreWider, IsGreatestUncrowded, IsLeastEnough, IsNarrower, IsRemedyWithoutBans, IsWider, by_trust, narrowed, without_bans, Remedy, Crowded, Match}
use Rattle.olr_why.specs.declared.remedy.Change.TheVariants.{Set}
use Rattle.olr_why.proofs.Lists.{one_option}
use Rattle.olr_why.proofs.OfNames.{one_of_names}
use Rattle.olr_why.proofs.Tried.{has_matching}

-- where neither of two numbers is less
neither_less : {a b : ℕ} → (a < b → ⊥) → (b < a → ⊥) → a ≡ b
neither_less not_less not_more = omega arith

module _ (one_layers : OneLayers) (one_list : OneList) (has_key : MatchingHasKey)
    (reference : Reference) where
  -- ---- the first matching

  module _ (road : RoadMap) (tolerances : Tolerances) where
    one_first : (a b : KeyValue) → IsFirstMatching road tolerances reference a
        → IsFirstMatching road tolerances reference b → a ≡ b
    one_first a b one other =
        let layers = one_layers road one.layers other.layers one.on other.on (one.reference_is
        ∙ sym other.reference_is) (one.tolerances_is ∙ sym other.tolerances_is) in
        let answers = one_list other.layers.penalties one.answers other.answers
        (rw (← layers) one.are) other.are in
        same_some (slice_get other.answers 0) a b (rw (← answers) one.first) other.first

    one_matching : (a b : Option KeyValue)
        → MatchOption a (HasMatching road tolerances reference → ⊥)
        (IsFirstMatching road tolerances reference)
        → MatchOption b (HasMatching road tolerances reference → ⊥)
        (IsFirstMatching road tolerances reference) → a ≡ b
    one_matching a b = one_option a b (λ key is none. none (has_matching road reference has_key is))
        one_first

  module _ (road : RoadMap) (given : Tolerances) where
    -- ---- a greater value

    one_least_enough : {name : Tolerance} {value : ℕ} {a b : KeyValue}
        → IsLeastEnough road given reference name value a
        → IsLeastEnough road given reference name value b → a ≡ b
    one_least_enough {a} {b} one other = one_first road other.enough.changed a b
        (rw (one_changed one.enough.is_changed other.enough.is_changed) at one.first) other.first

    one_wider : (name : Tolerance) (a b : Option Remedy) → IsWider road given reference name a
        → IsWider road given reference name b → a ≡ b
    one_wider name a b = one_option a b (λ remedy is none. none is.0 is.4.above is.4.enough) λ x y
        is also.
        let values = neither_less (λ less. also.4.least is.0 is.4.above less is.4.enough)
        (λ more. is.4.least also.0 also.4.above more also.4.enough) in
        let keys = one_least_enough (rw values at is.4) also.4 in
        λ i. record {
          change = (is.2 ∙ ap (Set name) values ∙ sym also.2) i;
          matching = (is.3 ∙ ap Some keys ∙ sym also.3) i;
        }

    -- ---- a map without bans

    one_opener : (a b : Option Remedy) → IsRemedyWithoutBans road given reference a
        → IsRemedyWithoutBans road given reference b → a ≡ b
    one_opener a b = one_option a b
        (λ remedy is none. none is.3 (has_matching (without_bans road) reference has_key is.4)) λ x
        y is also.
        let keys = one_first (without_bans road) given is.0 also.0 is.4 also.4 in
        λ i. record {
          change = (is.1 ∙ sym also.1) i;
          matching = (is.2 ∙ ap Some keys ∙ sym also.2) i;
        }

    -- ---- a lesser value

    one_greatest : {name : Tolerance} {value : ℕ} (a b : Option KeyValue)
        → IsGreatestUncrowded road given reference name value a
        → IsGreatestUncrowded road given reference name value b → a ≡ b
    one_greatest a b one other = one_matching road other.enough.changed a b
        (rw (one_changed one.enough.is_changed other.enough.is_changed) at one.first) other.first

    one_narrower : (name : Tolerance) (a b : Option Remedy) → IsNarrower road given reference name a
        → IsNarrower road given reference name b → a ≡ b
    one_narrower name a b = one_option a b (λ remedy is none. none is.0 is.2.below is.2.enough) λ x
        y is also.
        let values = neither_less (λ less. is.2.greatest also.0 less also.2.below also.2.enough)
        (λ more. also.2.greatest is.0 more is.2.below is.2.enough) in
        let matchings = one_greatest x.matching y.matching (rw values at is.2) also.2 in
        λ i. record {
          change = (is.1 ∙ ap (Set name) values ∙ sym also.1) i;
          matching = matchings i;
        }

    -- ---- all of them

    all_wider : (a b : List Remedy) → AreWider road given reference a
        → AreWider road given reference b → a ≡ b
    all_wider a b one other = rw (
      one.list_is,
      other.list_is,
      one_opener one.of_bans other.of_bans one.bans other.bans,
      one_of_names (IsWider road given reference) one_wider by_trust one.of_tolerances
          other.of_tolerances one.tolerances other.tolerances,
    ) refl

    pub one_remedies : (verdict : Verdict) (a b : List Remedy)
        → AreRemedies road given reference verdict a → AreRemedies road given reference verdict b
        → a ≡ b
    one_remedies (Crowded number) a b one other =
        one_of_names (IsNarrower road given reference) one_narrower narrowed a b one other
    one_remedies Match a b one other = one ∙ sym other
    one_remedies _ a b one other = all_wider a b one other
