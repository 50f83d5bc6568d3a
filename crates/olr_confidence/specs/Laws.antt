-- Laws on what a confidence says of places: all of it is one thing. Each is the contract of a public
-- function that does nothing at run time.
use Rattle.std.specs.Prelude.{◌≡◌, ℕ, List}
use Rattle.olr_detail.specs.Values.{MatchingDetailValue}
use Rattle.olr_confidence.specs.Reasons.{AreReasonsOf}
use Rattle.olr_confidence.specs.Terms.{AreTermsOf}
use Rattle.olr_confidence.specs.Worths.{AreProbable}
use Rattle.olr_confidence.specs.declared.confidence.Weights.{Weights}
use Rattle.olr_confidence.specs.declared.reason.Reason.{Reason}
use Rattle.olr_confidence.specs.declared.shares.Probabilities.{Probabilities}
use Rattle.olr_confidence.specs.declared.terms.Terms.{Terms}

-- what counts for and against a place is one thing
abbrev pub OneTerms : Type 0
OneTerms = (detail : MatchingDetailValue) (count : ℕ) (one other : Terms)
    → AreTermsOf detail count one → AreTermsOf detail count other → one ≡ other

-- places and none of these are as probable
pub record AreAsProbable (one other : Probabilities) : Type 0 where
  pub places : one.places.items ≡ other.places.items
  pub none : one.none ≡ other.none

-- the same places have one probability each, and none of these has one
abbrev pub OneProbability : Type 0
OneProbability = (weights : Weights) (places : List Terms) (one other : Probabilities)
    → AreProbable weights places one → AreProbable weights places other → AreAsProbable one other

-- the reasons of a place are one list
abbrev pub OneReasons : Type 0
OneReasons = (weights : Weights) (detail : MatchingDetailValue) (least count : ℕ)
    (one other : List Reason) → AreReasonsOf weights detail least count one
    → AreReasonsOf weights detail least count other → one ≡ other
