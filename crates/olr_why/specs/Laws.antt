-- Laws on verdicts, tolerances, remedies and all reasons. Each is the contract of a public function
-- that does nothing at run time; its body only names the laws on which it rests.
use Rattle.std.specs.Prelude.{◌≡◌, ◌≢◌, ℕ, ◌≤◌, ◌↔◌, List, []}
use Rattle.olr_why.specs.Common.{AreAnswers, AreLayersOn, HasTooMany, KeyValue, LayersValue, Tolerance, Reference, RoadMap, Tolerances}
use Rattle.olr_candidates.specs.declared.tolerances.Tolerance.TheVariants.{Lowest}
use Rattle.olr_candidates.specs.Tolerances.{order_of}
use Rattle.olr_keys.specs.Matching.{IsKey}
use Rattle.olr_why.specs.Chain.{HasMatching}
use Rattle.olr_why.specs.Reasons.{IsWhy, WhyValue}
use Rattle.olr_why.specs.Remedies.{IsChanged}
use Rattle.olr_why.specs.Verdict.{IsVerdict}
use Rattle.olr_why.specs.declared.verdict.Verdict.{Verdict}
use Rattle.olr_why.specs.declared.verdict.Verdict.TheVariants.{Match}

-- a reference has one verdict at most
abbrev pub OneVerdict : Type 0
OneVerdict = (road : RoadMap) (tolerances : Tolerances) (reference : Reference) (a b : Verdict)
    → IsVerdict road tolerances reference a → IsVerdict road tolerances reference b → a ≡ b

-- where the layers of a reference can be given, it has a matching exactly where their table has a
-- key
abbrev pub MatchingHasKey : Type 0
MatchingHasKey = (road : RoadMap) (layers : LayersValue) → AreLayersOn road layers
    → HasMatching road layers.tolerances layers.reference
    ↔ ((key : KeyValue) × IsKey layers.penalties key)

-- Where the layers of a reference can be given, the verdict is that there is a matching exactly
-- where the answers of their table aren't empty.
abbrev pub MatchHasAnswers : Type 0
MatchHasAnswers = (road : RoadMap) (layers : LayersValue) (answers : List KeyValue)
    → AreLayersOn road layers → AreAnswers layers.penalties answers
    → IsVerdict road layers.tolerances layers.reference Match ↔ (answers ≢ [])

-- A wider tolerance keeps what there is: that there is a matching, and that a point has too many
-- candidates. The class limits of legs are another thing: a road of a class that is let through can
-- make a least length too short.
abbrev pub WiderKeeps : Type 0
WiderKeeps = (road : RoadMap) (reference : Reference) (name : Tolerance) (value wider : ℕ)
    (given before after : Tolerances)
    → order_of name ≢ order_of Lowest → value ≤ wider → IsChanged name value given before
    → IsChanged name wider given after
    → (HasMatching road before reference → HasMatching road after reference)
    × ((index : ℕ) → HasTooMany before reference road.lines index
    → HasTooMany after reference road.lines index)

-- The map, the reference, the tolerances and the count of nearest lines determine the reasons.
abbrev pub OneWhy : Type 0
OneWhy = (road : RoadMap) (tolerances : Tolerances) (reference : Reference) (nearest : ℕ)
    (a b : WhyValue)
    → IsWhy road tolerances reference nearest a → IsWhy road tolerances reference nearest b
    → a ≡ b
