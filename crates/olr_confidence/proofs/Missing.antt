-- A file of which a part isn't what it has to be says nothing.
use Rattle.std.proofs.Common.{◌≡◌, Option, Some, List, ℕ, codes, subst}
use Rattle.serde_json.specs.Data.{Data}
use Rattle.serde_json.specs.Find.{get}
use Rattle.serde_json.specs.Read.{read as read_text}
use Rattle.olr_confidence.specs.File.{AreAsked, AreWeights, HasAsked, HasRange, HasWeights, IsConfidence, IsFileOf, IsRangeOrNull}
use Rattle.olr_confidence.specs.declared.confidence.AskedNumbers.{AskedNumbers}
use Rattle.olr_confidence.specs.declared.confidence.Confidence.{Confidence}
use Rattle.olr_confidence.specs.declared.confidence.MapRange.{MapRange}
use Rattle.olr_confidence.specs.declared.confidence.Weights.{Weights}

the_same : (found : Option Data) (one other : Data) → found ≡ Some one → found ≡ Some other
    → one ≡ other
the_same found one other first second = cc

-- ---- no part of a file

pub no_asked : (content tolerances : Data) → get (codes "tolerances") content ≡ Some tolerances
    → ((asked : AskedNumbers) → AreAsked content tolerances asked → ⊥)
    → (asked : AskedNumbers) → HasAsked content asked → ⊥
no_asked content tolerances is none asked has = none asked
    (subst (λ member. AreAsked content member asked)
    (the_same _ has.tolerances tolerances has.tolerances_is is) has.are_asked)

pub no_weights : (content weights_is : Data) → get (codes "weights") content ≡ Some weights_is
    → ((weights : Weights) → AreWeights weights_is weights → ⊥)
    → (weights : Weights) → HasWeights content weights → ⊥
no_weights content weights_is is none weights has = none weights
    (subst (λ member. AreWeights member weights)
    (the_same _ has.member weights_is has.member_is is) has.are_weights)

pub no_range : (content range_is : Data) → get (codes "map_differs") content ≡ Some range_is
    → ((range : Option MapRange) → IsRangeOrNull range_is range → ⊥)
    → (range : Option MapRange) → HasRange content range → ⊥
no_range content range_is is none range has = none range
    (subst (λ member. IsRangeOrNull member range)
    (the_same _ has.member range_is has.member_is is) has.is_range)

-- ---- no file

pub without_asked : (content : Data) → ((asked : AskedNumbers) → HasAsked content asked → ⊥)
    → (confidence : Confidence) → IsConfidence content confidence → ⊥
without_asked content none confidence is = none confidence.asked is.asked

pub without_weights : (content : Data) → ((weights : Weights) → HasWeights content weights → ⊥)
    → (confidence : Confidence) → IsConfidence content confidence → ⊥
without_weights content none confidence is = none confidence.weights is.weights

pub without_range : (content : Data)
    → ((range : Option MapRange) → HasRange content range → ⊥)
    → (confidence : Confidence) → IsConfidence content confidence → ⊥
without_range content none confidence is = none confidence.map_differs is.map_differs

pub no_file : (bytes : List ℕ) (content : Data) → read_text bytes ≡ Some content
    → ((confidence : Confidence) → IsConfidence content confidence → ⊥)
    → (confidence : Confidence) → IsFileOf bytes confidence → ⊥
no_file bytes content is none confidence file = none confidence
    (subst (λ one. IsConfidence one confidence)
    (the_same _ file.content content file.content_is is) file.is_confidence)
