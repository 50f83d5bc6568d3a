-- What a confidence says of places is one thing.
use Rattle.std.proofs.Common.{◌≡◌, ◌≤◌, ◌<◌, ℕ, ◌+◌, ◌*◌, Bool, arith, ℤ, ◌≤ℤ◌, List, sum, Option, None, Some, inl, inr, sym, subst, ap, ◌∙◌, map}
use Rattle.std.proofs.Props.{props}
use Rattle.std.proofs.lemmas.Bool.{cases_lt}
use Rattle.std.proofs.lemmas.Int.{ints}
use Rattle.std.proofs.lemmas.List.Elements.{All-contains}
use Rattle.std.proofs.lemmas.Nat.{mul-le}
use Rattle.olr_metric.specs.Root.{IsRoot}
use Rattle.olr_confidence.specs.Laws.{AreAsProbable, OneProbability, OneReasons, OneTerms}
use Rattle.olr_confidence.specs.Reasons.{reasons_of}
use Rattle.olr_confidence.specs.Shares.{AreProbabilities}
use Rattle.olr_confidence.specs.Worths.{AreOfWorths, AreProbableBy, IsGreatest, below, likeliest_of, losses_of, worth_of, worth_of_none}
use Rattle.olr_confidence.specs.declared.confidence.Weights.{Weights}
use Rattle.olr_confidence.specs.declared.shares.Probabilities.{Probabilities}
use Rattle.olr_confidence.specs.declared.terms.Terms.{Terms}

-- ---- terms

no_less_root : (n a b : ℕ) → n < (a + 1) * (a + 1) → b * b ≤ n → a < b → ⊥
no_less_root n a b high low less = grind (arith, mul-le)

root_once : (n a b : ℕ) → IsRoot n a → IsRoot n b → a ≡ b
root_once n a b is its = elim (cases_lt a b) [
  | inl less ↦ absurd (no_less_root n a b is.next its.square less)
  | inr over ↦ elim (cases_lt b a) [
    | inl less ↦ absurd (no_less_root n b a its.next is.square less)
    | inr under ↦ omega (arith, over, under)
  ]
]

-- what is made of equal numbers is the same, whatever the proofs that they are in range
made_same : {A D : Type 0} (P : A → Type 0) → ((x : A) → IsProp (P x))
    → (make : (x : A) → P x → D) → (x y : A) (p : P x) (q : P y) → x ≡ y → make x p ≡ make y q
made_same P one make x y p q same =
    subst (λ z. (q : P z) → make x p ≡ make z q) same (λ q. ap (make x) (one x p q)) q

pub terms_once : OneTerms
terms_once detail count one other is its =
    let distance = is.distance ∙ sym its.distance in
    let direction = is.direction ∙ sym its.direction in
    let leg = is.leg ∙ sym its.leg in
    let cost = is.cost ∙ sym its.cost in
    let turns_back = is.turns_back ∙ sym its.turns_back in
    let points = is.points ∙ sym its.points in
    let lines = root_once _ one.lines other.lines is.lines its.lines in
    let length_is = root_once _ one.length other.length is.length_is its.length_is in
    made_same {A = ℕ × ℕ × ℕ × ℕ × Bool × ℕ × ℕ × ℕ} (λ n. (n.0 ≤ 1000) × (n.2 ≤ 1000)
    × (n.5 ≤ 100) × (n.6 ≤ 1264) × (n.7 ≤ 1000)) (λ n. hlevel props) (λ n h. record {
      distance = n.0;
      direction = n.1;
      leg = n.2;
      cost = n.3;
      turns_back = n.4;
      points = n.5;
      lines = n.6;
      length = n.7;
      distance_at_most = h.0;
      leg_at_most = h.1;
      points_at_most = h.2;
      lines_at_most = h.3;
      length_at_most = h.4;
    }) (
      one.distance,
      one.direction,
      one.leg,
      one.cost,
      one.turns_back,
      one.points,
      one.lines,
      one.length,
    ) (
      other.distance,
      other.direction,
      other.leg,
      other.cost,
      other.turns_back,
      other.points,
      other.lines,
      other.length,
    ) (
      one.distance_at_most,
      one.leg_at_most,
      one.points_at_most,
      one.lines_at_most,
      one.length_at_most,
    ) (
      other.distance_at_most,
      other.leg_at_most,
      other.points_at_most,
      other.lines_at_most,
      other.length_at_most,
    )
    (λ k. (distance k, direction k, leg k, cost k, turns_back k, points k, lines k, length_is k))

-- ---- probabilities

no_less : (none : ℤ) (places : List ℤ) (one other : ℤ) → IsGreatest none places one
    → IsGreatest none places other → one ≤ℤ other
no_less none places one other is its = elim is.is_one [
  | inl same ↦ subst (λ worth. worth ≤ℤ other) (sym same) its.none_at_most
  | inr there ↦ All-contains (λ worth. worth ≤ℤ other) places one its.places_at_most there
]

both_ways : (one other : ℤ) → one ≤ℤ other → other ≤ℤ one → one ≡ other
both_ways one other up down = grind (arith, ints)

greatest_once : (none : ℤ) (places : List ℤ) (one other : ℤ) → IsGreatest none places one
    → IsGreatest none places other → one ≡ other
greatest_once none places one other is its =
    both_ways one other (no_less none places one other is its)
    (no_less none places other one its is)

rest_once : (ones others : List ℕ) (one other : ℕ) → ones ≡ others → sum ones + one ≡ 1000000
    → sum others + other ≡ 1000000 → one ≡ other
rest_once ones others one other same is its = omega (arith, is, its, ap sum same)

shares_once : (none : ℕ) (places : List ℕ) (one other : Probabilities)
    → AreProbabilities none places one → AreProbabilities none places other → AreAsProbable one other
shares_once none places one other are their =
    let places_are = are.places_are ∙ sym their.places_are in
    record {
      places = places_are;
      none = rest_once one.places.items other.places.items one.none other.none places_are
          are.together their.together;
    }

worths_once : (none : ℤ) (places : List ℤ) (one other : Probabilities)
    → AreOfWorths none places one → AreOfWorths none places other → AreAsProbable one other
worths_once none places one other are their =
    let greatest = greatest_once none places are.greatest their.greatest are.is_greatest
    their.is_greatest in
    shares_once (below are.greatest none) (map (below are.greatest) places) one other
    are.are_probabilities
    (subst (λ g. AreProbabilities (below g none) (map (below g) places) other) (sym greatest)
    their.are_probabilities)

probable_once : (weights : Weights) (places : List Terms) (likeliest : Option Terms)
    (one other : Probabilities) → AreProbableBy weights places likeliest one
    → AreProbableBy weights places likeliest other → AreAsProbable one other
probable_once weights places None one other are their =
    record { places = are.0 ∙ sym their.0; none = are.1 ∙ sym their.1 }
probable_once weights places (Some likeliest) one other are their =
    worths_once (worth_of_none weights likeliest) (map worth_of (losses_of weights places)) one other
    are their

pub probability_once : OneProbability
probability_once weights places = probable_once weights places (likeliest_of places)

-- ---- reasons

pub reasons_once : OneReasons
reasons_once weights detail least count one other are their =
    are.reasons_are
    ∙ ap (λ (terms : Terms). reasons_of weights detail terms least count)
    (terms_once detail count are.terms their.terms are.are_terms their.are_terms)
    ∙ sym their.reasons_are
