use Rattle.std.proofs.Common.{◌≡◌, ◌≤◌, ℕ, List, arith, map, sum, refl}
use Rattle.olr_confidence.specs.Shares.{millionths_of, probabilities_of, whole_of}
use Rattle.olr_confidence.proofs.Together.{bounded, together_with}
use Rattle.olr_confidence.proofs.shares.probabilities_of.Goals as goal

pub sum_of-none-requires : goal.sum_of-none-requires
sum_of-none-requires c = bounded c.args.none c.whole_of-whole.result c.args.places.now
    c.deref.result.now c.in_ok-shares.shares.items c.requires.greatest
    c.whole_of-whole.ensures.whole c.in_ok-shares.ensures c.deref.ensures.value

below : (a b : ℕ) → a ≡ b → b ≤ 1000000 → a ≤ 1000000
below a b same small = omega arith

pub overflow_sub-none : goal.overflow_sub-none
overflow_sub-none c = below c.sum_of-none.result (sum c.deref.result.now) c.sum_of-none.ensures
    (bounded c.args.none c.whole_of-whole.result c.args.places.now
    c.deref.result.now c.in_ok-shares.shares.items c.requires.greatest
    c.whole_of-whole.ensures.whole c.in_ok-shares.ensures c.deref.ensures.value)

listed : (none whole : ℕ) (places shares : List ℕ) → whole ≡ whole_of none places
    → shares ≡ map (millionths_of whole) places → shares ≡ probabilities_of none places
listed none whole places shares whole_is shares_are = rw (shares_are, whole_is) refl

pub returns : goal.returns
returns c = record {
  places_are = listed c.args.none c.whole_of-whole.result c.args.places.now
      c.in_ok-shares.shares.items c.whole_of-whole.ensures.whole c.in_ok-shares.ensures;
  together = together_with c.args.none c.whole_of-whole.result c.sum_of-none.result c.args.places.now
      c.deref.result.now c.in_ok-shares.shares.items c.requires.greatest
      c.whole_of-whole.ensures.whole c.in_ok-shares.ensures c.deref.ensures.value
      c.sum_of-none.ensures;
}
