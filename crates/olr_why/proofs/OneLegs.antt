-- A pair of candidates of a leg has one length and one better class limit; so a leg has one list of
-- pairs, and the legs of a reference are the same in all reasons.
use Rattle.olr_why.proofs.Common.{Better, Candidate, class_limit, greatest_admitted, Next, PairLength, Place, RoadMap, Tolerances, Crowded, LayersValue, LegReason, OneLayers, Reference, Verdict, ◌≡◌, ℕ, ◌+◌, ◌*◌, ◌/◌, ◌%◌, ◌<◌, ◌⊎◌, List, length, inl, inr, refl, sym, ◌∙◌, ap, arith, Option, None, Some, eq-zero-or-pos, div-add-mod, div-lt_iff_lt-mul, mod-lt, cases_lt, slice_get_within, by_index, not_empty, some_at, IsLengthWithin, ArePairs, IsBetter, IsPairLength, IsUpTo, far, AreLegReasons, IsLegReason, one_next, AreLegs, AreLegsFor}
use Rattle.olr_matching.proofs.Admitted.{one_length as one_least}
use Rattle.olr_why.proofs.Lists.{one_option}

up_to_or_not : (length : Option ℕ) (greatest : ℕ) → IsUpTo length greatest
    ⊎ (IsUpTo length greatest → ⊥)
up_to_or_not None greatest = inr (λ is. is)
up_to_or_not (Some length) greatest = elim (cases_lt greatest length) [
  | inl above ↦ inr (λ at_most. omega (arith, above, at_most))
  | inr not_above ↦ inl not_above
]

module _ (road : RoadMap) where
  one_length : (class : ℕ) (from to : Place) (limit : ℕ) (a b : Option ℕ)
      → IsLengthWithin road class from to limit a
      → IsLengthWithin road class from to limit b → a ≡ b
  one_length class from to limit None None one other = refl
  one_length class from to limit None (Some b) none is =
      absurd (omega (arith, none is.0.behind is.0.is, is.0.long, is.1))
  one_length class from to limit (Some a) None is none =
      absurd (omega (arith, none is.0.behind is.0.is, is.0.long, is.1))
  one_length class from to limit (Some a) (Some b) one other =
      ap Some (one_least road class from to a b one.0 other.0)

  one_better : (next : Next) (from to : Place) (class end : ℕ) (known : Option ℕ)
      (a b : Option Better) → IsBetter road next from to class end known a
      → IsBetter road next from to class end known b → a ≡ b
  one_better next from to class end known a b =
      one_option a b (λ better is none. none better.class better.length is.0 is.1 is.2) λ x y is
      also. elim (cases_lt x.class y.class) [
        | inl less ↦ absurd (also.3 x.class x.length is.0 less is.2)
        | inr not_less ↦ elim (cases_lt y.class x.class) [
          | inl more ↦ absurd (is.3 y.class y.length also.0 more also.2)
          | inr not_more ↦
              let class : x.class ≡ y.class = omega arith in
              let length = one_least road y.class from to x.length y.length (rw class at is.2.least)
              also.2.least in
              λ i. record { class = class i; length = length i }
        ]
      ]

module _ {road : RoadMap} {tolerances : Tolerances} {next : Next} where
  one_pair : {end first second : ℕ} {from to : Place} {a b : PairLength}
      → IsPairLength road tolerances next end first second from to a
      → IsPairLength road tolerances next end first second from to b → a ≡ b
  one_pair {end} {from = from} {to = to} {a} {b} one other =
      let first = one.first_is ∙ sym other.first_is in
      let second = one.second_is ∙ sym other.second_is in
      let class = class_limit tolerances next in
      let length : a.length ≡ b.length =
      one_length road class from to (far next) a.length b.length one.length other.length in
      let better : a.better ≡ b.better =
      elim (up_to_or_not b.length (greatest_admitted tolerances next)) [
        | inl short ↦ one.short (rw length short) ∙ sym (other.short short)
        | inr long ↦
            let here : IsBetter road next from to class end b.length a.better =
            rw (← length) (one.better (λ short. long (rw length at short))) in
            one_better road next from to class end b.length a.better b.better here
            (other.better long)
      ] in
      λ i. record { first = first i; second = second i; length = length i; better = better i }

  pub one_pairs : {firsts seconds : List Candidate} {a b : List PairLength}
      → ArePairs road tolerances next firsts seconds a
      → ArePairs road tolerances next firsts seconds b → a ≡ b
  one_pairs {firsts} {seconds} {a} {b} one other =
      by_index a b (one.count ∙ sym other.count) λ k x y x_is y_is.
      let n = length seconds in
      let within : k < length firsts * n = omega (arith, one.count, slice_get_within a k x x_is) in
      let pos : 0 < n = not_empty k (length firsts) n within in
      let from = some_at firsts (k / n) ((div-lt_iff_lt-mul pos).1 within) in
      let to = some_at seconds (k % n) (mod-lt k pos) in
      let place : k ≡ k / n * n + k % n = omega (arith, div-add-mod k n) in
      one_pair (one.each _ _ _ _ x from.1 to.1 (rw (← place) x_is))
      (other.each _ _ _ _ y from.1 to.1 (rw (← place) y_is))

-- ---- all legs

module _ {road : RoadMap} where
  one_leg : {layers : LayersValue} {layer : ℕ} {a b : LegReason} → IsLegReason road layers layer a
      → IsLegReason road layers layer b → a ≡ b
  one_leg {layers} {a = a} {b} one other =
      let next = one_next layers.reference _ one.next other.next one.leads_on other.leads_on in
      let class = one.class_is ∙ rw next (sym other.class_is) in
      let from = one.from_is ∙ rw next (sym other.from_is) in
      let to = one.to_is ∙ rw next (sym other.to_is) in
      let admits = one.admits_is ∙ sym other.admits_is in
      let of = one.of_is ∙ sym other.of_is in
      let pairs : a.pairs ≡ b.pairs = elim (eq-zero-or-pos a.admits) [
        | inl none ↦ one_pairs (rw next at (one.pairs none)) (other.pairs (sym admits ∙ none))
        | inr some ↦ one.admitting some ∙ sym (other.admitting (omega arith))
      ] in
      λ i. record {
        class = class i;
        from = from i;
        to = to i;
        admits = admits i;
        of = of i;
        pairs = pairs i;
      }

  one_legs_of : {layers : LayersValue} {a b : List LegReason} → AreLegReasons road layers a
      → AreLegReasons road layers b → a ≡ b
  one_legs_of one other =
      by_index _ _ (omega arith) λ layer x y x_is y_is. one_leg (one.each layer x x_is)
      (other.each layer y y_is)

module _ (one_layers : OneLayers) (road : RoadMap) (tolerances : Tolerances) (reference : Reference)
  where
    one_legs_by_layers : {a b : List LegReason} → AreLegs road tolerances reference a
        → AreLegs road tolerances reference b → a ≡ b
    one_legs_by_layers one other =
        let its = one.layers_are in
        let others = other.layers_are in
        let same = one_layers road one.layers other.layers its.on others.on
        (its.reference_is ∙ sym others.reference_is) (its.tolerances_is ∙ sym others.tolerances_is)
        in
        one_legs_of (rw same at one.are) other.are

    pub one_legs : (verdict : Verdict) (a b : List LegReason)
        → AreLegsFor road tolerances reference verdict a
        → AreLegsFor road tolerances reference verdict b → a ≡ b
    one_legs (Crowded number) a b one other = one ∙ sym other
    one_legs _ a b one other = one_legs_by_layers one other
