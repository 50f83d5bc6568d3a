-- What one class limit more tells of a pair.
use Rattle.olr_why.proofs.Common.{Better, class_limit, greatest_admitted, Next, PairLength, Place, RoadMap, Tolerances, ◌≡◌, ℕ, ◌+◌, ◌<◌, inl, inr, refl, arith, Bool, false, Decides, IsSome, Option, None, Some, cases_lt, IsBetter, IsPairLength, IsShorterUnder, IsAnswered}
use Rattle.olr_why.proofs.Lists.{not_both}

-- what isn't something is nothing
none_of : {X : Type 0} (o : Option X) → (IsSome o → ⊥) → o ≡ None
none_of None nothing = refl
none_of (Some x) nothing = absurd (nothing refl)

-- a pair that isn't answered
pub unanswered : {answer : Bool} {greatest same : ℕ} (pair : PairLength)
    → Decides answer (IsAnswered greatest pair) → greatest ≡ same → answer ≡ false
    → IsAnswered same pair → ⊥
unanswered pair decides is is_false answered = not_both (decides.1 (rw is answered)) is_false

module _ {road : RoadMap} {next : Next} {from to : Place} {class end : ℕ} {known : Option ℕ} where
  -- one class limit more, which gives nothing less
  none_more : IsBetter road next from to class end known None
      → ((length : ℕ) → IsShorterUnder road next from to known end length → ⊥)
      → IsBetter road next from to class (end + 1) known None
  none_more so_far here other length above below shorter = elim (cases_lt other end) [
    | inl earlier ↦ so_far other length above earlier shorter
    | inr later ↦
        let same : other ≡ end = omega (arith, below, later) in
        here length (rw same at shorter)
  ]

-- an answer stays one
still_better : (road : RoadMap) (next : Next) (from to : Place) (class end : ℕ) (known : Option ℕ)
    (better : Option Better) → IsSome better → IsBetter road next from to class end known better
    → IsBetter road next from to class (end + 1) known better
still_better road next from to class end known None some so_far = absurd cc
still_better road next from to class end known (Some better) some so_far =
    (so_far.0, omega (arith, so_far.1), so_far.2, so_far.3)

module _ {road : RoadMap} {tolerances : Tolerances} {next : Next} {class first second : ℕ}
    {from to : Place} {pair : PairLength} where
  pub still_answered : IsAnswered (greatest_admitted tolerances next) pair
      → IsPairLength road tolerances next class first second from to pair
      → IsPairLength road tolerances next (class + 1) first second from to pair
  still_answered answered is = record {
    first_is = is.first_is;
    second_is = is.second_is;
    length = is.length;
    short = is.short;
    better = λ far. elim answered [
      | inl short ↦ absurd (far short)
      | inr some ↦ still_better _ _ _ _ _ _ _ pair.better some (is.better far)
    ];
  }

  module _ (not_answered : IsAnswered (greatest_admitted tolerances next) pair → ⊥) where
    -- so far no class limit gave less
    so_far_none : IsPairLength road tolerances next class first second from to pair
        → IsBetter road next from to (class_limit tolerances next) class pair.length None
    so_far_none is = rw (none_of pair.better (λ some. not_answered (inr some))) at
        (is.better (λ short. not_answered (inl short)))

    -- this class limit gives nothing less
    pub nothing_less :
        ((length : ℕ) → IsShorterUnder road next from to pair.length class length → ⊥)
        → IsPairLength road tolerances next class first second from to pair
        → IsPairLength road tolerances next (class + 1) first second from to pair
    nothing_less none is = record {
      first_is = is.first_is;
      second_is = is.second_is;
      length = is.length;
      short = is.short;
      better = λ _. rw (none_of pair.better (λ some. not_answered (inr some)))
          (none_more (so_far_none is) none);
    }

    -- it gives this length, which is less
    pub less_found : {length : ℕ} → class_limit tolerances next < class
        → IsShorterUnder road next from to pair.length class length
        → IsPairLength road tolerances next class first second from to pair
        → IsPairLength road tolerances next (class + 1) first second from to
        (record {
          first = pair.first;
          second = pair.second;
          length = pair.length;
          better = Some (record { class = class; length = length });
        })
    less_found above shorter is = record {
      first_is = is.first_is;
      second_is = is.second_is;
      length = is.length;
      short = λ short. absurd (not_answered (inl short));
      better = λ _. (above, omega arith, shorter, so_far_none is);
    }
