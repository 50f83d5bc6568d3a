-- Where the run ends or stops.
use Rattle.olr_batch.proofs.Common.{◌≡◌, ◌⊎◌, ℕ, ◌+◌, ◌-◌, ◌^◌, ◌≤◌, List, [], ◌++◌, length, Option, None, Some, refl, sym, ap, ◌∙◌, subst, inl, inr, arith, IfSome, Result, Appends, prepend_known, concat, Appends-trans, append-nil, Failed, RoadMap, lines_of, Fault, InputNotRead, NoMemory, WriteFailed, AreWrittenFor, IsWrittenFor, AreAnswered, AreBegun, IsNextOutput, IsStopped, IsWrittenTo, IsLast, IsOutputOfNext, IsSame, IsStepStopped, Records}
use Rattle.olr_base.specs.Counting.{one_more}
use Rattle.olr_batch.proofs.Stepping.{takes_none}
use Rattle.olr_batch.proofs.Written.{all_done, cut_of, lines_left, next_of, split_of}

module _ {O : Type 0} (taken : O → Option (List ℕ)) (failed : O → ℕ)
    (flush_gives : O → Result (Unit {0}) Failed → O → Type 0) (records : Records)
    (road : RoadMap)
    (number : ℕ) (input left : Option (List ℕ)) (old now : O)
    (so_far : IsWrittenTo records road number input left (taken old) (taken now))
    (no_failure : failed now ≡ failed old) where
  abbrev outputs_are : Option (List ℕ) → Type 0
  outputs_are known = IfSome known
      (λ text. AreWrittenFor records road 1 (lines_of text) so_far.outputs)

  written_all : (known : Option (List ℕ)) → IfSome known (λ text. lines_of text ≡ so_far.done)
      → outputs_are known
  written_all None is = tt
  written_all (Some text) is =
      subst (λ (lines : List (List ℕ)). AreWrittenFor records road 1 lines so_far.outputs) (sym is)
      so_far.are

  pub takes_no_more : (new : O) → IsSame taken failed flush_gives now new
      → Appends (taken old) (taken new) (concat so_far.outputs)
  takes_no_more new same = subst (λ (bytes : List ℕ). Appends (taken old) (taken new) bytes)
      (append-nil (concat so_far.outputs))
      (Appends-trans (taken old) (taken now) (taken new) (concat so_far.outputs) [] so_far.took
      same.kept)

  -- there is no further record
  pub answered : (rest : Option (List ℕ)) (new : O)
      → IsLast taken failed flush_gives left rest now new
      → AreAnswered taken failed flush_gives records road input old new
  answered rest new last = record {
    outputs = so_far.outputs;
    written = written_all input (all_done so_far.done input left rest so_far.left_is last.over);
    took = takes_no_more new last.same;
    none_failed = last.same.none_failed ∙ no_failure;
    before_last = last.before_last;
    flushed = last.flushed;
  }

  -- what is written for the first records
  abbrev pub begun : (new : O) → IsSame taken failed flush_gives now new
      → AreBegun taken failed flush_gives records road input old new
  begun new same = record {
    done = so_far.done;
    left = lines_left left;
    outputs = so_far.outputs;
    split = split_of so_far.done input left so_far.left_is;
    are = so_far.are;
    took = takes_no_more new same;
    none_failed = same.none_failed ∙ no_failure;
  }

  pub next_output : (rest : Option (List ℕ)) (at : O)
      (same : IsSame taken failed flush_gives now at) (output : List ℕ)
      → (output ≡ []) ⊎ IsOutputOfNext records road number left rest output
      → IsNextOutput taken failed flush_gives records road (begun at same) output
  next_output rest at same output is = elim is [
    | inl none ↦ inl none
    | inr next ↦ inr (
      next.line,
      lines_left rest,
      next.said,
      next_of so_far.done next.line input left rest so_far.left_is next.is_next,
      next.says,
      subst (λ (n : ℕ). IsWrittenFor records road n next.said output) so_far.counted next.written,
    )
  ]

module _ {S O : Type 0} (left : S → Option (List ℕ)) (in_failed : S → ℕ) (taken : O
    → Option (List ℕ)) (failed : O → ℕ)
    (put_gives : O → List ℕ → Result ℕ Failed → O → Type 0)
    (flush_gives : O → Result (Unit {0}) Failed → O → Type 0) (records : Records)
    (road : RoadMap) (number : ℕ)
    (old_in in_now : S) (old now : O) (left_now : Option (List ℕ))
    (so_far : IsWrittenTo records road number (left old_in) left_now (taken old) (taken now))
    (no_failure : failed now ≡ failed old) (in_no_failure : in_failed in_now ≡ in_failed old_in)
  where
    abbrev Stopped : S → O → Fault → Type 0
    Stopped new_in new = IsStopped left in_failed taken failed put_gives flush_gives records road old_in
        new_in old new

    -- a step stopped
    pub stopped : (new_in : S) (new : O) (at_hand : List ℕ) (why : Fault)
        → IsStepStopped taken failed put_gives flush_gives records road number left_now
        (prepend_known at_hand (left new_in)) at_hand
        (in_failed in_now) (in_failed new_in) now new why → Stopped new_in new why
    stopped new_in new at_hand NoMemory is = (
      begun taken failed flush_gives records road number (left old_in) left_now old now so_far
          no_failure new is.0,
      is.1 ∙ in_no_failure,
    )
    stopped new_in new at_hand InputNotRead is =
        let cut = is.3 in (
          begun taken failed flush_gives records road number (left old_in) left_now old now so_far
              no_failure new is.0,
          record {
            read = cut.lost;
            left_is = cut_of so_far.done cut.lost at_hand (left old_in) left_now (left new_in)
                so_far.left_is is.2 cut.consumed;
            cause = elim cut.cause [
              | inl counted ↦ inl (cut.no_lf, counted ∙ ap one_more in_no_failure)
              | inr never ↦
                  let many : 2 ^ 64 - 1 ≤ length cut.lost + 0 =
                  subst (λ (bytes : List ℕ). 2 ^ 64 - 1 ≤ length cut.lost + length bytes) is.2
                  never.1 in
                  inr (never.0 ∙ in_no_failure, inl (cut.no_lf, omega arith))
            ];
          },
          is.1,
        )
    stopped new_in new at_hand WriteFailed is = (
      is.0,
      is.1,
      begun taken failed flush_gives records road number (left old_in) left_now old now so_far
          no_failure is.0 is.2,
      next_output taken failed flush_gives records road number (left old_in) left_now old now so_far
          no_failure (prepend_known at_hand (left new_in)) is.0 is.2 is.1 is.3,
      is.4,
      is.5 ∙ in_no_failure,
    )
    stopped new_in new at_hand other is = absurd is

none_split : (input : Option (List ℕ))
    → IfSome input (λ text. lines_of text ≡ [] ++ lines_left input)
none_split None = tt
none_split (Some text) = refl

-- before the first record
pub none_begun : {O : Type 0} (taken : O → Option (List ℕ)) (failed : O → ℕ)
    (flush_gives : O → Result (Unit {0}) Failed → O → Type 0) (records : Records)
    (road : RoadMap) (input : Option (List ℕ)) (sink : O)
    → AreBegun taken failed flush_gives records road input sink sink
none_begun taken failed flush_gives records road input sink = record {
  done = [];
  left = lines_left input;
  outputs = [];
  split = none_split input;
  are = refl;
  took = takes_none (taken sink);
  none_failed = refl;
}
