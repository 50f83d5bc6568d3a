-- What a run for legs leaves of the source of a file of the map.
use Rattle.olr_app.proofs.Common.{◌≡◌, ◌⊎◌, ℕ, ◌+◌, List, Option, Ok, Err, refl, inl, inr, IfErr, Result, RoadMap, Fault, NoMemory, WriteFailed, CursorNotHere, CursorOfOther, TooManyCandidates, Accepts}
use Rattle.olr_base.specs.declared.failure.Failed.{Failed}
use Rattle.olr_map.specs.Files.{IsEffect, IsReadWhole}
use Rattle.olr_map.specs.declared.fault.MapFault.{MapFault}
use Rattle.olr_map.specs.declared.fault.MapFault.TheVariants as map
use Rattle.olr_records.specs.declared.file.File.{File}
use Rattle.olr_request.specs.Fault.{fault_of_map}
use Rattle.olr_request.specs.declared.request.LegsRequest.{LegsRequest}
use Rattle.olr_app.specs.Legs.{AreLegs, as_match}
use Rattle.olr_app.specs.LegsRun.{AreLegsStopped}
use Rattle.olr_app.specs.Sources.{FaultLeaves, LeavesFile}
use Rattle.olr_app.specs.Stages.{IsStageFault}
use Rattle.olr_app.specs.declared.accepting.Accepted.{Accepted}
use Rattle.olr_app.proofs.AnswerOf.{of_request, unfailed}

abbrev IsAfter : Fault → Type 0
IsAfter why = (why ≡ CursorOfOther)
    ⊎ ((number : ℕ) × (why ≡ TooManyCandidates number)) ⊎ (why ≡ CursorNotHere)

-- the faults with which the stages after the map end
ends_with : (asked : LegsRequest) (road : RoadMap) (accepted : Accepted) (why : Fault)
    → AreLegs asked road accepted (Err why) → IsAfter why
ends_with asked road accepted why is = elim is [
  | inl other ↦ inl other.0
  | inr later ↦ elim later.2 [
    | inl many ↦ inr (inl (many.0 + 1, many.2))
    | inr after ↦ elim after.2 [
      | inl not_here ↦ inr (inr not_here.0)
      | inr never ↦ absurd never.2
    ]
  ]
]

module _ {S : Type 0} (left : S → Option (List ℕ)) (failed : S → ℕ) (old new : S) (file : File)
  where
    after_leaves : (why : Fault) → IsReadWhole left failed old new → IsAfter why
        → FaultLeaves left failed old new file why
    after_leaves why whole is = elim is [
      | inl other ↦ rw other (inr (inr (tt, whole)))
      | inr later ↦ elim later [
        | inl many ↦ rw many.1 (inr (inr (tt, whole)))
        | inr not_here ↦ rw not_here (inr (inr (tt, whole)))
      ]
    ]

    pub map_leaves : (why : MapFault) → IsEffect left failed old new file why
        → FaultLeaves left failed old new file (fault_of_map why)
    map_leaves why is = inr (inl (why, refl, is))

    module _ {O : Type 0} (taken : O → Option (List ℕ)) (out_failed : O → ℕ)
        (put_gives : O → List ℕ → Result ℕ Failed → O → Type 0)
        (flush_gives : O → Result (Unit {0}) Failed → O → Type 0) (asked : LegsRequest)
        (accepted : Accepted) (road : RoadMap) (old_out new_out : O)
        (whole : IsReadWhole left failed old new) where
      pub leaves_file : {T : Type 0} (result : Result T Fault)
          → IfErr result
          (AreLegsStopped taken out_failed put_gives flush_gives asked accepted road old_out new_out)
          → LeavesFile left failed old new file result
      leaves_file (Ok done) is = whole
      leaves_file (Err NoMemory) is = inr (inl (map.NoMemory, refl, unfailed file whole))
      leaves_file (Err WriteFailed) is = inr (inr (tt, whole))
      leaves_file (Err other) is = after_leaves _ whole (ends_with asked road accepted _ is.0)

-- the refusal of the texts of a request leaves each source as it was
pub refused_leaves : {S : Type 0} (left : S → Option (List ℕ)) (failed : S → ℕ) (old : S)
    (file : File) (asked : LegsRequest) (why : Fault) → Accepts (as_match asked) (Err why)
    → FaultLeaves left failed old old file why
refused_leaves left failed old file asked why is = inl (of_request (as_match asked) why is, refl)
