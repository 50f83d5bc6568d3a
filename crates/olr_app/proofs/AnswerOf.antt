-- What a request that is accepted is answered with, and what its answer leaves of the sources.
use Rattle.std.specs.Borrow.{Bor}
use Rattle.olr_base.specs.declared.failure.Failed.{Failed}
use Rattle.olr_binary.specs.declared.refusal.Refused.{Refused}
use Rattle.olr_binary.specs.declared.refusal.Refused.TheVariants as refused
use Rattle.olr_records.specs.declared.file.File.{File}
use Rattle.olr_app.proofs.Common.{Nodes, RoadMap, Accepts, IsAnswer, IsAnswerOf, IsAnswerOn, IsMapOfFiles, IsOutput, fault_of, fault_of_map, cursor_of, AndThen, IsStageFault, Accepted, Fault, BadConfidence, BadCursor, TooManyCandidates, Format, Request, Candidates, Match, Places, Show, ◌≡◌, ◌⊎◌, ℕ, ◌+◌, true, List, None, Option, Some, Ok, Err, refl, subst, inl, inr, Result, IfErr, IfOk, IsFault, IsReason, ReadsMap, CursorNotHere, CursorOfOther, NoMemory, WriteFailed}
use Rattle.olr_map.specs.Files.{IsEffect, IsFaultLeft, IsMapLeft, IsReadWhole, Texts}
use Rattle.olr_map.specs.declared.fault.MapFault.{MapFault}
use Rattle.olr_map.specs.declared.fault.MapFault.TheVariants as map
use Rattle.olr_app.specs.Places.{IsConfidenceOf}
use Rattle.olr_app.specs.Sources.{AnswerLeaves, FaultLeaves, IsOfRequest}
use Rattle.olr_request.specs.declared.confidence_file.ConfidenceFile.{ConfidenceFile}
use Rattle.olr_request.specs.declared.confidence_file.ConfidenceFile.TheVariants.{Bad, Read}
use Rattle.olr_app.proofs.Accepts.{start_fault}
use Rattle.olr_app.proofs.Single.{err_of, ok_of}

-- ---- the answer, whatever the request

-- the answer on the map of the files answers one that reads a map
pub answer_of_files : (texts : Texts) (request : Request) (accepted : Accepted)
    (answer : Result (List ℕ) Fault) → ReadsMap request
    → AndThen (IsMapOfFiles texts) (IsAnswerOn true request accepted) answer
    → IsAnswerOf texts request accepted answer
answer_of_files texts (Show text format) accepted answer reads is = absurd reads
answer_of_files texts other accepted answer reads is = is

-- a request that isn't to show a reference reads a map
pub reads_map : (request : Request)
    → ((text : Bor (List ℕ)) (format : Format) → request ≡ Show text format → ⊥) → ReadsMap request
reads_map (Show text format) never = absurd (never text format refl)
reads_map other never = tt

-- ---- faults after the map

module _ (request : Request) (accepted : Accepted) (road : RoadMap) where
  abbrev Ends : Fault → Type 0
  Ends why = IsAnswerOn true request accepted road (Err why)

  abbrev IsFaultAfterMap : Fault → Type 0
  IsFaultAfterMap why = (why ≡ CursorOfOther) ⊎ (why ≡ BadConfidence)
      ⊎ ((number : ℕ) × (why ≡ TooManyCandidates number)) ⊎ (why ≡ CursorNotHere)

-- a file for a confidence has one fault
bad_confidence : (file : Option ConfidenceFile) (why : Fault) → IsConfidenceOf file (Err why)
    → why ≡ BadConfidence
bad_confidence None why is = absurd cc
bad_confidence (Some (Read confidence)) why is = absurd cc
bad_confidence (Some Bad) why is = cc

-- the faults with which the stages after the map end
ends_with : (request : Request) (accepted : Accepted) (road : RoadMap) (why : Fault)
    → Ends request accepted road why → IsFaultAfterMap request accepted road why
ends_with (Candidates text tolerances extras format) accepted road why is =
    inr (inr (inl (is.0 + 1, is.2)))
ends_with (Match asked) accepted road why is = elim is [
  | inl other ↦ inl other.0
  | inr later ↦ elim later.2 [
    | inl many ↦ inr (inr (inl (many.0 + 1, many.2)))
    | inr after ↦ elim after.2 [
      | inl not_here ↦ inr (inr (inr not_here.0))
      | inr never ↦ absurd never.2
    ]
  ]
]
ends_with (Places asked) accepted road why is = elim is [
  | inl bad ↦ inr (inl (bad_confidence asked.confidence why bad))
  | inr later ↦ elim later.2 [
    | inl many ↦ inr (inr (inl (many.0 + 1, many.2)))
    | inr never ↦ absurd never.2
  ]
]
ends_with other accepted road why is = absurd is

module _ (request : Request) (accepted : Accepted) (road : RoadMap) where
  memory_or_end : (why : Fault) → IsStageFault (IsAnswerOn true request accepted road) why
      → (why ≡ NoMemory) ⊎ Ends request accepted road why
  memory_or_end NoMemory is = inl refl
  memory_or_end other is = inr is

  -- What holds of want of memory, and of the faults of these stages, holds of each fault.
  each_fault : (P : Fault → Type 0) → P NoMemory
      → (Ends request accepted road CursorOfOther → P CursorOfOther)
      → (Ends request accepted road BadConfidence → P BadConfidence)
      → ((number : ℕ) → Ends request accepted road (TooManyCandidates number)
      → P (TooManyCandidates number))
      → (Ends request accepted road CursorNotHere → P CursorNotHere) → (why : Fault)
      → IsStageFault (IsAnswerOn true request accepted road) why → P why
  each_fault P memory other bad many not_here why is = elim (memory_or_end why is) [
    | inl same ↦ rw same memory
    | inr ends ↦ elim (ends_with request accepted road why ends) [
      | inl same ↦ rw same (other (subst (Ends request accepted road) same ends))
      | inr later ↦ elim later [
        | inl same ↦ rw same (bad (subst (Ends request accepted road) same ends))
        | inr more ↦ elim more [
          | inl same ↦ rw same.1 (many same.0 (subst (Ends request accepted road) same.1 ends))
          | inr same ↦ rw same (not_here (subst (Ends request accepted road) same ends))
        ]
      ]
    ]
  ]

-- ---- reasons

-- the refusal of a reference is a reason
reason_of_refused : (texts : Texts) (request : Request) (why : Refused)
    → IsAnswer texts request (Err (fault_of why)) → IsReason texts request (fault_of why)
reason_of_refused texts request refused.TooLong is = is
reason_of_refused texts request other is = is

-- the refusal of a request is a reason
pub reason_of_refusal : (texts : Texts) (request : Request) (why : Fault)
    → Accepts request (Err why) → IsReason texts request why
reason_of_refusal texts request why is = elim is [
  | inl its ↦ rw its.2 (reason_of_refused texts request its.0
      (inl (subst (λ fault. Accepts request (Err fault)) its.2 (inl its))))
  | inr its ↦
      let bad : why ≡ BadCursor = start_fault (cursor_of request) why its.2 in
      rw bad (inl (subst (λ fault. Accepts request (Err fault)) bad (inr its)))
]

module _ (texts : Texts) (request : Request) (reads : ReadsMap request) (accepted : Accepted)
    (is : Accepts request (Ok accepted)) where
  -- the output on the map of the files
  pub output_on_map : {T : Type 0} (bytes : T → List ℕ) (road : RoadMap) (result : Result T Fault)
      → IsMapLeft texts road
      → IfOk result (λ output. IsAnswerOn true request accepted road (Ok (bytes output)))
      → IfOk result (λ output. IsOutput texts request (bytes output))
  output_on_map bytes road (Ok output) map its =
      (accepted, is, answer_of_files _ _ _ _ reads (road, map, its))
  output_on_map bytes road (Err why) map its = tt

  -- a fault of the map
  pub reason_of_map : (why : MapFault) → IsFaultLeft texts why
      → IsReason texts request (fault_of_map why)
  reason_of_map (map.ReadFailed file) its = (reads, (accepted, is), its)
  reason_of_map map.NoMemory its = (accepted, is)
  reason_of_map other its =
      inr (accepted, is, answer_of_files _ _ _ _ reads (inl (other, tt, its, refl)))

  -- a fault after the map
  pub reason_on_map : {T : Type 0} (road : RoadMap) (result : Result T Fault)
      → IsMapLeft texts road → IfErr result (IsStageFault (IsAnswerOn true request accepted road))
      → IfErr result (IsReason texts request)
  reason_on_map road (Ok found) map its = tt
  reason_on_map road (Err why) map its =
      let ends : (fault : Fault) → Ends request accepted road fault
      → IsAnswer texts request (Err fault) =
      λ fault at. inr (accepted, is, answer_of_files _ _ _ _ reads (inr (road, map, at))) in
      each_fault request accepted road (IsReason texts request) (accepted, is)
      (ends CursorOfOther) (ends BadConfidence) (λ number. ends (TooManyCandidates number))
      (ends CursorNotHere) why its

-- ---- sources

-- a file that was read to its end has no failure
pub unfailed : {S : Type 0} {left : S → Option (List ℕ)} {failed : S → ℕ} {old new : S}
    (file : File) → IsReadWhole left failed old new
    → IsEffect left failed old new file map.NoMemory
unfailed Nodes whole = whole.none_failed
unfailed other whole = whole.none_failed

module _ {S : Type 0} (left : S → Option (List ℕ)) (failed : S → ℕ) (old new : S) (file : File)
  where
    -- a fault of the stages after the map
    late_leaves : (request : Request) (accepted : Accepted) (road : RoadMap) (why : Fault)
        → IsReadWhole left failed old new → IsStageFault (IsAnswerOn true request accepted road) why
        → FaultLeaves left failed old new file why
    late_leaves request accepted road why whole =
        each_fault request accepted road (FaultLeaves left failed old new file)
        (inr (inl (map.NoMemory, refl, unfailed file whole))) (λ ends. inr (inr (tt, whole)))
        (λ ends. inr (inr (tt, whole))) (λ number ends. inr (inr (tt, whole))) (λ ends. inr (inr (tt, whole))) why

    -- a fault of the map
    pub map_fault_leaves : (T : Type 0) (request : Request) (why : MapFault)
        → ReadsMap request → IsEffect left failed old new file why
        → AnswerLeaves left failed old new file request (err_of T Fault (fault_of_map why))
    map_fault_leaves T (Show text format) why reads its = absurd reads
    map_fault_leaves T other why reads its = inr (inl (why, refl, its))

    -- the result of these stages
    pub answer_leaves : {T : Type 0} (request : Request) (accepted : Accepted)
        (road : RoadMap) (result : Result T Fault) → ReadsMap request
        → IfErr result (IsStageFault (IsAnswerOn true request accepted road))
        → IsReadWhole left failed old new → AnswerLeaves left failed old new file request result
    answer_leaves (Show text format) accepted road result reads is whole = absurd reads
    answer_leaves other accepted road (Ok found) reads is whole = whole
    answer_leaves other accepted road (Err why) reads is whole =
        late_leaves other accepted road why whole is

    -- a fault leaves the same of a source, whatever else there would have been
    pub same_leaves : (T U : Type 0) (request : Request) (why : Fault)
        → AnswerLeaves left failed old new file request (err_of T Fault why)
        → AnswerLeaves left failed old new file request (err_of U Fault why)
    same_leaves T U (Show text format) why is = is
    same_leaves T U other why is = is

    -- the output was made, and then the sink stopped
    pub unwritten_leaves : (T U : Type 0) (request : Request) (found : T)
        → AnswerLeaves left failed old new file request (ok_of T Fault found)
        → AnswerLeaves left failed old new file request (err_of U Fault WriteFailed)
    unwritten_leaves T U (Show text format) found is = is
    unwritten_leaves T U other found is = inr (inr (tt, is))

-- the refusal of a request
pub of_request : (request : Request) (why : Fault) → Accepts request (Err why) → IsOfRequest why
of_request request why is = elim is [
  | inl its ↦ inl (its.0, its.2)
  | inr its ↦ inr (start_fault (cursor_of request) why its.2)
]

pub refusal_leaves : {S : Type 0} (left : S → Option (List ℕ)) (failed : S → ℕ) (old : S)
    (file : File) (T : Type 0) (request : Request) (why : Fault) → Accepts request (Err why)
    → AnswerLeaves left failed old old file request (err_of T Fault why)
refusal_leaves left failed old file T (Show text format) why is = refl
refusal_leaves left failed old file T other why is = inl (of_request other why is, refl)

-- ---- the sink

-- where there is no output, for a reason, the sink is as it was
pub not_written : {O : Type 0} (taken : O → Option (List ℕ)) (failed : O → ℕ)
    (put_gives : O → List ℕ → Result ℕ Failed → O → Type 0)
    (flush_gives : O → Result (Unit {0}) Failed → O → Type 0) (texts : Texts) (request : Request)
    (out : O) (why : Fault) → IsReason texts request why
    → IsFault taken failed put_gives flush_gives texts request out out why
not_written taken failed put_gives flush_gives texts request out WriteFailed is = absurd is
not_written taken failed put_gives flush_gives texts request out other is = (is, refl)
