-- A text has one reply on a map.
use Rattle.olr_app_laws.proofs.Common.{◌≡◌, ◌≢◌, ℕ, Extras, List, Option, None, Some, Ok, Err, Result, Bor, refl, sym, ap, ◌∙◌, subst, inl, inr, option_map, at_bytes, Tolerances, Fault, Format, Pages, One, Request, Candidates, Match, Places, Show, Why, RoadMap, IsSoundMap, same_ok, no_ok_and_err, same_Some, none-some}
use Rattle.std.specs.Prelude.{◌⊎◌, ⊤}
use Rattle.olr_app.specs.Answer.{IsAnswerOfMany, IsFaultOfMany}
use Rattle.olr_request.specs.declared.fault.Fault.TheVariants as fault
use Rattle.olr_request.specs.declared.request.Pages.TheVariants.{All}
use Rattle.olr_app.specs.Lines.{AreLinesPrinted}
use Rattle.olr_batch.specs.Answers.{IsAnswerTo, IsAsked, IsFaultTo}
use Rattle.olr_request.specs.declared.request.LegsRequest.{LegsRequest}
use Rattle.olr_request.specs.declared.request.LinesRequest.{LinesRequest}
use Rattle.olr_request.specs.declared.request.Query.{Query}
use Rattle.olr_request.specs.declared.request.Query.TheVariants.{Legs, Lines, Reference}
use Rattle.olr_app_laws.proofs.LinesOnce.{one_output}
use Rattle.olr_app_laws.proofs.OneAsked.{one_asked}
use Rattle.olr_app_laws.specs.RecordLaws.{AsksForNoLegs, LawsBelow, OneReply, Replies, shown}
use Rattle.olr_words.specs.OneRequest.{AreEqual, StateTheSame, placeless, placeless_pages, stated}
use Rattle.olr_words.specs.declared.record.RecordFault.{RecordFault}
use Rattle.olr_words.specs.declared.record.RecordFault.TheVariants as record_fault
use Rattle.olr_words.specs.declared.asked.Records.{Records}
use Rattle.olr_words.specs.declared.asked.Records.TheVariants.{References, Requests}

pub cast : {A B : Type 0} → A ≡ B → A → B
cast same is = subst (λ (T : Type 0). T) same is

-- ---- a request is answered by the bytes of its texts, wherever they lie

module _ (road : RoadMap) where
  of_match : (text : Bor (List ℕ)) (tolerances : Tolerances) (size : ℕ) (pages : Pages)
      (extras : Extras) (format : Format) (answer : Result (List ℕ) Fault)
      → IsAnswerOfMany road (Match (record {
        text = text;
        tolerances = tolerances;
        size = size;
        pages = pages;
        extras = extras;
        format = format;
      })) answer
      ≡ IsAnswerOfMany road (Match (record {
        text = at_bytes text.now;
        tolerances = tolerances;
        size = size;
        pages = placeless_pages pages;
        extras = extras;
        format = format;
      })) answer
  of_match text tolerances size All extras format (Ok output) = refl
  of_match text tolerances size All extras format (Err why) = refl
  of_match text tolerances size (One None) extras format (Ok output) = refl
  of_match text tolerances size (One None) extras format (Err why) = refl
  of_match text tolerances size (One (Some cursor)) extras format (Ok output) = refl
  of_match text tolerances size (One (Some cursor)) extras format (Err why) = refl

  pub placed : (request : Request) (answer : Result (List ℕ) Fault)
      → IsAnswerOfMany road request answer ≡ IsAnswerOfMany road (placeless request) answer
  placed (Show text format) (Ok output) = refl
  placed (Show text format) (Err why) = refl
  placed (Candidates text tolerances extras format) (Ok output) = refl
  placed (Candidates text tolerances extras format) (Err why) = refl
  placed (Match asked) answer =
      of_match asked.text asked.tolerances asked.size asked.pages asked.extras asked.format answer
  placed (Places asked) (Ok output) = refl
  placed (Places asked) (Err why) = refl
  placed (Why asked) (Ok output) = refl
  placed (Why asked) (Err why) = refl

  -- that of one request is that of another one, where they differ in places alone
  pub moved : (one other : Request) (answer : Result (List ℕ) Fault)
      → placeless one ≡ placeless other → IsAnswerOfMany road one answer
      → IsAnswerOfMany road other answer
  moved one other answer same is = cast (sym (placed other answer))
      (subst (λ (r : Request). IsAnswerOfMany road r answer) same (cast (placed one answer) is))

-- ---- what is stated

same_reference : (one other : Request)
    → ◌≡◌ {A = Query} (Reference one) (Reference other) → one ≡ other
same_reference one other same = cc

lines_alike : (one other : LinesRequest) → ◌≡◌ {A = Query} (Lines one) (Lines other) → one ≡ other
lines_alike one other same = cc

not_both : (one : Request) (other : LinesRequest)
    → ◌≡◌ {A = Query} (Reference one) (Lines other) → ⊥
not_both one other same = cc

not_legs : (one : Request) (other : LegsRequest)
    → ◌≡◌ {A = Query} (Reference one) (Legs other) → ⊥
not_legs one other same = cc

lines_or_legs : (one : LinesRequest) (other : LegsRequest)
    → ◌≡◌ {A = Query} (Lines one) (Legs other) → ⊥
lines_or_legs one other same = cc

-- requests that state the same are the same wherever they lie
pub same_stated : (one other : Request) → StateTheSame (Ok (Reference one)) (Ok (Reference other))
    → placeless one ≡ placeless other
same_stated one other same = same_reference _ _ (same_ok (same_Some _ _ same))

pub same_lines : (one other : LinesRequest) → StateTheSame (Ok (Lines one)) (Ok (Lines other))
    → one ≡ other
same_lines one other same = lines_alike _ _ (same_ok (same_Some _ _ same))

-- a request of a reference isn't one for lines
pub unlike : (one : Request) (other : LinesRequest)
    → StateTheSame (Ok (Reference one)) (Ok (Lines other)) → ⊥
unlike one other same = not_both _ _ (same_ok (same_Some _ _ same))

-- and neither is one for legs
pub unlike_legs : (one : Request) (other : LegsRequest)
    → StateTheSame (Ok (Reference one)) (Ok (Legs other)) → ⊥
unlike_legs one other same = not_legs _ _ (same_ok (same_Some _ _ same))

pub lines_unlike_legs : (one : LinesRequest) (other : LegsRequest)
    → StateTheSame (Ok (Lines one)) (Ok (Legs other)) → ⊥
lines_unlike_legs one other same = lines_or_legs _ _ (same_ok (same_Some _ _ same))

-- words don't ask for a request and have a fault of it too
pub no_fault : (query : Query) (why : Fault) → why ≢ fault.NoMemory
    → StateTheSame (Ok query) (Err (record_fault.Fault why)) → ⊥
no_fault query fault.NoMemory other same = other refl
no_fault query _ other same = no_ok_and_err (same_Some _ _ same)

flip : {A : Type 0} (s t : Option A) → AreEqual s t → AreEqual t s
flip None None same = tt
flip None (Some t) same = tt
flip (Some s) None same = tt
flip (Some s) (Some t) same = sym same

none_stated : {A : Type 0} (s : Option A) → AreEqual s None
none_stated None = tt
none_stated (Some s) = tt

same_as_itself : {A : Type 0} (s : Option A) → AreEqual s s
same_as_itself None = tt
same_as_itself (Some s) = refl

same_reply : (one other : Result (List ℕ) RecordFault) → one ≡ other
    → AreEqual (shown one) (shown other)
same_reply one other same =
    subst (λ (r : Result (List ℕ) RecordFault). AreEqual (shown one) (shown r)) same
    (same_as_itself (shown one))

-- ---- two faults of words

-- what a fault shows, by what it states of its words
abbrev as_shown : Option (Result Query Fault) → Result (List ℕ) (Option Fault)
as_shown None = Err None
as_shown (Some (Ok query)) = Err None
as_shown (Some (Err why)) = Err (Some why)

shows : (why : RecordFault) → shown (Err why) ≡ option_map as_shown (stated (Err why))
shows (record_fault.Words line) = refl
shows (record_fault.Fault fault.NoMemory) = refl
shows (record_fault.Fault _) = refl

both_shown : (s t : Option (Option (Result Query Fault))) → AreEqual s t
    → AreEqual (option_map as_shown s) (option_map as_shown t)
both_shown None t same = tt
both_shown (Some s) None same = tt
both_shown (Some s) (Some t) same = ap as_shown same

two_faults : (why other : RecordFault) → StateTheSame (Err why) (Err other)
    → AreEqual (shown (Err why)) (shown (Err other))
two_faults why other same =
    rw (shows why, shows other) (both_shown (stated (Err why)) (stated (Err other)) same)

-- a request and a fault of words
request_and_fault : (query : Query) (why : RecordFault) → StateTheSame (Ok query) (Err why)
    → (reply : Result (List ℕ) RecordFault) → AreEqual (shown reply) (shown (Err why))
request_and_fault query (record_fault.Words line) same reply = absurd (none-some _ (sym same))
request_and_fault query (record_fault.Fault fault.NoMemory) same reply = none_stated (shown reply)
request_and_fault query (record_fault.Fault _) same reply = no_ok_and_err (same_Some _ _ same)

-- ---- the replies to a text

-- what is asked isn't for legs
abbrev HasNoLegs : Result Query RecordFault → Type 0
HasNoLegs (Ok (Legs legs)) = ⊥
HasNoLegs other = ⊤

module _ (road : RoadMap) where
  -- what comes of a request, or of the fault in place of it
  abbrev Gives : Result Query RecordFault → Result (List ℕ) RecordFault → Type 0
  Gives (Ok query) (Ok answer) = IsAnswerTo road query answer
  Gives (Ok query) (Err why) =
      (fault : Fault) × IsFaultTo road query fault × (why ≡ record_fault.Fault fault)
  Gives (Err why) reply = reply ≡ Err why

  record Made (records : Records) (text : List ℕ) (reply : Result (List ℕ) RecordFault) : Type 0
    where
      asked : Result Query RecordFault
      is : IsAsked records text asked
      gives : Gives asked reply

  made : (records : Records) (text : List ℕ) (reply : Result (List ℕ) RecordFault)
      → Replies records road text reply → Made records text reply
  made records text (Ok answer) is = record { asked = Ok is.0; is = is.1; gives = is.2 }
  made records text (Err why) is = elim is [
    | inl none ↦ record { asked = Err why; is = none; gives = refl }
    | inr has ↦ record { asked = Ok has.0; is = has.2; gives = (has.1, has.3, has.4) }
  ]

  -- the reply of an answer
  abbrev reply_of : Result (List ℕ) Fault → Result (List ℕ) RecordFault
  reply_of (Ok output) = Ok output
  reply_of (Err why) = Err (record_fault.Fault why)

  -- that of a request's answer; or memory was refused
  abbrev IsReplyOf : Request → Result (List ℕ) RecordFault → Type 0
  IsReplyOf request reply = (reply ≡ Err (record_fault.Fault fault.NoMemory))
      ⊎ ((answer : Result (List ℕ) Fault) × IsAnswerOfMany road request answer
      × (reply ≡ reply_of answer))

  reply_to : (request : Request) (reply : Result (List ℕ) RecordFault)
      → Gives (Ok (Reference request)) reply
      → IsReplyOf request reply
  reply_to request (Ok output) is = inr (Ok output, is, refl)
  reply_to request (Err why) is = elim is.1 [
    | inl has ↦ inr (Err is.0, has, ap Err is.2)
    | inr memory ↦ inl (ap Err (is.2 ∙ ap record_fault.Fault memory.0))
  ]

  module _ (laws : LawsBelow) where
    asked_once : (records : Records) (text : List ℕ) (a b : Result Query RecordFault)
        → IsAsked records text a → IsAsked records text b → StateTheSame a b
    asked_once (References question) text a b is its = rw (is, its) refl
    asked_once (Requests confidence) text a b is its =
        one_asked laws.request confidence text a b is its

    module _ (sound : IsSoundMap road) where
      of_request : (one other : Request) → placeless one ≡ placeless other
          → (a b : Result (List ℕ) RecordFault) → Gives (Ok (Reference one)) a
          → Gives (Ok (Reference other)) b
          → AreEqual (shown a) (shown b)
      of_request one other same a b is its = elim (reply_to one a is) [
        | inl memory ↦
            subst (λ (r : Result (List ℕ) RecordFault). AreEqual (shown r) (shown b)) (sym memory) tt
        | inr found ↦ elim (reply_to other b its) [
          | inl memory ↦
              subst (λ (r : Result (List ℕ) RecordFault). AreEqual (shown a) (shown r)) (sym memory)
              (none_stated (shown a))
          | inr again ↦ same_reply a b (found.2
              ∙ (ap reply_of (laws.one road other sound found.0 again.0
              (moved road one other found.0 same found.1) again.1) ∙ sym again.2))
        ]
      ]

      of_lines : (one other : LinesRequest) → one ≡ other → (a b : Result (List ℕ) RecordFault)
          → Gives (Ok (Lines one)) a → Gives (Ok (Lines other)) b → AreEqual (shown a) (shown b)
      of_lines one other same (Ok output) (Ok answer) is its = same_reply (Ok output) (Ok answer)
          (ap Ok (one_output other road output answer
          (subst (λ (r : LinesRequest). AreLinesPrinted r road output) same is) its))
      of_lines one other same (Err why) b is its =
          subst (λ (r : Result (List ℕ) RecordFault). AreEqual (shown r) (shown b))
          (sym (ap Err (is.2 ∙ ap record_fault.Fault is.1))) tt
      of_lines one other same (Ok output) (Err why) is its =
          subst (λ (r : Result (List ℕ) RecordFault). AreEqual (shown (Ok output)) (shown r))
          (sym (ap Err (its.2 ∙ ap record_fault.Fault its.1))) (none_stated (shown (Ok output)))

      of_query : (one other : Query) → HasNoLegs (Ok one) → StateTheSame (Ok one) (Ok other)
          → StateTheSame (Ok other) (Ok one) → (a b : Result (List ℕ) RecordFault)
          → Gives (Ok one) a → Gives (Ok other) b → AreEqual (shown a) (shown b)
      of_query (Reference r) (Reference s) none same back a b is its =
          of_request r s (same_stated r s same) a b is its
      of_query (Reference r) (Legs l) none same back a b is its = absurd (unlike_legs r l same)
      of_query (Reference r) (Lines l) none same back a b is its = absurd (unlike r l same)
      of_query (Legs l) other none same back a b is its = absurd none
      of_query (Lines l) (Reference r) none same back a b is its = absurd (unlike r l back)
      of_query (Lines l) (Legs m) none same back a b is its = absurd (lines_unlike_legs l m same)
      of_query (Lines l) (Lines m) none same back a b is its =
          of_lines l m (same_lines l m same) a b is its

      by_asked : (a b : Result Query RecordFault) → HasNoLegs a → StateTheSame a b → StateTheSame b a
          → (one other : Result (List ℕ) RecordFault) → Gives a one → Gives b other
          → AreEqual (shown one) (shown other)
      by_asked (Ok r) (Ok s) none same back one other is its =
          of_query r s none same back one other is its
      by_asked (Ok r) (Err why) none same back one other is its =
          subst (λ (x : Result (List ℕ) RecordFault). AreEqual (shown one) (shown x)) (sym its)
          (request_and_fault r why same one)
      by_asked (Err why) (Ok s) none same back one other is its =
          subst (λ (x : Result (List ℕ) RecordFault). AreEqual (shown x) (shown other)) (sym is)
          (flip (shown other) (shown (Err why)) (request_and_fault s why back other))
      by_asked (Err why) (Err again) none same back one other is its =
          subst (λ (x : Result (List ℕ) RecordFault). AreEqual (shown x) (shown other)) (sym is)
          (subst (λ (x : Result (List ℕ) RecordFault). AreEqual (shown (Err why)) (shown x)) (sym its)
          (two_faults why again same))

no_legs : (records : Records) (text : List ℕ) (asked : Result Query RecordFault)
    → AsksForNoLegs records text → IsAsked records text asked → HasNoLegs asked
no_legs records text (Ok (Reference request)) none is = tt
no_legs records text (Ok (Legs legs)) none is = none legs is
no_legs records text (Ok (Lines lines)) none is = tt
no_legs records text (Err why) none is = tt

pub one_reply : LawsBelow → OneReply
one_reply laws records road text one other sound none is its =
    let a = made road records text one is in
    let b = made road records text other its in
    by_asked road laws sound a.asked b.asked (no_legs records text a.asked none a.is)
    (asked_once road laws records text a.asked b.asked a.is b.is)
    (asked_once road laws records text b.asked a.asked b.is a.is) one other a.gives b.gives
