-- A text asks for one thing.
use Rattle.std.proofs.Common.{◌≡◌, ◌∙◌, ◌++◌, ◌≤◌, ap, sym, subst, refl, inl, inr, arith, ℕ, cond, List, length, take, drop, Option, Some, None}
use Rattle.std.specs.Prelude.{IfSome, Result, Ok, Err, codes}
use Rattle.std.specs.Str.{bytes_eq}
use Rattle.std.proofs.lemmas.List.{append_cancel_left, drop_at, take_at}
use Rattle.olr_candidates.specs.declared.tolerances.Tolerances.{Tolerances}
use Rattle.olr_request.specs.Question.{request_for}
use Rattle.olr_request.specs.Request.{at_bytes}
use Rattle.olr_request.specs.declared.fault.Fault.{Fault}
use Rattle.olr_request.specs.declared.fault.Fault.TheVariants as fault
use Rattle.olr_request.specs.declared.question.QuestionKind.{QuestionKind}
use Rattle.olr_request.specs.declared.question.QuestionKind.TheVariants.{Candidates, Match, Places, Why}
use Rattle.olr_request.specs.declared.request.Format.{Format}
use Rattle.olr_request.specs.declared.request.Pages.{Pages}
use Rattle.olr_request.specs.declared.request.Request.{Request}
use Rattle.olr_request.specs.declared.request.Request.TheVariants.{Show}
use Rattle.olr_words.specs.OneRequest.{AreEqual, StateTheSame, placeless, placeless_legs, placeless_pages, stated}
use Rattle.olr_request.specs.declared.request.LegsRequest.{LegsRequest}
use Rattle.olr_words.specs.Record.{AskFor, AskForLegs, AskForLines, AskForNoLines, AskForNothing, IsOfSubcommand, IsQueryAbout, IsQueryOf, IsQueryOfWords, Subject, a_reference, its_legs, name_of, some_lines, subject_named}
use Rattle.olr_request.specs.declared.request.LinesRequest.{LinesRequest}
use Rattle.olr_request.specs.declared.request.Query.{Query}
use Rattle.olr_request.specs.declared.request.Query.TheVariants.{Legs, Lines, Reference}
use Rattle.olr_words.specs.RecordWords.{ArePartsOf, IsAtDashes, Parts, at_spaces, dashes, parts}
use Rattle.olr_words.specs.Words.{IsNameOf, IsRequest, pages_of}
use Rattle.olr_words.specs.declared.record.RecordFault.{RecordFault}
use Rattle.olr_words.specs.declared.record.RecordFault.TheVariants as record_fault
use Rattle.olr_words.specs.declared.words.Given.{Given}
use Rattle.olr_words.specs.declared.words.MapSubcommand.{MapSubcommand}
use Rattle.olr_words.specs.declared.words.MapSubcommand.TheVariants as each
use Rattle.std.proofs.Common.{Bor}
use Rattle.olr_words.proofs.OneGiven.{Alike, alike, one_given}
use Rattle.olr_words.proofs.OneQuestion.{RefusedBy, asked_or_refused, one_refused, one_tolerances, one_what, refused_by}
use Rattle.olr_words.proofs.OneLegs.{legs_the_same}
use Rattle.olr_words.proofs.OneLines.{asks_for_lines, lines_the_same}

-- ---- the words

same_length : (text a b c d : List ℕ) → IsAtDashes text a b → IsAtDashes text c d
    → length a ≡ length c
same_length text a b c d is other =
    let first : length a ≤ length c = is.first c d other.whole in
    let second : length c ≤ length a = other.first a b is.whole in omega arith

same_front : (text a b c d : List ℕ) → IsAtDashes text a b → IsAtDashes text c d → a ≡ c
same_front text a b c d is other = sym (take_at a (dashes ++ b) (length a) refl)
    ∙ (ap (take (length a)) (sym is.whole ∙ other.whole)
    ∙ take_at c (dashes ++ d) (length a) (sym (same_length text a b c d is other)))

same_behind : (text a b c d : List ℕ) → IsAtDashes text a b → IsAtDashes text c d → b ≡ d
same_behind text a b c d is other = append_cancel_left dashes b d
    (sym (drop_at a (dashes ++ b) (length a) refl)
    ∙ (ap (drop (length a)) (sym is.whole ∙ other.whole)
    ∙ drop_at c (dashes ++ d) (length a) (sym (same_length text a b c d is other))))

one_parts : (text : List ℕ) (a b : Parts) → ArePartsOf text a → ArePartsOf text b → a ≡ b
one_parts text a b (inl is) (inl other) = is.1 ∙ sym other.1
one_parts text a b (inl is) (inr other) = absurd (is.0 other.0 other.1 other.2.whole)
one_parts text a b (inr is) (inl other) = absurd (other.0 is.0 is.1 is.2.whole)
one_parts text a b (inr is) (inr other) = is.3
    ∙ (ap (λ front. parts (at_spaces front) (Some is.1))
    (same_front text is.0 is.1 other.0 other.1 is.2 other.2)
    ∙ (ap (λ reference. parts (at_spaces other.0) (Some reference))
    (same_behind text is.0 is.1 other.0 other.1 is.2 other.2) ∙ sym other.3))

-- ---- the subcommand

kind_at : List ℕ → Option MapSubcommand
kind_at name = cond (bytes_eq name (codes "candidates")) (Some each.Candidates)
    (cond (bytes_eq name (codes "match")) (Some each.Match)
    (cond (bytes_eq name (codes "places")) (Some each.Places)
    (cond (bytes_eq name (codes "why")) (Some each.Why) None)))

kind_named : (kind : MapSubcommand) (name : List ℕ) → IsNameOf kind name → kind_at name ≡ Some kind
unfolding kind_at
kind_named each.Candidates name is = ap kind_at is
kind_named each.Match name is = ap kind_at is
kind_named each.Places name is = ap kind_at is
kind_named each.Why name is = ap kind_at is

one_kind : (name : List ℕ) (a b : MapSubcommand) → IsNameOf a name → IsNameOf b name → a ≡ b
one_kind name a b is other =
    let same : Some a ≡ Some b = sym (kind_named a name is) ∙ kind_named b name other in cc

not_show : (name : List ℕ) (kind : MapSubcommand) → name ≡ codes "show" → IsNameOf kind name → ⊥
unfolding kind_at
not_show name kind show is =
    let no_one : None ≡ Some kind = sym (ap kind_at show) ∙ kind_named kind name is in cc

-- ---- the request

placeless_for : (what : QuestionKind) (tolerances : Tolerances) (text : Bor (List ℕ)) (pages : Pages)
    (format : Format) → placeless (request_for what tolerances text pages format)
    ≡ request_for what tolerances (at_bytes text.now) (placeless_pages pages) format
placeless_for (Candidates extras) tolerances text pages format = refl
placeless_for (Match size extras) tolerances text pages format = refl
placeless_for (Places limits order extras confidence) tolerances text pages format = refl
placeless_for (Why nearest shape) tolerances text pages format = refl

one_request_for : (g h : Given) → Alike g h → (kind : MapSubcommand) (a b : Request)
    → IsRequest g kind a → IsRequest h kind b → placeless a ≡ placeless b
one_request_for g h alike kind a b is other =
    let what : is.question.what ≡ other.question.what =
    one_what g h alike kind is.question.what other.question.what is.is.what other.is.what in
    let tolerances : is.question.tolerances ≡ other.question.tolerances =
    one_tolerances g h alike is.question.tolerances other.question.tolerances is.is.tolerances
    other.is.tolerances in
    ap placeless is.asks
    ∙ (placeless_for is.question.what is.question.tolerances g.text (pages_of g) g.format
    ∙ ((λ k. request_for (what k) (tolerances k) (at_bytes (alike.text k)) (alike.pages k)
    (alike.format k))
    ∙ (sym (placeless_for other.question.what other.question.tolerances h.text (pages_of h)
    h.format) ∙ sym (ap placeless other.asks))))

-- ---- what a subcommand asks for

abbrev SameAsked : Result Request Fault → Result Request Fault → Type 0
SameAsked (Ok a) (Ok b) = placeless a ≡ placeless b
SameAsked (Ok a) (Err why) = ⊥
SameAsked (Err why) (Ok b) = ⊥
SameAsked (Err why) (Err other) = why ≡ other

one_asked_or_refused : (g h : Given) → Alike g h → (name : List ℕ) (a : Request) (why : Fault)
    → IsOfSubcommand g name (Ok a) → IsOfSubcommand h name (Err why) → ⊥
one_asked_or_refused g h alike name a why (inl show) refused =
    not_show name refused.0 show.0 refused.1
one_asked_or_refused g h alike name a why (inr asked) refused =
    let request : IsRequest g refused.0 a =
    subst (λ kind. IsRequest g kind a) (one_kind name asked.0 refused.0 asked.1 refused.1)
    asked.2 in
    asked_or_refused g h alike refused.0 request.question.tolerances request.question.what why
    request.is.tolerances request.is.what (refused_by h refused.0 why alike.one_page_too refused.2)

one_asked : (g h : Given) → Alike g h → (name : List ℕ) (a b : Request)
    → IsOfSubcommand g name (Ok a) → IsOfSubcommand h name (Ok b) → placeless a ≡ placeless b
one_asked g h alike name a b (inl is) (inl other) = ap placeless is.1
    ∙ ((λ k. Show (at_bytes (alike.text k)) (alike.format k)) ∙ sym (ap placeless other.1))
one_asked g h alike name a b (inl is) (inr other) = absurd (not_show name other.0 is.0 other.1)
one_asked g h alike name a b (inr is) (inl other) = absurd (not_show name is.0 other.0 is.1)
one_asked g h alike name a b (inr is) (inr other) = one_request_for g h alike other.0 a b
    (subst (λ kind. IsRequest g kind a) (one_kind name is.0 other.0 is.1 other.1) is.2) other.2

same_asked : (g h : Given) → Alike g h → Alike h g → (name : List ℕ) (r s : Result Request Fault)
    → IsOfSubcommand g name r → IsOfSubcommand h name s → SameAsked r s
same_asked g h alike back name (Ok a) (Ok b) is other = one_asked g h alike name a b is other
same_asked g h alike back name (Ok a) (Err why) is other =
    one_asked_or_refused g h alike name a why is other
same_asked g h alike back name (Err why) (Ok b) is other =
    one_asked_or_refused h g back name b why other is
same_asked g h alike back name (Err why) (Err unlike) is other =
    one_refused g h alike back other.0 why unlike
    (subst (λ kind. RefusedBy g kind why) (one_kind name is.0 other.0 is.1 other.1)
    (refused_by g is.0 why alike.one_page is.2))
    (refused_by h other.0 unlike alike.one_page_too other.2)

-- ---- what words ask for

ask_the_same : (its : Parts) (r s : Result Request Fault) → AskFor its r → AskFor its s
    → SameAsked r s
ask_the_same its r s p q = same_asked p.given q.given
    (one_given its p.given q.given p.given_by q.given_by)
    (one_given its q.given p.given q.given_by p.given_by) (name_of its.words) r s p.asks q.asks

-- ---- what is stated of words

abbrev HoldsOf : Subject → Parts → Option (Result Query Fault) → Type 0
HoldsOf a_reference its None = AskForNothing its
HoldsOf a_reference its (Some (Ok (Reference request))) =
    (asked : Request) × AskFor its (Ok asked) × (request ≡ placeless asked)
HoldsOf a_reference its (Some (Ok other)) = ⊥
HoldsOf a_reference its (Some (Err why)) = AskFor its (Err why)
HoldsOf its_legs its None = AskForNothing its
HoldsOf its_legs its (Some (Ok (Legs legs))) =
    (asked : LegsRequest) × AskForLegs its (Ok asked) × (legs ≡ placeless_legs asked)
HoldsOf its_legs its (Some (Ok other)) = ⊥
HoldsOf its_legs its (Some (Err why)) = AskForLegs its (Err why)
HoldsOf some_lines its None = AskForNoLines its
HoldsOf some_lines its (Some (Ok (Lines asked))) = AskForLines its (Ok asked)
HoldsOf some_lines its (Some (Ok other)) = ⊥
HoldsOf some_lines its (Some (Err why)) = AskForLines its (Err why)

holds : (about : Subject) (its : Parts) (r : Result Query RecordFault) → IsQueryAbout about its r
    → IfSome (stated r) (HoldsOf about its)
holds a_reference its (Ok (Reference request)) is = (request, is, refl)
holds a_reference its (Ok (Legs asked)) is = absurd is
holds a_reference its (Ok (Lines asked)) is = absurd is
holds a_reference its (Err (record_fault.Words line)) is = is.1
holds a_reference its (Err (record_fault.Fault fault.NoMemory)) is = tt
holds a_reference its (Err (record_fault.Fault _)) is = is
holds its_legs its (Ok (Reference request)) is = absurd is
holds its_legs its (Ok (Legs asked)) is = (asked, is, refl)
holds its_legs its (Ok (Lines asked)) is = absurd is
holds its_legs its (Err (record_fault.Words line)) is = is.1
holds its_legs its (Err (record_fault.Fault fault.NoMemory)) is = tt
holds its_legs its (Err (record_fault.Fault _)) is = is
holds some_lines its (Ok (Reference request)) is = absurd is
holds some_lines its (Ok (Legs asked)) is = absurd is
holds some_lines its (Ok (Lines asked)) is = is
holds some_lines its (Err (record_fault.Words line)) is = is.1
holds some_lines its (Err (record_fault.Fault fault.NoMemory)) is = tt
holds some_lines its (Err (record_fault.Fault _)) is = is

about_one : (its : Parts) (s t : Option (Result Query Fault)) → HoldsOf a_reference its s
    → HoldsOf a_reference its t → s ≡ t
about_one its None None p q = refl
about_one its None (Some (Ok (Reference request))) p q =
    absurd (p q.1.given_by.options q.1.given_by.understood)
about_one its None (Some (Ok (Legs asked))) p q = absurd q
about_one its None (Some (Ok (Lines asked))) p q = absurd q
about_one its None (Some (Err why)) p q = absurd (p q.given_by.options q.given_by.understood)
about_one its (Some (Ok (Legs asked))) t p q = absurd p
about_one its (Some (Ok (Lines asked))) t p q = absurd p
about_one its (Some (Ok (Reference request))) None p q =
    absurd (q p.1.given_by.options p.1.given_by.understood)
about_one its (Some (Err why)) None p q = absurd (q p.given_by.options p.given_by.understood)
about_one its (Some (Ok (Reference a))) (Some (Ok (Legs asked))) p q = absurd q
about_one its (Some (Ok (Reference a))) (Some (Ok (Lines asked))) p q = absurd q
about_one its (Some (Err why)) (Some (Ok (Legs asked))) p q = absurd q
about_one its (Some (Err why)) (Some (Ok (Lines asked))) p q = absurd q
about_one its (Some (Ok (Reference a))) (Some (Ok (Reference b))) p q =
    ap (λ request. Some (Ok (Reference request)))
    (p.2 ∙ (ask_the_same its (Ok p.0) (Ok q.0) p.1 q.1 ∙ sym q.2))
about_one its (Some (Ok (Reference a))) (Some (Err why)) p q =
    absurd (ask_the_same its (Ok p.0) (Err why) p.1 q)
about_one its (Some (Err why)) (Some (Ok (Reference b))) p q =
    absurd (ask_the_same its (Err why) (Ok q.0) p q.1)
about_one its (Some (Err why)) (Some (Err other)) p q =
    ap (λ fault. Some (Err fault)) (ask_the_same its (Err why) (Err other) p q)

legs_one : (its : Parts) (s t : Option (Result Query Fault)) → HoldsOf its_legs its s
    → HoldsOf its_legs its t → s ≡ t
legs_one its None None p q = refl
legs_one its None (Some (Ok (Reference request))) p q = absurd q
legs_one its None (Some (Ok (Lines asked))) p q = absurd q
legs_one its None (Some (Ok (Legs asked))) p q =
    absurd (p q.1.given_by.options q.1.given_by.understood)
legs_one its None (Some (Err why)) p q = absurd (p q.given_by.options q.given_by.understood)
legs_one its (Some (Ok (Reference request))) t p q = absurd p
legs_one its (Some (Ok (Lines asked))) t p q = absurd p
legs_one its (Some (Ok (Legs asked))) None p q =
    absurd (q p.1.given_by.options p.1.given_by.understood)
legs_one its (Some (Err why)) None p q = absurd (q p.given_by.options p.given_by.understood)
legs_one its (Some (Ok (Legs a))) (Some (Ok (Reference b))) p q = absurd q
legs_one its (Some (Ok (Legs a))) (Some (Ok (Lines b))) p q = absurd q
legs_one its (Some (Err why)) (Some (Ok (Reference b))) p q = absurd q
legs_one its (Some (Err why)) (Some (Ok (Lines b))) p q = absurd q
legs_one its (Some (Ok (Legs a))) (Some (Ok (Legs b))) p q =
    ap (λ legs. Some (Ok (Legs legs)))
    (p.2 ∙ (legs_the_same its (Ok p.0) (Ok q.0) p.1 q.1 ∙ sym q.2))
legs_one its (Some (Ok (Legs a))) (Some (Err why)) p q =
    absurd (legs_the_same its (Ok p.0) (Err why) p.1 q)
legs_one its (Some (Err why)) (Some (Ok (Legs b))) p q =
    absurd (legs_the_same its (Err why) (Ok q.0) p q.1)
legs_one its (Some (Err why)) (Some (Err other)) p q =
    ap (λ fault. Some (Err fault)) (legs_the_same its (Err why) (Err other) p q)

abbrev as_query : Result LinesRequest Fault → Result Query Fault
as_query (Ok asked) = Ok (Lines asked)
as_query (Err why) = Err why

lines_one : (its : Parts) (s t : Option (Result Query Fault)) → HoldsOf some_lines its s
    → HoldsOf some_lines its t → s ≡ t
lines_one its None None p q = refl
lines_one its None (Some (Ok (Reference request))) p q = absurd q
lines_one its None (Some (Ok (Legs asked))) p q = absurd q
lines_one its None (Some (Ok (Lines asked))) p q = absurd (asks_for_lines its (Ok asked) q p)
lines_one its None (Some (Err why)) p q = absurd (asks_for_lines its (Err why) q p)
lines_one its (Some (Ok (Reference request))) t p q = absurd p
lines_one its (Some (Ok (Legs asked))) t p q = absurd p
lines_one its (Some (Ok (Lines asked))) None p q = absurd (asks_for_lines its (Ok asked) p q)
lines_one its (Some (Err why)) None p q = absurd (asks_for_lines its (Err why) p q)
lines_one its (Some (Ok (Lines asked))) (Some (Ok (Reference b))) p q = absurd q
lines_one its (Some (Ok (Lines asked))) (Some (Ok (Legs b))) p q = absurd q
lines_one its (Some (Err why)) (Some (Ok (Reference b))) p q = absurd q
lines_one its (Some (Err why)) (Some (Ok (Legs b))) p q = absurd q
lines_one its (Some (Ok (Lines a))) (Some (Ok (Lines b))) p q =
    ap (λ (r : Result LinesRequest Fault). Some (as_query r)) (lines_the_same its (Ok a) (Ok b) p q)
lines_one its (Some (Ok (Lines a))) (Some (Err why)) p q =
    ap (λ (r : Result LinesRequest Fault). Some (as_query r)) (lines_the_same its (Ok a) (Err why) p q)
lines_one its (Some (Err why)) (Some (Ok (Lines b))) p q =
    ap (λ (r : Result LinesRequest Fault). Some (as_query r)) (lines_the_same its (Err why) (Ok b) p q)
lines_one its (Some (Err why)) (Some (Err other)) p q =
    ap (λ (r : Result LinesRequest Fault). Some (as_query r)) (lines_the_same its (Err why) (Err other) p q)

one_holds : (about : Subject) (its : Parts) (s t : Option (Result Query Fault))
    → HoldsOf about its s → HoldsOf about its t → s ≡ t
one_holds a_reference its s t p q = about_one its s t p q
one_holds its_legs its s t p q = legs_one its s t p q
one_holds some_lines its s t p q = lines_one its s t p q

one_stated : (about : Subject) (its : Parts) (s t : Option (Option (Result Query Fault)))
    → IfSome s (HoldsOf about its) → IfSome t (HoldsOf about its)
    → AreEqual s t
one_stated about its None t p q = tt
one_stated about its (Some s) None p q = tt
one_stated about its (Some s) (Some t) p q = one_holds about its s t p q

-- nothing is stated where memory was refused
none_stated : (s : Option (Option (Result Query Fault))) → AreEqual s None
none_stated None = tt
none_stated (Some s) = tt

pub one_request : (text : List ℕ) (one other : Result Query RecordFault) → IsQueryOf text one
    → IsQueryOf text other → StateTheSame one other
one_request text one other (inl refused) too =
    subst (λ (r : Result Query RecordFault). StateTheSame r other) (sym refused) tt
one_request text one other (inr is) (inl refused) =
    subst (λ (r : Result Query RecordFault). StateTheSame one r) (sym refused)
    (none_stated (stated one))
one_request text one other (inr is) (inr too) =
    let asked : IsQueryOfWords is.0 other =
    subst (λ parts. IsQueryOfWords parts other) (one_parts text too.0 is.0 too.1 is.1) too.2 in
    let about = subject_named (name_of is.0.words) in
    one_stated about is.0 (stated one) (stated other)
    (holds about is.0 one is.2) (holds about is.0 other asked)
