use Rattle.std.proofs.Common.{◌≡◌, ◌∙◌, Some, subst, sym}
use Rattle.std.specs.Prelude.{IfSome, Ok}
use Rattle.std.proofs.lemmas.Slice.Eq.{bytes_eq-Decides}
use Rattle.std.proofs.lemmas.Str.Pattern.{split_text_parts}
use Rattle.olr_request.specs.declared.request.Request.{Request}
use Rattle.olr_words.specs.LastQuestion.{AskOfEach}
use Rattle.olr_request.specs.declared.request.Query.TheVariants.{Reference}
use Rattle.olr_words.specs.Record.{IsQueryOf}
use Rattle.olr_words.specs.RecordWords.{IsAtDashes, dashes}
use Rattle.olr_words.proofs.Dashes.{at_dashes}
use Rattle.olr_words.proofs.last_question.LastQuestion.asked_again.Goals as goal

pub returns-then-eq : goal.returns-then-eq
returns-then-eq c =
    let cases = c.in_ok-words.ensures.cases in
    let same : c.in_ok-words.words.now ≡ c.in-Some.kept.words.bytes.items =
    (bytes_eq-Decides c.in_ok-words.words.now c.as_str.result.now).0
    (sym c.eq.ensures ∙ c.if-eq.true) ∙ c.as_str.ensures.value in
    let ask : AskOfEach c.in-Some.kept.words.bytes.items c.in-Some.kept.question c.in-Some.kept.format =
    subst (λ kept. IfSome kept (λ k. AskOfEach k.words.bytes.items k.question k.format)) c.in-Some.is
    c.self.invariant in
    let at : IsAtDashes c.args.text.now c.in_ok-words.words.now c.in_ok-words.reference.now =
    at_dashes _ _ _ cases.0 cases.1 cases.2 cases.6 (split_text_parts dashes c.args.text.now
    (Some (c.in_ok-words.words, c.in_ok-words.reference)) cases) in
    subst (λ (r : Request). IsQueryOf c.args.text.now (Ok (Reference r))) (sym c.request.ensures)
    (ask c.args.text.now c.in_ok-words.reference
    (subst (λ words. IsAtDashes c.args.text.now words c.in_ok-words.reference.now) same at))
