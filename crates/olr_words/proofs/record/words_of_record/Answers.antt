use Rattle.std.proofs.Common.{ap, None, Some, inl, inr, List, ℕ}
use Rattle.std.proofs.lemmas.Str.Pattern.{split_text_parts}
use Rattle.olr_words.specs.RecordWords.{dashes, parts}
use Rattle.olr_words.proofs.Dashes.{at_dashes}
use Rattle.olr_words.proofs.record.words_of_record.Goals as goal

pub invariant_of-result : goal.invariant_of-result
invariant_of-result c = record { split = c.in_ok-words.ensures }

pub returns-in_default : goal.returns-in_default
returns-in_default c = inl (
  split_text_parts dashes c.args.text.now None c.in_default.ensures.cases,
  ap (λ (words : List (List ℕ)). parts words None) c.in_ok-words.ensures,
)

pub invariant_of-result-2 : goal.invariant_of-result-2
invariant_of-result-2 c = record { split = c.in_ok-words-2.ensures }

pub returns : goal.returns
returns c =
    let cases = c.in-Some.ensures.cases in
    inr (
      c.in-Some.before.now,
      c.in-Some.reference.now,
      at_dashes _ _ _ cases.0 cases.1 cases.2 cases.6 (split_text_parts dashes c.args.text.now
          (Some (c.in-Some.before, c.in-Some.reference)) cases),
      ap (λ (words : List (List ℕ)). parts words (Some c.in-Some.reference.now))
          c.in_ok-words-2.ensures,
    )
