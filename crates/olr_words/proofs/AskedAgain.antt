-- A question that is kept is the one which its words ask of each reference.
use Rattle.std.proofs.Common.{◌≡◌, ◌∙◌, ap, refl, subst, sym, inr, Bor, false, List, ℕ, Option, None, Some, cond}
use Rattle.std.specs.Prelude.{Ok, is_some, not}
use Rattle.clap.specs.Walk.{texts}
use Rattle.olr_request.specs.Question.{request_for}
use Rattle.olr_request.specs.declared.question.Question.{Question}
use Rattle.olr_request.specs.declared.question.QuestionKind.{QuestionKind}
use Rattle.olr_request.specs.declared.request.Pages.TheVariants as pages
use Rattle.olr_words.specs.LastQuestion.{AskOfEach, IsQuestionWithoutCursor}
use Rattle.olr_request.specs.declared.request.Query.TheVariants.{Reference}
use Rattle.olr_request.specs.declared.request.Request.{Request}
use Rattle.olr_words.specs.Record.{AskFor, IsGivenBy, IsQueryAbout, IsQueryOfWords, Subject, a_reference, has_reference, subject_named, name_of, parts_of}
use Rattle.olr_words.specs.RecordWords.{Parts, at_spaces, parts}
use Rattle.olr_words.specs.Words.{AreBoth, IsWhat, pages_of}
use Rattle.olr_words.specs.declared.record_words.RecordWords.{RecordWords}
use Rattle.olr_words.specs.declared.words.Given.{Given}
use Rattle.olr_words.specs.declared.words.MapSubcommand.{MapSubcommand}
use Rattle.olr_words.specs.declared.words.MapSubcommand.TheVariants as each
use Rattle.olr_words.proofs.Requests.{about_reference}

-- the same with another reference
abbrev about : Given → Bor (List ℕ) → Given
about given reference = record given { text = reference }

same_what : (given : Given) (reference : Bor (List ℕ)) (kind : MapSubcommand) (what : QuestionKind)
    → IsWhat given kind what → IsWhat (about given reference) kind what
same_what given reference each.Candidates what is = is
same_what given reference each.Match what is = is
same_what given reference each.Places what is = is
same_what given reference each.Why what is = is

not_both : (given : Given) → given.all ≡ false → AreBoth given → ⊥
not_both given one_page both = let all = both.0 in cc

first_page : (given : Given) → given.all ≡ false → given.after ≡ None
    → pages_of given ≡ pages.One None
first_page given one_page none = ap (λ b. cond b pages.All (pages.One given.after)) one_page
    ∙ ap (λ after. pages.One after) none

-- a request of a reference is what words ask for whose subject it is
asks_reference : (its : Parts) (request : Request) → subject_named (name_of its.words) ≡ a_reference
    → AskFor its (Ok request) → IsQueryOfWords its (Ok (Reference request))
asks_reference its request named asks =
    subst (λ (s : Subject). IsQueryAbout s its (Ok (Reference request))) (sym named) asks

module _ (words behind : List ℕ) (given : Given) (question : Question)
    (its : IsGivenBy (parts (at_spaces words) (Some behind)) given) where
  given_about : (reference : Bor (List ℕ))
      → IsGivenBy (parts (at_spaces words) (Some reference.now)) (about given reference)
  given_about reference = record {
    options = its.options;
    understood = record {
      named = its.understood.named;
      taken = its.understood.taken;
      values = its.understood.values;
    };
    by = record {
      options_given = record {
        profile = its.by.options_given.profile;
        tolerances = its.by.options_given.tolerances;
        page = its.by.options_given.page;
        numbers = its.by.options_given.numbers;
        order = its.by.options_given.order;
        nearest = its.by.options_given.nearest;
        extras = its.by.options_given.extras;
        edges = its.by.options_given.edges;
        at = its.by.options_given.at;
        near = its.by.options_given.near;
        after = its.by.options_given.after;
      };
      reference = refl;
      one_page = its.by.one_page;
      format = its.by.format;
    };
  }

  pub ask_of_each : IsQuestionWithoutCursor given (name_of (at_spaces words)) question
      → AskOfEach words question given.format
  ask_of_each named text reference at = inr (
    parts (at_spaces words) (Some reference.now),
    inr (words, reference.now, at, refl),
    asks_reference (parts (at_spaces words) (Some reference.now)) (request_for question.what
        question.tolerances reference (pages.One None) given.format)
        (about_reference named.0 _ named.1) (record {
          given = about given reference;
          given_by = given_about reference;
          asks = inr (
            named.0,
            named.1,
            record {
              question = question;
              is = record {
                tolerances = record { each = named.2.tolerances.each };
                what = same_what given reference named.0 question.what named.2.what;
              };
              one_of_both = not_both given its.by.one_page;
              asks = λ k. request_for question.what question.tolerances reference
                  (sym (first_page given its.by.one_page named.3) k) given.format;
            },
          );
        }),
  )

-- the same of words that were split, which the reference isn't among
pub ask_of_kept : (words : RecordWords) (given : Given) (question : Question) (name : List ℕ)
    → has_reference (parts_of words) ≡ false → texts words.words.items ≡ at_spaces words.text.now
    → IsGivenBy (parts_of words) given → name ≡ name_of (texts words.words.items)
    → IsQuestionWithoutCursor given name question → AskOfEach words.text.now question given.format
ask_of_kept words given question name among split its begins named =
    go (parts_of words).reference among
    (subst (λ ws. IsGivenBy (parts ws (parts_of words).reference) given) split its)
  where
    go : (behind : Option (List ℕ)) → not (is_some behind) ≡ false
        → IsGivenBy (parts (at_spaces words.text.now) behind) given
        → AskOfEach words.text.now question given.format
    go None there given_by = cc
    go (Some behind) there given_by = ask_of_each words.text.now behind given question given_by
        (subst (λ n. IsQuestionWithoutCursor given n question) (begins ∙ ap name_of split) named)
