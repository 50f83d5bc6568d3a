-- The question that words before a reference ask.
use Rattle.std.specs.Prelude.{◌≡◌, ℕ, List, None, Ok}
use Rattle.std.specs.Borrow.{Bor}
use Rattle.olr_request.specs.Question.{request_for}
use Rattle.olr_request.specs.declared.question.Question.{Question}
use Rattle.olr_request.specs.declared.request.Format.{Format}
use Rattle.olr_request.specs.declared.request.Pages.TheVariants.{One}
use Rattle.olr_request.specs.declared.request.Query.TheVariants.{Reference}
use Rattle.olr_words.specs.Record.{IsQueryOf}
use Rattle.olr_words.specs.RecordWords.{IsAtDashes}
use Rattle.olr_words.specs.Words.{IsNameOf, IsQuestion}
use Rattle.olr_words.specs.declared.words.Given.{Given}
use Rattle.olr_words.specs.declared.words.MapSubcommand.{MapSubcommand}

-- the subcommand of this name asks the question, and goes on behind no cursor
abbrev pub IsQuestionWithoutCursor : Given → List ℕ → Question → Type 0
IsQuestionWithoutCursor given name question = (kind : MapSubcommand) × IsNameOf kind name
    × IsQuestion given kind question × (given.after ≡ None)

-- a text of these words, ` -- ` and any reference asks this question of that reference, to be
-- answered in this format
abbrev pub AskOfEach : List ℕ → Question → Format → Type 0
AskOfEach words question format = (text : List ℕ) (reference : Bor (List ℕ))
    → IsAtDashes text words reference.now
    → IsQueryOf text (Ok (Reference
    (request_for question.what question.tolerances reference (One None) format)))
