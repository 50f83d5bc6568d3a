-- The request that asks a question of the reference of a text.
use Rattle.std.specs.Prelude.{ℕ, List, Option, None}
use Rattle.std.specs.Borrow.{Bor}
use Rattle.olr_candidates.specs.declared.tolerances.Tolerances.{Tolerances}
use Rattle.olr_request.specs.declared.confidence_file.ConfidenceFile.{ConfidenceFile}
use Rattle.olr_request.specs.declared.question.Question.{Question}
use Rattle.olr_request.specs.declared.question.QuestionKind.{QuestionKind}
use Rattle.olr_request.specs.declared.question.QuestionKind.TheVariants.{Candidates, Match, Places, Why}
use Rattle.olr_request.specs.declared.request.Format.{Format}
use Rattle.olr_request.specs.declared.request.Format.TheVariants.{Json}
use Rattle.olr_request.specs.declared.request.Pages.{Pages}
use Rattle.olr_request.specs.declared.request.Pages.TheVariants.{One}
use Rattle.olr_request.specs.declared.request.Request.{Request}
use Rattle.olr_request.specs.declared.request.Request.TheVariants as request

-- the request, with these pages where it asks for matchings
abbrev pub request_for : QuestionKind → Tolerances → Bor (List ℕ) → Pages → Format → Request
request_for (Candidates extras) tolerances text pages format =
    request.Candidates text tolerances extras format
request_for (Match size extras) tolerances text pages format = request.Match (record {
  text = text;
  tolerances = tolerances;
  size = size;
  pages = pages;
  extras = extras;
  format = format;
})
request_for (Places limits order extras confidence) tolerances text pages format = request.Places (record {
  text = text;
  tolerances = tolerances;
  limits = limits;
  order = order;
  extras = extras;
  confidence = confidence;
  format = format;
})
request_for (Why nearest shape) tolerances text pages format = request.Why (record {
  text = text;
  tolerances = tolerances;
  nearest = nearest;
  shape = shape;
  format = format;
})

-- The request by which a run is asked for the same of a text alone, as JSON: of matchings the first
-- page.
abbrev pub asked_alone : QuestionKind → Tolerances → Bor (List ℕ) → Request
asked_alone what tolerances text = request_for what tolerances text (One None) Json

-- ---- a confidence

-- the same, with the file of this confidence where places are asked for
abbrev pub kind_with_confidence : Option ConfidenceFile → QuestionKind → QuestionKind
kind_with_confidence confidence (Places limits order extras other) =
    Places limits order extras confidence
kind_with_confidence confidence other = other

-- the same question
abbrev pub question_with_confidence : Option ConfidenceFile → Question → Question
question_with_confidence confidence question =
    record question { what = kind_with_confidence confidence question.what }
