-- The request that asks a question of a text alone: it speaks of the bytes of the text alone.
use Rattle.olr_app.proofs.Common.{RoadMap, Tolerances, Fault, ◌≡◌, ℕ, List, Bor, Ok, Err, refl, Result, IsAnswerOfMany, at_bytes}
use Rattle.olr_request.specs.Question.{asked_alone}
use Rattle.olr_request.specs.declared.question.QuestionKind.{QuestionKind}
use Rattle.olr_request.specs.declared.question.QuestionKind.TheVariants.{Candidates, Match, Places, Why}

-- a text is answered by its bytes, wherever it lies
pub anywhere : (what : QuestionKind) (tolerances : Tolerances) (road : RoadMap) (text : Bor (List ℕ))
    (answer : Result (List ℕ) Fault)
    → IsAnswerOfMany road (asked_alone what tolerances text) answer
    ≡ IsAnswerOfMany road (asked_alone what tolerances (at_bytes text.now)) answer
anywhere (Candidates extras) tolerances road text (Ok found) = refl
anywhere (Candidates extras) tolerances road text (Err why) = refl
anywhere (Match size extras) tolerances road text (Ok found) = refl
anywhere (Match size extras) tolerances road text (Err why) = refl
anywhere (Places limits order extras confidence) tolerances road text (Ok found) = refl
anywhere (Places limits order extras confidence) tolerances road text (Err why) = refl
anywhere (Why nearest shape) tolerances road text (Ok found) = refl
anywhere (Why nearest shape) tolerances road text (Err why) = refl
