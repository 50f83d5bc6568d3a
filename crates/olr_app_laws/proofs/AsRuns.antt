-- The answer to a text on a map is what a run prints for it.
use Rattle.olr_app_laws.proofs.Common.{ℕ, List, None, Err, Bor, refl, Tolerances, RoadMap, IsSameOutput, ReadsMap, at_bytes}
use Rattle.olr_request.specs.Question.{asked_alone}
use Rattle.olr_app.proofs.Alone.{anywhere}
use Rattle.olr_app_laws.specs.RecordLaws.{AnswersAreOfRuns, FaultsAreOfRuns, IsSameAnswer, LawsBelow, OneAnswer}
use Rattle.olr_request.specs.declared.question.QuestionKind.{QuestionKind}
use Rattle.olr_request.specs.declared.question.QuestionKind.TheVariants.{Candidates, Match, Places, Why}

-- what is asked of a record is asked of a map
reads_map : (what : QuestionKind) (tolerances : Tolerances) (text : Bor (List ℕ))
    → ReadsMap (asked_alone what tolerances text)
reads_map (Candidates extras) tolerances text = tt
reads_map (Match size extras) tolerances text = tt
reads_map (Places limits order extras confidence) tolerances text = tt
reads_map (Why nearest shape) tolerances text = tt

same_answer : (what : QuestionKind) (tolerances : Tolerances) (text : Bor (List ℕ)) (road : RoadMap)
    (output answer : List ℕ) → IsSameOutput (asked_alone what tolerances text) road output answer
    → IsSameAnswer what road output answer
same_answer (Candidates extras) tolerances text road output answer is = is
same_answer (Match size extras) tolerances text road output answer is = is None refl
same_answer (Places limits order extras confidence) tolerances text road output answer is = is
same_answer (Why nearest shape) tolerances text road output answer is = is

module _ (laws : LawsBelow) where
  pub one_answer : OneAnswer
  one_answer road asked text sound =
      laws.one road (asked_alone asked.what asked.tolerances (at_bytes text)) sound

  pub answers_are_of_runs : AnswersAreOfRuns
  answers_are_of_runs nodes lines bans road asked text output answer is_map is its =
      same_answer _ _ _ _ _ _
      (laws.output nodes lines bans road _ output answer is_map (reads_map _ _ _) is
      (rw (anywhere _ _ _ _ _) its))

  pub faults_are_of_runs : FaultsAreOfRuns
  faults_are_of_runs nodes lines bans road asked text fault is_map =
      rw (← (anywhere asked.what asked.tolerances road text (Err fault)))
      (laws.fault nodes lines bans road _ fault is_map (reads_map asked.what asked.tolerances text))
