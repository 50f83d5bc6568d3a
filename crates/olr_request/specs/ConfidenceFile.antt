-- What a file for a confidence says.
use Rattle.std.specs.Prelude.{ℕ, ◌≤◌, ◌^◌, List, length}
use Rattle.olr_confidence.specs.File.{IsFileOf}
use Rattle.olr_confidence.specs.declared.confidence.Confidence.{Confidence}
use Rattle.olr_request.specs.declared.confidence_file.ConfidenceFile.{ConfidenceFile}
use Rattle.olr_request.specs.declared.confidence_file.ConfidenceFile.TheVariants.{Bad, Read}

-- these bytes say a confidence: they are those of its file, and 1 MiB at most
pub record SayConfidence (bytes : List ℕ) (confidence : Confidence) : Type 0 where
  pub at_most : length bytes ≤ 2 ^ 20
  pub is_file : IsFileOf bytes confidence

-- what a file of these bytes says
abbrev pub IsReadFrom : List ℕ → ConfidenceFile → Type 0
IsReadFrom bytes (Read confidence) = SayConfidence bytes confidence
IsReadFrom bytes Bad = (confidence : Confidence) → ¬ (SayConfidence bytes confidence)
