-- What a command line asks for.
use Rattle.std.specs.Prelude.{Option}
use Rattle.olr_request.specs.Question.{question_with_confidence}
use Rattle.olr_request.specs.declared.confidence_file.ConfidenceFile.{ConfidenceFile}
use Rattle.olr_words.specs.declared.asked.Records.{Records}
use Rattle.olr_words.specs.declared.asked.Records.TheVariants.{References, Requests}

-- the same records, with the file of this confidence where they ask for places
abbrev pub records_with_confidence : Option ConfidenceFile → Records → Records
records_with_confidence confidence (References question) =
    References (question_with_confidence confidence question)
records_with_confidence confidence (Requests other) = Requests confidence
