use Rattle.olr_request.proofs.confidence_file.ConfidenceFile.read.Goals as goal

pub returns-in-Err-Bad : goal.returns-in-Err-Bad
returns-in-Err-Bad c confidence says =
    c.in-Err-Bad.ensures.bad c.in-Err-Bad.field-0-is confidence says.is_file
