use Rattle.olr_text.proofs.SentTexts.{text_of}
use Rattle.olr_text.proofs.to_json.to_json_text.Goals as goal

pub returns : goal.returns
unfolding lib.Utf8.encode
returns g c =
    let events = c.in-Ok.ensures.events in text_of _ events.0 _ events.1 events.2 c.requires
