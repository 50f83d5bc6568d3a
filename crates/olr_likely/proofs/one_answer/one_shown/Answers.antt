use Rattle.olr_likely.proofs.OneAnswer.{one_geojson, one_json, one_text}
use Rattle.olr_likely.proofs.one_answer.one_shown.Goals as goal

pub returns-clause-text : goal.returns-clause-text
returns-clause-text c = one_text c.laws_below.ensures

pub returns-clause-json : goal.returns-clause-json
returns-clause-json c = one_json c.laws_below.ensures

pub returns-clause-geojson : goal.returns-clause-geojson
returns-clause-geojson c = one_geojson c.laws_below.ensures
