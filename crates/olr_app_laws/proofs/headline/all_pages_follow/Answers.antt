use Rattle.olr_app_laws.proofs.HeadlineAll as all
use Rattle.olr_app_laws.proofs.headline.all_pages_follow.Goals as goal

pub returns-clause-pages : goal.returns-clause-pages
returns-clause-pages c = all.all_pages c.laws_below.ensures

pub returns-clause-geojson : goal.returns-clause-geojson
returns-clause-geojson c = all.all_as_one
