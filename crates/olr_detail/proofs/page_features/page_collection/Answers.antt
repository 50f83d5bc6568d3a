use Rattle.std.proofs.Common.{ap, option_map, refl}
use Rattle.serde_json.specs.Data.{Data, member, object}
use Rattle.std.specs.Prelude.{codes}
use Rattle.olr_report.proofs.ShownPage.{same_next}
use Rattle.olr_detail.specs.GeoJson.{page_members, typed}
use Rattle.serde_json.specs.Data.{no_members}
use Rattle.olr_detail.proofs.Features.{not_empty}
use Rattle.olr_detail.proofs.page_features.page_collection.Goals as goal

pub returns : goal.returns
returns c = λ all is.
    let next = option_map (λ key. key.now) c.args.next in
    let mark = option_map (λ mark. mark.now) c.args.mark in
    c.in_ok-text.ensures all (page_members next mark) (not_empty _ _ _)
    (ap (λ (value : Data). object (member (codes "next") value (typed no_members)))
    (same_next _ c.args.next next mark c.next_cursor.ensures refl)) is
