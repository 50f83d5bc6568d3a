-- What is written behind the features of a page.
use Rattle.std.specs.Prelude.{Option, codes}
use Rattle.arrayvec.specs.ArrayString.{ArrayString}
use Rattle.serde_json.specs.Data.{Data, member, no_members, object, string}
use Rattle.olr_text.specs.JsonValues.{or_null}
use Rattle.olr_detail.specs.GeoJson.{typed}

-- the text of a cursor, if there is one, and the type
abbrev pub members_object : Option ArrayString → Data
members_object next = object (
    member (codes "next") (or_null (λ (next : ArrayString). string next.bytes) next) (
    typed no_members))
