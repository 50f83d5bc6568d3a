-- The map without its bans, for requests that ask of it too.
use Rattle.std.proofs.Props.{props}
use Rattle.std.specs.Prelude.{⊤, IfSome, Option, None, Some}
use Rattle.olr_app.specs.Common.{RoadMap}
use Rattle.olr_why.specs.Remedies.{AreUnbanned, IsUnbanned}
use Rattle.olr_request.specs.declared.request.Request.{Request}
use Rattle.olr_request.specs.declared.request.Request.TheVariants.{Why}

-- where reasons are asked for, this is the map without its bans, where the map has bans
abbrev pub IsUnbannedFor : Request → RoadMap → Option RoadMap → Type 0
IsUnbannedFor (Why asked) road unbanned = AreUnbanned road unbanned
IsUnbannedFor other road unbanned = ⊤

-- a map that was made before is the one without bans
abbrev pub IsUnbannedIfMade : RoadMap → Option RoadMap → Type 0
IsUnbannedIfMade road made = IfSome made (IsUnbanned road)

-- it holds in one way at most
pub IsUnbannedIfMade-prop : (road : RoadMap) (made : Option RoadMap)
    → IsProp (IsUnbannedIfMade road made)
IsUnbannedIfMade-prop road None = Prim.hlevel props
IsUnbannedIfMade-prop road (Some other) = Prim.hlevel props
