use Rattle.std.proofs.Common.{arith, refl}
use Rattle.std.proofs.lemmas.Option.{slice_get_past}
use Rattle.olr_shape.specs.Position.{spot_on}
use Rattle.olr_shape.proofs.position.spot_on.Goals as goal

pub returns-then-place-count : goal.returns-then-place-count
unfolding spot_on
returns-then-place-count c = rw c.measured.ensures c.spot_at.ensures

pub returns-else-place-count : goal.returns-else-place-count
unfolding spot_on
returns-else-place-count c =
    let none = slice_get_past c.args.map.now.lines c.args.place.line (omega arith) in
    rw none refl
