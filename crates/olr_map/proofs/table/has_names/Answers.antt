use Rattle.olr_map.proofs.Common.{◌≡◌, length, arith, length-map}
use Rattle.olr_map.proofs.Headers.{bytes_of, each_field}
use Rattle.olr_map.proofs.table.has_names.Goals as goal

pub returns : goal.returns
returns c =
    let names = length-map c.args.names.now bytes_of in
    let size : length c.args.row.now ≡ length c.args.names.now = grind (arith) in
    each_field _ _ (omega arith) (λ place inside. c.loop-place.invariant place (omega arith))
