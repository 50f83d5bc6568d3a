use Rattle.std.proofs.Common.{refl}
use Rattle.olr_likely.proofs.extending.extended_place.Goals as goal

pub returns : goal.returns
returns c = record {
  detail = c.in_ok-detail.detail;
  told = c.in_ok-told.told;
  is_detail = rw (← c.deref.ensures.value) c.in_ok-detail.ensures;
  is_told = c.in_ok-told.ensures;
  extended_is = rw c.kept_if-detail.ensures refl;
}
