-- What lies between coordinates in range is in range.
use Rattle.std.proofs.Common.{◌≡◌, ℤ, ◌≤ℤ◌, arith, to_z, of_z, w32}
use Rattle.std.proofs.lemmas.Int.{by_lt_z, ints}
use Rattle.olr_base.specs.Range.{IsLatitude, IsLongitude}
use Rattle.olr_metric.specs.Segment.{IsBetween}

low : (least p q x : ℤ) → least ≤ℤ p → least ≤ℤ q → IsBetween p q x → least ≤ℤ x
low least p q x p_is q_is is = grind (arith, by_lt_z, ints)

high : (most p q x : ℤ) → p ≤ℤ most → q ≤ℤ most → IsBetween p q x → x ≤ℤ most
high most p q x p_is q_is is = grind (arith, by_lt_z, ints)

lon_is : (z : ℤ) → IsLongitude z → to_z w32 (of_z w32 z) ≡ z
lon_is z is = omega (arith, ints)

lat_is : (z : ℤ) → IsLatitude z → to_z w32 (of_z w32 z) ≡ z
lat_is z is = omega (arith, ints)

pub longitude_between : (p q x : ℤ) → IsLongitude p → IsLongitude q
    → IsBetween (to_z w32 (of_z w32 p)) (to_z w32 (of_z w32 q)) x
    → IsLongitude (to_z w32 (of_z w32 x))
longitude_between p q x p_is q_is between =
    let its : IsBetween p q x = rw (lon_is p p_is, lon_is q q_is) at between in
    let is : IsLongitude x = record {
      west = low _ p q x p_is.west q_is.west its;
      east = high _ p q x p_is.east q_is.east its;
    } in
    rw (lon_is x is) is

pub latitude_between : (p q x : ℤ) → IsLatitude p → IsLatitude q
    → IsBetween (to_z w32 (of_z w32 p)) (to_z w32 (of_z w32 q)) x
    → IsLatitude (to_z w32 (of_z w32 x))
latitude_between p q x p_is q_is between =
    let its : IsBetween p q x = rw (lat_is p p_is, lat_is q q_is) at between in
    let is : IsLatitude x = record {
      south = low _ p q x p_is.south q_is.south its;
      north = high _ p q x p_is.north q_is.north its;
    } in
    rw (lat_is x is) is
