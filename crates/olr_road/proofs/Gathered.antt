-- Lines that are gathered: their points stay theirs when more points come behind them.
use Rattle.std.proofs.Math.Seq.{take-length, drop-append_seam}
use Rattle.olr_road.proofs.Common.{Degrees, Entry, coordinates_of, line_in, lines_in, ◌≡◌, ℕ, ◌-◌, ◌<◌, ◌≤◌, List, [], ◌∷◌, ◌++◌, map, length, take, drop, refl, ap, ◌∙◌, arith, slice_range, All, IsPermutation, length-append, length-drop, map-append, take-append-le, drop-append-le, length_permutation, All-permutation, All-head, All-tail, AreGathered, IsWithin, line_of}

-- a part of a list is that part of any longer one
range_kept : (points more : List Degrees) (start end : ℕ) → start < end → end ≤ length points
    → slice_range (points ++ more) start end ≡ slice_range points start end
range_kept points more start end order inside =
    grind (arith, drop-append-le, take-append-le, length-drop)

line_kept : (points more : List Degrees) (entry : Entry) → IsWithin points entry
    → line_in (points ++ more) entry ≡ line_in points entry
line_kept points more entry within = grind (arith, range_kept)

lines_kept : (points more : List Degrees) (entries : List Entry) → All (IsWithin points) entries
    → lines_in (points ++ more) entries ≡ lines_in points entries
lines_kept points more [] within = refl
lines_kept points more (entry ∷ entries) within = grind (
  arith,
  line_kept,
  All-head,
  All-tail,
  lines_kept points more entries (All-tail (IsWithin points) entry _ within),
)

module _ (points more : List Degrees) (entries : List Entry) (entry : Entry)
    (start : entry.start ≡ length points) (end : entry.end ≡ length (points ++ more)) where
  -- the points of one more line
  behind : slice_range (points ++ more) entry.start entry.end ≡ more
  behind =
      let size = length-append points more in
      ap (λ (n : ℕ). take (entry.end - entry.start) (drop n (points ++ more))) start
      ∙ ap (λ (l : List Degrees). take (entry.end - entry.start) l) (drop-append_seam points more)
      ∙ ap (λ (n : ℕ). take n more) (omega arith) ∙ take-length more

  pub pushed : AreGathered points entries → lines_in (points ++ more) (entries ++ entry ∷ [])
      ≡ lines_in points entries ++ line_of entry.line (map coordinates_of more) ∷ []
  pushed gathered = grind (arith, map-append, lines_kept, behind)

-- lines in another order
pub sorted_gather : (points : List Degrees) (old new : List Entry) → IsPermutation old new
    → AreGathered points old → AreGathered points new
sorted_gather points old new same gathered =
    let size = length_permutation old new same in
    record {
      within = All-permutation (IsWithin points) old new same gathered.within;
      room = omega (arith, gathered.room);
      at_most = omega (arith, gathered.at_most);
    }
