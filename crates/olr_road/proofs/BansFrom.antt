-- The bans of a first rank are those on turns from the line of that rank.
use Rattle.olr_index.specs.Pairs.{first_of, AreOfFirst}
use Rattle.olr_road.proofs.Common.{Ban, RoadLine, ban_key, AreSoundBans, ◌≡◌, ℕ, ◌+◌, ◌*◌, ◌/◌, ◌<◌, List, length, ◌∙◌, arith, Contains, length-map, get_or-map, All-contains, slice_get_within}
use Rattle.olr_road.specs.BansFrom.{AreBansFrom}

first_of_pair : (from to : ℕ) → to < 4294967296 → (from * 4294967296 + to) / 4294967296 ≡ from
first_of_pair from to small = omega arith

module _ (lines : List RoadLine) (bans : List Ban) (sound : AreSoundBans lines bans)
    (few : length lines < 4294967296) where
  first_is : (ban : Ban) → Contains bans ban → first_of (ban_key ban) ≡ ban.from
  first_is ban there = grind (arith, All-contains, first_of_pair, slice_get_within)

  pub bans_of_first : (line : ℕ) (found : List Ban) → AreOfFirst ban_key bans line found
      → AreBansFrom bans line found
  bans_of_first line found is = record {
    only = λ k d inside.
        let at = is.only k d inside in
        (at.0, omega (arith, first_is _ at.0));
    each = λ ban there from. is.each ban there (first_is _ there ∙ from);
    rising = λ k inside.
        let d : Ban = record { from = 0; to = 0 } in
        let tos = length-map found (λ (b : Ban). b.to) in
        let keys = length-map found ban_key in
        let here = is.only k d (omega arith) in
        let next = is.only (k + 1) d (omega arith) in
        omega (
          arith,
          is.rising k (omega arith),
          get_or-map ban_key found k d 0 (omega arith),
          get_or-map ban_key found (k + 1) d 0 (omega arith),
          get_or-map (λ (b : Ban). b.to) found k d 0 (omega arith),
          get_or-map (λ (b : Ban). b.to) found (k + 1) d 0 (omega arith),
          first_is _ here.0,
          first_is _ next.0,
        );
  }
