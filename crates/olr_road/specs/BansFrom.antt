-- The bans on turns from one line.
use Rattle.std.specs.Prelude.{◌≡◌, ℕ, List, map, All, Contains}
use Rattle.std.specs.List.Sorted.{IsStrictlyIncreasing}
use Rattle.olr_road.specs.declared.ban.Ban.{Ban}

-- just those of some bans that are on turns from this line, by the rising ranks of the lines that
-- may not follow
pub record AreBansFrom (bans : List Ban) (line : ℕ) (found : List Ban) : Type 0 where
  pub only : All (λ ban. Contains bans ban × (ban.from ≡ line)) found
  pub each : (ban : Ban) → Contains bans ban → ban.from ≡ line → Contains found ban
  pub rising : IsStrictlyIncreasing (map (λ (ban : Ban). ban.to) found)
