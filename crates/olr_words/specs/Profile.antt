-- The tolerances that stand for those which the words don't give. The numbers are this project's
-- choice.
use Rattle.std.specs.Prelude.{◌≡◌, ℕ}
use Rattle.olr_candidates.specs.Tolerances.{default_of}
use Rattle.olr_candidates.specs.Values as tolerance
use Rattle.olr_candidates.specs.declared.tolerances.Tolerance.{Tolerance}
use Rattle.olr_candidates.specs.declared.tolerances.Tolerance.TheVariants.{Bearing, Lowest, Percent, Radius}
use Rattle.olr_candidates.specs.declared.tolerances.Tolerances.{Tolerances}
use Rattle.olr_words.specs.declared.profile.Profile.{Profile}
use Rattle.olr_words.specs.declared.profile.Profile.TheVariants.{Feed, Program}

-- the value of each tolerance in a profile, in its unit
abbrev pub profile_value : Profile → Tolerance → ℕ
profile_value Program name = default_of name
profile_value Feed Radius = 75
profile_value Feed Bearing = 6
profile_value Feed Lowest = 4
profile_value Feed Percent = 15
profile_value Feed other = default_of other

-- tolerances with these values
abbrev pub AreOfProfile : Profile → Tolerances → Type 0
AreOfProfile profile tolerances =
    (name : Tolerance) → tolerance.value_of tolerances name ≡ profile_value profile name
