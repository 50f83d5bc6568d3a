-- What words ask of the legs of a matching.
use Rattle.std.specs.Prelude.{◌≡◌, ℕ, ◌≤◌, Result, Ok, Err, unwrap_or}
use Rattle.olr_candidates.specs.declared.tolerances.Tolerances.{Tolerances}
use Rattle.olr_request.specs.declared.fault.Fault.{Fault}
use Rattle.olr_request.specs.declared.fault.Fault.TheVariants.{BadNear, BadTolerance}
use Rattle.olr_request.specs.declared.request.LegsRequest.{LegsRequest}
use Rattle.olr_words.specs.Words.{AreTolerances, IsRefusedTolerance}
use Rattle.olr_words.specs.declared.words.Given.{Given}

-- by how many thousandths another path of a leg may be longer: as given, else by 1
abbrev pub near_of : Given → ℕ
near_of given = unwrap_or given.near 1

-- such a share
abbrev pub IsNearShare : ℕ → Type 0
IsNearShare share = share ≤ 100

-- the legs that are asked for, by what is given
pub record AreLegsAsked (given : Given) (asked : LegsRequest) : Type 0 where
  pub text : asked.text ≡ given.text
  pub tolerances : AreTolerances given asked.tolerances
  pub at : asked.at ≡ given.at
  pub near : asked.near ≡ near_of given
  pub in_range : IsNearShare (near_of given)
  pub format : asked.format ≡ given.format

-- why that is refused: the first tolerance that is out of its range; else the share
abbrev pub AreRefusedLegs : Given → Fault → Type 0
AreRefusedLegs given (BadTolerance name) = IsRefusedTolerance given (BadTolerance name)
AreRefusedLegs given BadNear =
    ((tolerances : Tolerances) × AreTolerances given tolerances) × ¬ (IsNearShare (near_of given))
AreRefusedLegs given other = ⊥

-- what is asked, or why it is refused
abbrev pub AreLegs : Given → Result LegsRequest Fault → Type 0
AreLegs given (Ok asked) = AreLegsAsked given asked
AreLegs given (Err why) = AreRefusedLegs given why
