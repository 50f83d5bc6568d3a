-- What the words of a command line ask for.
use Rattle.std.specs.Prelude.{◌≡◌, ℕ, ◌≤◌, List, codes, None, IsSome, get_or, unwrap_or, true, if◌then◌else◌}
use Rattle.olr_request.specs.Question.{request_for}
use Rattle.olr_request.specs.declared.fault.Fault.{Fault}
use Rattle.olr_request.specs.declared.fault.Fault.TheVariants.{AfterWithAll, BadNearest, BadNumber, BadPage, BadTolerance}
use Rattle.olr_request.specs.declared.question.Question.{Question}
use Rattle.olr_request.specs.declared.question.QuestionKind.{QuestionKind}
use Rattle.olr_request.specs.declared.question.QuestionKind.TheVariants.{Candidates, Match, Places, Why}
use Rattle.olr_request.specs.declared.request.Pages.{Pages}
use Rattle.olr_request.specs.declared.request.Pages.TheVariants as pages
use Rattle.olr_request.specs.declared.request.Request.{Request}
use Rattle.olr_candidates.specs.Tolerances.{IsFirstOutOfRange, order_of}
use Rattle.olr_candidates.specs.Values as tolerance
use Rattle.olr_candidates.specs.declared.tolerances.Tolerance.{Tolerance}
use Rattle.olr_candidates.specs.declared.tolerances.Tolerances.{Tolerances}
use Rattle.olr_places.specs.Limits.{IsFirstOutOfRange as IsFirstNumberOutOfRange}
use Rattle.olr_places.specs.declared.limits.PlaceLimit.{PlaceLimit}
use Rattle.olr_places.specs.declared.limits.PlaceLimit.TheVariants.{Apart, Look, Most, Within}
use Rattle.olr_places.specs.declared.limits.PlaceLimits.{PlaceLimits}
use Rattle.olr_words.specs.Profile.{profile_value}
use Rattle.olr_words.specs.declared.words.Given.{Given}
use Rattle.olr_words.specs.declared.words.GivenNumbers.{GivenNumbers}
use Rattle.olr_words.specs.declared.words.MapSubcommand.{MapSubcommand}
use Rattle.olr_words.specs.declared.words.MapSubcommand.TheVariants as each

-- ---- tolerances

-- the value of each tolerance, in its unit: the given one, else that of the profile
abbrev pub value_of : Given → Tolerance → ℕ
value_of given name =
    unwrap_or (get_or given.tolerances (order_of name) None) (profile_value given.profile name)

-- tolerances with these values
pub record AreTolerances (given : Given) (tolerances : Tolerances) : Type 0 where
  pub each : (name : Tolerance) → tolerance.value_of tolerances name ≡ value_of given name

-- why tolerances are refused: the first that is out of its range
abbrev pub IsRefusedTolerance : Given → Fault → Type 0
IsRefusedTolerance given (BadTolerance name) = IsFirstOutOfRange (value_of given) name
IsRefusedTolerance given other = ⊥

-- ---- numbers for places

-- the value of each: the given one, else its default; apart in decimetres, within in penalty
-- points, look in matchings, most in places
abbrev pub number_of : GivenNumbers → PlaceLimit → ℕ
number_of given Apart = unwrap_or given.apart 750
number_of given Within = unwrap_or given.within 30
number_of given Look = unwrap_or given.look 1000
number_of given Most = unwrap_or given.most 10

-- limits with these values
pub record AreLimits (given : GivenNumbers) (limits : PlaceLimits) : Type 0 where
  pub apart : limits.apart ≡ number_of given Apart
  pub within : limits.within ≡ number_of given Within
  pub look : limits.look ≡ number_of given Look
  pub most : limits.most ≡ number_of given Most

-- why numbers are refused: the first that is out of its range
abbrev pub IsRefusedNumber : GivenNumbers → Fault → Type 0
IsRefusedNumber given (BadNumber number) = IsFirstNumberOutOfRange (number_of given) number
IsRefusedNumber given other = ⊥

-- ---- pages

-- which pages are asked for
abbrev pub pages_of : Given → Pages
pages_of given = if given.all then pages.All else pages.One given.after

-- a cursor and all pages are asked for
abbrev pub AreBoth : Given → Type 0
AreBoth given = (given.all ≡ true) × IsSome given.after

-- how many matchings a page has: as given, else 10
abbrev pub size_of : Given → ℕ
size_of given = unwrap_or given.page 10

-- a page size
abbrev pub IsSize : ℕ → Type 0
IsSize size = (1 ≤ size) × (size ≤ 1000)

-- ---- lines near a point

-- how many of the lines nearest to each point are printed: as given, else 8
abbrev pub nearest_of : Given → ℕ
nearest_of given = unwrap_or given.nearest 8

-- such a number
abbrev pub IsNearest : ℕ → Type 0
IsNearest count = count ≤ 64

-- ---- subcommands

-- the name of a subcommand that asks of a map
abbrev pub IsNameOf : MapSubcommand → List ℕ → Type 0
IsNameOf each.Candidates name = name ≡ codes "candidates"
IsNameOf each.Match name = name ≡ codes "match"
IsNameOf each.Places name = name ≡ codes "places"
IsNameOf each.Why name = name ≡ codes "why"

-- what a subcommand asks of a reference, with what is given
abbrev pub IsWhat : Given → MapSubcommand → QuestionKind → Type 0
IsWhat given each.Candidates what = what ≡ Candidates given.extras
IsWhat given each.Match what =
    (what ≡ Match (size_of given) given.extras) × IsSize (size_of given)
IsWhat given each.Places what = (limits : PlaceLimits) × AreLimits given.numbers limits
    × (what ≡ Places limits given.order given.extras None)
IsWhat given each.Why what =
    (what ≡ Why (nearest_of given) given.extras.shape) × IsNearest (nearest_of given)

-- why that is refused: the page size, the first number for places, or the number of lines
abbrev pub IsRefusedWhat : Given → MapSubcommand → Fault → Type 0
IsRefusedWhat given each.Match (BadPage size) =
    (size ≡ size_of given) × (IsSize size → ⊥)
IsRefusedWhat given each.Places why = IsRefusedNumber given.numbers why
IsRefusedWhat given each.Why BadNearest = IsNearest (nearest_of given) → ⊥
IsRefusedWhat given other why = ⊥

-- the question of a subcommand
pub record IsQuestion (given : Given) (subcommand : MapSubcommand) (question : Question) : Type 0
  where
    pub tolerances : AreTolerances given question.tolerances
    pub what : IsWhat given subcommand question.what

-- why it is refused: the first tolerance that is out of its range; else what is asked
abbrev pub IsRefusedQuestion : Given → MapSubcommand → Fault → Type 0
IsRefusedQuestion given subcommand (BadTolerance name) =
    IsRefusedTolerance given (BadTolerance name)
IsRefusedQuestion given subcommand other =
    ((tolerances : Tolerances) × AreTolerances given tolerances)
    × IsRefusedWhat given subcommand other

-- what a subcommand asks of a reference on a map
pub record IsRequest (given : Given) (subcommand : MapSubcommand) (request : Request) : Type 0 where
  pub question : Question
  pub is : IsQuestion given subcommand question
  pub one_of_both : AreBoth given → ⊥
  pub asks : request ≡ request_for question.what question.tolerances given.text (pages_of given)
      given.format

-- why it is refused: a cursor with all pages; else its question
abbrev pub IsRefusedRequest : Given → MapSubcommand → Fault → Type 0
IsRefusedRequest given subcommand AfterWithAll = AreBoth given
IsRefusedRequest given subcommand other =
    (AreBoth given → ⊥) × IsRefusedQuestion given subcommand other
