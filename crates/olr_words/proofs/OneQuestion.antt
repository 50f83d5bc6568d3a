-- What is asked with alike values is one, and so is why it is refused.
use mathlib.Core.Path.{fun_ext}
use Rattle.std.proofs.Common.{◌≡◌, ◌⊎◌, ◌∙◌, ap, sym, subst, refl, inl, inr, arith, ℕ, None, true, false, List, [], ◌∷◌, get_or}
use Rattle.std.specs.Prelude.{unwrap_or}
use Rattle.std.proofs.lemmas.Bool.{cases_eq, cases_lt}
use Rattle.std.proofs.Props.{props}
use Rattle.olr_candidates.proofs.Values.{in_range, same_name, same_tolerances}
use Rattle.olr_candidates.specs.Tolerances.{IsFirstOutOfRange, IsTolerance, order_of}
use Rattle.olr_candidates.specs.declared.tolerances.Tolerance.{Tolerance}
use Rattle.olr_candidates.specs.declared.tolerances.Tolerances.{Tolerances}
use Rattle.olr_places.specs.Limits as limit
use Rattle.olr_places.specs.Limits.{IsInRange}
use Rattle.olr_places.specs.declared.limits.PlaceLimit.{PlaceLimit}
use Rattle.olr_places.specs.declared.limits.PlaceLimit.TheVariants.{Apart, Look, Most, Within}
use Rattle.olr_places.specs.declared.limits.PlaceLimits.{PlaceLimits}
use Rattle.olr_request.specs.declared.fault.Fault.{Fault}
use Rattle.olr_request.specs.declared.fault.Fault.TheVariants.{AfterWithAll, BadNearest, BadNumber, BadPage, BadTolerance}
use Rattle.olr_request.specs.declared.question.QuestionKind.{QuestionKind}
use Rattle.olr_request.specs.declared.question.QuestionKind.TheVariants.{Candidates, Match, Places, Why}
use Rattle.olr_words.specs.Words.{AreLimits, AreTolerances, IsNearest, IsSize, IsRefusedRequest, IsRefusedWhat, IsWhat, number_of, size_of, value_of}
use Rattle.olr_words.specs.declared.words.Given.{Given}
use Rattle.olr_words.specs.declared.words.GivenNumbers.{GivenNumbers}
use Rattle.olr_words.specs.declared.words.MapSubcommand.{MapSubcommand}
use Rattle.olr_words.specs.declared.words.MapSubcommand.TheVariants as each
use Rattle.olr_words.proofs.OneGiven.{Alike}

-- ---- limits of places

abbrev LimitValue : PlaceLimit → Type 0
LimitValue number = (value : ℕ) × IsInRange number value

abbrev limit_value : PlaceLimits → PlaceLimit → ℕ
limit_value limits = limit.by_name limits.apart limits.within limits.look limits.most

abbrev limit_in_range : (limits : PlaceLimits) (number : PlaceLimit)
    → IsInRange number (limit_value limits number)
limit_in_range limits Apart = limits.apart_in_range
limit_in_range limits Within = limits.within_in_range
limit_in_range limits Look = limits.look_in_range
limit_in_range limits Most = limits.most_in_range

same_in_range : (number : PlaceLimit) (a b : LimitValue number) → a.0 ≡ b.0 → a ≡ b
same_in_range number a b same =
    let one : (value : ℕ) → IsProp (IsInRange number value) = λ value. hlevel props in
    let Same : ℕ → Type 0 = λ n. (is : IsInRange number n) → ◌≡◌ {A = LimitValue number} a (n, is) in
    subst Same same (λ is. ap (λ (known : IsInRange number a.0). (a.0, known)) (one a.0 a.1 is)) b.1

abbrev limits_made : ((number : PlaceLimit) → LimitValue number) → PlaceLimits
limits_made values = record {
  apart = (values Apart).0;
  within = (values Within).0;
  look = (values Look).0;
  most = (values Most).0;
  apart_in_range = (values Apart).1;
  within_in_range = (values Within).1;
  look_in_range = (values Look).1;
  most_in_range = (values Most).1;
}

abbrev each_limit : (limits : PlaceLimits) (number : PlaceLimit) → LimitValue number
each_limit limits number = (limit_value limits number, limit_in_range limits number)

same_limits : (a b : PlaceLimits)
    → ((number : PlaceLimit) → limit_value a number ≡ limit_value b number) → a ≡ b
same_limits a b same = ap limits_made
    (fun_ext λ number. same_in_range number (each_limit a number) (each_limit b number)
    (same number))

-- limits have the numbers that were given
limits_are : (given : GivenNumbers) (limits : PlaceLimits) → AreLimits given limits
    → (number : PlaceLimit) → limit_value limits number ≡ number_of given number
limits_are given limits are Apart = are.apart
limits_are given limits are Within = are.within
limits_are given limits are Look = are.look
limits_are given limits are Most = are.most

-- ---- the first that is out of range

pub first_tolerance : (values : Tolerance → ℕ) (a b : Tolerance) → IsFirstOutOfRange values a
    → IsFirstOutOfRange values b → a ≡ b
first_tolerance values a b is other = elim (cases_eq (order_of a) (order_of b)) [
  | inl same ↦ same_name b a same
  | inr differ ↦ elim (cases_lt (order_of a) (order_of b)) [
    | inl less ↦ absurd (is.beyond (other.before a less))
    | inr more ↦ absurd (other.beyond (is.before b (omega (arith, differ, more))))
  ]
]

abbrev numbers_in_order : List PlaceLimit
numbers_in_order = Apart ∷ Within ∷ Look ∷ Most ∷ []

number_at : (number : PlaceLimit) → get_or numbers_in_order (limit.order_of number) Apart ≡ number
number_at Apart = refl
number_at Within = refl
number_at Look = refl
number_at Most = refl

first_number : (values : PlaceLimit → ℕ) (a b : PlaceLimit) → limit.IsFirstOutOfRange values a
    → limit.IsFirstOutOfRange values b → a ≡ b
first_number values a b is other = elim (cases_eq (limit.order_of a) (limit.order_of b)) [
  | inl same ↦ sym (number_at a) ∙ (ap (λ n. get_or numbers_in_order n Apart) same ∙ number_at b)
  | inr differ ↦ elim (cases_lt (limit.order_of a) (limit.order_of b)) [
    | inl less ↦ absurd (is.beyond (other.before a less))
    | inr more ↦ absurd (other.beyond (is.before b (omega (arith, differ, more))))
  ]
]

-- ---- what is asked

pub one_tolerances : (g h : Given) → Alike g h → (a b : Tolerances) → AreTolerances g a
    → AreTolerances h b → a ≡ b
one_tolerances g h alike a b is other = same_tolerances a b
    (λ name. is.each name
    ∙ (ap (λ (v : Tolerance → ℕ). v name) alike.values ∙ sym (other.each name)))

pub one_what : (g h : Given) → Alike g h → (kind : MapSubcommand) (a b : QuestionKind)
    → IsWhat g kind a → IsWhat h kind b → a ≡ b
one_what g h alike each.Candidates a b is other =
    is ∙ (ap (λ extras. Candidates extras) alike.extras ∙ sym other)
one_what g h alike each.Match a b is other = is.0
    ∙ ((λ k. Match (unwrap_or (alike.page k) 10) (alike.extras k)) ∙ sym other.0)
one_what g h alike each.Places a b is other =
    let limits : is.0 ≡ other.0 = same_limits is.0 other.0 (λ number.
    limits_are g.numbers is.0 is.1 number
    ∙ (ap (λ numbers. number_of numbers number) alike.numbers
    ∙ sym (limits_are h.numbers other.0 other.1 number))) in
    is.2 ∙ ((λ k. Places (limits k) (alike.order k) (alike.extras k) None) ∙ sym other.2)
one_what g h alike each.Why a b is other = is.0
    ∙ ((λ k. Why (unwrap_or (alike.nearest k) 8) (alike.extras k).shape) ∙ sym other.0)

-- ---- why it is refused

-- the first tolerance is out of its range; or the tolerances are in range, and what is asked isn't
abbrev pub RefusedBy : Given → MapSubcommand → Fault → Type 0
RefusedBy g kind why = ((name : Tolerance) × (why ≡ BadTolerance name)
    × IsFirstOutOfRange (value_of g) name)
    ⊎ (((tolerances : Tolerances) × AreTolerances g tolerances) × IsRefusedWhat g kind why)

pub refused_by : (g : Given) (kind : MapSubcommand) (why : Fault) → g.all ≡ false
    → IsRefusedRequest g kind why → RefusedBy g kind why
refused_by g kind AfterWithAll one is = let no : true ≡ false = sym is.0 ∙ one in cc
refused_by g kind (BadTolerance name) one is = inl (name, refl, is.1)
refused_by g kind _ one is = inr is.1

match_refused : (g : Given) (why : Fault) → IsRefusedWhat g each.Match why
    → why ≡ BadPage (size_of g)
match_refused g (BadPage size) is = ap (λ n. BadPage n) is.0
match_refused g _ is = absurd is

places_refused : (g : Given) (why : Fault) → IsRefusedWhat g each.Places why
    → (number : PlaceLimit) × (why ≡ BadNumber number)
    × limit.IsFirstOutOfRange (number_of g.numbers) number
places_refused g (BadNumber number) is = (number, refl, is)
places_refused g _ is = absurd is

why_refused : (g : Given) (why : Fault) → IsRefusedWhat g each.Why why → why ≡ BadNearest
why_refused g BadNearest is = refl
why_refused g _ is = absurd is

one_refused_what : (g h : Given) → Alike g h → (kind : MapSubcommand) (a b : Fault)
    → IsRefusedWhat g kind a → IsRefusedWhat h kind b → a ≡ b
one_refused_what g h alike each.Candidates a b is other = absurd is
one_refused_what g h alike each.Match a b is other =
    match_refused g a is ∙ (ap (λ page. BadPage (unwrap_or page 10)) alike.page
    ∙ sym (match_refused h b other))
one_refused_what g h alike each.Places a b is other =
    let p = places_refused g a is in
    let q = places_refused h b other in
    p.1 ∙ (ap (λ n. BadNumber n) (first_number (number_of g.numbers) p.0 q.0 p.2
    (subst (λ numbers. limit.IsFirstOutOfRange (number_of numbers) q.0) (sym alike.numbers) q.2))
    ∙ sym q.1)
one_refused_what g h alike each.Why a b is other = why_refused g a is ∙ sym (why_refused h b other)

-- tolerances in range and one that is not exclude each other
pub not_both : (g h : Given) → Alike g h → (tolerances : Tolerances) (name : Tolerance)
    → AreTolerances g tolerances → IsFirstOutOfRange (value_of h) name → ⊥
not_both g h alike tolerances name are first = first.beyond (subst (IsTolerance name)
    (are.each name ∙ ap (λ (v : Tolerance → ℕ). v name) alike.values) (in_range tolerances name))

pub one_refused : (g h : Given) → Alike g h → Alike h g → (kind : MapSubcommand) (a b : Fault)
    → RefusedBy g kind a → RefusedBy h kind b → a ≡ b
one_refused g h alike back kind a b (inl is) (inl other) =
    is.1 ∙ (ap (λ n. BadTolerance n) (first_tolerance (value_of g) is.0 other.0 is.2
    (subst (λ v. IsFirstOutOfRange v other.0) (sym alike.values) other.2)) ∙ sym other.1)
one_refused g h alike back kind a b (inl is) (inr other) =
    absurd (not_both h g back other.0.0 is.0 other.0.1 is.2)
one_refused g h alike back kind a b (inr is) (inl other) =
    absurd (not_both g h alike is.0.0 other.0 is.0.1 other.2)
one_refused g h alike back kind a b (inr is) (inr other) =
    one_refused_what g h alike kind a b is.1 other.1

-- what is asked isn't refused
what_or_refused : (g h : Given) → Alike g h → (kind : MapSubcommand) (what : QuestionKind)
    (why : Fault) → IsWhat g kind what → IsRefusedWhat h kind why → ⊥
what_or_refused g h alike each.Candidates what why is other = other
what_or_refused g h alike each.Match what (BadPage size) is other =
    other.1 (subst IsSize (sym other.0)
    (subst (λ page. IsSize (unwrap_or page 10)) alike.page is.1))
what_or_refused g h alike each.Match what _ is other = other
what_or_refused g h alike each.Places what (BadNumber number) is other =
    other.beyond (subst (IsInRange number) (limits_are g.numbers is.0 is.1 number
    ∙ ap (λ numbers. number_of numbers number) alike.numbers) (limit_in_range is.0 number))
what_or_refused g h alike each.Places what _ is other = other
what_or_refused g h alike each.Why what BadNearest is other =
    other (subst (λ nearest. IsNearest (unwrap_or nearest 8)) alike.nearest is.1)
what_or_refused g h alike each.Why what _ is other = other

pub asked_or_refused : (g h : Given) → Alike g h → (kind : MapSubcommand) (tolerances : Tolerances)
    (what : QuestionKind) (why : Fault) → AreTolerances g tolerances → IsWhat g kind what
    → RefusedBy h kind why → ⊥
asked_or_refused g h alike kind tolerances what why are is (inl first) =
    not_both g h alike tolerances first.0 are first.2
asked_or_refused g h alike kind tolerances what why are is (inr other) =
    what_or_refused g h alike kind what why is other.1
