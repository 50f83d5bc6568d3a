-- The places that are shown of all that were looked at, in the likely order, have one list of values:
-- no two places have the same rank.
use Rattle.std.proofs.Common.{◌≡◌, ℕ, ◌+◌, ◌*◌, ◌<◌, ◌⊎◌, Bool, ◌||◌, List, [], ◌∷◌, length, map, filter, take, min, nat_le, Option, None, Some, refl, sym, subst, ap, ◌∙◌, inl, inr, arith}
use Rattle.std.proofs.lemmas.Bool.{cases_Bool}
use Rattle.std.proofs.lemmas.List.{get_or-map, length-map, take-map}
use Rattle.std.proofs.lemmas.List.Sorted.{Contains-permutation, IsPermutation-map, IsPermutation-sym}
use Rattle.std.specs.Option.{option_map_or}
use Rattle.std.specs.Prelude.{AllPairs, Contains, IsPermutation, find, nat_lt, option_map, slice_get}
use Rattle.olr_base.proofs.Rising.{same_list}
use Rattle.olr_keys.specs.Key.{KeyValue}
use Rattle.olr_places.specs.declared.ending.Ending.{Ending}
use Rattle.olr_places.specs.declared.ending.Ending.TheVariants.{Beyond}
use Rattle.olr_places.specs.declared.limits.PlaceLimits.{PlaceLimits}
use Rattle.olr_likely.specs.Answer.{count_listed, ending_within, is_cut, is_listed, second_gap}
use Rattle.olr_likely.specs.Order.{AreInLikelyOrder, AreShown, is_shown, least_cost}
use Rattle.olr_likely.specs.declared.ranked.RankedPlace.{RankedPlace}
use Rattle.olr_likely.proofs.Values.{RankedValue, ranked_value, same_parts}

-- ---- lists of values

-- those that pass a test of their values
pub kept_values : {X Y : Type 0} (f : X → Y) (test : Y → Bool) (xs : List X)
    → map f (filter (λ x. test (f x)) xs) ≡ filter test (map f xs)
kept_values f test [] = refl
kept_values f test (x ∷ xs) =
    let rest = kept_values f test xs in
    elim (cases_Bool (test (f x))) [
      | inl passes ↦ rw passes (λ k. f x ∷ rest k)
      | inr fails ↦ rw fails rest
    ]

-- what holds of each two holds of their values
pairs_of_values : {X Y : Type 0} (f : X → Y) (R : Y → Y → Type 0) (xs : List X)
    → AllPairs (λ a b. R (f a) (f b)) xs → AllPairs R (map f xs)
pairs_of_values f R [] all i j d less inside = absurd (omega arith)
pairs_of_values f R (x ∷ xs) all i j d less inside =
    let within : j < length (x ∷ xs) = omega (arith, inside, length-map (x ∷ xs) f) in
    rw (get_or-map f (x ∷ xs) i x d (omega (arith, within, less)), get_or-map f (x ∷ xs) j x d within)
    (all i j x less within)

-- ---- the likely order

abbrev IsLikelierValue : RankedValue → RankedValue → Type 0
IsLikelierValue one other = (one.likely.cost < other.likely.cost)
    ⊎ ((one.likely.cost ≡ other.likely.cost) × (one.rank < other.rank))

one_way : (one other : RankedValue) → IsLikelierValue one other → IsLikelierValue other one → ⊥
one_way one other (inl less) (inl more) = omega arith
one_way one other (inl less) (inr more) = omega (arith, more.0)
one_way one other (inr less) (inl more) = omega (arith, less.0)
one_way one other (inr less) (inr more) = omega (arith, less.1, more.1)

-- a value is in one order where it is in the other one
module _ (ones others : List RankedPlace) (same : map ranked_value ones ≡ map ranked_value others)
  where
    in_other : (ordered reordered : List RankedPlace) → IsPermutation ones ordered
        → IsPermutation others reordered → (value : RankedValue)
        → Contains (map ranked_value ordered) value → Contains (map ranked_value reordered) value
    in_other ordered reordered is its value has =
        let back = IsPermutation-sym _ _ (IsPermutation-map ranked_value _ _ is) in
        let there = Contains-permutation _ _ value back has in
        let across = subst (λ (l : List RankedValue). Contains l value) same there in
        Contains-permutation _ _ value (IsPermutation-map ranked_value _ _ its) across

pub one_order : (ones others ordered reordered : List RankedPlace)
    → map ranked_value ones ≡ map ranked_value others → AreInLikelyOrder ones ordered
    → AreInLikelyOrder others reordered → map ranked_value ordered ≡ map ranked_value reordered
one_order ones others ordered reordered same are their =
    same_list IsLikelierValue one_way _ _
    (pairs_of_values ranked_value IsLikelierValue ordered are.rise)
    (pairs_of_values ranked_value IsLikelierValue reordered their.rise)
    (in_other ones others same ordered reordered are.same their.same)
    (in_other others ones (sym same) reordered ordered their.same are.same)

-- ---- what is known of all

pub one_least : (ones others : List RankedPlace) → map ranked_value ones ≡ map ranked_value others
    → least_cost ones ≡ least_cost others
one_least [] [] same = refl
one_least [] (other ∷ others) same = absurd cc
one_least (one ∷ ones) [] same = absurd cc
one_least (one ∷ []) (other ∷ []) same =
    ap (λ (value : RankedValue). value.likely.cost)
    (same_parts (ranked_value one) (ranked_value other) [] [] same).0
one_least (one ∷ []) (other ∷ another ∷ others) same =
    absurd (omega (arith, ap (λ (l : List RankedValue). length l) same))
one_least (one ∷ next ∷ ones) (other ∷ []) same =
    absurd (omega (arith, ap (λ (l : List RankedValue). length l) same))
one_least (one ∷ next ∷ ones) (other ∷ another ∷ others) same =
    let parts = same_parts (ranked_value one) (ranked_value other) (map ranked_value (next ∷ ones))
    (map ranked_value (another ∷ others)) same in
    let first = ap (λ (value : RankedValue). value.likely.cost) parts.0 in
    let rest = one_least (next ∷ ones) (another ∷ others) parts.1 in
    λ k. min (first k) (rest k)

module _ (ones others : List RankedPlace) (same : map ranked_value ones ≡ map ranked_value others)
  where
    pub one_listed : (within : ℕ) → count_listed within ones ≡ count_listed within others
    one_listed within =
        let test : RankedValue → Bool = λ value. nat_le value.opener.gap within in
        let counted : (places : List RankedPlace)
        → count_listed within places ≡ length (filter test (map ranked_value places)) =
        λ places. sym (length-map (filter (is_listed within) places) ranked_value)
        ∙ ap (λ (l : List RankedValue). length l) (kept_values ranked_value test places) in
        counted ones ∙ ap (λ (l : List RankedValue). length (filter test l)) same
        ∙ sym (counted others)

    pub shown_once : (limits : PlaceLimits) (shown reshown : List RankedPlace)
        → AreShown limits ones shown → AreShown limits others reshown
        → map ranked_value shown ≡ map ranked_value reshown
    shown_once limits shown reshown are their =
        let test : ℕ → RankedValue → Bool = λ least value. nat_le value.opener.gap limits.within
        || nat_le value.likely.cost (least + 30 * limits.within) in
        let taken : (least : ℕ) (ordered : List RankedPlace)
        → map ranked_value (take limits.most (filter (is_shown limits.within least) ordered))
        ≡ take limits.most (filter (test least) (map ranked_value ordered)) =
        λ least ordered. sym (take-map ranked_value limits.most _)
        ∙ ap (λ (l : List RankedValue). take limits.most l)
        (kept_values ranked_value (test least) ordered) in
        let ordered = one_order ones others are.ordered their.ordered same are.in_order their.in_order
        in
        ap (map ranked_value) are.first ∙ taken (least_cost ones) are.ordered
        ∙ ap (λ (l : List RankedValue). take limits.most (filter (test (least_cost ones)) l)) ordered
        ∙ ap (λ (least : ℕ). take limits.most (filter (test least) (map ranked_value their.ordered)))
        (one_least ones others same)
        ∙ sym (taken (least_cost others) their.ordered) ∙ sym (ap (map ranked_value) their.first)

abbrev gap_in : RankedValue → ℕ
gap_in value = value.opener.gap

margin_is : (places : List RankedPlace)
    → second_gap places ≡ option_map gap_in (slice_get (map ranked_value places) 1)
margin_is [] = refl
margin_is (one ∷ []) = refl
margin_is (one ∷ next ∷ places) = refl

pub one_margin : (ones others : List RankedPlace) → map ranked_value ones ≡ map ranked_value others
    → second_gap ones ≡ second_gap others
one_margin ones others same =
    margin_is ones ∙ ap (λ (l : List RankedValue). option_map gap_in (slice_get l 1)) same
    ∙ sym (margin_is others)

abbrev ending_by : ℕ → Ending → List RankedValue → Ending
ending_by within ending values =
    option_map_or (λ (value : RankedValue). Beyond (gap_in value))
    (find (λ (value : RankedValue). nat_lt within (gap_in value)) values) ending

ending_is : (within : ℕ) (ending : Ending) (places : List RankedPlace)
    → ending_within within places ending ≡ ending_by within ending (map ranked_value places)
ending_is within ending [] = refl
ending_is within ending (place ∷ places) = elim (cases_Bool (nat_lt within place.opener.gap)) [
  | inl greater ↦ rw greater refl
  | inr lesser ↦ rw lesser (ending_is within ending places)
]

pub one_ending : (within : ℕ) (ending : Ending) (ones others : List RankedPlace)
    → map ranked_value ones ≡ map ranked_value others
    → ending_within within ones ending ≡ ending_within within others ending
one_ending within ending ones others same =
    ending_is within ending ones ∙ ap (ending_by within ending) same
    ∙ sym (ending_is within ending others)

pub one_cut : (within : ℕ) (next : Option KeyValue) (ones others : List RankedPlace)
    → map ranked_value ones ≡ map ranked_value others
    → is_cut within ones next ≡ is_cut within others next
one_cut within next [] [] same = refl
one_cut within next [] (other ∷ others) same = absurd cc
one_cut within next (one ∷ ones) [] same = absurd cc
one_cut within None (one ∷ ones) (other ∷ others) same = refl
one_cut within (Some last) (one ∷ ones) (other ∷ others) same =
    ap (λ (least : ℕ). nat_le (6 * last.total) (least + 30 * within))
    (one_least (one ∷ ones) (other ∷ others) same)
