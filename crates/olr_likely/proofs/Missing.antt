-- What a matching that wasn't looked at costs at least.
use Rattle.std.proofs.Common.{length, subst, All, get_or, zero, suc, ◌≡◌, ℕ, ◌+◌, ◌*◌, ◌<◌, ◌≤◌, true, false, List, [], ◌∷◌, map, None, Some, refl, sym, ap, ◌∙◌, inl, inr, arith}
use Rattle.std.proofs.lemmas.Bool.{cases_lt, le-leb}
use Rattle.olr_keys.specs.Key.{IsBefore, KeyValue}
use Rattle.olr_keys.specs.Page.{last_of}
use Rattle.olr_matching.specs.Admissible.{TotalsAreOfParts}
use Rattle.std.specs.Prelude.{Contains}
use Rattle.std.proofs.lemmas.List.Elements.{All-nil}
use Rattle.olr_keys.specs.Answers.{AreAnswers}
use Rattle.olr_keys.specs.Matching.{IsKey}
use Rattle.olr_road.specs.RoadMap.{RoadMap}
use Rattle.olr_matching.specs.Layers.{AreLayersOn, LayersValue}
use Rattle.olr_places.specs.declared.opener.Opener.{Opener}
use Rattle.olr_report.specs.Entries.{IsEntryAt, Entry, keys_of}
use Rattle.olr_places.proofs.Opening.{first_opens}
use Rattle.olr_places.specs.Looking.{IsLooked, openers_of, Looked}
use Rattle.olr_places.specs.Places.{entry_of}
use Rattle.olr_places.specs.Looking.{key_behind}
use Rattle.olr_places.specs.declared.ending.Ending.{Ending}
use Rattle.olr_places.specs.declared.ending.Ending.TheVariants.{Beyond, Cut, NoMore}
use Rattle.olr_places.specs.declared.limits.PlaceLimits.{PlaceLimits}
use Rattle.olr_likely.specs.Answer.{is_cut}
use Rattle.olr_likely.specs.LikelyLaws.{CostsAreAtLeast, NoneIsMissing}
use Rattle.olr_likely.specs.Order.{least_cost}
use Rattle.olr_likely.specs.Ranked.{AreLookedAt, openers_in}
use Rattle.olr_likely.proofs.Likeliest.{CostsAtLeast, any_least}
use Rattle.olr_likely.proofs.Turns.{all_before}
use Rattle.olr_likely.proofs.Widest.{all_open, answer_at, keys_are, seen_at}
use Rattle.olr_likely.specs.declared.ranked.RankedPlace.{RankedPlace}

pub at_least : TotalsAreOfParts → CostsAreAtLeast
at_least totals road layers key matched turns_back on is_key is =
    let total = totals road layers key matched on is_key is in omega arith

-- a key behind another one has no lesser total
no_less : (last key : KeyValue) → IsBefore last key → last.total ≤ key.total
no_less last key before = elim before [
  | inl less ↦ omega arith
  | inr same ↦ omega (arith, same.0)
]

-- where looking was cut off, something was looked at
some_looked : (ending : Ending) (matchings : List Entry) (last : KeyValue)
    → key_behind ending (last_of None (keys_of matchings)) ≡ Some last
    → (first : Entry) × (others : List Entry) × (matchings ≡ first ∷ others)
some_looked NoMore matchings last is = absurd cc
some_looked (Beyond gap) matchings last is = absurd cc
some_looked Cut [] last is = absurd cc
some_looked Cut (first ∷ others) last is = (first, others, refl)

-- so a place was
some_place : (limits : PlaceLimits) (matchings others : List Entry) (first : Entry)
    (places : List RankedPlace) → matchings ≡ first ∷ others
    → map entry_of (openers_in places) ≡ openers_of limits matchings
    → (place : RankedPlace) × (rest : List RankedPlace) × (places ≡ place ∷ rest)
some_place limits matchings others first (place ∷ rest) are opened = (place, rest, refl)
some_place limits matchings others first [] are opened =
    let opens = first_opens limits first others in
    let none : [] ≡ first ∷ opens.0 =
    opened ∙ ap (openers_of limits) are ∙ opens.1 in
    absurd cc

-- none is missing by a total
beyond : (within : ℕ) (places : List RankedPlace) (place : RankedPlace)
    (rest : List RankedPlace) (last : KeyValue) → places ≡ place ∷ rest
    → is_cut within places (Some last) ≡ false → least_cost places + 30 * within < 6 * last.total
beyond within [] place rest last are none = absurd cc
beyond within (first ∷ others) place rest last are none =
    elim (cases_lt (least_cost (first ∷ others) + 30 * within) (6 * last.total)) [
      | inl less ↦ less
      | inr at_most ↦
          let cut : is_cut within (first ∷ others) (Some last) ≡ true = le-leb _ _ (omega arith) in
          absurd cc
    ]

-- ---- all places

module _ (totals : TotalsAreOfParts) (road : RoadMap) (layers : LayersValue)
    (on : AreLayersOn road layers) (widest : PlaceLimits) (answers : List KeyValue)
    (looked : Looked) (are_answers : AreAnswers layers.penalties answers)
    (is_looked : IsLooked widest road layers answers looked)
    (first : Entry) (others : List Entry) (begins : looked.matchings ≡ first ∷ others) where
  -- a matching of the layers, with no lesser total than the first one
  record IsLater (one : Entry) : Type 0 where
    pub is_entry : IsEntryAt road layers one
    pub is_key : IsKey layers.penalties one.key
    pub later : first.key.total ≤ one.key.total

  behind_first : (k : ℕ) (d : Entry) → k < length looked.matchings
      → first.key.total ≤ (get_or looked.matchings k d).key.total
  behind_first zero d inside =
      let same : get_or looked.matchings 0 d ≡ first = rw begins refl in
      omega (arith, ap (λ (one : Entry). one.key.total) same)
  behind_first (suc k) d inside =
      let at = answer_at answers is_looked.left is_looked.seen looked.matchings
      is_looked.looked_at.0 is_looked.keys is_looked.looked_at.1 in
      let here = at (suc k) d inside in
      let start = at 0 d (omega arith) in
      let same : get_or looked.matchings 0 d ≡ first = rw begins refl in
      let rise = no_less _ _ (are_answers.rise 0 (suc k) d.key (omega arith) here.1) in
      omega (
        arith,
        rise,
        ap (λ (key : KeyValue). key.total) here.0,
        ap (λ (key : KeyValue). key.total) start.0,
        ap (λ (one : Entry). one.key.total) same,
      )

  all_later : All IsLater looked.matchings
  all_later k d inside =
      let one = seen_at answers is_looked.left is_looked.seen looked.matchings
      is_looked.looked_at.0 is_looked.keys is_looked.looked_at.1 k d inside in
      record {
        is_entry = subst (IsEntryAt road layers) one.0 (is_looked.each k d one.1);
        is_key = keys_are answers is_looked.left is_looked.seen looked.matchings
            is_looked.looked_at.0 is_looked.keys is_looked.looked_at.1 layers.penalties are_answers
            k d inside;
        later = behind_first k d inside;
      }

  -- each place costs at least 6 times the first total
  pub least_is : (places : List RankedPlace) (place : RankedPlace) (rest : List RankedPlace)
      → places ≡ place ∷ rest → AreLookedAt road widest looked.matchings places
      → 6 * first.key.total ≤ least_cost places
  least_is places place rest begin are =
      any_least (6 * first.key.total) places place among each
    where
      among : Contains places place
      among = rw begin (0, omega arith, refl)

      opened : All (λ (one : RankedPlace). IsLater (entry_of one.opener)) places
      opened = all_before (λ (opener : Opener). IsLater (entry_of opener))
          (λ (one : RankedPlace). one.opener) places
          (all_before IsLater entry_of (openers_in places)
          (rw are.openers_are (all_open widest IsLater [] looked.matchings (All-nil IsLater)
          all_later)))

      each : All (CostsAtLeast (6 * first.key.total)) places
      each k d inside =
          let later = opened k d inside in
          let cost = are.ranked.costs k d inside in
          omega (
            arith,
            later.later,
            cost.cost_is,
            at_least totals road layers _ _ (get_or places k d).likely.turns_back on later.is_key
                later.is_entry.parts,
          )

pub none_missing : TotalsAreOfParts → NoneIsMissing
none_missing totals asked road layers likely last key matched turns_back are on none next is_key
    is before =
    let answer = are.is_answer in
    let next_is = sym answer.next_is ∙ next in
    let looked = some_looked are.looked.ending are.looked.matchings last next_is in
    let some = some_place are.widest are.looked.matchings looked.1 looked.0 are.places looked.2
    are.are_looked_at.openers_are in
    let cut : is_cut asked.limits.within are.places (Some last) ≡ false =
    ap (is_cut asked.limits.within are.places) (sym next_is) ∙ sym answer.cut_is ∙ none in
    let past = beyond asked.limits.within are.places some.0 some.1 last some.2 cut in
    let later = no_less last key before in
    let least = least_is totals road layers on are.widest are.answers are.looked are.are_answers
    are.is_looked looked.0 looked.1 looked.2 are.places some.0 some.1 some.2 are.are_looked_at in
    record {
      gap = rw looked.2 (omega (arith, past, later, least));
      cost_is = omega (
        arith,
        past,
        later,
        at_least totals road layers key matched turns_back on is_key is,
      );
    }
