-- What verdicts and margins say of all matchings of a reference.
use Rattle.std.specs.List.{list_any}
use Rattle.std.proofs.lemmas.List.Quantifiers.{all_pairs_push}
use Rattle.std.proofs.lemmas.Option.{same_Some}
use Rattle.olr_places_laws.proofs.Common.{IsBefore, KeyValue, RoadMap, LayersValue, IsLooked, Looked, belongs, is_close_to, is_within, listed_of, looking, openers_of, openers_on, IsEntryAt, Entry, keys_of, margin_of, verdict_of, Ending, Beyond, Cut, NoMore, PlaceLimits, ◌≡◌, ℕ, zero, suc, ◌+◌, ◌-◌, ◌<◌, ◌≤◌, ◌⊎◌, Bool, true, false, List, [], ◌∷◌, ◌++◌, length, filter, get_or, All, refl, sym, ap, subst, ◌∙◌, inl, inr, arith, nat_le, AllPairs, Contains, MatchOption, if◌then◌else◌, slice_get, both_ways, cases_Bool, le-leb, leb-false, leb-true, ne_eqb, or_parts, get_or-map, length-map, map-append, All-cons, All-contains, All-contains_itself, All-filter, All-head, All-nil, All-push, All-tail, All-weaker, Contains-append_cases, Contains-append_left, Contains-append_right, filter_passes, ground_of, AmbiguousIsElsewhere, AreClose, IsElsewhere, IsFirstOf, IsMargin, IsOneOf, MarginIsOfNearest, NoneWithoutMatching, OpenersAreApart, UniqueIsClose, WereLookedAt, tests, OneEntry, close_itself, first_opens, openers_begin}
use Rattle.olr_places.specs.Verdict.{verdict_by, verdict_of_one}
use Rattle.olr_places.specs.declared.ending.Verdict.TheVariants as verdict
use Rattle.olr_places_laws.proofs.InOrder.{NotBelow, Rise, left_not_below, rise_of}
use Rattle.olr_places_laws.proofs.Looks.{EndsFor, all_looked, all_of, each, first_looked_at, keys_are, seen}

-- ---- closeness

-- none of them passes a test
each_fails : {X : Type 0} (p : X → Bool) (xs : List X) → list_any p xs ≡ false
    → All (λ (x : X). p x ≡ false) xs
each_fails p [] is = All-nil (λ x. p x ≡ false)
each_fails p (x ∷ xs) is =
    let parts = or_parts _ _ is in
    All-cons (λ y. p y ≡ false) x xs parts.0 (each_fails p xs parts.1)

module _ (limits : PlaceLimits) where
  close_is : (entry other : Entry) → is_close_to limits entry other ≡ true
      → AreClose limits entry other
  close_is entry other is =
      (tests limits.apart (ground_of entry.located) (ground_of other.located)).0 is

  apart_is : (entry other : Entry) → is_close_to limits entry other ≡ false
      → ¬ (AreClose limits entry other)
  apart_is entry other is close =
      both_ways (is_close_to limits entry other) is
      ((tests limits.apart (ground_of entry.located) (ground_of other.located)).1 close)

  -- ---- openers

  -- what holds of the openers and of the matchings holds of all openers
  all_openers_on : (P : Entry → Type 0) (openers entries : List Entry) → All P openers
      → All P entries → All P (openers_on limits openers entries)
  all_openers_on P openers [] before all = before
  all_openers_on P openers (entry ∷ entries) before all =
      elim (cases_Bool (belongs limits openers entry)) [
        | inl is ↦
            rw is (all_openers_on P openers entries before (All-tail P entry entries all))
        | inr is ↦
            rw is (all_openers_on P (openers ++ entry ∷ []) entries
            (All-push P openers entry before (All-head P entry entries all))
            (All-tail P entry entries all))
      ]

  -- those that open a place are among the matchings
  openers_among : (entries : List Entry) → All (Contains entries) (openers_of limits entries)
  openers_among entries = all_openers_on (Contains entries) [] entries (All-nil (Contains entries))
      (All-contains_itself entries)

  -- the later of two matchings isn't close to the earlier one
  abbrev Apart : Entry → Entry → Type 0
  Apart earlier later = ¬ (AreClose limits later earlier)

  apart_on : (openers entries : List Entry) → AllPairs Apart openers
      → AllPairs Apart (openers_on limits openers entries)
  apart_on openers [] pairs = pairs
  apart_on openers (entry ∷ entries) pairs = elim (cases_Bool (belongs limits openers entry)) [
    | inl is ↦ rw is (apart_on openers entries pairs)
    | inr is ↦
        let fails = each_fails (is_close_to limits entry) openers is in
        rw is (apart_on (openers ++ entry ∷ []) entries
        (all_pairs_push Apart openers entry pairs
        (λ k d inside. apart_is entry (get_or openers k d) (fails k d inside))))
  ]

pub openers_are_apart : OpenersAreApart
openers_are_apart limits matchings =
    apart_on limits [] matchings (λ i j d less inside. absurd (omega arith))

-- ---- the second opener

module _ (limits : PlaceLimits) (first : Entry) where
  abbrev Close : Entry → Type 0
  Close entry = is_close_to limits entry first ≡ true

  -- a matching opens a second place, and those with a lesser total are close to the first one
  record HasSecond (entries : List Entry) : Type 0 where
    second : Entry
    more : List Entry
    openers_are : openers_on limits (first ∷ []) entries ≡ first ∷ second ∷ more
    among : Contains entries second
    apart : is_close_to limits second first ≡ false
    nearer : All (λ (entry : Entry). entry.key.total < second.key.total → Close entry) entries

  -- all are close to the first one
  record HasNoSecond (entries : List Entry) : Type 0 where
    openers_are : openers_on limits (first ∷ []) entries ≡ first ∷ []
    close : All Close entries

  second_opener : (entries : List Entry) → Rise entries → HasSecond entries ⊎ HasNoSecond entries
  second_opener [] rise = inr (record { openers_are = refl; close = All-nil Close })
  second_opener (entry ∷ entries) rise = elim (cases_Bool (is_close_to limits entry first)) [
    | inl close ↦
        elim (second_opener entries rise.1) [
          | inl has ↦ inl (record {
            second = has.second;
            more = has.more;
            openers_are = rw close has.openers_are;
            among = Contains-append_right (entry ∷ []) entries has.second has.among;
            apart = has.apart;
            nearer =
                All-cons (λ (one : Entry). one.key.total < has.second.key.total → Close one) entry
                entries (λ less. close) has.nearer;
          })
          | inr none ↦ inr (record {
            openers_are = rw close none.openers_are;
            close =
                All-cons Close entry entries close none.close;
          })
        ]
    | inr apart ↦
        let found = openers_begin limits (first ∷ entry ∷ []) entries in
        inl (record {
          second = entry;
          more = found.0;
          openers_are = rw apart found.1;
          among = (zero, omega arith, refl);
          apart = apart;
          nearer =
              All-cons (λ (one : Entry). one.key.total < entry.key.total → Close one) entry entries
              (λ less. absurd (omega arith))
              (All-weaker (λ (one : Entry). entry.key.total ≤ one.key.total)
              (λ (one : Entry). one.key.total < entry.key.total → Close one)
              (λ one more less. absurd (omega arith)) entries rise.0);
        })
  ]

-- ---- keys of matchings

abbrev key_of : Entry → KeyValue
key_of one = one.key

key_in : (entries : List Entry) (entry : Entry) → Contains entries entry
    → Contains (keys_of entries) entry.key
key_in entries entry (k, inside, same) = (
  k,
  rw (length-map entries key_of) inside,
  get_or-map key_of entries k entry entry.key inside ∙ ap key_of same,
)

-- ---- verdicts, by how many places are listed

by_listed : (looked listed : ℕ) (ending : Ending) → 1 ≤ looked
    → verdict_by looked listed ending
    ≡ (if nat_le 2 listed then verdict.Ambiguous else verdict_of_one ending)
by_listed looked listed ending some = let more =
    ne_eqb looked 0 (λ none. omega arith) in rw more refl

one_is : (ending : Ending)
    → (verdict_of_one ending ≡ verdict.Unique) ⊎ (verdict_of_one ending ≡ verdict.Open)
one_is NoMore = inl refl
one_is (Beyond gap) = inl refl
one_is Cut = inr refl

none_is : (listed : ℕ) (ending : Ending)
    → (if nat_le 2 listed then verdict.Ambiguous else verdict_of_one ending) ≡ verdict.None → ⊥
none_is listed ending is = elim (cases_Bool (nat_le 2 listed)) [
  | inl two ↦ let not_none : verdict.Ambiguous ≡ verdict.None = rw two at is in cc
  | inr one ↦
      let is_one : verdict_of_one ending ≡ verdict.None = rw one at is in
      elim (one_is ending) [
        | inl unique ↦ cc
        | inr open_is ↦ cc
      ]
]

unique_is : (listed : ℕ) (ending : Ending)
    → (if nat_le 2 listed then verdict.Ambiguous else verdict_of_one ending) ≡ verdict.Unique
    → (listed < 2) × (verdict_of_one ending ≡ verdict.Unique)
unique_is listed ending is = elim (cases_Bool (nat_le 2 listed)) [
  | inl two ↦ let not_unique : verdict.Ambiguous ≡ verdict.Unique = rw two at is in absurd (cc)
  | inr one ↦ (leb-false 2 listed one, rw one at is)
]

ambiguous_is : (listed : ℕ) (ending : Ending)
    → (if nat_le 2 listed then verdict.Ambiguous else verdict_of_one ending) ≡ verdict.Ambiguous
    → 2 ≤ listed
ambiguous_is listed ending is = elim (cases_Bool (nat_le 2 listed)) [
  | inl two ↦ leb-true 2 listed two
  | inr one ↦
      let is_one : verdict_of_one ending ≡ verdict.Ambiguous = rw one at is in
      elim (one_is ending) [
        | inl unique ↦ absurd (cc)
        | inr open_is ↦ absurd (cc)
      ]
]

-- ---- no matching

pub none_without_matching : NoneWithoutMatching
none_without_matching limits road layers answers looked is = (
  λ none. keys_are is ∙ ap keys_of
      (none_then (all_of is) (ap (verdict_of limits) (all_looked is) ∙ none)),
  λ empty. ap (verdict_of limits) (sym (all_looked is))
      ∙ none_from (all_of is) (sym (keys_are is) ∙ empty),
)
  where
    none_then : (all : List Entry) → verdict_of limits (looking limits all) ≡ verdict.None
        → all ≡ []
    none_then [] none = refl
    none_then (first ∷ left) none =
        let found = first_looked_at limits first left in
        let some : 1 ≤ length (looking limits (first ∷ left)).matchings =
        rw found.1 (omega arith) in
        absurd (none_is _ _
        (sym (by_listed _ (length (listed_of limits (looking limits (first ∷ left)).matchings))
        (looking limits (first ∷ left)).ending some) ∙ none))

    none_from : (all : List Entry) → keys_of all ≡ []
        → verdict_of limits (looking limits all) ≡ verdict.None
    none_from [] none = refl
    none_from (first ∷ left) none = absurd (cc)

-- ---- all matchings

two_kept : (p : Entry → Bool) (first second : Entry) (more : List Entry) → p first ≡ true
    → p second ≡ true
    → 2 ≤ length (filter p (first ∷ second ∷ more))
two_kept p first second more one two = rw (one, two) (omega arith)

module _ (one_entry : OneEntry) {limits : PlaceLimits}
    {road : RoadMap} {layers : LayersValue} {answers : List KeyValue} {looked : Looked}
    (were : WereLookedAt limits road layers answers looked) where
  -- the matchings of the first keys were looked at, at least one, and these are left
  module _ (head : Entry) (others left : List Entry)
      (keys_are : answers ≡ keys_of (head ∷ others) ++ keys_of left)
      (each : All (IsEntryAt road layers) (head ∷ others)) where
    abbrev all : List Entry
    all = head ∷ others

    pairs : AllPairs IsBefore (keys_of all ++ keys_of left)
    pairs = subst (λ (keys : List KeyValue). AllPairs IsBefore keys) keys_are were.keys.rise

    rises : Rise all
    rises = rise_of all (keys_of left) pairs

    -- a key that is left has no lesser total than a matching that was looked at
    left_behind : (one : Entry) (key : KeyValue) → Contains all one → Contains (keys_of left) key
        → one.key.total ≤ key.total
    left_behind one key among in_left =
        All-contains (λ (other : KeyValue). one.key.total ≤ other.total) (keys_of left) key
        (All-contains (NotBelow (keys_of left)) all one
        (left_not_below all (keys_of left) pairs) among) in_left

    -- a matching that was looked at is one of the matchings
    is_one_of : (one : Entry) → Contains all one → IsOneOf road layers answers one
    is_one_of one among = record {
      among = rw keys_are (Contains-append_left (keys_of all) (keys_of left) one.key
          (key_in all one among));
      is_entry = All-contains (IsEntryAt road layers) all one each among;
    }

    -- the first one is the first that was looked at
    first_is : (first : Entry) → IsFirstOf road layers answers first → head ≡ first
    first_is first is =
        one_entry road layers were.sound head first
        (same_Some head.key first.key (sym
        (ap (λ (keys : List KeyValue). slice_get keys 0) keys_are) ∙ is.first))
        (All-head (IsEntryAt road layers) head others each) is.is_entry

    -- one of the matchings was looked at, or its key is left
    one_cases : (one : Entry) → IsOneOf road layers answers one → Contains all one
        ⊎ Contains (keys_of left) one.key
    one_cases one is =
        elim (Contains-append_cases (keys_of all) (keys_of left) one.key
        (rw keys_are at is.among)) [
          | inl (k, here, same) ↦
              let inside : k < length all = omega (arith, length-map all key_of) in
              let is_one = one_entry road layers were.sound (get_or all k head) one
              (sym (get_or-map key_of all k head one.key inside) ∙ same) (each k head inside)
              is.is_entry in
              inl (rw (← is_one) (All-contains_itself all k head inside))
          | inr later ↦ inr later
        ]

    -- ---- the margin

    module _ (has : HasSecond limits head others) where
      second_in : Contains all has.second
      second_in = Contains-append_right (head ∷ []) others has.second has.among

      not_before : head.key.total ≤ has.second.key.total
      not_before = All-contains (λ (one : Entry). head.key.total ≤ one.key.total) others has.second
          rises.0 has.among

      nearer : (one : Entry) → IsOneOf road layers answers one
          → one.key.total < has.second.key.total → AreClose limits one head
      nearer one is less = elim (one_cases one is) [
        | inl among ↦
            close_is limits one head
            (All-contains (λ (each : Entry). each.key.total < has.second.key.total
            → is_close_to limits each head ≡ true) all one
            (All-cons (λ (each : Entry). each.key.total < has.second.key.total
            → is_close_to limits each head ≡ true) head others
            (λ before. close_itself limits head) has.nearer) among less)
        | inr in_left
            ↦ absurd (omega (arith, left_behind has.second one.key second_in in_left))
      ]

      is_margin : IsMargin limits road layers answers all head
          (has.second.key.total - head.key.total)
      is_margin = record {
        nearest = has.second;
        is_one = is_one_of has.second second_in;
        looked_at = second_in;
        total_is = omega (arith, not_before);
        apart = apart_is limits has.second head has.apart;
        nearer = λ one is less. nearer one is (omega (arith, not_before));
      }

    all_close : HasNoSecond limits head others → All (λ (one : Entry). AreClose limits one head) all
    all_close none =
        All-weaker (λ (one : Entry). is_close_to limits one head ≡ true)
        (λ (one : Entry). AreClose limits one head)
        (λ one is. close_is limits one head is) all
        (All-cons (λ (one : Entry). is_close_to limits one head ≡ true) head others
        (close_itself limits head) none.close)

    margin_law : MatchOption (margin_of limits all)
        (All (λ (one : Entry). AreClose limits one head) all)
        (IsMargin limits road layers answers all head)
    margin_law = elim (second_opener limits head others rises.1) [
      | inl has ↦ rw has.openers_are (is_margin has)
      | inr none ↦ rw none.openers_are (all_close none)
    ]

    -- ---- unique

    -- the first opener is listed
    head_within : is_within limits all head ≡ true
    head_within = le-leb (head.key.total - head.key.total) limits.within (omega arith)

    -- a second opener that is close enough would be listed, too
    second_beyond : (has : HasSecond limits head others) → length (listed_of limits all) < 2
        → limits.within < has.second.key.total - head.key.total
    second_beyond has one = elim (cases_Bool (is_within limits all has.second)) [
      | inl within ↦
          let two = two_kept (is_within limits all) head has.second has.more head_within within in
          let same : listed_of limits all
          ≡ filter (is_within limits all) (head ∷ has.second ∷ has.more) =
          ap (filter (is_within limits all)) has.openers_are in
          absurd (omega (arith, ap (λ (l : List Entry). length l) same))
      | inr beyond ↦ leb-false (has.second.key.total - head.key.total) limits.within beyond
    ]

    -- where looking wasn't cut off, the gaps of the keys that are left are beyond what is asked for
    left_beyond : (ending : Ending) → verdict_of_one ending ≡ verdict.Unique
        → EndsFor limits all left ending → (key : KeyValue)
        → Contains (keys_of left) key → head.key.total + limits.within < key.total
    left_beyond NoMore unique ends key in_left =
        let none : Contains [] key = rw ends at in_left in absurd (omega arith)
    left_beyond (Beyond gap) unique (last, among, far) key in_left =
        omega (arith, left_behind last key among in_left)
    left_beyond Cut unique ends key in_left = absurd (cc)

    unique_law : (ending : Ending) → EndsFor limits all left ending
        → verdict_by (length all) (length (listed_of limits all)) ending ≡ verdict.Unique
        → (one : Entry) → IsOneOf road layers answers one
        → one.key.total ≤ head.key.total + limits.within → AreClose limits one head
    unique_law ending ends unique one is within =
        let found = unique_is (length (listed_of limits all)) ending
        (sym (by_listed (length all) _ ending (omega arith)) ∙ unique) in
        elim (second_opener limits head others rises.1) [
          | inl has ↦ nearer has one is (omega
              (arith, second_beyond has found.0, not_before has))
          | inr none ↦ elim (one_cases one is) [
            | inl among ↦ All-contains (λ (each : Entry). AreClose limits each head) all one
                (all_close none) among
            | inr in_left
                ↦ absurd (omega (arith, left_beyond ending found.1 ends one.key in_left))
          ]
        ]

    -- ---- ambiguous

    ambiguous_law : 2 ≤ length (listed_of limits all) → (other : Entry)
        × IsElsewhere limits road layers answers all head other
    ambiguous_law two =
        let p = is_within limits all in
        let found = first_opens limits head others in
        let rest = found.0 in
        let listed_are : listed_of limits all ≡ head ∷ filter p rest =
        ap (filter p) found.1 ∙ (let within = head_within in rw within refl) in
        let inside : 0 < length (filter p rest) =
        omega (arith, ap (λ (l : List Entry). length l) listed_are) in
        let other = get_or (filter p rest) 0 head in
        let in_rest : Contains rest other =
        All-filter p (Contains rest) rest (All-contains_itself rest) 0 head inside in
        let among : Contains all other =
        All-contains (Contains all) (openers_of limits all) other (openers_among limits all)
        (subst (λ (l : List Entry). Contains l other) (sym found.1)
        (Contains-append_right (head ∷ []) rest other in_rest)) in
        let apart_pairs : AllPairs (Apart limits) (head ∷ rest) =
        subst (λ (l : List Entry). AllPairs (Apart limits) l) found.1
        (openers_are_apart limits all) in
        let apart : All (λ (one : Entry). Apart limits head one) rest =
        λ k d inside. apart_pairs zero (suc k) d (omega arith) (omega arith) in
        let gap : other.key.total - head.key.total ≤ limits.within =
        leb-true (other.key.total - head.key.total) limits.within
        (filter_passes p rest 0 head inside) in (
          other,
          record {
            is_one = is_one_of other among;
            listed = subst (λ (l : List Entry). Contains l other) (sym listed_are)
                (Contains-append_right (head ∷ []) (filter p rest) other
                (All-contains_itself (filter p rest) 0 head inside));
            within = omega arith;
            apart = All-contains (λ (one : Entry). Apart limits head one) rest other apart
                in_rest;
          },
        )

-- ---- the laws

module _ {limits : PlaceLimits} {road : RoadMap} {layers : LayersValue} {answers : List KeyValue}
    {looked : Looked} (is : IsLooked limits road layers answers looked)
    (P : List Entry → Type 0) where
  -- none was looked at, or one at least: the keys of those, and of the ones that are left
  by_matchings : P []
      → ((head : Entry) (others left : List Entry)
      → answers ≡ keys_of (head ∷ others) ++ keys_of left
      → All (IsEntryAt road layers) (head ∷ others)
      → EndsFor limits (head ∷ others) left looked.ending → P (head ∷ others))
      → P looked.matchings
  by_matchings none some =
      let found = seen is in
      let parts = keys_are is ∙ ap keys_of found.all_are
      ∙ map-append (λ (one : Entry). one.key) looked.matchings found.left in
      by_cases looked.matchings found.left parts (each is) found.ends
    where
      by_cases : (matchings left : List Entry) → answers ≡ keys_of matchings ++ keys_of left
          → All (IsEntryAt road layers) matchings
          → EndsFor limits matchings left looked.ending → P matchings
      by_cases [] left parts all ends = none
      by_cases (head ∷ others) left parts all ends = some head others left parts all ends

module _ (one_entry : OneEntry) where
  pub unique_is_close : UniqueIsClose
  unique_is_close limits road layers answers looked first one were unique is_first is_one within =
      by_matchings were.is_looked
      (λ (m : List Entry).
      verdict_by (length m) (length (listed_of limits m)) looked.ending ≡ verdict.Unique
      → AreClose limits one first) (λ is. absurd (cc))
      (λ head others left parts all ends is.
      subst (λ (f : Entry). one.key.total ≤ f.key.total + limits.within → AreClose limits one f)
      (first_is one_entry were head others left parts all first is_first)
      (unique_law one_entry were head others left parts all looked.ending ends is one
      is_one) within) unique

  pub ambiguous_is_elsewhere : AmbiguousIsElsewhere
  ambiguous_is_elsewhere limits road layers answers looked first were ambiguous is_first =
      by_matchings were.is_looked
      (λ (m : List Entry).
      verdict_by (length m) (length (listed_of limits m)) looked.ending ≡ verdict.Ambiguous
      → (other : Entry) × IsElsewhere limits road layers answers m first other)
      (λ is. absurd (cc))
      (λ head others left parts all ends is.
      subst (λ (f : Entry). (other : Entry)
      × IsElsewhere limits road layers answers (head ∷ others) f other)
      (first_is one_entry were head others left parts all first is_first)
      (ambiguous_law one_entry were head others left parts all
      (ambiguous_is _ looked.ending
      (sym (by_listed (length (head ∷ others)) (length (listed_of limits (head ∷ others)))
      looked.ending (omega arith)) ∙ is)))) ambiguous

  pub margin_is_of_nearest : MarginIsOfNearest
  margin_is_of_nearest limits road layers answers looked first were is_first =
      by_matchings were.is_looked
      (λ (m : List Entry). MatchOption (margin_of limits m)
      (All (λ (one : Entry). AreClose limits one first) m)
      (IsMargin limits road layers answers m first))
      (All-nil (λ (one : Entry). AreClose limits one first))
      (λ head others left parts all ends.
      subst (λ (f : Entry). MatchOption (margin_of limits (head ∷ others))
      (All (λ (one : Entry). AreClose limits one f) (head ∷ others))
      (IsMargin limits road layers answers (head ∷ others) f))
      (first_is one_entry were head others left parts all first is_first)
      (margin_law one_entry were head others left parts all))
