-- What looking gives: the first of the matchings, in order; those that are left; and why it ended.
use Rattle.std.proofs.Math.Seq.{take-append_seam}
use Rattle.std.proofs.lemmas.List.Sums.{count_by-le-length, length-filter}
use Rattle.olr_places_laws.proofs.Common.{KeyValue, RoadMap, LayersValue, IsLooked, Looked, belongs, gap_of, is_within, listed_of, looking, looking_on, openers_of, IsEntryAt, Entry, keys_of, Ending, Beyond, Cut, NoMore, PlaceLimits, ◌≡◌, ◌≢◌, ◌<◌, ◌≤◌, Bool, false, List, [], ◌∷◌, ◌++◌, length, filter, All, None, refl, sym, ap, ◌∙◌, inl, inr, arith, append_assoc, ◌==◌, nat_lt, Contains, cases_Bool, eqb-false, le-ltb, lt-leb, ltb-true, ne_eqb, append-nil, length-append, map-append, All-take, Contains-push, filter-append, IsAtMost, LooksAtMost, openers_more, openers_same}
use Rattle.olr_report.specs.Location.{LocatedLine}
use Rattle.olr_places.proofs.Gaps.{gap_of_next}

-- ---- what looking gives

-- as many at most as there are
filter_at_most : {X : Type 0} (p : X → Bool) (xs : List X) → length (filter p xs) ≤ length xs
filter_at_most p xs = rw (length-filter p xs) (count_by-le-length p xs)

-- why looking ended: none was left, or the gap of a matching that was looked at is beyond what is
-- asked for
abbrev pub EndsFor : PlaceLimits → List Entry → List Entry → Ending → Type 0
EndsFor limits matchings left NoMore = left ≡ []
EndsFor limits matchings left (Beyond gap) = (last : Entry) × Contains matchings last
    × (limits.within < gap_of matchings last.key)
EndsFor limits matchings left Cut = Unit {0}

module _ (limits : PlaceLimits) where
  -- what was looked at so far is within what is asked for
  record IsRoomy (before : List Entry) : Type 0 where
    looked : length before ≤ limits.look
    openers : length (openers_of limits before) ≤ limits.most

  -- the matchings that were looked at, at least these, are the first of all of them, as many as are
  -- asked for at most; then come those that are left
  pub record Splits (before all : List Entry) (looked : Looked) : Type 0 where
    pub more : List Entry
    pub matchings_are : looked.matchings ≡ before ++ more
    pub left : List Entry
    pub all_are : all ≡ looked.matchings ++ left
    pub at_most : IsAtMost limits looked
    pub ends : EndsFor limits looked.matchings left looked.ending

  ends_here : (before left : List Entry) (ending : Ending) → IsRoomy before
      → EndsFor limits before left ending
      → Splits before (before ++ left) (record { matchings = before; ending = ending })
  ends_here before left ending roomy ends = record {
    more = [];
    matchings_are = sym (append-nil before);
    left = left;
    all_are = refl;
    at_most = record {
      looked_at = roomy.looked;
      listed = omega (arith, filter_at_most (is_within limits before) (openers_of limits before));
    };
    ends = ends;
  }

  module _ (before left : List Entry) (one : Entry) (roomy : IsRoomy before) where
    abbrev with : List Entry
    with = before ++ one ∷ []

    abbrev openers : List Entry
    openers = openers_of limits before

    same_all : with ++ left ≡ before ++ one ∷ left
    same_all = append_assoc before (one ∷ []) left

    one_more : (looked : Looked) → Splits with (with ++ left) looked
        → Splits before (before ++ one ∷ left) looked
    one_more looked rest = record {
      more = one ∷ rest.more;
      matchings_are = rest.matchings_are ∙ append_assoc before (one ∷ []) rest.more;
      left = rest.left;
      all_are = sym same_all ∙ rest.all_are;
      at_most = rest.at_most;
      ends = rest.ends;
    }

    -- behind a matching that opens a place with a gap beyond what is asked for, which isn't listed
    beyond : length before ≢ limits.look → belongs limits openers one ≡ false
        → limits.within < gap_of before one.key
        → Splits with (with ++ left) (record {
          matchings = with;
          ending =
              Beyond (gap_of before one.key);
        })
    beyond more new far =
        let past : limits.within < gap_of with one.key = rw (gap_of_next before one) far in
        let fails : is_within limits with one ≡ false =
        lt-leb (gap_of with one.key) limits.within past in
        let none : filter (is_within limits with) (one ∷ []) ≡ [] = rw fails refl in
        let listed : listed_of limits with ≡ filter (is_within limits with) openers =
        ap (filter (is_within limits with)) (openers_more limits before one new)
        ∙ filter-append (is_within limits with) openers (one ∷ [])
        ∙ ap (λ (l : List Entry). filter (is_within limits with) openers ++ l) none
        ∙ append-nil _ in
        record {
          more = [];
          matchings_are = sym (append-nil with);
          left = left;
          all_are = refl;
          at_most = record {
            looked_at = omega (arith, length-append before (one ∷ []), more);
            listed = rw listed
                (omega (arith, filter_at_most (is_within limits with) openers));
          };
          ends = (one, Contains-push before one, past);
        }

    -- behind a matching with which looking goes on
    still_roomy : length before ≢ limits.look → length (openers_of limits with) ≤ limits.most
        → IsRoomy with
    still_roomy more openers = record {
      looked =
          omega (arith, length-append before (one ∷ []), more);
      openers = openers;
    }

    next : length before ≢ limits.look
        → (IsRoomy with → Splits with (with ++ left) (looking_on limits with left))
        → Splits before (before ++ one ∷ left) (looking_on limits before (one ∷ left))
    next more behind =
        let look = ne_eqb (length before) limits.look more in
        elim (cases_Bool (belongs limits openers one)) [
          | inl here ↦
              rw (look, here) (one_more (looking_on limits with left)
              (behind (still_roomy more (rw (openers_same limits before one here)
              roomy.openers))))
          | inr new ↦ elim (cases_Bool (nat_lt limits.within (gap_of before one.key))) [
            | inl far ↦ rw (look, new, far)
                (one_more _ (beyond more new (ltb-true limits.within (gap_of before one.key) far)))
            | inr near ↦ elim (cases_Bool (length openers == limits.most)) [
              | inl full ↦ rw (look, new, near, full) (ends_here before (one ∷ left) Cut roomy tt)
              | inr room ↦
                  let few : length (openers_of limits with) ≤ limits.most =
                  rw (openers_more limits before one new)
                  (omega (
                    arith,
                    length-append openers (one ∷ []),
                    eqb-false (length openers)
                        limits.most room,
                  )) in
                  rw (look, new, near, room) (one_more (looking_on limits with left)
                  (behind (still_roomy more few)))
            ]
          ]
        ]

  splits : (before left : List Entry) → IsRoomy before
      → Splits before (before ++ left) (looking_on limits before left)
  splits before [] roomy = ends_here before [] NoMore roomy refl
  splits before (one ∷ left) roomy = elim (cases_Bool (length before == limits.look)) [
    | inl all ↦ rw all (ends_here before (one ∷ left) Cut roomy tt)
    | inr more ↦
        next before left one roomy (eqb-false (length before) limits.look more)
        (λ still. splits (before ++ one ∷ []) left still)
  ]

  -- there is a first matching
  pub first_looked_at : (first : Entry) (left : List Entry) → (others : List Entry)
      × ((looking limits (first ∷ left)).matchings ≡ first ∷ others)
  first_looked_at first left =
      let look : (0 == limits.look) ≡ false =
      ne_eqb 0 limits.look (λ is. omega arith) in
      let near : nat_lt limits.within 0 ≡ false = le-ltb limits.within 0 (omega arith) in
      let room : (0 == limits.most) ≡ false =
      ne_eqb 0 limits.most (λ is. omega arith) in
      let start : looking limits (first ∷ left) ≡ looking_on limits (first ∷ []) left =
      rw (look, near, room) refl in
      let rest = splits (first ∷ []) left
      (record {
        looked = omega arith;
        openers =
            omega arith;
      }) in
      (rest.more, ap (λ (l : Looked). l.matchings) start ∙ rest.matchings_are)

-- ---- all matchings of a reference

-- matchings of these keys, whatever they are
abbrev pub any_of : List KeyValue → List Entry
any_of [] = []
any_of (key ∷ keys) = record {
  key = key;
  matched = record { candidates = []; legs = [] };
  route = [];
  located = LocatedLine None None;
} ∷ any_of keys

pub keys_of_any : (keys : List KeyValue) → keys_of (any_of keys) ≡ keys
keys_of_any [] = refl
keys_of_any (key ∷ keys) = ap (λ (l : List KeyValue). key ∷ l) (keys_of_any _)

module _ {limits : PlaceLimits} {road : RoadMap} {layers : LayersValue} {answers : List KeyValue}
    {looked : Looked}
    (is : IsLooked limits road layers answers looked) where
  -- those that were seen, and any of the keys that are left
  abbrev pub all_of : List Entry
  all_of = is.seen ++ any_of is.left

  pub all_looked : looking limits all_of ≡ looked
  all_looked = is.looks (any_of is.left) (keys_of_any is.left)

  pub keys_are : answers ≡ keys_of all_of
  keys_are = is.keys ∙ ap (λ (l : List KeyValue). keys_of is.seen ++ l) (sym (keys_of_any is.left))
      ∙ sym (map-append (λ (one : Entry). one.key) is.seen (any_of is.left))

  pub seen : Splits limits [] all_of looked
  seen = rw (← all_looked) (splits limits [] all_of
      (record { looked = omega arith; openers = omega arith }))

  pub each : All (IsEntryAt road layers) looked.matchings
  each =
      let all = All-take (IsEntryAt road layers) (length looked.matchings) is.seen is.each in
      rw (is.looked_at.1, take-append_seam looked.matchings is.looked_at.0) at all

pub looks_at_most : LooksAtMost
looks_at_most limits road layers answers looked is = let found = seen is in found.at_most
