-- One step of looking at matchings, whatever was looked at before.
use Rattle.olr_places.proofs.Common.{KeyValue, last_of, Looked, belongs, gap_of, is_within, listed_of, looking, looking_on, openers_of, place_of, AreCounted, ArePlacesOf, entry_of, Entry, keys_of, margin_of, Ending, Beyond, Cut, PlaceLimits, Looking, Opener, ◌≡◌, ◌≢◌, ℕ, zero, suc, ◌+◌, ◌-◌, ◌<◌, ◌≤◌, Bool, true, false, List, [], ◌∷◌, ◌++◌, length, length-append, map, get_or, All, Option, Some, None, filter, refl, ap, sym, ◌∙◌, arith, append_assoc, ◌==◌, nat_le, nat_lt, cases_Bool, lt-leb, append-nil, length-map, map-append, All-cons, All-head, All-push, All-tail, filter-append, IsCounted, HasEnded, Stands, gap_behind, gap_in, margin_in, one_more_at, places_in}
use Rattle.olr_places.specs.Looking.{members_of}
use Rattle.olr_places.proofs.Gaps.{gap_of_next, gap_stays}
use Rattle.olr_places.proofs.Members.{agree, at_most, count_of, none_here, none_past, one_here, with_one}
use Rattle.olr_places.proofs.Opening.{all_placed, close_itself, first_behind, first_opens, first_stays, openers_more, openers_same}

-- ---- lists of openers

last_with : (start : Option KeyValue) (before : List Entry) (one : Entry)
    → last_of start (keys_of (before ++ one ∷ [])) ≡ Some one.key
last_with start [] one = refl
last_with start (first ∷ others) one = last_with (Some first.key) others one

-- one more member changes no entry
same_entries : (index : ℕ) (items : List Opener)
    → map entry_of (one_more_at index items) ≡ map entry_of items
same_entries index [] = refl
same_entries zero (opener ∷ items) = refl
same_entries (suc index) (opener ∷ items) = grind (arith, same_entries index items)

-- nor what holds of each opener
pub more_kept : (P : Opener → Type 0)
    → ((opener : Opener) (members : ℕ) → P opener → P (record opener { members = members }))
    → (index : ℕ) (items : List Opener) → All P items → All P (one_more_at index items)
more_kept P keep index [] all = all
more_kept P keep zero (opener ∷ items) all =
    All-cons P _ items (keep opener _ (All-head P opener items all)) (All-tail P opener items all)
more_kept P keep (suc index) (opener ∷ items) all = grind (
  arith,
  All-cons,
  All-head,
  All-tail,
  more_kept P keep index items (All-tail P opener items all),
)

-- those that pass are all where each does
all_pass : {X : Type 0} (p : X → Bool) (xs : List X) → All (λ x. p x ≡ true) xs → filter p xs ≡ xs
all_pass p [] all = refl
all_pass p (x ∷ xs) all =
    grind (arith, All-head, All-tail, all_pass p xs (All-tail (λ x. p x ≡ true) x xs all))

module _ (limits : PlaceLimits) where
  some_openers : (before : List Entry) → 1 ≤ length (openers_of limits before) → 1 ≤ length before
  some_openers [] some = some
  some_openers (first ∷ others) some = omega arith

  -- the gap of the next matching, by the first opener that is kept
  pub gap_at_first : (before : List Entry) (items : List Opener) (key : KeyValue)
      → map entry_of items ≡ openers_of limits before → gap_behind items key ≡ gap_of before key
  gap_at_first [] [] key same = refl
  gap_at_first [] (one ∷ items) key same = absurd (cc)
  gap_at_first (first ∷ others) [] key same = let opens = first_opens limits first others in
      absurd (cc)
  gap_at_first (first ∷ others) (one ∷ items) key same =
      ap (λ (one : Entry). key.total - one.key.total)
      (ap (λ (l : List Entry). get_or l 0 first) (same ∙ (first_opens limits first others).1))

  -- the gap of the second opener that is kept is that of the second place
  margin_is : (matchings : List Entry) (first second : Opener) (others : List Opener)
      (behind : List Entry) → AreCounted limits matchings 0 (first ∷ second ∷ others)
      → openers_of limits matchings ≡ map entry_of (first ∷ second ∷ others) ++ behind
      → Some second.gap ≡ margin_of limits matchings
  margin_is matchings first second others behind counted are = grind arith

-- where looking ends before the next matching, or where none is left
module _ {limits : PlaceLimits} {before : List Entry} {kept : Looking}
    (stands : Stands limits before kept) (ending : Ending)
    (none : gap_in ending ≡ None) where
  margin_here : (items : List Opener) → AreCounted limits before 0 items
      → map entry_of items ≡ openers_of limits before
      → margin_in items ending ≡ margin_of limits before
  margin_here [] counted are = rw (← are) none
  margin_here (first ∷ []) counted are = rw (← are) none
  margin_here (first ∷ second ∷ others) counted are = grind (arith, margin_is, append-nil)

  pub ends_here : ArePlacesOf limits (record { matchings = before; ending = ending })
      (places_in kept ending)
  ends_here = record {
    openers = stands.openers
        ∙ sym (all_pass (is_within limits before) (openers_of limits before) stands.within);
    counted = stands.counted;
    count = stands.count;
    last = stands.last;
    margin = margin_here kept.openers.items stands.counted stands.openers;
    ending = refl;
  }

-- ---- the next matching

module _ {limits : PlaceLimits} {before : List Entry} {old : Looking}
    (stands : Stands limits before old) (one : Entry)
    (more_left : (length before == limits.look) ≡ false) where
  abbrev items : List Opener
  items = old.openers.items

  abbrev with : List Entry
  with = before ++ one ∷ []

  abbrev openers : List Entry
  openers = openers_of limits before

  -- the index of its place
  abbrev own : ℕ
  own = place_of limits (openers_of limits with) one

  same_length : length items ≡ length openers
  same_length = grind (arith, length-map)

  gap_still : (key : KeyValue) → 1 ≤ length openers → gap_of with key ≡ gap_of before key
  gap_still key some = gap_stays before one key (some_openers limits before some)

  within_still : All (λ (opener : Entry). is_within limits with opener ≡ true) openers
  within_still = grind (arith, nat_le, gap_still)

  -- what it leaves, by what looking gives at it and others behind it
  looks_on : (looked : Looked) (left : List Entry) → looking_on limits before (one ∷ left) ≡ looked
      → looking limits (with ++ left) ≡ looked
  looks_on looked left is = grind (arith, append_assoc)

  -- ---- members

  -- those before it keep their places
  places_stay : All (λ (other : Entry). place_of limits (openers_of limits with) other
      ≡ place_of limits openers other) before
  places_stay = grind (arith, cases_Bool, openers_same, openers_more, first_stays, all_placed)

  members_with : (index : ℕ) → members_of limits with index ≡ members_of limits before index
      + count_of (place_of limits (openers_of limits with)) (one ∷ []) index
  members_with index = with_one (place_of limits (openers_of limits with)) before one index
      ∙ ap (λ (n : ℕ). n + count_of (place_of limits (openers_of limits with)) (one ∷ []) index)
      (agree (place_of limits (openers_of limits with)) (place_of limits openers) before index
      places_stay)

  still_counted : (index : ℕ) (opener : Opener) → 1 ≤ length openers → own ≢ index
      → IsCounted limits before index opener → IsCounted limits with index opener
  still_counted index opener some other was = grind (arith, gap_still, members_with, none_here)

  all_counted : (start : ℕ) (l : List Opener)
      → ((index : ℕ) → start ≤ index → index < start + length l → own ≢ index)
      → start + length l ≤ length openers → AreCounted limits before start l
      → AreCounted limits with start l
  all_counted start [] elsewhere inside was = tt
  all_counted start (opener ∷ l) elsewhere inside was = (
    still_counted start opener (omega arith) (elsewhere start (omega arith) (omega arith)) was.0,
    all_counted (start + 1) l (λ index from to. elsewhere index (omega arith)
        (omega arith)) (omega arith) was.1,
  )

  count_with : (looked : ℕ) → looked ≡ old.looked + 1 → looked ≡ length with
  count_with looked more = omega (arith, length-append before (one ∷ []))

  last_is : (last : Option KeyValue) → last ≡ Some one.key → last ≡ last_of None (keys_of with)
  last_is last is = is ∙ sym (last_with None before one)

  -- ---- it belongs to a place

  module _ (here : belongs limits openers one ≡ true) (small : length before < 4294967295) where
    counted_more : (start index : ℕ) (l : List Opener) → start + index ≡ own
        → start + length l ≤ length openers
        → AreCounted limits before start l → AreCounted limits with start (one_more_at index l)
    counted_more start index [] at inside was = tt
    counted_more start zero (opener ∷ l) at inside was = (
      record {
        gap = was.0.gap ∙ sym (gap_still opener.key (omega arith));
        members =
            let one_more = one_here (place_of limits (openers_of limits with)) one start
            (omega arith) in
            omega (arith, members_with start, at_most (place_of limits openers) before start);
      },
      all_counted (start + 1) l (λ index from to is. omega arith) (omega arith) was.1,
    )
    counted_more start (suc index) (opener ∷ l) at inside was = (
      still_counted start opener (omega arith) (λ is. omega arith) was.0,
      counted_more (start + 1) index l (omega arith) (omega arith) was.1,
    )

    pub stands_with_member : (new : Looking) (index : ℕ) → place_of limits openers one ≡ index
        → new.openers.items ≡ one_more_at index items
        → new.looked ≡ old.looked + 1 → new.last ≡ Some one.key → Stands limits with new
    stands_with_member new index at has more last =
        let same = openers_same limits before one here in
        let at_own : 0 + index ≡ own = rw same (omega arith) in record {
          openers = ap (map entry_of) has ∙ same_entries index items ∙ stands.openers ∙ sym same;
          within = rw same within_still;
          counted = rw has (counted_more 0 index items at_own (omega (arith, same_length))
              stands.counted);
          count = count_with new.looked more;
          last = last_is new.last last;
          goes_on = λ left. looks_on _ left (rw (more_left, here) refl);
        }

  -- ---- it opens a place

  module _ (new_one : belongs limits openers one ≡ false) where
    opens : openers_of limits with ≡ openers ++ one ∷ []
    opens = openers_more limits before one new_one

    own_is : own ≡ length openers
    own_is = ap (λ (l : List Entry). place_of limits l one) opens
        ∙ first_behind _ openers one new_one (close_itself limits one)

    counted : AreCounted limits with 0 items
    counted = all_counted 0 items (λ index from to is. omega (arith, own_is, same_length))
        (omega (arith, same_length)) stands.counted

    module _ (opener : Opener) (shown : entry_of opener ≡ one)
        (gap : opener.gap ≡ gap_of before one.key) (alone : opener.members ≡ 1) where
      counted_itself : IsCounted limits with (length items) opener
      counted_itself = record {
        gap = gap ∙ sym (gap_of_next before one)
            ∙ ap (λ (s : Entry). gap_of with s.key) (sym shown);
        members =
            let none_before = none_past (place_of limits openers) before (length items)
            (rw same_length (all_placed limits before)) in
            let itself = one_here (place_of limits (openers_of limits with)) one (length items)
            (own_is ∙ sym same_length) in
            omega (arith, members_with (length items));
      }

      counted_with : (start : ℕ) (l : List Opener) → start + length l ≡ length items
          → AreCounted limits with start l → AreCounted limits with start (l ++ opener ∷ [])
      counted_with start [] all was = let at : start ≡ length items = omega arith in
          (rw at counted_itself, tt)
      counted_with start (first ∷ l) all was =
          (was.0, counted_with (start + 1) l (omega arith) was.1)

      pub stands_with_opener : (new : Looking)
          → nat_lt limits.within (gap_of before one.key) ≡ false
          → nat_le (gap_of before one.key) limits.within ≡ true
          → (length openers == limits.most) ≡ false → new.openers.items ≡ items ++ opener ∷ []
          → new.looked ≡ old.looked + 1 → new.last ≡ Some one.key → Stands limits with new
      stands_with_opener new near close room pushed more last = record {
        openers = ap (map entry_of) pushed ∙ map-append entry_of items (opener ∷ [])
            ∙ ap (λ (l : List Entry). l ++ entry_of opener ∷ []) stands.openers
            ∙ ap (λ (s : Entry). openers ++ s ∷ []) shown ∙ sym opens;
        within =
            rw opens (All-push (λ (opener : Entry). is_within limits with opener ≡ true) openers one
            within_still (ap (λ (n : ℕ). nat_le n limits.within) (gap_of_next before one) ∙ close));
        counted = rw pushed (counted_with 0 items (omega arith) counted);
        count = count_with new.looked more;
        last = last_is new.last last;
        goes_on = λ left. looks_on _ left (rw (more_left, new_one, near, room) refl);
      }

    -- ---- or it would open a place too many

    pub full_ends : nat_lt limits.within (gap_of before one.key) ≡ false
        → (length openers == limits.most) ≡ true → HasEnded limits with old Cut
    full_ends near full = record {
      looked = record { matchings = before; ending = Cut };
      places = ends_here stands Cut refl;
      looked_at = (one ∷ [], refl);
      looks = λ left. looks_on _ left (rw (more_left, new_one, near, full) refl);
    }

    -- ---- or its gap is beyond what is asked for

    module _ (far : limits.within < gap_of before one.key) where
      listed : listed_of limits with ≡ openers
      listed =
          let beyond : is_within limits with one ≡ false =
          ap (λ (n : ℕ). nat_le n limits.within) (gap_of_next before one)
          ∙ lt-leb (gap_of before one.key) limits.within far in
          let none : filter (is_within limits with) (one ∷ []) ≡ [] = rw beyond refl in
          ap (filter (is_within limits with)) opens
          ∙ filter-append (is_within limits with) openers (one ∷ [])
          ∙ ap (λ (l : List Entry). filter (is_within limits with) openers ++ l) none ∙ append-nil _
          ∙ all_pass (is_within limits with) openers within_still

      margin_beyond : (l : List Opener) → AreCounted limits with 0 l → map entry_of l ≡ openers
          → margin_in l (Beyond (gap_of before one.key)) ≡ margin_of limits with
      margin_beyond [] counted are =
          let none = gap_at_first limits before [] one.key are in
          absurd (omega arith)
      margin_beyond (first ∷ []) counted are =
          rw (opens, ← are) (ap (λ (n : ℕ). Some n) (sym (gap_of_next before one)))
      margin_beyond (first ∷ second ∷ others) counted are =
          margin_is limits with first second others (one ∷ []) counted (opens
          ∙ ap (λ (l : List Entry). l ++ one ∷ []) (sym are))

      pub beyond_ends : (new : Looking) → nat_lt limits.within (gap_of before one.key) ≡ true
          → new.openers ≡ old.openers → new.looked ≡ old.looked + 1
          → new.last ≡ Some one.key → HasEnded limits with new (Beyond (gap_of before one.key))
      beyond_ends new beyond same more last = record {
        looked = record { matchings = with; ending = Beyond (gap_of before one.key) };
        places = record {
          openers = rw same (stands.openers ∙ sym listed);
          counted = rw same counted;
          count = count_with new.looked more;
          last = last_is new.last last;
          margin = rw same (margin_beyond items counted stands.openers);
          ending = refl;
        };
        looked_at = ([], sym (append-nil with));
        looks = λ left. looks_on _ left (rw (more_left, new_one, beyond) refl);
      }
