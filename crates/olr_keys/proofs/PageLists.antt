-- What is left of a rising list after some of its keys.
use Rattle.olr_keys.proofs.Common.{◌≡◌, ℕ, zero, suc, ◌+◌, ◌-◌, ◌<◌, ◌≤◌, ◌++◌, Bool, true, List, [], ◌∷◌, length, drop, get_or, Option, Some, None, inl, inr, refl, sym, ap, ◌∙◌, append_assoc, length-append, arith, AllPairs, Contains, is_some, slice_get, append-nil, take_all, take_at, Contains-append_cases, Contains-append_right, slice_get_within, IsAfter, IsNext, IsPosition, KeyValue, IsBefore, asymmetric, IsRestAfter, IsPageAfter, IsPageOf, last_of, further, here, member, behind_first, rest_rises}

-- ---- the last key

found_at : (before : Option KeyValue) (keys : List KeyValue) (index : ℕ) (key : KeyValue)
    → suc index ≡ length keys → Some key ≡ slice_get keys index → Some key ≡ last_of before keys
found_at before [] index key last is = absurd cc
found_at before (first ∷ []) zero key last is = is
found_at before (first ∷ []) (suc index) key last is = absurd (omega arith)
found_at before (first ∷ second ∷ keys) zero key last is = absurd (omega arith)
found_at before (first ∷ second ∷ keys) (suc index) key last is =
    found_at (Some first) (second ∷ keys) index key (omega arith) is

pub last_found : (before : Option KeyValue) (keys : List KeyValue) (key : KeyValue)
    → Some key ≡ slice_get keys (length keys - 1) → Some key ≡ last_of before keys
last_found before keys key is = grind (arith, found_at, slice_get_within)

-- ---- what is left

-- what is left after the first keys of the rest is the rest after the last of them
pub after_keys : (answers : List KeyValue) (after : Option KeyValue) (keys left : List KeyValue)
    → IsRestAfter answers after (keys ++ left) → IsRestAfter answers (last_of after keys) left
after_keys answers after [] left rest = rest
after_keys answers None (key ∷ keys) left rest =
    after_keys answers (Some key) keys left ([], sym rest)
after_keys answers (Some after) (key ∷ keys) left (front, is) =
    after_keys _ _ keys left (
      front ++ after ∷ [],
      is
          ∙ sym (append_assoc front (after ∷ []) (key ∷ (keys ++ left))),
    )

-- a key with a rest after it is a member
pub position_within : (answers : List KeyValue) (after : Option KeyValue) (rest : List KeyValue)
    → IsRestAfter answers after rest → IsPosition answers after
position_within answers None rest is = tt
position_within answers (Some after) rest (front, is) =
    rw is (Contains-append_right front (after ∷ rest) after (here after _))

-- and a member has one
split_at : (answers : List KeyValue) (index : ℕ) {key : KeyValue} → index < length answers
    → get_or answers index key ≡ key → (rest : List KeyValue) × IsRestAfter answers (Some key) rest
split_at [] index inside is = absurd (omega arith)
split_at (first ∷ answers) zero inside is = (answers, ([], ap (λ k. k ∷ answers) is))
split_at (first ∷ answers) (suc index) inside is =
    let later = split_at _ _ (omega arith) is in
    (later.0, (first ∷ later.1.0, ap (λ l. first ∷ l) later.1.1))

pub rest_of : (answers : List KeyValue) (after : Option KeyValue) → IsPosition answers after
    → (rest : List KeyValue) × IsRestAfter answers after rest
rest_of answers None position = (answers, refl)
rest_of answers (Some after) (index, inside, is) = split_at _ _ inside is

-- ---- rising lists in two parts

later_rises : (front rest : List KeyValue) → AllPairs IsBefore (front ++ rest)
    → AllPairs IsBefore rest
later_rises [] rest rise = rise
later_rises (key ∷ front) rest rise = later_rises front rest (rest_rises IsBefore asymmetric key _ rise)

earlier_before : (front rest : List KeyValue) (a b : KeyValue) → AllPairs IsBefore (front ++ rest)
    → Contains front a → Contains rest b → IsBefore a b
earlier_before [] rest a b rise in_front in_rest = absurd (omega arith)
earlier_before (key ∷ front) rest a b rise in_front in_rest = elim (member key _ a in_front) [
  | inl same ↦ rw (← same) (behind_first IsBefore asymmetric key _ rise b (Contains-append_right _ _ b in_rest))
  | inr later ↦ earlier_before front rest a b (rest_rises IsBefore asymmetric key _ rise) later in_rest
]

module _ (answers : List KeyValue) (rise : AllPairs IsBefore answers) where
  pub rest_rises_too : (after : Option KeyValue) (rest : List KeyValue)
      → IsRestAfter answers after rest → AllPairs IsBefore rest
  rest_rises_too None rest is = rw is rise
  rest_rises_too (Some after) rest (front, is) =
      let all : AllPairs IsBefore (front ++ after ∷ rest) = rw (← is) rise in
      rest_rises IsBefore asymmetric after _ (later_rises front (after ∷ rest) all)

  -- the members of the rest are the keys after the position
  pub in_answers : (after : Option KeyValue) (rest : List KeyValue) {key : KeyValue}
      → IsRestAfter answers after rest → Contains rest key → Contains answers key
      × IsAfter after key
  in_answers None rest is there = (rw (← is) there, tt)
  in_answers (Some after) rest {key} (front, is) there =
      let all : AllPairs IsBefore (front ++ after ∷ rest) = rw (← is) rise in (
        rw is (Contains-append_right front (after ∷ rest) _ (further after _ key there)),
        behind_first IsBefore asymmetric after _ (later_rises front (after ∷ rest) all) key there,
      )

  pub in_rest : (after : Option KeyValue) (rest : List KeyValue) (key : KeyValue)
      → IsRestAfter answers after rest → Contains answers key → IsAfter after key
      → Contains rest key
  in_rest None rest key is there later = rw is there
  in_rest (Some after) rest key (front, is) there later =
      let all : AllPairs IsBefore (front ++ after ∷ rest) = rw (← is) rise in
      elim (Contains-append_cases front (after ∷ rest) key (rw (← is) there)) [
        | inl in_front ↦ absurd (asymmetric _ _ later
            (earlier_before _ _ _ _ all in_front (here after _)))
        | inr second ↦ elim (member after _ key second) [
          | inl same ↦ let itself =
              rw (sym same) at later in
              absurd (asymmetric _ _ itself itself)
          | inr within ↦ within
        ]
      ]

  -- the least key after a position is the first of the rest
  pub next_is : (after : Option KeyValue) (rest : List KeyValue) (found : Option KeyValue)
      → IsRestAfter answers after rest → IsNext answers after found → found ≡ slice_get rest 0
  next_is after [] None is next = refl
  next_is after [] (Some key) is next = grind (arith, in_rest)
  next_is after (first ∷ others) None is next =
      absurd (next first (in_answers _ _ is (here first _)))
  next_is after (first ∷ others) (Some key) is next =
      elim (next.1 first (in_answers _ _ is (here first _))) [
        | inl same ↦ ap Some (sym same)
        | inr before ↦ elim (member first _ key (in_rest _ _ _ is next.0.0 next.0.1)) [
          | inl same ↦ ap Some (sym same)
          | inr later ↦ absurd (asymmetric _ _ before
              (behind_first IsBefore asymmetric first _ (rest_rises_too _ _ is) key later))
        ]
      ]

-- ---- a page

-- the keys read so far, and what is left of the rest after them
pub record AreFirst (answers : List KeyValue) (after : Option KeyValue)
    (keys : List KeyValue) : Type 0 where
  pub left : List KeyValue
  pub rest : IsRestAfter answers after (keys ++ left)

pub first_none : {answers : List KeyValue} {after : Option KeyValue} → IsPosition answers after
    → AreFirst answers after []
first_none position = let rest = rest_of _ _ position in record { left = rest.0; rest = rest.1 }

pub first_and_others : {X : Type 0} {x : X} (xs : List X) → Some x ≡ slice_get xs 0 → xs ≡ x ∷ drop 1 xs
first_and_others [] is = absurd cc
first_and_others (y ∷ xs) is = cc

pub first_more : {answers : List KeyValue} {after : Option KeyValue} (keys : List KeyValue)
    (found : Option KeyValue) (key : KeyValue) → AllPairs IsBefore answers
    → AreFirst answers after keys
    → IsNext answers (last_of after keys) found → found ≡ Some key
    → AreFirst answers after (keys ++ key ∷ [])
first_more keys found key rise first next some =
    let is = next_is _ rise _ first.left found (after_keys _ _ keys first.left first.rest) next in
    let same : keys ++ first.left ≡ (keys ++ key ∷ []) ++ drop 1 first.left =
    cc (
      first_and_others _ (sym some ∙ is),
      append_assoc keys (key ∷ [])
          (drop 1 first.left),
    ) in
    record { left = drop 1 first.left; rest = rw (← same) first.rest }

pub one_longer : {grown : List KeyValue} (keys : List KeyValue) (key : KeyValue) {count : ℕ}
    → grown ≡ keys ++ key ∷ [] → length keys ≡ count → length grown ≡ count + 1
one_longer keys key is counted = grind (arith, length-append)

pub position_after : {answers : List KeyValue} {after : Option KeyValue} (keys : List KeyValue)
    → AreFirst answers after keys → IsPosition answers (last_of after keys)
position_after keys first = grind (arith, position_within, after_keys)

-- a page is the keys before what is left: all of them, or as many as its size
page_before : {size : ℕ} (keys left : List KeyValue) {more : Bool}
    → more ≡ is_some (slice_get left 0) → (more ≡ true → length keys ≡ size) → length keys ≤ size
    → IsPageOf (keys ++ left) size (record { keys = keys; more = more })
page_before keys [] is full at_most = grind (arith, take_all, length-append, append-nil)
page_before {size} keys (key ∷ others) is full at_most = grind (arith, take_at, length-append)

-- ---- the same for what calls answer

same_next : {now answers : List KeyValue} {position other : Option KeyValue}
    (found : Option KeyValue) → now ≡ answers → position ≡ other → IsNext now position found
    → IsNext answers other found
same_next found same at next = rw (← same) (rw (← at) next)

module _ {now answers : List KeyValue} (same : now ≡ answers) {after position : Option KeyValue}
    {keys items : List KeyValue} (are : items ≡ keys) (at : position ≡ last_of after items)
    (first : AreFirst answers after keys) where
  position_is : position ≡ last_of after keys
  position_is = cc

  pub position_read : IsPosition now position
  position_read = rw position_is (rw same (position_after _ first))

  module _ (rise : AllPairs IsBefore answers) (found : Option KeyValue)
      (next : IsNext now position found) where
    pub more_read : {key : KeyValue} {grown : List KeyValue} → found ≡ Some key
        → grown ≡ keys ++ key ∷ [] → AreFirst answers after grown
    more_read some is =
        rw is (first_more _ _ _ rise first (same_next _ same position_is next) some)

    pub page_read : {size : ℕ} {more : Bool} → more ≡ is_some found
        → (more ≡ true → length keys ≡ size) → length keys ≤ size
        → IsPageAfter answers after size (record { keys = keys; more = more })
    page_read is full at_most =
        let next_here = next_is _ rise _ first.left found
        (after_keys _ _ keys first.left first.rest) (same_next _ same position_is next) in
        record {
          rest = keys ++ first.left;
          is_rest = first.rest;
          is_page =
              page_before _ _ (is ∙ ap is_some next_here) full at_most;
        }
