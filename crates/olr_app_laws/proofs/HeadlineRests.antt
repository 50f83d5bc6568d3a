-- Pages of a rising list, each of a size of its own: the keys of a page, and those of the pages
-- after it.
use Rattle.std.proofs.lemmas.Bool.{cases_lt}
use Rattle.olr_app_laws.proofs.Common.{AreAnswers, KeyValue, IsInRange, PageValue, IsPageAfter, IsRestAfter, last_of, Penalties, next_after, ◌≡◌, ℕ, ◌≤◌, List, [], ◌∷◌, ◌++◌, length, drop, Bool, true, false, Option, None, Some, refl, sym, ap, ◌∙◌, subst, length-take, arith, AllPairs, Contains, if◌then◌else◌, take-append-drop, take_all, All-contains, IsBefore, one_rest}
use Rattle.olr_keys.specs.Laws.{KeysAreInRange}
use Rattle.olr_keys.specs.Table.{IsTable}
use Rattle.olr_keys.proofs.PageLists.{after_keys, position_within}

-- ---- the last key of a page

last_from : (before : Option KeyValue) (keys : List KeyValue) (key : KeyValue)
    → last_of None keys ≡ Some key → last_of before keys ≡ Some key
last_from before [] key is = absurd cc
last_from before (first ∷ keys) key is = is

last_behind : (key : KeyValue) (keys : List KeyValue)
    → (last : KeyValue) × (last_of (Some key) keys ≡ Some last)
last_behind key [] = (key, refl)
last_behind key (next ∷ keys) = last_behind next keys

last_exists : (keys : List KeyValue) → 1 ≤ length keys
    → (last : KeyValue) × (last_of None keys ≡ Some last)
last_exists [] some = absurd (omega arith)
last_exists (key ∷ keys) some = last_behind key keys

next_some : (more : Bool) (keys : List KeyValue) (key : KeyValue)
    → (if more then last_of None keys else None) ≡ Some key → last_of None keys ≡ Some key
next_some true keys key is = is
next_some false keys key is = absurd cc

pub next_more : (more : Bool) (keys : List KeyValue) (key : KeyValue)
    → (if more then last_of None keys else None) ≡ Some key → more ≡ true
next_more true keys key is = refl
next_more false keys key is = absurd cc

next_none : (more : Bool) (keys : List KeyValue) → (more ≡ true → 1 ≤ length keys)
    → (if more then last_of None keys else None) ≡ None → more ≡ false
next_none false keys some none = refl
next_none true keys some none = let last = last_exists _ (some refl) in absurd cc

-- ---- a page and what follows it

module _ (keys : List KeyValue) (named : Option KeyValue) (size : ℕ) (page : PageValue)
    (is : IsPageAfter keys named size page) where
  parts : page.keys ++ drop size is.rest ≡ is.rest
  parts = rw is.is_page.keys (take-append-drop size is.rest)

  pub left_after : (key : KeyValue) → next_after page ≡ Some key
      → IsRestAfter keys (Some key) (drop size is.rest)
  left_after key next = grind (arith, parts, last_from, next_some, after_keys)

  -- the keys of the page, and those after its last one
  pub page_and_rest : (key : KeyValue) (rest : List KeyValue) → AllPairs IsBefore keys
      → next_after page ≡ Some key → IsRestAfter keys (Some key) rest
      → IsRestAfter keys named (page.keys ++ rest)
  page_and_rest key rest rise next is_rest = subst (λ l. IsRestAfter keys named l)
      (sym (ap (λ l. page.keys ++ l) (one_rest keys (Some key) rise is_rest (left_after key next))
      ∙ parts)) is.is_rest

  some_keys : 1 ≤ size → page.more ≡ true → 1 ≤ length page.keys
  some_keys least more = grind (arith, length-take)

  -- a page behind which more follow has a last key
  pub next_exists : 1 ≤ size → page.more ≡ true → (key : KeyValue) × (next_after page ≡ Some key)
      × ((before : Option KeyValue) → last_of before page.keys ≡ Some key)
  next_exists least more = grind (arith, last_exists, some_keys, last_from)

  at_most : page.more ≡ false → length is.rest ≤ size
  at_most none = grind (arith, cases_lt)

  -- a page without a next key has all that is left
  pub page_is_rest : 1 ≤ size → next_after page ≡ None → IsRestAfter keys named page.keys
  page_is_rest least none = grind (arith, next_none, some_keys, take_all, at_most)

  -- the last key of a page behind which more follow
  pub next_within : (key : KeyValue) → next_after page ≡ Some key → Contains keys key
  next_within key next = position_within keys (Some key) (drop size is.rest) (left_after key next)

  -- it is in range
  pub next_in_range : (penalties : Penalties) → KeysAreInRange → IsTable penalties
      → AreAnswers penalties keys → (key : KeyValue) → next_after page ≡ Some key → IsInRange key
  next_in_range penalties ranges table answers key next = grind (arith, All-contains, next_within)
