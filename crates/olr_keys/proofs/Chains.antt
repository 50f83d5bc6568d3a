-- Pages, one after the other, of a rising list.
use Rattle.std.proofs.lemmas.Grind.{common_steps}
use Rattle.olr_keys.proofs.Common.{◌≡◌, ℕ, zero, suc, ◌+◌, ◌-◌, ◌<◌, ◌≤◌, ◌++◌, true, false, List, [], ◌∷◌, length, map, drop, Option, Some, None, refl, sym, ap, ◌∙◌, append_assoc, length-append, length-drop, length-take, arith, AllPairs, slice_get, cases_lt, append-nil, map-append, take-append-drop, take_all, slice_get_within, IsPosition, AreAllPages, AreEnded, AreResumed, joined, KeyValue, IsBefore, asymmetric, PageValue, IsRestAfter, IsPageOf, IsPageAfter, last_key_of, last_of, page_of, same_list}
use Rattle.olr_keys.specs.declared.pages.Page.{Page}
use Rattle.olr_keys.proofs.PageLists.{after_keys, in_answers, in_rest, position_within, rest_of, rest_rises_too}

-- ---- one rest

pub one_rest : (answers : List KeyValue) (after : Option KeyValue) {a b : List KeyValue}
    → AllPairs IsBefore answers → IsRestAfter answers after a → IsRestAfter answers after b → a ≡ b
one_rest answers after rise one other =
    same_list IsBefore asymmetric _ _ (rest_rises_too _ rise _ _ one)
    (rest_rises_too _ rise _ _ other)
    (λ key there. let is = in_answers _ rise _ _ one there in in_rest _ rise _ _ _ other is.0 is.1)
    (λ key there. let is = in_answers _ rise _ _ other there in in_rest _ rise _ _ _ one is.0 is.1)

-- ---- the last key

last_of_some : (before other : Option KeyValue) (keys : List KeyValue) → 1 ≤ length keys
    → last_of before keys ≡ last_of other keys
last_of_some before other [] some = absurd (omega arith)
last_of_some before other (key ∷ keys) some = refl

last_key_more : (before : Option KeyValue) (pages : List PageValue) (page : PageValue)
    → last_key_of before (pages ++ page ∷ []) ≡ last_of before page.keys
last_key_more before [] page = refl
last_key_more before (first ∷ []) page = refl
last_key_more before (first ∷ second ∷ pages) page = last_key_more before (second ∷ pages) page

found_at : (before : Option KeyValue) (pages : List Page) (index : ℕ) (page : Page)
    → suc index ≡ length pages → Some page ≡ slice_get pages index
    → last_of before page.keys.items ≡ last_key_of before (map page_of pages)
found_at before [] index page last is = absurd (omega arith)
found_at before (first ∷ []) zero page last is = grind arith
found_at before (first ∷ []) (suc index) page last is = absurd (omega arith)
found_at before (first ∷ second ∷ pages) zero page last is = absurd (omega arith)
found_at before (first ∷ second ∷ pages) (suc index) page last is =
    found_at before (second ∷ pages) index page (omega arith) is

pub last_key_found : (before : Option KeyValue) (pages : List Page) (page : Page)
    → Some page ≡ slice_get pages (length pages - 1)
    → last_of before page.keys.items ≡ last_key_of before (map page_of pages)
last_key_found before pages page is = grind (arith, found_at, slice_get_within)

-- ---- pages that are resumed and end

-- a page without more has all that is left
short_rest : (rest : List KeyValue) (size : ℕ) (page : PageValue) → IsPageOf rest size page
    → page.more ≡ false → length rest ≤ size
short_rest rest size page is last = grind (arith, cases_lt size (length rest))

page_and_rest : {rest : List KeyValue} {size : ℕ} {page : PageValue} → IsPageOf rest size page
    → page.keys ++ drop size rest ≡ rest
page_and_rest {rest} {size} is = grind (arith, take-append-drop)

module _ (answers : List KeyValue) (size : ℕ) (rise : AllPairs IsBefore answers) where
  pub pages_join : (after : Option KeyValue) (pages : List PageValue)
      → AreResumed answers after size pages → AreEnded pages
      → IsRestAfter answers after (joined pages)
  pages_join after [] resumed ended = absurd ended
  pages_join after (page ∷ []) (first, none) last = grind (arith, append-nil, take_all, short_rest)
  pages_join after (page ∷ next ∷ pages) (first, resumed) (more, ended) =
      let parts = page_and_rest first.is_page in
      let left =
      after_keys _ _ page.keys (drop size first.rest) (rw parts first.is_rest) in
      let same =
      one_rest _ _ rise (pages_join (last_of after page.keys) (next ∷ pages) resumed ended) left in
      rw (ap (λ l. page.keys ++ l) same ∙ parts) first.is_rest

-- ---- a chain so far

-- the pages so far, and what is left of the keys after them
pub record IsChainSoFar (answers : List KeyValue) (after : Option KeyValue) (size : ℕ)
    (pages : List PageValue) : Type 0 where
  pub left : List KeyValue
  pub rest : IsRestAfter answers (last_key_of after pages) left
  pub at_most : length pages + length left ≤ length answers
  pub goes_on : (others : List PageValue) → AreResumed answers (last_key_of after pages) size others
      → AreEnded others
      → AreResumed answers after size (pages ++ others) × AreEnded (pages ++ others)

rest_at_most : (answers : List KeyValue) (after : Option KeyValue) (rest : List KeyValue)
    → IsRestAfter answers after rest → length rest ≤ length answers
rest_at_most answers None rest is = omega (arith, ap length is)
rest_at_most answers (Some after) rest (front, is) = grind (arith, length-append, rest)

pub chain_start : {answers : List KeyValue} (after : Option KeyValue) {size : ℕ}
    → IsPosition answers after → IsChainSoFar answers after size []
chain_start after position = grind (arith, common_steps, rest_of, rest_at_most)

ended_later : (page : PageValue) (others : List PageValue) → page.more ≡ true → AreEnded others
    → AreEnded (page ∷ others)
ended_later page [] more ended = absurd ended
ended_later page (next ∷ others) more ended = (more, ended)

module _ (answers : List KeyValue) (after : Option KeyValue) (size : ℕ) (pages : List PageValue)
    (page : PageValue) (rise : AllPairs IsBefore answers)
    (so_far : IsChainSoFar answers after size pages)
    (next : IsPageAfter answers (last_key_of after pages) size page) where
  is_page : IsPageOf so_far.left size page
  is_page = grind (arith, one_rest)

  chain_more : 1 ≤ size → page.more ≡ true → IsChainSoFar answers after size (pages ++ page ∷ [])
  chain_more least more =
      let longer = is_page.more.0 more in
      let some : 1 ≤ length page.keys =
      omega (
        arith,
        ap (λ (l : List KeyValue). length l) is_page.keys,
        length-take size
            so_far.left,
      ) in
      let position : last_of (last_key_of after pages) page.keys
      ≡ last_key_of after (pages ++ page ∷ []) =
      last_of_some _ after _ some ∙ sym (last_key_more after pages page) in
      let parts : page.keys ++ drop size so_far.left ≡ so_far.left = page_and_rest is_page in
      grind (arith, after_keys, length-append, length-drop, append_assoc, ended_later)

  chain_end : page.more ≡ false → AreAllPages answers after size (pages ++ page ∷ [])
  chain_end last = grind (arith, pages_join)

  -- how many pages there may be yet
  chain_smaller : page.more ≡ true
      → length answers - length (pages ++ page ∷ []) < length answers - length pages
  chain_smaller more = omega (arith, is_page.more.0 more, length-append pages (page ∷ []))

-- ---- the same for what calls answer

module _ {now answers : List KeyValue} (same : now ≡ answers) {position : Option KeyValue}
    (after : Option KeyValue) {size count : ℕ} (counted : count ≡ size) {pages items : List Page}
    (are : items ≡ pages)
    (at : position ≡ last_key_of after (map page_of items))
    (so_far : IsChainSoFar answers after size (map page_of pages)) where
  position_is : position ≡ last_key_of after (map page_of pages)
  position_is = cc

  pub position_found : IsPosition now position
  position_found =
      rw position_is (rw same (position_within _ _ _ so_far.rest))

  module _ (rise : AllPairs IsBefore answers) (page : Page)
      (next : IsPageAfter now position count (page_of page)) {grown : List Page}
      (grows : grown ≡ pages ++ page ∷ []) where
    next_page : IsPageAfter answers (last_key_of after (map page_of pages)) size (page_of page)
    next_page =
        rw (← same) (rw (← position_is) (rw (← counted) next))

    grown_pages : map page_of grown ≡ map page_of pages ++ page_of page ∷ []
    grown_pages = cc (map-append page_of pages (page ∷ []))

    pub continues : 1 ≤ count → page.more ≡ true
        → IsChainSoFar answers after size (map page_of grown)
    continues least more = grind (arith, grown_pages, chain_more, next_page)

    pub ends : page.more ≡ false → AreAllPages answers after size (map page_of grown)
    ends last = grind (arith, grown_pages, chain_end, next_page)

    pub fewer_left : page.more ≡ true
        → length answers - length (map page_of grown) < length answers - length (map page_of pages)
    fewer_left more = grind (arith, grown_pages, chain_smaller, next_page)
