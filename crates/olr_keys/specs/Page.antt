-- Pages of a list of keys: what is on a page, which page comes after a key, and where the next one
-- begins.
use Rattle.std.specs.Prelude.{◌≡◌, ℕ, ◌<◌, List, [], ◌∷◌, ◌++◌, length, take, Bool, Option, None, Some, Decides}
use Rattle.olr_keys.specs.Key.{KeyValue}
use Rattle.olr_keys.specs.declared.pages.Page.{Page}

-- a page: some keys, and whether more follow
pub record PageValue : Type 0 where
  pub keys : List KeyValue
  pub more : Bool

-- the page that a call returned
abbrev pub page_of : Page → PageValue
page_of page = record { keys = page.keys.items; more = page.more }

-- ---- one page

-- The rest of the answers after a key of theirs, or from the beginning: the answers after it, or
-- all.
abbrev pub IsRestAfter : List KeyValue → Option KeyValue → List KeyValue → Type 0
IsRestAfter answers None rest = rest ≡ answers
IsRestAfter answers (Some key) rest = (front : List KeyValue) × (answers ≡ front ++ key ∷ rest)

-- the page of a size: the first keys of the rest, and whether the rest has more than these
pub record IsPageOf (rest : List KeyValue) (size : ℕ) (page : PageValue) : Type 0 where
  pub keys : page.keys ≡ take size rest
  pub more : Decides page.more (size < length rest)

-- the page of a size after a key of the answers, or the first page: that of the rest after it
pub record IsPageAfter (answers : List KeyValue) (after : Option KeyValue) (size : ℕ)
    (page : PageValue) : Type 0 where
  pub rest : List KeyValue
  pub is_rest : IsRestAfter answers after rest
  pub is_page : IsPageOf rest size page

-- ---- where the next page begins

-- the last key of a list, or the position before the list where it has none
abbrev pub last_of : Option KeyValue → List KeyValue → Option KeyValue
last_of before [] = before
last_of before (key ∷ keys) = last_of (Some key) keys

-- the last key of the last page, or the position before the pages where it has none or there is no
-- page
abbrev pub last_key_of : Option KeyValue → List PageValue → Option KeyValue
last_key_of before [] = before
last_key_of before (page ∷ []) = last_of before page.keys
last_key_of before (page ∷ next ∷ pages) = last_key_of before (next ∷ pages)
