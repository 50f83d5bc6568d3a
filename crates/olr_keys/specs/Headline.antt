-- The headline. For a table of penalties, the pages of any size, each resumed at the last key of
-- the one before, joined are exactly the keys of all matchings, each once, by the total and then by
-- the ranks; resumed at the key of any matching they are exactly the keys after it.
use Rattle.std.specs.Prelude.{◌≡◌, ℕ, ⊤, true, false, List, [], ◌∷◌, ◌++◌, Option}
use Rattle.olr_keys.specs.Answers.{AreAnswers}
use Rattle.olr_keys.specs.Key.{KeyValue}
use Rattle.olr_keys.specs.Page.{PageValue, IsRestAfter, IsPageAfter, last_of}
use Rattle.olr_keys.specs.Table.{Penalties}

-- the keys of pages, one page after the other
abbrev pub joined : List PageValue → List KeyValue
joined [] = []
joined (page ∷ pages) = page.keys ++ joined pages

-- each page is the one after the last key of the page before it; the first page is the one after
-- this position
abbrev pub AreResumed : List KeyValue → Option KeyValue → ℕ → List PageValue → Type 0
AreResumed answers after size [] = ⊤
AreResumed answers after size (page ∷ pages) = IsPageAfter answers after size page
    × AreResumed answers (last_of after page.keys) size pages

-- there is at least one page; every page but the last one has more, and the last one hasn't
abbrev pub AreEnded : List PageValue → Type 0
AreEnded [] = ⊥
AreEnded (page ∷ []) = page.more ≡ false
AreEnded (page ∷ next ∷ pages) = (page.more ≡ true) × AreEnded (next ∷ pages)

-- The pages of a list after a key of it, or all its pages: joined they are exactly the keys after
-- it, or all keys; each is resumed at the last key of the page before it; there is at least one,
-- and the first one without more is the last.
pub record AreAllPages (answers : List KeyValue) (after : Option KeyValue) (size : ℕ)
    (pages : List PageValue) : Type 0 where
  pub keys : IsRestAfter answers after (joined pages)
  pub resumed : AreResumed answers after size pages
  pub ended : AreEnded pages

-- The headline. Where a finder lists the answers of a table, these pages are those of the answers:
-- all pages, or those after a key.
abbrev pub Headline : List KeyValue → Option KeyValue → ℕ → List PageValue → Type 0
Headline listed after size pages = (penalties : Penalties) → AreAnswers penalties listed
    → AreAllPages listed after size pages
