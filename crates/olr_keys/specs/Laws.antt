-- Laws on the answers of a table and their pages. Each is the contract of a public function that
-- does nothing at run time.
use Rattle.std.specs.Prelude.{◌≡◌, ℕ, ◌<◌, List, Option, Some, Contains}
use Rattle.olr_keys.specs.Answers.{AreAnswers}
use Rattle.olr_keys.specs.AnswersOf.{answers_of}
use Rattle.olr_keys.specs.Headline.{AreAllPages, AreEnded, AreResumed, joined}
use Rattle.olr_keys.specs.Key.{KeyValue, IsInRange}
use Rattle.olr_keys.specs.Matching.{IsKey, IsRemainingTotal}
use Rattle.olr_keys.specs.Page.{PageValue, IsRestAfter, IsPageAfter}
use Rattle.olr_keys.specs.Rows.{IsTotal, width_of}
use Rattle.olr_keys.specs.Table.{Penalties, IsTable}

-- a table has one list of answers at most
abbrev pub OneList : Type 0
OneList = (penalties : Penalties) (a b : List KeyValue) → AreAnswers penalties a
    → AreAnswers penalties b → a ≡ b

-- and it has one
abbrev pub HasList : Type 0
HasList = (penalties : Penalties) → AreAnswers penalties (answers_of penalties)

-- the key of a matching of a table is in the ranges of a key
abbrev pub KeysAreInRange : Type 0
KeysAreInRange = (penalties : Penalties) (key : KeyValue) → IsTable penalties → IsKey penalties key
    → IsInRange key

-- each remaining total of a candidate is below the width of the table
abbrev pub RemainingAreBelow : Type 0
RemainingAreBelow = (penalties : Penalties) (layer rank total : ℕ)
    → IsRemainingTotal penalties layer rank total → total < width_of penalties

-- and so is the total of each matching
abbrev pub TotalsAreBelow : Type 0
TotalsAreBelow = (penalties : Penalties) (total : ℕ) → IsTotal penalties total
    → total < width_of penalties

-- Pages that were taken one by one, each resumed at the last key of the one before, up to one
-- without more: joined, they are exactly the keys after the position at which the first page began.
abbrev pub PagesJoin : Type 0
PagesJoin = (penalties : Penalties) (answers : List KeyValue) (after : Option KeyValue) (size : ℕ)
    (pages : List PageValue) → AreAnswers penalties answers
    → AreResumed answers after size pages → AreEnded pages
    → IsRestAfter answers after (joined pages)

-- the answers of a table have at most one page of a size after a position
abbrev pub OnePage : Type 0
OnePage = (penalties : Penalties) (answers : List KeyValue) (after : Option KeyValue) (size : ℕ)
    (page other : PageValue) → AreAnswers penalties answers
    → IsPageAfter answers after size page → IsPageAfter answers after size other → page ≡ other

-- and at most one list of all pages, or of the pages after a key
abbrev pub OneChain : Type 0
OneChain = (penalties : Penalties) (answers : List KeyValue) (after : Option KeyValue) (size : ℕ)
    (pages others : List PageValue) → AreAnswers penalties answers
    → AreAllPages answers after size pages → AreAllPages answers after size others → pages ≡ others

-- a list has a page after a key only where it contains the key
abbrev pub NoPageBehindOthers : Type 0
NoPageBehindOthers = (answers : List KeyValue) (key : KeyValue) (size : ℕ) (page : PageValue)
    → IsPageAfter answers (Some key) size page → Contains answers key
