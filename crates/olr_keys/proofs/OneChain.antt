-- Pages of a rising list: those after one position and of one size are the same.
use Rattle.std.proofs.Common.{arith}
use Rattle.olr_keys.proofs.Chains.{one_rest}
use Rattle.olr_keys.proofs.Common.{◌≡◌, ℕ, Bool, true, false, List, [], ◌∷◌, Option, Some, sym, ap, ◌∙◌, AllPairs, same_from_decides, AreEnded, AreResumed, KeyValue, IsBefore, PageValue, IsPageOf, IsPageAfter, last_of, NoPageBehindOthers}
use Rattle.olr_keys.proofs.PageLists.{position_within}

-- ---- one page

abbrev page_with : List KeyValue → Bool → PageValue
page_with keys more = record { keys = keys; more = more }

same_page : (page other : PageValue) → page.keys ≡ other.keys → page.more ≡ other.more
    → page ≡ other
same_page page other keys more = grind arith

-- a page with more is no page without more
differ : {page other : PageValue} → page ≡ other → page.more ≡ false → other.more ≡ true → ⊥
differ same none more = absurd cc

-- a rest has one page of a size
page_of_rest : {rest : List KeyValue} {size : ℕ} (page other : PageValue) → IsPageOf rest size page
    → IsPageOf rest size other → page ≡ other
page_of_rest page other one two =
    same_page _ _ (cc) (same_from_decides page.more other.more one.more two.more)

module _ (answers : List KeyValue) (rise : AllPairs IsBefore answers) where
  pub one_page : (after : Option KeyValue) (size : ℕ) (page other : PageValue)
      → IsPageAfter answers after size page → IsPageAfter answers after size other → page ≡ other
  one_page after size page other one two = grind (arith, one_rest, page_of_rest)

  -- ---- one list of pages

  -- each list ends at its first page without more
  module _ (size : ℕ) where
    pub one_chain : (after : Option KeyValue) (pages others : List PageValue)
        → AreResumed answers after size pages → AreEnded pages
        → AreResumed answers after size others → AreEnded others → pages ≡ others
    one_chain after [] others resumed ended as_resumed as_ended = absurd ended
    one_chain after (page ∷ pages) [] resumed ended as_resumed as_ended = absurd as_ended
    one_chain after (page ∷ []) (other ∷ []) resumed ended as_resumed as_ended =
        cc (one_page _ _ _ _ resumed.0 as_resumed.0)
    one_chain after (page ∷ []) (other ∷ next ∷ others) resumed ended as_resumed as_ended =
        let same = one_page _ _ _ _ resumed.0 as_resumed.0 in
        absurd (differ same ended as_ended.0)
    one_chain after (page ∷ next ∷ pages) (other ∷ []) resumed ended as_resumed as_ended =
        let same = one_page _ _ _ _ as_resumed.0 resumed.0 in
        absurd (differ same as_ended ended.0)
    one_chain after (page ∷ next ∷ pages) (other ∷ second ∷ others) resumed ended as_resumed
        as_ended =
        let same = one_page _ _ _ _ as_resumed.0 resumed.0 in
        let later : AreResumed answers (last_of after page.keys) size (second ∷ others) =
        rw (← same) as_resumed.1 in
        let rest =
        one_chain _ _ _ resumed.1 ended.1 later as_ended.1 in
        ap (λ l. page ∷ l) rest
        ∙ ap (λ p. p ∷ second ∷ others) (sym same)

-- ---- no page after a key that the list doesn't contain

pub no_page_behind_others : NoPageBehindOthers
no_page_behind_others answers key size page is =
    position_within answers (Some key) is.rest is.is_rest
