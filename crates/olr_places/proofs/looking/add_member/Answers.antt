use Rattle.olr_places.proofs.Common.{Opener, ◌≡◌, ◌+◌, ◌<◌, ℕ, zero, suc, List, [], ◌∷◌, length, ap, set, get_or, min, ◌∙◌, refl, arith, one_more_at}
use Rattle.olr_places.proofs.looking.add_member.Goals as goal

set_is : (index : ℕ) (items : List Opener) (one other : Opener) → index < length items
    → one ≡ get_or items index one → other ≡ get_or items index other
    → set items index (record one { members = min (other.members + 1) 4294967295 })
    ≡ one_more_at index items
set_is index [] one other inside is is' = absurd (omega arith)
set_is zero (opener ∷ items) one other inside is is' = rw (is, is') refl
set_is (suc index) (opener ∷ items) one other inside is is' = ap (λ (l : List Opener). opener ∷ l)
    (set_is index items one other (omega arith) is is')

pub returns : goal.returns
returns c = ap (λ (members : ℕ). set c.args.openers.now.items c.args.index
    (record c.index_mut.result.now { members = members })) c.saturating_add.ensures
    ∙ set_is _ _ _ _ c.requires c.index_mut.ensures.value c.index.ensures
