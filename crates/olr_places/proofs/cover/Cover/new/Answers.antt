use Rattle.olr_places.proofs.Common.{Piece, covers, has_step, List, sym, ap, ◌∙◌, rules, IsNonDecreasingBy-from_sort_by_key, list_any-IsPermutation}
use Rattle.olr_places.proofs.cover.Cover.new.Goals as goal

pub returns-clause-rises : goal.returns-clause-rises
returns-clause-rises c = IsNonDecreasingBy-from_sort_by_key (λ (piece : Piece). piece.line) _
    c.sort_unstable_by_key.ensures.sorted (λ a r q k. search rules)

pub returns-clause-same : goal.returns-clause-same
returns-clause-same c = λ step.
    sym (list_any-IsPermutation (has_step step) _ _ c.sort_unstable_by_key.ensures.permutation)
    ∙ ap (λ (l : List Piece). covers l step) c.in_ok-pieces.ensures.items
