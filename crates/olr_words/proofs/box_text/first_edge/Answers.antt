use Rattle.olr_words.proofs.Commas.{cut_at, uncut}
use Rattle.olr_words.proofs.EdgeTexts.{no_edge}
use Rattle.olr_words.proofs.box_text.first_edge.Goals as goal

pub returns-in_err-edge : goal.returns-in_err-edge
returns-in_err-edge c = rw c.from_residual.ensures (λ z rest begins.
    uncut _ c.split_once.ensures.cases c.in_err-edge.was begins.first rest begins.joined)

pub returns-in_err-edge_in : goal.returns-in_err-edge_in
returns-in_err-edge_in c = rw c.from_residual-in_err-edge_in.ensures
    (no_edge (cut_at _ _ c.split_once.ensures.cases c.in_ok-edge.was) c.in_err-edge_in.ensures)
