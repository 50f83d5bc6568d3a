use Rattle.olr_words.proofs.EdgeTexts.{west_of, south_of, east_of, north_of}
use Rattle.olr_words.proofs.box_text.edges_in.Goals as goal

pub returns-in_err-west : goal.returns-in_err-west
returns-in_err-west c = rw c.from_residual.ensures (λ box. c.in_err-west.ensures _ _ (west_of box))

pub returns-in_err-south : goal.returns-in_err-south
returns-in_err-south c = rw c.from_residual-in_err-south.ensures
    (λ box. c.in_err-south.ensures _ _ (south_of c.in_ok-west.ensures box))

pub returns-in_err-east : goal.returns-in_err-east
returns-in_err-east c = rw c.from_residual-in_err-east.ensures
    (λ box. c.in_err-east.ensures _ _ (east_of c.in_ok-west.ensures c.in_ok-south.ensures box))

pub returns-in_err-north : goal.returns-in_err-north
returns-in_err-north c = rw c.from_residual-in_err-north.ensures
    (λ box. c.in_err-north.ensures _
    (north_of c.in_ok-west.ensures c.in_ok-south.ensures c.in_ok-east.ensures box))
