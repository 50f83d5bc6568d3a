use Rattle.olr_keys.specs.Answers.{AreAnswers}
use Rattle.olr_places.proofs.Common.{answers_of, IsOpenerAt, ◌≡◌, ◌-◌, ◌≤◌, All}
use Rattle.olr_places.proofs.Progress.{Progress}
use Rattle.olr_places.proofs.finding.places_of.Given as goal

abbrev pub invariant-loop-looking : goal.invariant-loop-looking
invariant-loop-looking l = AreAnswers l.layers.penalties (answers_of l.finder.penalties)
    × Progress l.limits l.map l.layers (answers_of l.finder.penalties) l.looking
    × (l.routes ≡ record { road = l.map; layers = l.layers })
    × All (IsOpenerAt l.map l.layers) l.looking.openers.items × (l.looking.looked ≤ l.limits.look)

abbrev pub decreases-loop-looking : goal.decreases-loop-looking
decreases-loop-looking l = l.limits.look - l.looking.looked
