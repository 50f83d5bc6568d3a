use Rattle.olr_why.proofs.Trials.{uncrowded}
use Rattle.olr_why.proofs.trying.is_crowded_with.Goals as goal

pub returns-in_default : goal.returns-in_default
returns-in_default c = record {
  changed = c.with_value-changed.result.tolerances;
  is_changed = c.with_value-changed.ensures.tolerances;
  is = rw (← c.with_value-changed.ensures.map, ← c.with_value-changed.ensures.reference)
      (rw c.in_default.is at c.in_ok-_lists.ensures);
}

pub returns : goal.returns
returns c = record {
  changed = c.with_value-changed.result.tolerances;
  is_changed = c.with_value-changed.ensures.tolerances;
  uncrowded = rw (← c.with_value-changed.ensures.map, ← c.with_value-changed.ensures.reference)
      (uncrowded c.with_value-changed.result.map.now (rw c.in-Some.is at c.in_ok-_lists.ensures)
      c.no_lists_and_too_many.ensures);
}
