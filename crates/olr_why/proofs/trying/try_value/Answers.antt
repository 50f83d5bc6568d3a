use Rattle.olr_why.proofs.trying.try_value.Goals as goal

pub returns : goal.returns
returns c = record {
  changed = c.with_value-changed.result.tolerances;
  is_changed = c.with_value-changed.ensures.tolerances;
  is = rw (← c.with_value-changed.ensures.map, ← c.with_value-changed.ensures.reference)
      c.in_ok-trial.ensures;
}
