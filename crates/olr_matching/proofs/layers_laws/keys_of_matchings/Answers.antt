use Rattle.olr_matching.proofs.Admissible.{keys_are}
use Rattle.olr_matching.proofs.Totals.{totals_are}
use Rattle.olr_matching.proofs.layers_laws.keys_of_matchings.Goals as goal

pub returns : goal.returns
returns c = record {
  keys = keys_are c.one_list_of_point.ensures;
  totals = totals_are c.one_list_of_point.ensures;
}
