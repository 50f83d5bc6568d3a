use Rattle.olr_why.proofs.OneWhy as reasons
use Rattle.olr_why.proofs.laws.one_why.Goals as goal

pub returns : goal.returns
returns c = reasons.one_why (record {
  one_verdict = c.one_verdict.ensures;
  matching_has_key = c.matching_has_key.ensures;
  one_list_of_point = c.one_list_of_point.ensures;
  no_list_and_too_many = c.no_list_of_point_and_too_many.ensures;
  one_list_of_nearest = c.one_list_of_nearest.ensures;
  one_list = c.one_list.ensures.at_most;
  one_layers = c.one_layers.ensures;
})
