use Rattle.std.proofs.Common.{refl}
use Rattle.olr_why.proofs.Halving.{least_in, none_in}
use Rattle.olr_why.proofs.widening.least_of_them.Goals as goal

pub returns-in_default : goal.returns-in_default
returns-in_default c road given reference differ is =
    none_in is c.requires c.one_candidate_a_line.ensures differ c.in_default.is

pub returns : goal.returns
returns c road given reference differ is = (
  c.args.bracket.high,
  c.in-Some.key,
  refl,
  refl,
  least_in is c.requires c.matching_has_key.ensures c.in-Some.is,
)
