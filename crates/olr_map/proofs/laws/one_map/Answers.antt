use Rattle.olr_map.proofs.OneMap.{map_once}
use Rattle.olr_map.proofs.laws.one_map.Goals as goal

pub returns : goal.returns
returns c = map_once
