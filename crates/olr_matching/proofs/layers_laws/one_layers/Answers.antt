use Rattle.olr_matching.proofs.OneLayers as layers
use Rattle.olr_matching.proofs.layers_laws.one_layers.Goals as goal

pub returns : goal.returns
returns c = layers.one_layers c.one_lists.ensures
