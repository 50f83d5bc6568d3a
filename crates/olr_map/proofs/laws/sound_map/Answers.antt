use Rattle.olr_map.proofs.Soundness.{map_is_sound}
use Rattle.olr_map.proofs.laws.sound_map.Goals as goal

pub returns : goal.returns
returns c = map_is_sound
