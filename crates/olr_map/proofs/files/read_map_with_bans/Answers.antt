use Rattle.olr_map.proofs.Soundness.{bans_are_sound}
use Rattle.olr_map.proofs.Reported.{map_reported, known_left}
use Rattle.olr_map.proofs.files.read_map_with_bans.Goals as goal

pub new-requires : goal.new-requires
new-requires g c =
    let accepted = c.in_ok-network.ensures.accepted in
    let read = c.in_ok-bans.ensures.bans in
    record {
      nodes = accepted.nodes_accepted.sound;
      lines = accepted.sound;
      bans = bans_are_sound read.2;
    }

pub returns-clause-map : goal.returns-clause-map
returns-clause-map g c =
    let read = c.in_ok-bans.ensures.bans in
    rw c.in_ok-map.ensures (map_reported c.in_ok-network.ensures.accepted (bans_are_sound read.2)
    (known_left _ _ read.1 read.2))
