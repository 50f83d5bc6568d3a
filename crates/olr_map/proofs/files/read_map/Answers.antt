use Rattle.olr_map.proofs.Common.{Ban, AreSoundBans, List, subst, sym}
use Rattle.olr_map.proofs.Soundness.{no_bans_are_sound}
use Rattle.olr_map.proofs.Reported.{map_reported}
use Rattle.olr_map.proofs.files.read_map.Goals as goal

pub returns-clause-map : goal.returns-clause-map
returns-clause-map g c =
    let bans = subst (λ (l : List Ban). AreSoundBans c.in_ok-network.network.lines l)
    (sym c.new.ensures.items) (no_bans_are_sound) in
    rw c.in_ok-map.ensures (map_reported c.in_ok-network.ensures.accepted bans tt)
