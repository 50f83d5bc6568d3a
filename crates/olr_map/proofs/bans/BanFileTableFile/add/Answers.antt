use Rattle.olr_map.proofs.Common.{rising_differ, rules, ◌≡◌, length, refl, arith}
use Rattle.olr_map.proofs.BanFaults.{stops_at}
use Rattle.olr_map.proofs.bans.BanFileTableFile.add.Goals as goal

pub returns-in-Err-clause-added : goal.returns-in-Err-clause-added
returns-in-Err-clause-added c =
    let size : length c.args.self.now.bans.items ≡ c.len.result = search rules in
    record {
      rows = refl;
      stops = stops_at _ (rising_differ _ c.requires.sound) size
          (omega arith) c.in-Err.ensures.stop;
    }
