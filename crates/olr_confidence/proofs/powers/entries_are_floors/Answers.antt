use Rattle.olr_confidence.proofs.Floors.{sixteenths_are_floors, finer_are_floors, finest_are_floors}
use Rattle.olr_confidence.proofs.powers.entries_are_floors.Goals as goal

pub returns : goal.returns
returns c = record {
  sixteenths = sixteenths_are_floors;
  finer = finer_are_floors;
  finest = finest_are_floors;
}
