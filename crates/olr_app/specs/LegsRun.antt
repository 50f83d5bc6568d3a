-- What a run for the legs of a matching writes, and why it writes nothing.
use Rattle.std.specs.Prelude.{◌≡◌, ℕ, ◌⊎◌, List, Option, Result, Ok, Err}
use Rattle.std.specs.Io.KnownBytes.{Appends}
use Rattle.olr_app.specs.Accepting.{Accepts}
use Rattle.olr_app.specs.Common.{Failed, RoadMap}
use Rattle.olr_app.specs.Legs.{AreLegs, as_match}
use Rattle.olr_app.specs.Lines.{IsMapFault}
use Rattle.olr_app.specs.Stages.{IsStageFault}
use Rattle.olr_app.specs.Writing.{HasStopped, IsWritten}
use Rattle.olr_app.specs.declared.accepting.Accepted.{Accepted}
use Rattle.olr_map.specs.Files.{IsMapLeft, Texts}
use Rattle.olr_request.specs.declared.fault.Fault.{Fault}
use Rattle.olr_request.specs.declared.fault.Fault.TheVariants.{WriteFailed}
use Rattle.olr_request.specs.declared.request.LegsRequest.{LegsRequest}

module _ {O : Type 0} (taken : O → Option (List ℕ)) (failed : O → ℕ)
    (put_gives : O → List ℕ → Result ℕ Failed → O → Type 0)
    (flush_gives : O → Result (Unit {0}) Failed → O → Type 0) (asked : LegsRequest) where
  module _ (accepted : Accepted) (road : RoadMap) (old new : O) where
    -- The sink took the whole output, and nothing else, and no call on it failed. The calls were
    -- those that handed the output over, and then exactly one that passed it on.
    pub record AreLegsWritten : Type 0 where
      pub output : List ℕ
      pub are_legs : AreLegs asked road accepted (Ok output)
      pub took : Appends (taken old) (taken new) output
      pub written : IsWritten put_gives flush_gives output old new
      pub none_failed : failed new ≡ failed old

    -- Why they weren't written, or not wholly: the sink stopped after a front of the output; or there
    -- is no output, for this fault of a stage or since memory was refused, and no call of the sink
    -- was made.
    abbrev pub AreLegsStopped : Fault → Type 0
    AreLegsStopped WriteFailed = (output : List ℕ) × AreLegs asked road accepted (Ok output)
        × HasStopped taken failed put_gives flush_gives output old new
    AreLegsStopped fault = IsStageFault (AreLegs asked road accepted) fault × (new ≡ old)

  module _ (texts : Texts) (old new : O) where
    -- a request that is accepted was answered on the map of the files
    pub record AreLegsAnswered : Type 0 where
      pub accepted : Accepted
      pub accepts : Accepts (as_match asked) (Ok accepted)
      pub road : RoadMap
      pub is_map : IsMapLeft texts road
      pub written : AreLegsWritten accepted road old new

    -- one that is accepted stopped on the map of the files
    pub record AreLegsStoppedOn (fault : Fault) : Type 0 where
      pub accepted : Accepted
      pub accepts : Accepts (as_match asked) (Ok accepted)
      pub road : RoadMap
      pub is_map : IsMapLeft texts road
      pub stopped : AreLegsStopped accepted road old new fault

    -- What a fault means: the request is refused, or the files have no map, and then the sink wasn't
    -- touched; or the request stopped on the map.
    abbrev pub IsLegsRunFault : Fault → Type 0
    IsLegsRunFault fault = (Accepts (as_match asked) (Err fault) × (new ≡ old))
        ⊎ IsMapFault texts old new fault ⊎ AreLegsStoppedOn fault
