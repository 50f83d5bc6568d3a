-- What a run for lines leaves of the source of a file of the map, once the map is read.
use Rattle.olr_app.proofs.Common.{ℕ, List, Option, Ok, Err, refl, inl, inr, IfErr, Result, RoadMap, Fault, NoMemory, WriteFailed}
use Rattle.olr_base.specs.declared.failure.Failed.{Failed}
use Rattle.olr_map.specs.Files.{IsReadWhole}
use Rattle.olr_map.specs.declared.fault.MapFault.TheVariants as map
use Rattle.olr_records.specs.declared.file.File.{File}
use Rattle.olr_request.specs.declared.request.LinesRequest.{LinesRequest}
use Rattle.olr_app.specs.Lines.{AreLinesStopped}
use Rattle.olr_app.specs.Sources.{LeavesFile}
use Rattle.olr_app.proofs.AnswerOf.{unfailed}

module _ {S O : Type 0} (left : S → Option (List ℕ)) (failed : S → ℕ)
    (taken : O → Option (List ℕ)) (out_failed : O → ℕ)
    (put_gives : O → List ℕ → Result ℕ Failed → O → Type 0)
    (flush_gives : O → Result (Unit {0}) Failed → O → Type 0) (asked : LinesRequest)
    (road : RoadMap) (old_out new_out : O) (old new : S) (file : File)
    (whole : IsReadWhole left failed old new) where
  pub leaves_file : {T : Type 0} (result : Result T Fault)
      → IfErr result (AreLinesStopped taken out_failed put_gives flush_gives asked road old_out new_out)
      → LeavesFile left failed old new file result
  leaves_file (Ok done) is = whole
  leaves_file (Err NoMemory) is = inr (inl (map.NoMemory, refl, unfailed file whole))
  leaves_file (Err WriteFailed) is = inr (inr (tt, whole))
  leaves_file (Err other) is = absurd is
