-- What a run over records leaves of the source of a file of the map, once the map is read.
use Rattle.olr_batch.proofs.Common.{ℕ, List, Option, Ok, Err, refl, inl, inr, IfErr, Result, Failed, RoadMap, Fault, InputNotRead, NoMemory, WriteFailed, IsStopped, Records}
use Rattle.olr_records.specs.declared.file.File.{File}
use Rattle.olr_map.specs.Files.{IsReadWhole}
use Rattle.olr_map.specs.declared.fault.MapFault.TheVariants as map
use Rattle.olr_app.specs.Sources.{LeavesFile}
use Rattle.olr_app.proofs.AnswerOf.{unfailed}

module _ {S I O : Type 0} (left : S → Option (List ℕ)) (failed : S → ℕ) (in_left : I
    → Option (List ℕ)) (in_failed : I → ℕ)
    (taken : O → Option (List ℕ)) (out_failed : O → ℕ) (put_gives : O → List ℕ → Result ℕ Failed → O
    → Type 0)
    (flush_gives : O → Result (Unit {0}) Failed → O → Type 0) (records : Records)
    (road : RoadMap)
    (old_in new_in : I) (old_out new_out : O) (old new : S) (file : File)
    (whole : IsReadWhole left failed old new) where
  pub leaves_file : {T : Type 0} (result : Result T Fault)
      → IfErr result (IsStopped in_left in_failed taken out_failed put_gives flush_gives records road
      old_in new_in old_out new_out)
      → LeavesFile left failed old new file result
  leaves_file (Ok done) is = whole
  leaves_file (Err NoMemory) is = inr (inl (map.NoMemory, refl, unfailed file whole))
  leaves_file (Err InputNotRead) is = inr (inr (tt, whole))
  leaves_file (Err WriteFailed) is = inr (inr (tt, whole))
  leaves_file (Err other) is = absurd is
