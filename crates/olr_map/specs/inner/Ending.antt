-- Why a file of a map has no rows, and what that does to its source. This serves the readers' own
-- contracts alone: the rules are in Files.antt.
use Rattle.std.specs.Prelude.{ℕ, List, Option}
use Rattle.olr_records.specs.declared.file.File.{File}
use Rattle.olr_map.specs.declared.fault.MapFault.{MapFault}
use Rattle.olr_map.specs.declared.fault.MapFault.TheVariants.{ReadFailed}
use Rattle.olr_map.specs.Files.{IsReadWhole}
use Rattle.olr_map.specs.inner.Reading.{IsReadFault, Reports, HasText}

-- The source wasn't read to its end; or it was, and the fault is one of its text, or memory was
-- refused.
pub data FaultOfFile {S : Type 0} (left : S → Option (List ℕ)) (failed : S → ℕ) (old new : S)
    (file : File) (IsFault : List ℕ → MapFault → Type 0) (why : MapFault) : Type 0 where
  not_read : IsReadFault (ReadFailed file) (failed old) (failed new) why
      → FaultOfFile left failed old new file IsFault why
  of_text : IsReadWhole left failed old new
      → HasText (left old) (λ text. Reports (IsFault text) why)
      → FaultOfFile left failed old new file IsFault why
