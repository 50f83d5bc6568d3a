-- The text for what isn't answered, where it goes, and the status that the program ends with.
use Rattle.std.specs.Prelude.{ℕ, List, ◌++◌, codes, Option, None, Some}
use Rattle.std.specs.Prelude.{Bool, true, false, if◌then◌else◌}
use Rattle.clap.specs.Values.{kind_of}
use Rattle.clap.specs.declared.error.Error.{Error}
use Rattle.clap.specs.declared.error.kind.ErrorKind.{ErrorKind}
use Rattle.clap.specs.declared.error.kind.ErrorKind.TheVariants as kind
use Rattle.olr_request.specs.Fault.{fault_text}
use Rattle.olr_request.specs.declared.fault.Fault.TheVariants as fault
use Rattle.olr_words.specs.declared.rejected.Rejected.{Rejected}
use Rattle.olr_words.specs.declared.rejected.Rejected.TheVariants.{Words, NotText, Fault}

-- What is printed: a line with the fault, or the text of `clap`, of which nothing is said.
abbrev pub rejected_text : Rejected → Option (List ℕ)
rejected_text (Words error) = None
rejected_text NotText = Some (codes "olr: the command line isn't UTF-8 text\n")
rejected_text (Fault fault) = Some (codes "olr: " ++ fault_text fault ++ codes "\n")

-- Whether an error of this kind is help that was asked for.
abbrev pub shows_help : ErrorKind → Bool
shows_help kind.DisplayHelp = true
shows_help kind.DisplayVersion = true
shows_help _ = false

-- Whether the text is help that was asked for, and so goes to the standard output.
abbrev pub is_help_of : Rejected → Bool
is_help_of (Words error) = shows_help (kind_of error)
is_help_of NotText = false
is_help_of (Fault _) = false

-- The status that the program ends with: 0 for help, 1 for a fault, 2 for words that weren't
-- understood or that ask for a cursor and all pages.
abbrev pub status_of : Rejected → ℕ
status_of (Words error) = if shows_help (kind_of error) then 0 else 2
status_of NotText = 2
status_of (Fault fault.AfterWithAll) = 2
status_of (Fault _) = 1

-- What an error of `clap` is rejected with, by its kind: refused memory is a fault.
abbrev pub rejected_by : ErrorKind → Error → Rejected
rejected_by kind.OutOfMemory error = Fault fault.NoMemory
rejected_by _ error = Words error
