-- What is found in the words of a record, as `clap` states it.
use Rattle.std.specs.Prelude.{◌≡◌, ⊤, ℕ, List, []}
use Rattle.clap.specs.Words.{App, fault_of, found_of, matches_of, rows_of}
use Rattle.clap.specs.declared.parser.matches.ArgMatches.{ArgMatches}
use Rattle.olr_request.specs.declared.fault.Fault.TheVariants as fault
use Rattle.olr_words.specs.Options.{RecordOption}
use Rattle.olr_words.specs.Record.{AreUnderstood, IsWordsLine, app_for}
use Rattle.olr_words.specs.RecordWords.{Parts}
use Rattle.olr_words.specs.declared.record.RecordFault.{RecordFault}
use Rattle.olr_words.specs.declared.record.RecordFault.TheVariants as record_fault

-- `clap` takes the words, and found this in them
pub record AreFound (app : App) (words : List (List ℕ)) (found : ArgMatches) : Type 0 where
  pub taken : fault_of app words ≡ []
  pub rows : rows_of (found_of found) ≡ matches_of app words

-- the words are understood, and this was found in them
pub record IsFoundIn (its : Parts) (matches : ArgMatches) : Type 0 where
  pub options : List RecordOption
  pub understood : AreUnderstood options its
  pub found : AreFound (app_for options its) its.words matches

-- A fault of words, of which something is true; or memory was refused, of which nothing is stated.
abbrev pub IsOfWords : Type 0 → RecordFault → Type 0
IsOfWords why (record_fault.Words line) = IsWordsLine line.bytes.items × why
IsOfWords why (record_fault.Fault fault.NoMemory) = ⊤
IsOfWords why (record_fault.Fault _) = ⊥
