-- The words of a record, and what they ask for.
use Rattle.std.specs.Prelude.{◌≡◌, ◌⊎◌, ⊤, ℕ, List, [], ◌∷◌, ◌++◌, codes, All, Contains, Bool, not}
use Rattle.std.specs.Str.{bytes_eq}
use Rattle.std.specs.Prelude.{Option, Some, IfSome, Result, Ok, Err, false, if◌then◌else◌, is_some, option_map, unwrap_or}
use Rattle.clap.specs.Walk.{texts}
use Rattle.clap.specs.Words.{App, fault_of, first_of, matches_of}
use Rattle.olr_request.specs.Fault.{fault_text}
use Rattle.olr_request.specs.declared.fault.Fault.{Fault}
use Rattle.olr_request.specs.declared.request.LinesRequest.{LinesRequest}
use Rattle.olr_request.specs.declared.request.Query.{Query}
use Rattle.olr_request.specs.declared.request.LegsRequest.{LegsRequest}
use Rattle.olr_request.specs.declared.request.Query.TheVariants.{Legs, Lines, Reference}
use Rattle.olr_request.specs.declared.request.Request.{Request}
use Rattle.olr_request.specs.declared.request.Request.TheVariants.{Show}
use Rattle.olr_words.specs.Given.{IsGiven, IsRecordFormatNamed}
use Rattle.olr_words.specs.Legs.{AreLegs}
use Rattle.olr_words.specs.Lines.{AreLines, line_parts}
use Rattle.olr_words.specs.Options.{IsValue, RecordOption, options_of}
use Rattle.olr_words.specs.RecordCommand.{options_in, record_app}
use Rattle.olr_words.specs.RecordWords.{ArePartsOf, Parts, parts}
use Rattle.olr_request.specs.declared.fault.Fault.TheVariants as fault
use Rattle.olr_words.specs.Words.{IsNameOf, IsRefusedRequest, IsRequest}
use Rattle.olr_words.specs.declared.command.Subcommand.{Subcommand}
use Rattle.olr_words.specs.declared.record.RecordFault.{RecordFault}
use Rattle.olr_words.specs.declared.record.RecordFault.TheVariants as record_fault
use Rattle.olr_words.specs.declared.record_words.RecordWords.{RecordWords}
use Rattle.olr_words.specs.declared.words.Given.{Given}
use Rattle.olr_words.specs.declared.words.MapSubcommand.{MapSubcommand}

-- the text of a fault
abbrev pub record_fault_text : RecordFault → List ℕ
record_fault_text (record_fault.Words text) = text.bytes.items
record_fault_text (record_fault.Fault fault) = fault_text fault

-- that of words which ask for nothing: `Words`, a space and one line, which isn't stated
abbrev pub IsWordsLine : List ℕ → Type 0
IsWordsLine line = (why : List ℕ) × (line ≡ codes "Words " ++ why) × (¬ (Contains why 10))

-- the parts of a text that was split
abbrev pub parts_of : RecordWords → Parts
parts_of words =
    parts (texts words.words.items) (option_map (λ reference. reference.now) words.reference)

-- ---- the words that are understood

-- the first word, which names a subcommand
abbrev pub name_of : List (List ℕ) → List ℕ
name_of [] = []
name_of (word ∷ words) = word

-- an option has no text, or one that it takes
abbrev pub HasValue : (List ℕ → Option (List ℕ)) → RecordOption → Type 0
HasValue text_of option = IfSome (text_of option.name) (IsValue option.value)

-- the reference is one of the words, since none stands behind them
abbrev pub has_reference : Parts → Bool
has_reference its = not (is_some its.reference)

-- the command that reads the words, where their first one names a subcommand with these options
abbrev pub app_for : List RecordOption → Parts → App
app_for options its = record_app (name_of its.words) (has_reference its) options

-- the same of a subcommand of the program
abbrev pub app_of_words : Subcommand → Parts → App
app_of_words subcommand its =
    record_app subcommand.name.now (has_reference its) (options_in subcommand)

-- the text that the words have for an option or the reference, as `clap` reads them
abbrev pub text_in : List RecordOption → Parts → List ℕ → Option (List ℕ)
text_in options its name = first_of name (matches_of (app_for options its) its.words)

-- the first word names a subcommand with these options, and `clap` and each option take the others
pub record AreUnderstood (options : List RecordOption) (its : Parts) : Type 0 where
  pub named : options_of (name_of its.words) ≡ Some options
  pub taken : fault_of (app_for options its) its.words ≡ []
  pub values : All (HasValue (text_in options its)) options

-- the words ask for nothing
abbrev pub AskForNothing : Parts → Type 0
AskForNothing its = (options : List RecordOption) → ¬ (AreUnderstood options its)

-- ---- what the words ask for

-- the text of the reference: the one behind the words, or that among them
abbrev pub reference_of : List RecordOption → Parts → List ℕ
reference_of options its =
    unwrap_or its.reference (unwrap_or (text_in options its (codes "REF")) [])

-- what they give
pub record AreGivenBy (options : List RecordOption) (its : Parts) (given : Given) : Type 0 where
  pub options_given : IsGiven (text_in options its) given
  pub reference : given.text.now ≡ reference_of options its
  pub one_page : given.all ≡ false
  pub format : IsRecordFormatNamed (text_in options its (codes "format")) given.format

-- what is given by words that are understood
pub record IsGivenBy (its : Parts) (given : Given) : Type 0 where
  pub options : List RecordOption
  pub understood : AreUnderstood options its
  pub by : AreGivenBy options its given

-- the request of a subcommand of this name, or why it is refused
abbrev pub IsOfSubcommand : Given → List ℕ → Result Request Fault → Type 0
IsOfSubcommand given name (Ok request) =
    ((name ≡ codes "show") × (request ≡ Show given.text given.format))
    ⊎ ((kind : MapSubcommand) × IsNameOf kind name × IsRequest given kind request)
IsOfSubcommand given name (Err why) =
    (kind : MapSubcommand) × IsNameOf kind name × IsRefusedRequest given kind why

-- the request that words ask for, or the fault of a number
pub record AskFor (its : Parts) (asked : Result Request Fault) : Type 0 where
  pub given : Given
  pub given_by : IsGivenBy its given
  pub asks : IsOfSubcommand given (name_of its.words) asked

-- what words ask for, or why they ask for nothing; memory may be refused, of which nothing is
-- stated
abbrev pub IsRequestOfWords : Parts → Result Request RecordFault → Type 0
IsRequestOfWords its (Ok request) = AskFor its (Ok request)
IsRequestOfWords its (Err (record_fault.Words line)) =
    IsWordsLine line.bytes.items × AskForNothing its
IsRequestOfWords its (Err (record_fault.Fault fault.NoMemory)) = ⊤
IsRequestOfWords its (Err (record_fault.Fault why)) = AskFor its (Err why)

-- ---- what they ask of the legs of a matching

-- the legs that words ask for, or the fault of a number
pub record AskForLegs (its : Parts) (asked : Result LegsRequest Fault) : Type 0 where
  pub given : Given
  pub given_by : IsGivenBy its given
  pub asks : AreLegs given asked

-- what words ask for, or why they ask for nothing; memory may be refused, of which nothing is
-- stated
abbrev pub AreLegsOfWords : Parts → Result LegsRequest RecordFault → Type 0
AreLegsOfWords its (Ok asked) = AskForLegs its (Ok asked)
AreLegsOfWords its (Err (record_fault.Words line)) =
    IsWordsLine line.bytes.items × AskForNothing its
AreLegsOfWords its (Err (record_fault.Fault fault.NoMemory)) = ⊤
AreLegsOfWords its (Err (record_fault.Fault why)) = AskForLegs its (Err why)

-- ---- what they ask of the lines of a map

-- the lines that words ask for, or the fault of a number or of the box
pub record AskForLines (its : Parts) (asked : Result LinesRequest Fault) : Type 0 where
  pub read_as : Parts
  pub are_read : line_parts its ≡ Some read_as
  pub given : Given
  pub given_by : IsGivenBy read_as given
  pub asks : AreLines given asked

-- words ask for no lines: a reference stands behind them, or as they are read they ask for nothing
abbrev pub AskForNoLines : Parts → Type 0
AskForNoLines its = (read_as : Parts) → line_parts its ≡ Some read_as → AskForNothing read_as

-- what words ask for, or why they ask for nothing; memory may be refused, of which nothing is
-- stated
abbrev pub AreLinesOfWords : Parts → Result LinesRequest RecordFault → Type 0
AreLinesOfWords its (Ok asked) = AskForLines its (Ok asked)
AreLinesOfWords its (Err (record_fault.Words line)) =
    IsWordsLine line.bytes.items × AskForNoLines its
AreLinesOfWords its (Err (record_fault.Fault fault.NoMemory)) = ⊤
AreLinesOfWords its (Err (record_fault.Fault why)) = AskForLines its (Err why)

-- ---- what a text asks for

-- what words ask of: a reference, the legs of a matching, or the lines of a map
pub data Subject : Type 0 where
  a_reference : Subject
  its_legs : Subject
  some_lines : Subject

-- that of words that begin with this name
abbrev pub subject_named : List ℕ → Subject
subject_named name = if bytes_eq name (codes "lines") then some_lines else
    (if bytes_eq name (codes "legs") then its_legs else a_reference)

-- what words ask for that ask of this, or why they ask for nothing
abbrev pub IsQueryAbout : Subject → Parts → Result Query RecordFault → Type 0
IsQueryAbout a_reference its (Ok (Reference request)) = IsRequestOfWords its (Ok request)
IsQueryAbout a_reference its (Ok other) = ⊥
IsQueryAbout a_reference its (Err why) = IsRequestOfWords its (Err why)
IsQueryAbout its_legs its (Ok (Legs asked)) = AreLegsOfWords its (Ok asked)
IsQueryAbout its_legs its (Ok other) = ⊥
IsQueryAbout its_legs its (Err why) = AreLegsOfWords its (Err why)
IsQueryAbout some_lines its (Ok (Lines asked)) = AreLinesOfWords its (Ok asked)
IsQueryAbout some_lines its (Ok other) = ⊥
IsQueryAbout some_lines its (Err why) = AreLinesOfWords its (Err why)

-- what words ask for
abbrev pub IsQueryOfWords : Parts → Result Query RecordFault → Type 0
IsQueryOfWords its asked = IsQueryAbout (subject_named (name_of its.words)) its asked

-- What a text asks for, or why it asks for nothing: that of its words. Memory for them may be refused,
-- of which nothing is stated.
abbrev pub IsQueryOf : List ℕ → Result Query RecordFault → Type 0
IsQueryOf text asked = (asked ≡ Err (record_fault.Fault fault.NoMemory))
    ⊎ ((its : Parts) × ArePartsOf text its × IsQueryOfWords its asked)
