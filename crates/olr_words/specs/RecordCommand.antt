-- The command of `clap` for the words of a record, as `clap` states commands; and the options of
-- the program that a record may have.
use Rattle.std.specs.Prelude.{ℕ, List, [], ◌∷◌, ◌++◌, Option, Some, None, Bool, true, false, map, option_map, codes, if◌then◌else◌}
use Rattle.std.specs.List.{filter_map, flat_map}
use Rattle.clap.specs.Words.{App, Rule, new_app, new_rule}
use Rattle.clap.specs.Walk.{texts}
use Rattle.clap.specs.declared.builder.action.ArgAction.{ArgAction}
use Rattle.clap.specs.declared.builder.action.ArgAction.TheVariants.{SetTrue}
use Rattle.olr_words.specs.Options.{OptionValue, RecordOption, option_named, number, one_of, cursor, geo_box, flag}
use Rattle.olr_words.specs.declared.options.CommandOption.{CommandOption}
use Rattle.olr_words.specs.declared.command.Subcommand.{Subcommand}
use Rattle.olr_words.specs.declared.options.Takes.{Takes}
use Rattle.olr_words.specs.declared.options.Takes.TheVariants as takes

-- ---- the command of `clap`

-- a flag is set where it is there; for the others `clap` has a way of its own
abbrev pub action_for : OptionValue → Option ArgAction
action_for flag = Some SetTrue
action_for value = None

-- it is a box, which has to be there
abbrev pub is_box_value : OptionValue → Bool
is_box_value geo_box = true
is_box_value other = false

-- an option: a name, with a word behind it unless it is a flag
abbrev pub record_rule : RecordOption → Rule
record_rule option = record (new_rule option.name) {
  long = Some option.name;
  action = action_for option.value;
  required = is_box_value option.value;
}

-- the reference, a word without a name before it
abbrev pub reference_rule : Rule
reference_rule = record (new_rule (codes "REF")) { required = true }

-- a command without help, with these arguments
abbrev pub app_with : List ℕ → List Rule → App
app_with name rules = record (new_app name) {
  top = record (new_app name).top { disable_help_flag = true; rules = rules };
}

-- a command with the reference among its arguments, or without it
abbrev pub bare_app : List ℕ → Bool → App
bare_app name has_reference =
    app_with name (if has_reference then reference_rule ∷ [] else [])

-- a command with more options
abbrev pub with_options : App → List RecordOption → App
with_options app options =
    record app { top = record app.top { rules = app.top.rules ++ map record_rule options } }

-- the command for the words of a record, with the reference among its arguments or without it
abbrev pub record_app : List ℕ → Bool → List RecordOption → App
record_app name has_reference options = with_options (bare_app name has_reference) options

-- ---- the options of the program

-- what an option takes in a record, if a record may have it: no file, and not all pages; a format
-- has words of its own there; the reference is no option
abbrev pub record_value : Takes → Option OptionValue
record_value takes.Reference = None
record_value takes.Number = Some number
record_value (takes.OneOf name words) = Some (one_of (texts words.now))
record_value (takes.Format words of_record) = Some (one_of (texts of_record.now))
record_value takes.Cursor = Some cursor
record_value (takes.MapFile name) = None
record_value takes.File = None
record_value takes.MapFolder = None
record_value takes.GeoBox = Some geo_box
record_value takes.Flag = Some flag
record_value takes.AllPages = None
record_value takes.Words = None

-- a flag, which a record may have
abbrev pub is_flag : Option OptionValue → Bool
is_flag (Some flag) = true
is_flag _ = false

-- a box, which a record may have
abbrev pub is_box : Option OptionValue → Bool
is_box (Some value) = is_box_value value
is_box None = false

abbrev pub record_option : CommandOption → Option RecordOption
record_option option =
    option_map (λ value. option_named option.name.now value) (record_value option.takes)

-- those of a group of options, and of a subcommand
abbrev pub record_options : List CommandOption → List RecordOption
record_options options = filter_map record_option options

abbrev pub options_in : Subcommand → List RecordOption
options_in subcommand = flat_map (λ group. record_options group.now) subcommand.options.now

abbrev pub row_of : Subcommand → List ℕ × List RecordOption
row_of subcommand = (subcommand.name.now, options_in subcommand)
