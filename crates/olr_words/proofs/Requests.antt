-- The requests that words ask for.
use Rattle.std.proofs.Common.{Bor, ◌≡◌, ◌≢◌, ◌⊎◌, ◌∙◌, ap, sym, subst, refl, inl, inr, Bool, true, false, cond, List, [], ◌∷◌, ℕ, Option, Some, None}
use Rattle.std.specs.Prelude.{IfErr, IfOk, is_some, Result, Ok, Err, codes, find, option_map, unwrap_or}
use Rattle.std.specs.Str.{bytes_eq}
use Rattle.std.proofs.lemmas.Slice.Eq.{bytes_eq-Decides}
use Rattle.clap.specs.Words.{first_value, found_of}
use Rattle.clap.specs.declared.parser.matches.ArgMatches.{ArgMatches}
use Rattle.olr_request.specs.declared.fault.Fault.{Fault}
use Rattle.olr_request.specs.declared.fault.Fault.TheVariants as fault
use Rattle.olr_request.specs.declared.request.Request.{Request}
use Rattle.olr_words.specs.Given.{IsFormatNamed, IsGiven, IsRecordFormatNamed, record_format}
use Rattle.olr_words.specs.Options.{RecordOption, options_named, options_of, subcommands}
use Rattle.olr_words.specs.Found.{IsFoundIn}
use Rattle.olr_request.specs.declared.request.LinesRequest.{LinesRequest}
use Rattle.olr_request.specs.declared.request.LegsRequest.{LegsRequest}
use Rattle.olr_words.specs.Legs.{AreLegs}
use Rattle.olr_words.specs.Lines.{AreLines, joined_parts, line_parts, parts_without}
use Rattle.olr_words.specs.Record.{AreLegsOfWords, AreLinesOfWords, AskFor, AskForLegs, AskForLines, IsGivenBy, a_reference, subject_named, IsOfSubcommand, IsRequestOfWords, name_of}
use Rattle.olr_words.specs.RecordWords.{Parts}
use Rattle.olr_words.specs.Words.{IsNameOf, IsRefusedRequest, IsRequest}
use Rattle.olr_words.specs.declared.record.RecordFault.TheVariants as record_fault
use Rattle.olr_words.specs.declared.words.Given.{Given}
use Rattle.olr_words.specs.declared.words.MapSubcommand.{MapSubcommand}
use Rattle.olr_words.specs.declared.words.MapSubcommand.TheVariants as each
use Rattle.olr_words.proofs.Faults.{texts_found}
use Rattle.olr_words.proofs.OneGiven.{in_record}

-- ---- the subcommand

pub of_map : (given : Given) (name : List ℕ) (kind : MapSubcommand) (r : Result Request Fault)
    → IsNameOf kind name → IfOk r (IsRequest given kind) → IfErr r (IsRefusedRequest given kind)
    → IsOfSubcommand given name r
of_map given name kind (Ok request) is accepted refused = inr (kind, is, accepted)
of_map given name kind (Err why) is accepted refused = (kind, is, refused)

-- a row has the name
abbrev HasRow : List (List ℕ × List RecordOption) → List ℕ → Type 0
HasRow [] name = ⊥
HasRow (row ∷ rows) name = (row.0 ≡ name) ⊎ HasRow rows name

has_row : (rows : List (List ℕ × List RecordOption)) (name : List ℕ) (options : List RecordOption)
    → options_named rows name ≡ Some options → HasRow rows name
has_row [] name options is = let no_one : None ≡ Some options = is in cc
has_row (row ∷ rows) name options is = go (has_row rows name options) (bytes_eq row.0 name) refl is
  where
    go : (options_named rows name ≡ Some options → HasRow rows name) → (b : Bool)
        → bytes_eq row.0 name ≡ b
        → option_map (λ r. r.1) (cond b (Some row) (find (λ r. bytes_eq r.0 name) rows)) ≡ Some options
        → HasRow (row ∷ rows) name
    go others true same is = inl ((bytes_eq-Decides row.0 name).0 same)
    go others false same is = inr (others is)

pub has_subcommand : (name : List ℕ) (options : List RecordOption) → options_of name ≡ Some options
    → name ≢ codes "show" → name ≢ codes "legs" → name ≢ codes "lines"
    → ((kind : MapSubcommand) → ¬ (IsNameOf kind name)) → ⊥
has_subcommand name options is not_that not_legs not_lines none = elim (has_row subcommands name options is) [
  | inl same ↦ not_that (sym same)
  | inr (inl same) ↦ none each.Candidates (sym same)
  | inr (inr (inl same)) ↦ none each.Match (sym same)
  | inr (inr (inr (inl same))) ↦ none each.Places (sym same)
  | inr (inr (inr (inr (inl same)))) ↦ none each.Why (sym same)
  | inr (inr (inr (inr (inr (inl same))))) ↦ not_legs (sym same)
  | inr (inr (inr (inr (inr (inr (inl same)))))) ↦ not_lines (sym same)
  | inr (inr (inr (inr (inr (inr (inr no_one)))))) ↦ absurd no_one
]

-- ---- what is given

given_alike : (text_of : List ℕ → Option (List ℕ)) (read given : Given) → IsGiven text_of read
    → given ≡ record read { all = false; format = record_format read.format }
    → IsGiven text_of given
given_alike text_of read given is same = subst (IsGiven text_of) (sym same) (record {
  profile = is.profile;
  tolerances = is.tolerances;
  page = is.page;
  numbers = is.numbers;
  order = is.order;
  nearest = is.nearest;
  extras = is.extras;
  edges = is.edges;
  at = is.at;
  near = is.near;
  after = is.after;
})

format_alike : (name : Option (List ℕ)) (read given : Given) → IsFormatNamed name read.format
    → given ≡ record read { all = false; format = record_format read.format }
    → IsRecordFormatNamed name given.format
format_alike name read given is same = subst (IsRecordFormatNamed name)
    (sym (ap (λ (g : Given). g.format) same)) (in_record name read.format is)

pub given_by : (its : Parts) (m : ArgMatches) (f : IsFoundIn its m) (read given : Given)
    → IsGiven (first_value (found_of m)) read
    → IsFormatNamed (first_value (found_of m) (codes "format")) read.format
    → given ≡ record read { all = false; format = record_format read.format }
    → read.text.now ≡ unwrap_or its.reference
    (unwrap_or (first_value (found_of m) (codes "REF")) [])
    → IsGivenBy its given
given_by its m f read given is named same text =
    let texts = texts_found its m f in
    record {
      options = f.options;
      understood = f.understood;
      by = record {
        options_given = subst (λ t. IsGiven t given) texts
            (given_alike (first_value (found_of m)) read given is same);
        reference = ap (λ (g : Given). g.text.now) same
            ∙ (text ∙ ap (λ t. unwrap_or its.reference (unwrap_or (t (codes "REF")) [])) texts);
        one_page = ap (λ (g : Given). g.all) same;
        format = subst (λ t. IsRecordFormatNamed (t (codes "format")) given.format) texts
            (format_alike (first_value (found_of m) (codes "format")) read given named same);
      };
    }

-- ---- what is asked for

pub asked : (its : Parts) (given : Given) (name : List ℕ) (r : Result Request Fault)
    → IsGivenBy its given → name ≡ name_of its.words → IsOfSubcommand given name r → AskFor its r
asked its given name r by is asks = record {
  given = given;
  given_by = by;
  asks = subst (λ n. IsOfSubcommand given n r) is asks;
}

pub fault_asked : (its : Parts) (why : Fault) → AskFor its (Err why)
    → IsRequestOfWords its (Err (record_fault.Fault why))
fault_asked its fault.NoMemory asks = tt
fault_asked its _ asks = asks

-- the subject of a subcommand that asks of a map is a reference
pub about_reference : (kind : MapSubcommand) (name : List ℕ) → IsNameOf kind name
    → subject_named name ≡ a_reference
about_reference each.Candidates name is = ap subject_named is
about_reference each.Match name is = ap subject_named is
about_reference each.Places name is = ap subject_named is
about_reference each.Why name is = ap subject_named is

subject_by : (name : List ℕ) (lines legs : Bool) → bytes_eq name (codes "lines") ≡ lines
    → bytes_eq name (codes "legs") ≡ legs → name ≢ codes "lines" → name ≢ codes "legs"
    → subject_named name ≡ a_reference
subject_by name true legs is its not_lines not_legs =
    absurd (not_lines ((bytes_eq-Decides name (codes "lines")).0 is))
subject_by name false true is its not_lines not_legs =
    absurd (not_legs ((bytes_eq-Decides name (codes "legs")).0 its))
subject_by name false false is its not_lines not_legs = rw (is, its) refl

pub other_subject : (name : List ℕ) → name ≢ codes "lines" → name ≢ codes "legs"
    → subject_named name ≡ a_reference
other_subject name not_lines not_legs = subject_by name _ _ refl refl not_lines not_legs

-- ---- the legs of a matching

pub legs_asked : (its : Parts) (given : Given) (r : Result LegsRequest Fault) → IsGivenBy its given
    → AreLegs given r → AskForLegs its r
legs_asked its given r by asks = record { given = given; given_by = by; asks = asks }

pub legs_fault : (its : Parts) (why : Fault) → AskForLegs its (Err why)
    → AreLegsOfWords its (Err (record_fault.Fault why))
legs_fault its fault.NoMemory asks = tt
legs_fault its _ asks = asks

-- ---- the lines of a map

pub lines_asked : (its read_as : Parts) (given : Given) (r : Result LinesRequest Fault)
    → line_parts its ≡ Some read_as → IsGivenBy read_as given → AreLines given r → AskForLines its r
lines_asked its read_as given r read by asks = record {
  read_as = read_as;
  are_read = read;
  given = given;
  given_by = by;
  asks = asks;
}

pub lines_fault : (its : Parts) (why : Fault) → AskForLines its (Err why)
    → AreLinesOfWords its (Err (record_fault.Fault why))
lines_fault its fault.NoMemory asks = tt
lines_fault its _ asks = asks

-- words with no reference behind them are read joined
pub without_reference : (reference : Option (Bor (List ℕ))) (words : List (List ℕ))
    → is_some reference ≡ false
    → parts_without (option_map (λ (r : Bor (List ℕ)). r.now) reference) words
    ≡ Some (joined_parts words)
without_reference None words none = refl
without_reference (Some reference) words none = absurd cc
