-- The faults of words, and what is found in words that have none.
use Rattle.std.proofs.Common.{◌≡◌, ◌≢◌, ◌∙◌, ap, sym, subst, inl, inr, Bool, List, [], ℕ, true, Some, None}
use Rattle.std.specs.Prelude.{All}
use Rattle.clap.specs.Simple.{App, HasMatchesOf, matches_of}
use Rattle.clap.specs.Faults.{fault_of, is_simple_and_free}
use Rattle.clap.specs.Kinds.{HasKind, IsAmong}
use Rattle.clap.specs.Values.{kind_of}
use Rattle.clap.specs.Words.{first_value, found_of}
use Rattle.clap.specs.declared.error.Error.{Error}
use Rattle.clap.specs.declared.error.kind.ErrorKind.{ErrorKind}
use Rattle.clap.specs.declared.error.kind.ErrorKind.TheVariants.{OutOfMemory}
use Rattle.clap.specs.declared.parser.matches.ArgMatches.{ArgMatches}
use Rattle.olr_words.specs.Options.{RecordOption, options_of}
use Rattle.olr_words.specs.Found.{AreFound, IsFoundIn, IsOfWords}
use Rattle.olr_words.specs.Record.{AreUnderstood, AskForNothing, HasValue, app_for, has_reference, name_of, text_in}
use Rattle.olr_words.specs.RecordCommand.{record_app}
use Rattle.olr_words.specs.RecordWords.{Parts}
use Rattle.olr_request.specs.declared.fault.Fault.TheVariants as fault
use Rattle.olr_words.specs.declared.record.RecordFault.{RecordFault}
use Rattle.olr_words.specs.declared.record.RecordFault.TheVariants as record_fault
use Rattle.olr_words.proofs.Found.{texts_in_rows}
use Rattle.olr_words.proofs.SimpleRecords.{record_is_free, record_is_simple}

pub weaker : {P Q : Type 0} → (P → Q) → (f : RecordFault) → IsOfWords P f → IsOfWords Q f
weaker follows (record_fault.Words line) is = (is.0, follows is.1)
weaker follows (record_fault.Fault fault.NoMemory) is = is
weaker follows (record_fault.Fault _) is = is

-- ---- what `clap` gives

pub found_by : (a : App) (words : List (List ℕ)) (m : ArgMatches) (name : List ℕ)
    (has_reference : Bool) (options : List RecordOption) → a ≡ record_app name has_reference options
    → (is_simple_and_free a ≡ true → fault_of a words ≡ []) → HasMatchesOf a words m
    → AreFound (record_app name has_reference options) words m
found_by a words m name has_reference options is =
    subst (λ (b : App). (is_simple_and_free b ≡ true → fault_of b words ≡ [])
    → HasMatchesOf b words m → AreFound (record_app name has_reference options) words m) (sym is)
    (λ kinds has. record {
      taken = kinds (record_is_free name has_reference options);
      rows = (has (record_is_simple name has_reference options)).0;
    })

none_among : (k : ErrorKind) (kinds : List ErrorKind) → kinds ≡ [] → ¬ (IsAmong k kinds)
none_among k kinds are is = subst (IsAmong k) are is

refused_at : (a : App) (words : List (List ℕ)) (e : Error) → HasKind (fault_of a words) e
    → kind_of e ≢ OutOfMemory → fault_of a words ≢ []
refused_at a words e (inl memory) other none = other memory
refused_at a words e (inr among) other none = none_among (kind_of e) _ none among

pub refused_by : (a : App) (words : List (List ℕ)) (e : Error) (name : List ℕ)
    (has_reference : Bool) (options : List RecordOption) → a ≡ record_app name has_reference options
    → (is_simple_and_free a ≡ true → HasKind (fault_of a words) e) → kind_of e ≢ OutOfMemory
    → fault_of (record_app name has_reference options) words ≢ []
refused_by a words e name has_reference options is =
    subst (λ (b : App). (is_simple_and_free b ≡ true → HasKind (fault_of b words) e)
    → kind_of e ≢ OutOfMemory → fault_of (record_app name has_reference options) words ≢ [])
    (sym is) (λ kinds. refused_at (record_app name has_reference options) words e
    (kinds (record_is_free name has_reference options)))

-- ---- what is understood

some_options : (xs ys : List RecordOption) → Some xs ≡ Some ys → xs ≡ ys
some_options xs ys same = cc

module _ (its : Parts) where
  pub not_named : (name : List ℕ) → name ≡ name_of its.words → None ≡ options_of name
      → AskForNothing its
  not_named name is none options are =
      let named : None ≡ Some options = none ∙ (ap options_of is ∙ are.named) in cc

  -- of words that begin with a name which is given, and that name a subcommand with these options
  module _ (name given : List ℕ) (options : List RecordOption) (same : name ≡ given)
      (is : given ≡ name_of its.words) (named : Some options ≡ options_of given) where
    abbrev app : App
    app = record_app name (has_reference its) options

    same_app : app ≡ app_for options its
    same_app = λ k. record_app ((same ∙ is) k) (has_reference its) options

    -- they are understood with these options alone
    understood_at : (others : List RecordOption) → AreUnderstood others its → others ≡ options
    understood_at others are =
        some_options others options (sym are.named ∙ (sym (ap options_of is) ∙ sym named))

    pub not_taken : fault_of app its.words ≢ [] → AskForNothing its
    not_taken fails others are =
        fails (ap (λ a. fault_of a its.words) same_app
        ∙ (sym (ap (λ os. fault_of (app_for os its) its.words) (understood_at others are)) ∙ are.taken))

    module _ (m : ArgMatches) (found : AreFound app its.words m) where
      there : AreFound (app_for options its) its.words m
      there = subst (λ a. AreFound a its.words m) same_app found

      texts_are : first_value (found_of m) ≡ text_in options its
      texts_are = texts_in_rows (found_of m) (matches_of (app_for options its) its.words) there.rows

      pub not_values : ¬ (All (HasValue (first_value (found_of m))) options) → AskForNothing its
      not_values fails others are =
          let values : All (HasValue (text_in options its)) options =
          subst (λ os. All (HasValue (text_in os its)) os) (understood_at others are) are.values in
          fails (subst (λ t. All (HasValue t) options) (sym texts_are) values)

      pub understood_by : All (HasValue (first_value (found_of m))) options → IsFoundIn its m
      understood_by values = record {
        options = options;
        understood = record {
          named = sym (ap options_of is) ∙ sym named;
          taken = there.taken;
          values = subst (λ t. All (HasValue t) options) texts_are values;
        };
        found = there;
      }

-- the texts that were found are those that the words have
pub texts_found : (its : Parts) (m : ArgMatches) (f : IsFoundIn its m)
    → first_value (found_of m) ≡ text_in f.options its
texts_found its m f = texts_in_rows (found_of m) (matches_of (app_for f.options its) its.words)
    f.found.rows
