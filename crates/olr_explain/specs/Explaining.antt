-- What is printed about the faults of the table.
use Rattle.std.specs.Prelude.{ℕ, List, [], ◌∷◌, ◌++◌, codes, Bool, true, false, if◌then◌else◌}
use Rattle.std.specs.Prelude.{Some, None}
use Rattle.std.specs.Str.{str_eq_ignore_ascii_case}
use Rattle.olr_text.specs.Texts.{texts_from}
use Rattle.olr_explain.specs.declared.table.Detail.{Detail}
use Rattle.olr_explain.specs.declared.table.Detail.TheVariants.{Nothing, Word, Values}
use Rattle.olr_explain.specs.declared.table.Explanation.{Explanation}
use Rattle.olr_explain.specs.declared.table.Section.{Section}
use Rattle.olr_explain.specs.declared.topic.Topic.{Topic}
use Rattle.olr_explain.specs.declared.topic.Topic.TheVariants.{Every, Named}

-- what follows a fault's name where it is printed
abbrev pub detail_of : Detail → List ℕ
detail_of Nothing = []
detail_of (Word text) = codes " " ++ text.now
detail_of (Values text) = codes " " ++ text.now

-- a fault as it is printed, with words in capital letters for its values
abbrev pub heading_of : Explanation → List ℕ
heading_of fault = fault.name.now ++ detail_of fault.detail

-- a line with a label, where there is a text for it
abbrev pub line_of : List ℕ → List ℕ → List ℕ
line_of label [] = []
line_of label (first ∷ rest) = label ++ codes ": " ++ (first ∷ rest) ++ codes "\n"

-- the line of a fault among all of them
abbrev pub summary_of : Explanation → List ℕ
summary_of fault = heading_of fault ++ codes ": " ++ fault.meaning.now ++ codes "\n"

-- all that is known of a fault
abbrev pub explanation_of : Explanation → List ℕ
explanation_of fault = heading_of fault ++ codes "\n"
    ++ line_of (codes "meaning") fault.meaning.now ++ line_of (codes "where") fault.values.now
    ++ line_of (codes "usual cause") fault.cause.now
    ++ line_of (codes "what to do") fault.remedy.now

-- whether this word may follow the name of a fault
abbrev pub allows : Detail → List ℕ → Bool
allows (Word only) word = str_eq_ignore_ascii_case only.now word
allows Nothing word = true
allows (Values text) word = true

-- whether a topic names a fault: it has the name, in letters of either case, and the word may
-- follow it
abbrev pub names : Topic → Explanation → Bool
names Every fault = true
names (Named name None) fault = str_eq_ignore_ascii_case fault.name.now name.now
names (Named name (Some word)) fault =
    if str_eq_ignore_ascii_case fault.name.now name.now then allows fault.detail word.now else false

-- what is printed about a fault, whatever its number: its line where all are asked about, all that
-- is known where it is one of those that are, else nothing
abbrev pub text_on : Topic → ℕ → Explanation → List ℕ
text_on Every number fault = summary_of fault
text_on (Named name word) number fault =
    if names (Named name word) fault then explanation_of fault else []

-- what is printed about the faults of a section, one after another
abbrev pub section_text : Topic → ℕ → Section → List ℕ
section_text topic number section = texts_from (text_on topic) 1 section.faults.now

-- what is printed about a topic: the texts of all faults of the table, one after another
abbrev pub explained_text : List Section → Topic → List ℕ
explained_text table topic = texts_from (section_text topic) 1 table
