-- The command of a record is one of which `clap` states the matches.
use Rattle.std.proofs.Common.{◌≡◌, refl, ℕ, Bool, true, false, not, ◌&&◌, ◌||◌, List, [], ◌∷◌, map}
use Rattle.std.specs.Prelude.{◌==◌, ⊤, is_some, unwrap_or}
use Rattle.std.specs.List.{list_all, list_any}
use Rattle.clap.specs.Simple.{filled, filled_from, index_after, with_index, is_simple}
use Rattle.clap.specs.Walk.{Rule, is_early_multiple, is_multiple}
use Rattle.clap.specs.Faults.{is_simple_and_free}
use Rattle.olr_words.specs.Options.{OptionValue, RecordOption, flag, option_named}
use Rattle.olr_words.specs.RecordCommand.{app_with, record_app, record_rule, reference_rule}

-- one that has one value at most, and no setting or rule beside
record IsSingle (r : Rule) : Type 0 where
  simple : r.is_simple ≡ true
  free : r.is_free ≡ true
  single : is_multiple r ≡ false

-- it is one at each position
record IsPlain (r : Rule) : Type 0 where
  simple : r.is_simple ≡ true
  at : (i : ℕ) → IsSingle (with_index i (filled r))

abbrev ArePlain : List Rule → Type 0
ArePlain [] = ⊤
ArePlain (r ∷ rs) = IsPlain r × ArePlain rs

-- an option of this name, whatever it takes
plain_named : (name : List ℕ) (value : OptionValue) → IsPlain (record_rule (option_named name value))
plain_named name flag = record {
  simple = refl;
  at = λ i. record { simple = refl; free = refl; single = refl };
}
plain_named name _ = record {
  simple = refl;
  at = λ i. record { simple = refl; free = refl; single = refl };
}

option_plain : (o : RecordOption) → IsPlain (record_rule o)
option_plain o = plain_named o.name o.value

options_plain : (os : List RecordOption) → ArePlain (map record_rule os)
options_plain [] = tt
options_plain (o ∷ os) = (option_plain o, options_plain os)

reference_plain : IsPlain reference_rule
reference_plain = record {
  simple = refl;
  at = λ i. record { simple = refl; free = refl; single = refl };
}

all_true : {X : Type 0} (p : X → Bool) (x : X) (xs : List X) → p x ≡ true → list_all p xs ≡ true
    → list_all p (x ∷ xs) ≡ true
all_true p x xs first others = rw first others

none_early : (n : ℕ) (r : Rule) (rs : List Rule) → is_multiple r ≡ false
    → list_any (is_early_multiple n) rs ≡ false → list_any (is_early_multiple n) (r ∷ rs) ≡ false
none_early n r rs single others = go (is_some r.index) (is_multiple r) single
  where
    go : (indexed several : Bool) → several ≡ false
        → (indexed && several && not (n == unwrap_or r.index 0)
        || list_any (is_early_multiple n) rs) ≡ false
    go true true so = cc
    go true false so = others
    go false several so = others

all_simple : (rs : List Rule) (i : ℕ) → ArePlain rs
    → list_all (λ r. r.is_simple) (filled_from i rs) ≡ true
all_simple [] i are = refl
all_simple (r ∷ rs) i are = all_true {X = Rule} (λ r. r.is_simple) (with_index i (filled r))
    (filled_from (index_after i r) rs) (are.0.at i).simple (all_simple rs (index_after i r) are.1)

all_free : (rs : List Rule) (i : ℕ) → ArePlain rs
    → list_all (λ r. r.is_free) (filled_from i rs) ≡ true
all_free [] i are = refl
all_free (r ∷ rs) i are = all_true {X = Rule} (λ r. r.is_free) (with_index i (filled r))
    (filled_from (index_after i r) rs) (are.0.at i).free (all_free rs (index_after i r) are.1)

all_early : (rs : List Rule) (i n : ℕ) → ArePlain rs
    → list_any (is_early_multiple n) (filled_from i rs) ≡ false
all_early [] i n are = refl
all_early (r ∷ rs) i n are = none_early n (with_index i (filled r))
    (filled_from (index_after i r) rs) (are.0.at i).single (all_early rs (index_after i r) n are.1)

all_plain : (rs : List Rule) → ArePlain rs → list_all (λ r. r.is_simple) rs ≡ true
all_plain [] are = refl
all_plain (r ∷ rs) are =
    all_true {X = Rule} (λ r. r.is_simple) r rs are.0.simple (all_plain rs are.1)

app_is_simple : (name : List ℕ) (rs : List Rule) → ArePlain rs → is_simple (app_with name rs) ≡ true
app_is_simple name rs are = rw (all_plain rs are, all_simple rs 1 are, all_early rs 1 _ are) refl

app_is_free : (name : List ℕ) (rs : List Rule) → ArePlain rs
    → is_simple_and_free (app_with name rs) ≡ true
app_is_free name rs are =
    rw (all_plain rs are, all_simple rs 1 are, all_early rs 1 _ are, all_free rs 1 are) refl

pub record_is_simple : (name : List ℕ) (has_reference : Bool) (os : List RecordOption)
    → is_simple (record_app name has_reference os) ≡ true
record_is_simple name false os = app_is_simple name (map record_rule os) (options_plain os)
record_is_simple name true os = app_is_simple name (reference_rule ∷ map record_rule os)
    (reference_plain, options_plain os)

pub record_is_free : (name : List ℕ) (has_reference : Bool) (os : List RecordOption)
    → is_simple_and_free (record_app name has_reference os) ≡ true
record_is_free name false os = app_is_free name (map record_rule os) (options_plain os)
record_is_free name true os = app_is_free name (reference_rule ∷ map record_rule os)
    (reference_plain, options_plain os)
