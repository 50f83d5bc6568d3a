-- A subcommand found by its name, and what it takes.
use Rattle.std.proofs.Common.{◌≡◌, ◌∙◌, ap, subst, sym, refl, ℕ, ◌+◌, ◌<◌, Bool, true, false, cond, List, [], ◌∷◌, ◌++◌, get_or, drop, length, Option, None, Some, map}
use Rattle.std.specs.Option.{option_or}
use Rattle.std.specs.Prelude.{find, option_map, IfSome}
use Rattle.std.specs.List.{Any, Contains}
use Rattle.std.specs.Str.{bytes_eq}
use Rattle.std.proofs.lemmas.List.{at_drop_more, get_or-map, get_or_default, length-map}
use Rattle.std.proofs.lemmas.List.Folds.{find-append}
use Rattle.std.proofs.lemmas.Slice.Eq.{bytes_eq-Decides}
use Rattle.clap.specs.Walk.{texts}
use Rattle.std.proofs.Common.{Bor}
use Rattle.olr_words.specs.RecordCommand.{options_in, row_of}
use Rattle.olr_words.specs.Options.{RecordOption, options_named}
use Rattle.olr_words.specs.declared.command.Subcommand.{Subcommand}

-- ---- the first of a list that passes a test, one after the other

pub found_at : {X : Type 0} (p : X → Bool) (xs : List X) (i : ℕ) (d : X) → i < length xs
    → find p xs ≡ find p (drop i xs) → p (get_or xs i d) ≡ true → find p xs ≡ Some (get_or xs i d)
found_at p xs i d less so_far is_so = so_far ∙ at_drop_more (find p) xs i d less
    ∙ ap (λ b. cond b (Some (get_or xs i d)) (find p (drop (i + 1) xs))) is_so

pub passed_at : {X : Type 0} (p : X → Bool) (xs : List X) (i : ℕ) (d : X) → i < length xs
    → find p xs ≡ find p (drop i xs) → p (get_or xs i d) ≡ false
    → find p xs ≡ find p (drop (i + 1) xs)
passed_at p xs i d less so_far fails = so_far ∙ at_drop_more (find p) xs i d less
    ∙ ap (λ b. cond b (Some (get_or xs i d)) (find p (drop (i + 1) xs))) fails

-- ---- by name

abbrev pub has_name : List ℕ → Subcommand → Bool
has_name name s = bytes_eq s.name.now name

-- the options of the subcommand found are those of the row found
pub same_row : (name : List ℕ) (subs : List Subcommand)
    → option_map options_in (find (has_name name) subs) ≡ options_named (map row_of subs) name
same_row name [] = refl
same_row name (s ∷ subs) = go (same_row name subs) (bytes_eq s.name.now name)
  where
    go : option_map options_in (find (has_name name) subs) ≡ options_named (map row_of subs) name
        → (b : Bool) → option_map options_in (cond b (Some s) (find (has_name name) subs))
        ≡ option_map (λ row. row.1)
        (cond b (Some (row_of s)) (find (λ row. bytes_eq row.0 name) (map row_of subs)))
    go others true = refl
    go others false = others

-- the same of what was found in place of it
pub row_found : (name : List ℕ) (subs : List Subcommand) (r : Option Subcommand)
    → find (has_name name) subs ≡ r → option_map options_in r ≡ options_named (map row_of subs) name
row_found name subs r is = ap (option_map options_in) (sym is) ∙ same_row name subs

-- the subcommand found has the name
pub same_name : (name : List ℕ) (subs : List Subcommand)
    → IfSome (find (has_name name) subs) (λ s. s.name.now ≡ name)
same_name name [] = tt
same_name name (s ∷ subs) = go (same_name name subs) (bytes_eq s.name.now name) refl
  where
    go : IfSome (find (has_name name) subs) (λ s. s.name.now ≡ name)
        → (b : Bool) → bytes_eq s.name.now name ≡ b
        → IfSome (cond b (Some s) (find (has_name name) subs)) (λ s. s.name.now ≡ name)
    go others true e = (bytes_eq-Decides s.name.now name).0 e
    go others false e = others

pub name_found : (name : List ℕ) (subs : List Subcommand) (r : Option Subcommand)
    → find (has_name name) subs ≡ r → IfSome r (λ s. s.name.now ≡ name)
name_found name subs r is = subst (λ o. IfSome o (λ (s : Subcommand). s.name.now ≡ name)) is
    (same_name name subs)

-- ---- in one of two tables

module _ (name : List ℕ) (rows more : List (List ℕ × List RecordOption)) where
  in_either : options_named (rows ++ more) name
      ≡ option_or (options_named rows name) (options_named more name)
  in_either = ap (option_map (λ row. row.1)) (find-append (λ row. bytes_eq row.0 name) rows more)
      ∙ go (find (λ row. bytes_eq row.0 name) rows)
    where
      go : (found : Option (List ℕ × List RecordOption))
          → option_map (λ row. row.1) (option_or found (find (λ row. bytes_eq row.0 name) more))
          ≡ option_or (option_map (λ row. row.1) found) (options_named more name)
      go None = refl
      go (Some row) = refl

  -- what has the first table has both
  pub in_first : (options : List RecordOption) → Some options ≡ options_named rows name
      → Some options ≡ options_named (rows ++ more) name
  in_first options is = ap (λ o. option_or o (options_named more name)) is ∙ sym in_either

  -- and so has what the first one doesn't have, and the second one has or hasn't
  pub in_second : (found : Option (List RecordOption)) → None ≡ options_named rows name
      → found ≡ options_named more name → found ≡ options_named (rows ++ more) name
  in_second found none is = is ∙ ap (λ o. option_or o (options_named more name)) none
      ∙ sym in_either

-- ---- words

pub contained : (words : List (Bor (List ℕ))) (text : List ℕ) → Any (λ w. w.now ≡ text) words
    → Contains (texts words) text
contained words text any = (
  any.0,
  rw length-map any.2,
  get_or-map (λ w. w.now) words any.0 any.1 text any.2 ∙ (ap (λ w. w.now) any.3 ∙ any.4),
)

pub any_of : (words : List (Bor (List ℕ))) (text : List ℕ) → Contains (texts words) text
    → Any (λ w. w.now ≡ text) words
any_of words text is =
    let less : is.0 < length words = rw length-map at is.1 in
    let d : Bor (List ℕ) = record { ref_ptr = (0, 0); now = [] } in (
      is.0,
      get_or words is.0 d,
      less,
      get_or_same words is.0 d less,
      sym (get_or-map (λ w. w.now) words is.0 d text less) ∙ is.2,
    )
  where
    get_or_same : (xs : List (Bor (List ℕ))) (i : ℕ) (d : Bor (List ℕ)) → i < length xs
        → get_or xs i (get_or xs i d) ≡ get_or xs i d
    get_or_same xs i d less = get_or_default xs i (get_or xs i d) d less
