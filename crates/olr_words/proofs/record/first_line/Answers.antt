use Rattle.std.proofs.Common.{◌≡◌, ℕ, ◌<◌, Bool, None, Some, true, false, List, take, get_or, refl, sym, subst, ap, ◌∙◌, eqb, arith, lit<}
use Rattle.std.specs.List.{Contains, position_or_len}
use Rattle.std.proofs.lemmas.List.{get_or-take, length-take}
use Rattle.std.proofs.lemmas.List.Sums.{fails_before_first}
use Rattle.std.proofs.lemmas.Str.Pattern.{split_once_first}
use Rattle.olr_words.proofs.record.first_line.Goals as goal

abbrev HasNoLf : List ℕ → Type 0
HasNoLf text = ¬ (Contains text 10)

abbrev is_lf : ℕ → Bool
is_lf byte = eqb byte 10

-- no byte before the first line feed is one
not_before : (bytes : List ℕ) (k : ℕ) → k < position_or_len is_lf bytes → get_or bytes k 10 ≡ 10 → ⊥
not_before bytes k before is =
    let fails : is_lf (get_or bytes k 10) ≡ false = fails_before_first is_lf bytes k 10 before in
    let other : is_lf (get_or bytes k 10) ≡ true = ap is_lf is in
    cc

front_has_none : (bytes : List ℕ) (n : ℕ) → n ≡ position_or_len is_lf bytes
    → HasNoLf (take n bytes)
front_has_none bytes n is has =
    let before : has.0 < n = omega (arith, has.1, length-take n bytes) in
    not_before bytes has.0 (omega (arith, before, is)) (sym (get_or-take n bytes has.0 10 before)
    ∙ has.2)

pub returns-in-Some : goal.returns-in-Some
returns-in-Some c =
    let parts = split_once_first 10 c.args.text.now (Some (c.in-Some.line, c.in-Some.field-0-1))
    c.in-Some.ensures.cases (lit< tt) in
    subst HasNoLf (sym parts.1) (front_has_none c.args.text.now _ refl)

pub returns-in-None : goal.returns-in-None
returns-in-None c =
    let none = split_once_first 10 c.args.text.now None c.in-None.ensures.cases (lit< tt) in
    λ has. not_before c.args.text.now has.0 (omega (arith, none, has.1)) has.2
