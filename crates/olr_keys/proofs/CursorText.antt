-- Texts of cursors: a key, and perhaps `@` and the digits of a mark.
use Rattle.std.proofs.Common.{arith}
use Rattle.std.proofs.lemmas.Grind.{common_steps}
use Rattle.olr_keys.proofs.Common.{◌≡◌, ℕ, List, [], ◌∷◌, ◌++◌, Option, None, Some, refl, sym, ap, ◌∙◌, append_assoc, ◌≢◌, Result, Ok, Err, IsCursorOf, IsMark, cursor_text, hexadecimal, key_text, KeyValue, IsInRange, Mark}
use Rattle.olr_keys.specs.declared.cursor.BadCursor.{BadCursor}
use Rattle.olr_keys.specs.declared.cursor.CursorRead.{CursorRead}
use Rattle.olr_keys.proofs.Lacking.{Lacks, IsCut, one_cut, not_cut}
use Rattle.olr_keys.proofs.KeyText.{lacks_key, one_key}
use Rattle.olr_keys.proofs.Hexadecimal.{one_bytes}
use Rattle.olr_keys.specs.CursorLaws.{OneCursor, ReadsBack}

pub at_sign : (key : KeyValue) (mark : Mark)
    → cursor_text key (Some mark) ≡ key_text key ++ 64 ∷ hexadecimal mark.0
at_sign key mark = append_assoc (key_text key) (64 ∷ []) (hexadecimal mark.0)

-- a text without `@` that isn't that of a key isn't a cursor
pub no_key : {text : List ℕ} → Lacks 64 text
    → ((key : KeyValue) → IsInRange key → text ≢ key_text key)
    → (key : KeyValue) (mark : Option Mark) → IsCursorOf key mark text → ⊥
no_key lacks other key None cursor = other key cursor.in_range cursor.same
no_key lacks other key (Some mark) cursor = not_cut _ _ _ _ lacks (cursor.same ∙ at_sign _ _)

-- a text with `@` is a cursor only of a key and a mark that stand before and after it
pub record HasParts (key : KeyValue) (mark : Option Mark) (front digits : List ℕ) : Type 0 where
  pub its : Mark
  pub is : mark ≡ Some its
  pub is_mark : IsMark its
  pub key_is : front ≡ key_text key
  pub digits_are : digits ≡ hexadecimal its.0

pub parts_of : {text front digits : List ℕ} → IsCut 64 text front digits
    → {key : KeyValue} (mark : Option Mark) → IsCursorOf key mark text
    → HasParts key mark front digits
parts_of cut None cursor = absurd
    (not_cut _ _ _ _ (lacks_key cursor.in_range) (sym cursor.same ∙ cut.whole))
parts_of cut (Some mark) cursor = grind (arith, common_steps, one_cut, lacks_key, at_sign)

-- ---- cursors have one text

same_mark : {mark mark' : Mark} → mark.0 ≡ mark'.0 → Some mark ≡ Some mark'
same_mark same = ap (λ bytes. Some (record { 0 = bytes })) same

pub one_cursor : OneCursor
one_cursor text key key' None None one other = (one_key one.in_range other.in_range (cc), refl)
one_cursor text key key' None (Some mark') one other =
    absurd (not_cut _ _ _ _ (lacks_key one.in_range) (sym one.same ∙ other.same ∙ at_sign _ _))
one_cursor text key key' (Some mark) None one other =
    absurd (not_cut _ _ _ _ (lacks_key other.in_range) (sym other.same ∙ one.same ∙ at_sign _ _))
one_cursor text key key' (Some mark) (Some mark') one other =
    let parts = one_cut _ _ _ _ (lacks_key one.in_range) (lacks_key other.in_range)
    (cc (at_sign _ _)) in (
      one_key one.in_range other.in_range parts.0,
      same_mark
          (one_bytes _ _ one.is_mark.bytes other.is_mark.bytes parts.1),
    )

abbrev read_as : KeyValue → Option Mark → Result CursorRead BadCursor
read_as key mark = Ok record { key = key; mark = mark }

same_read : {key key' : KeyValue} {mark mark' : Option Mark} → key ≡ key' → mark ≡ mark'
    → read_as key mark ≡ read_as key' mark'
same_read one other = cc

pub reads_back : ReadsBack
reads_back key mark (Ok read) in_range is_mark reading =
    let same = one_cursor _ _ _ _ _ reading
    (record { in_range = in_range; is_mark = is_mark; same = refl }) in
    same_read same.0 same.1
reads_back key mark (Err error) in_range is_mark reading =
    absurd (reading key mark (record { in_range = in_range; is_mark = is_mark; same = refl }))
