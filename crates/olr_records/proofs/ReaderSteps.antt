-- What one read of a record leaves of the records of a reader over the bytes of a text.
use Rattle.olr_records.proofs.Common.{◌≡◌, ℕ, ◌+◌, Bool, true, false, cond, List, [], ◌∷◌, length, Some, None, refl, sym, ap, ◌∙◌, arith, add-one, Option, MatchBool, not, Read, next_record, ends_at_end, default_config, records_from, records_next, strip_bom, NextIs, ReadRecord, Ready, source_of, pending_of, has_failed, is_flexible, took_first, reader_state, State}
use Rattle.std.proofs.lemmas.Bool.{cases_Bool}
use denote.Ref.{Bor}
use Rattle.csv.specs.declared.parser.State.TheVariants as st
use Rattle.csv.specs.declared.reader.Reader.{Reader}
use Rattle.olr_records.specs.Records.{known, records_of, records_in, records_left, records_until, IsPlain}
use Rattle.olr_records.proofs.RecordSteps.{left_after, same_records}

-- the records of a reader at the start of a text
pub records_at_start : (reader : Reader (Bor (List ℕ))) (text : List ℕ)
    → reader_state reader ≡ st.StartRecord
    → source_of known reader ≡ Some (strip_bom text) → records_left reader ≡ records_of text
unfolding records_left records_of
records_at_start reader text state source = rw (state, source) refl

-- the records from a state on are what the next read gives, and those after it
opened : (s : State) (xs : List ℕ) {r : Option Read} → next_record default_config s [] [] xs ≡ r
    → records_from default_config (length xs + 1) s xs
    ≡ records_next (records_from default_config (length xs)) r
unfolding records_from
opened s xs e = rw add-one (ap (records_next (records_from default_config (length xs))) e)

-- what one read from a state on gives of the records from there on
abbrev IsOneRead : State → State → List ℕ → List ℕ → Bool → List (List ℕ) → Type 0
IsOneRead s s2 xs ys found fields = (found ≡ true → ends_at_end s2 ≡ false)
    × MatchBool found (records_in s (Some xs) ≡ fields ∷ records_in s2 (Some ys))
    (records_in s (Some xs) ≡ [])

read_as : (s s2 : State) (xs ys : List ℕ) (r : Option Read) (found : Bool) (fields : List (List ℕ))
    → ends_at_end s ≡ false → next_record default_config s [] [] xs ≡ r
    → NextIs r found fields s2 ys → IsOneRead s s2 xs ys found fields
read_as s s2 xs ys None true fields state e next = absurd cc
read_as s s2 xs ys None false fields state e next = (λ h. absurd cc, opened s _ e)
read_as s s2 xs ys (Some p) false fields state e next = absurd cc
read_as s s2 xs ys (Some p) true fields state e (found, first, second, third) =
    let left = left_after s _ p state e in (
      λ h. rw second left.state,
      rw (first, second, third) (opened s _ e ∙ ap (λ (rs : List (List (List ℕ))). p.0 ∷ rs)
          (same_records _ _ _ _ left.state left.shorter (omega arith))),
    )

-- ---- readers

chosen : (failed b : Bool) (x y : List ℕ) → failed ≡ false → (text : List ℕ)
    × (cond failed None (cond b (Some x) (Some y)) ≡ Some text)
chosen true b x y works = absurd cc
chosen false true x y works = (x, refl)
chosen false false x y works = (y, refl)

-- what is left is known
source_known : (reader : Reader (Bor (List ℕ))) → has_failed reader ≡ false → (text : List ℕ)
    × (source_of known reader ≡ Some text)
source_known reader works = chosen _ _ _ _ works

left_is : (reader : Reader (Bor (List ℕ))) (text : List ℕ) → source_of known reader ≡ Some text
    → records_left reader ≡ records_in (reader_state reader) (Some text)
unfolding records_left
left_is reader text e = ap (records_in (reader_state reader)) e

-- one read of a record: what it leaves, and the records before it
pub read_one : (old new : Reader (Bor (List ℕ))) (found : Bool) (fields : List (List ℕ))
    → IsPlain old → ReadRecord known old new found fields
    → took_first new ≡ true → has_failed new ≡ has_failed old → is_flexible new ≡ is_flexible old
    → (found ≡ true → IsPlain new) × MatchBool found (records_left old ≡ fields ∷ records_left new)
    (records_left old ≡ [])
read_one old new found fields plain read first works flexible =
    let before = source_known old plain.works in
    let after = source_known new (works ∙ plain.works) in
    let pending : pending_of (known new.rdr) new ≡ Some after.0 = cc in
    let next = rw (plain.defaults, before.1, pending) at read.0 in
    let step = read_as (reader_state old) (reader_state new) before.0 after.0 _ found fields
    plain.between refl next in (
      λ h. record {
        defaults = read.2 ∙ plain.defaults;
        flexible = flexible ∙ plain.flexible;
        untrimmed = read.3 ∙ plain.untrimmed;
        headers = λ none. absurd cc;
        works = works ∙ plain.works;
        between = step.0 h;
      },
      rw (left_is old before.0 before.1, left_is new after.0 after.1) step.1,
    )

-- the next read of such a reader is of one record
pub plain_ready : (reader : Reader (Bor (List ℕ))) → IsPlain reader → Ready reader
plain_ready reader plain = grind (arith, cases_Bool)

-- the same records, of what is over where none was found
pub after_read : (found over : Bool) {value : List (List (List ℕ))} (fields : List (List ℕ))
    (old new : Reader (Bor (List ℕ))) → over ≡ false → records_until over old ≡ value
    → MatchBool found (records_left old ≡ fields ∷ records_left new) (records_left old ≡ [])
    → MatchBool found (value ≡ fields ∷ records_until (not found) new) ((value ≡ [])
    × (records_until (not found) new ≡ []))
after_read found true fields old new e view step = absurd cc
after_read true false fields old new e view step = sym view ∙ step
after_read false false fields old new e view step = (sym view ∙ step, refl)
