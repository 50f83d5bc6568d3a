-- The key and the text of a record.
use Rattle.olr_messages.proofs.Common.{◌≡◌, ◌≢◌, ℕ, ◌<◌, List, ◌∷◌, ◌++◌, length, get_or, sym, ap, ◌∙◌, arith, All, Bool, eqb-false, eqb-true, get_or-take, length-take, All-from_get_or}
use Rattle.std.specs.List.{position_or_len, before_first, after_first}
use Rattle.std.proofs.Math.Dec.{eqb}
use Rattle.std.proofs.lemmas.List.Sums.{fails_before_first, passes_at_first, split_at_first}

-- whether a byte is TAB
abbrev pub is_tab : ℕ → Bool
is_tab byte = eqb byte 9

before_tab : (bytes : List ℕ) (i : ℕ) → i < position_or_len is_tab bytes → get_or bytes i 0 ≢ 9
before_tab bytes i before tab = grind (arith, eqb-false, fails_before_first)

-- a record without a TAB
pub no_tab : (bytes : List ℕ) → position_or_len is_tab bytes ≡ length bytes
    → All (λ byte. byte ≢ 9) bytes
no_tab bytes none = All-from_get_or (λ byte. byte ≢ 9) bytes 0
    (λ i inside. before_tab _ i (omega arith))

key_has_none : (bytes : List ℕ) → position_or_len is_tab bytes < length bytes
    → All (λ byte. byte ≢ 9) (before_first is_tab bytes)
key_has_none bytes some =
    let size = length-take (position_or_len is_tab bytes) bytes in
    All-from_get_or (λ byte. byte ≢ 9) (before_first is_tab bytes) 0
    (λ i inside tab. before_tab _ i (omega arith)
    (sym (get_or-take (position_or_len is_tab bytes) bytes i 0 (omega arith)) ∙ tab))

-- a record with a TAB
pub at_tab : (bytes : List ℕ) {key text : List ℕ} → position_or_len is_tab bytes < length bytes
    → key ≡ before_first is_tab bytes → text ≡ after_first is_tab bytes
    → (bytes ≡ key ++ 9 ∷ text) × All (λ byte. byte ≢ 9) key
at_tab bytes some is_key is_text = (
  rw (is_key, is_text) ((split_at_first is_tab bytes 0 some) ∙ ap
      (λ (b : ℕ). before_first is_tab bytes ++ (b ∷ after_first is_tab bytes))
      (eqb-true (get_or bytes (position_or_len is_tab bytes) 0) 9
      (passes_at_first is_tab bytes 0 some))),
  rw is_key (key_has_none _ some),
)
