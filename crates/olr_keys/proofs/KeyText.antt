-- Texts of keys: the total, a colon, and the ranks.
use Rattle.olr_keys.proofs.Common.{◌≡◌, ℕ, ◌<◌, List, [], ◌∷◌, ◌++◌, length, ap, ◌∙◌, append_assoc, rules, arith, ◌≢◌, decimal, All, decimal_injective, All-append, All-cons, All-head, All-tail, AreRanks, key_text, ranks_text, KeyValue, IsInRange, IsRank, same_key}
use Rattle.olr_keys.proofs.Lacking.{Lacks, IsCut, lacks_decimal, one_cut, not_cut}
use Rattle.olr_keys.proofs.RanksText.{later, one_ranks, ranks_text-cons}

pub ranks_of_key : {key : KeyValue} → IsInRange key → AreRanks 32 key.ranks
ranks_of_key in_range = grind arith

colon : (key : KeyValue) → key_text key ≡ decimal key.total ++ 58 ∷ ranks_text key.ranks
colon key = append_assoc (decimal key.total) (58 ∷ []) (ranks_text key.ranks)

lacks_total : {key : KeyValue} → IsInRange key → Lacks 58 (decimal key.total)
lacks_total in_range = lacks_decimal (λ _. omega arith) (omega arith)

-- a text without a colon isn't that of a key
pub no_colon : {text : List ℕ} (key : KeyValue) → Lacks 58 text → text ≢ key_text key
no_colon key lacks same = not_cut _ _ _ _ lacks (same ∙ colon _)

-- what stands before and after the colon in the text of a key
pub record AreParts (key : KeyValue) (total ranks : List ℕ) : Type 0 where
  pub total_is : total ≡ decimal key.total
  pub ranks_are : ranks ≡ ranks_text key.ranks

pub parts_of : {text total ranks : List ℕ} {key : KeyValue} → IsCut 58 text total ranks
    → IsInRange key → text ≡ key_text key → AreParts key total ranks
parts_of cut in_range same = grind (arith, one_cut, lacks_total, colon)

-- a text of one rank isn't that of a key
pub too_few : {text total ranks : List ℕ} {key : KeyValue} {found : List ℕ}
    → IsCut 58 text total ranks → AreRanks 32 found → ranks ≡ ranks_text found → length found < 2
    → IsInRange key → text ≢ key_text key
too_few cut are is few in_range same =
    let parts = parts_of cut in_range same in
    let same_ranks = one_ranks _ _ are (ranks_of_key in_range) (cc) in
    omega (arith, ap length same_ranks)

-- keys have one text
pub one_key : {a b : KeyValue} → IsInRange a → IsInRange b → key_text a ≡ key_text b → a ≡ b
one_key in_range in_range' same =
    let parts = one_cut _ _ _ _ (lacks_total in_range) (lacks_total in_range') (cc (colon _)) in
    let total = decimal_injective _ _ (omega arith) (omega arith) parts.0 in
    let ranks = one_ranks _ _ (ranks_of_key in_range) (ranks_of_key in_range') parts.1 in
    same_key total ranks

-- ---- no `@` in the text of a key

lacks_after : (ranks : List ℕ) → All IsRank ranks → Lacks 64 (later ranks)
lacks_after [] each = record { each = search rules }
lacks_after (rank ∷ ranks) each =
    let first = All-head IsRank rank ranks each in
    let front = lacks_decimal (λ _. omega arith) (omega arith) in
    let rest = lacks_after ranks (All-tail IsRank rank ranks each) in
    let dot : 46 ≢ 64 = λ same. absurd (omega (arith, same)) in
    record {
      each = All-cons (λ other. other ≢ 64) 46 (decimal rank ++ later ranks) dot
          (All-append (λ other. other ≢ 64) (decimal rank) (later ranks)
          front.each rest.each);
    }

lacks_ranks : (ranks : List ℕ) → All IsRank ranks → Lacks 64 (ranks_text ranks)
lacks_ranks [] each = record { each = search rules }
lacks_ranks (rank ∷ ranks) each =
    let first = All-head IsRank rank ranks each in
    let front = lacks_decimal (λ _. omega arith) (omega arith) in
    let rest = lacks_after _ (All-tail IsRank rank ranks each) in
    rw (ranks_text-cons _ _) (record {
      each =
          All-append (λ other. other ≢ 64) (decimal rank) (later ranks) front.each rest.each;
    })

pub lacks_key : {key : KeyValue} → IsInRange key → Lacks 64 (key_text key)
lacks_key {key} in_range =
    let front = lacks_decimal (λ _. omega arith) (omega arith) in
    let rest = lacks_ranks _ in_range.each in
    let other : 58 ≢ 64 = λ same. absurd (omega (arith, same)) in
    rw (colon _) (record {
      each = All-append (λ other. other ≢ 64) (decimal key.total) (58 ∷ ranks_text key.ranks)
          front.each (All-cons (λ other. other ≢ 64) 58 (ranks_text key.ranks) other
          rest.each);
    })
