-- A length that is kept lowers the sum of all lengths.
use Rattle.olr_route.proofs.Common.{Search, Starts, AreSound, IsLowered, IsOffered, Reaches, table_in, IsKnownWithin, IsRelaxed, rest_of_line, start_of, ◌≡◌, ◌≢◌, ℕ, zero, suc, ◌+◌, ◌<◌, ◌≤◌, Bool, true, List, Option, Some, None, inl, inr, subst, ap, sym, ◌∙◌, refl, arith, length, unwrap_or, ◌||◌, cases_lt, slice_get_within, total}
use Rattle.olr_route.proofs.Walks.{useful_within, within_more}

pub same_length : (a b : ℕ) (known : Option ℕ) → known ≡ Some a → known ≡ Some b → a ≡ b
same_length a b known is other = cc

-- what a length adds to the sum, known or not
abbrev pub worth : ℕ → Option ℕ → ℕ
worth limit known = unwrap_or known (limit + 1)

total_same : (limit count : ℕ) (old new : ℕ → Option ℕ)
    → ((other : ℕ) → other < count → new other ≡ old other)
    → total limit count new ≡ total limit count old
total_same limit zero old new same = refl
total_same limit (suc count) old new same =
    omega (
      arith,
      total_same limit count old new (λ other less. same other (omega arith)),
      ap (worth limit) (same count (omega arith)),
    )

-- at one line another length is known
pub total_at : (limit count : ℕ) (old new : ℕ → Option ℕ) (at : ℕ) → at < count
    → ((other : ℕ) → other ≢ at → new other ≡ old other)
    → total limit count new + worth limit (old at) ≡ total limit count old + worth limit (new at)
total_at limit zero old new at inside same = absurd (omega arith)
total_at limit (suc count) old new at inside same = elim (cases_lt at count) [
  | inl before ↦ omega (
    arith,
    total_at limit count old new at before same,
    ap
        (λ (o : Option ℕ). worth limit o) (same count (λ is. omega arith)),
  )
  | inr last ↦
      let here : at ≡ count = omega arith in
      omega (
        arith,
        total_same limit count old new
            (λ other less. same other (λ is. omega arith)),
        ap
            (λ (n : ℕ). worth limit (old n)) here,
        ap (λ (n : ℕ). worth limit (new n)) here,
      )
]

-- the length is less than each that is known
abbrev pub IsShorter : ℕ → Option ℕ → Type 0
IsShorter offered known = (bound : ℕ) → IsKnownWithin known bound → offered < bound

worth_shorter : (limit len : ℕ) (known : Option ℕ) → len ≤ limit → IsShorter len known
    → len < worth limit known
worth_shorter limit len None within shorter = omega arith
worth_shorter limit len (Some old) within shorter = shorter old (omega arith)

module _ (search : Search) (old new : Starts) where
  abbrev before : ℕ → Option ℕ
  before = table_in search.map.now old

  abbrev now : ℕ → Option ℕ
  now = table_in search.map.now new

  -- a line keeps a length that is shorter than the known one
  pub lowered : AreSound search old → (line len : ℕ) → line < length search.map.now.lines
      → len ≤ search.limit → Reaches search line len → IsShorter len (before line)
      → now line ≡ Some len
      → ((other : ℕ) → other ≢ line → now other ≡ before other) → IsLowered search true old new
  lowered sound line len inside within reached shorter here elsewhere =
      grind (
        arith,
        total_at search.limit (length search.map.now.lines) before now line,
        worth_shorter search.limit len (before line) within shorter,
      )

  -- and so do others, one after the other
  pub lowered_more : (newer : Starts) (kept more : Bool) → IsLowered search kept old new
      → IsLowered search more new newer → IsLowered search (kept || more) old newer
  lowered_more newer kept more first next = grind arith

-- ---- lines that are relaxed

module _ (search : Search) (old now new : Starts) where
  -- a length that is no less than one that was offered
  offered_within : (line : ℕ) (known : Option ℕ)
      → ((at_start : ℕ) → known ≡ Some at_start → IsOffered search (start_of line) at_start new)
      → (bound : ℕ) → IsKnownWithin known bound → IsOffered search (start_of line) bound new
  offered_within line None offered bound is = absurd is
  offered_within line (Some at_start) offered bound is = λ next clear turn within.
      within_more (table_in search.map.now new next)
      (at_start + rest_of_line search.map.now (start_of line))
      (bound + rest_of_line search.map.now (start_of line)) (omega arith)
      (offered at_start refl next clear turn (omega arith))

  -- one more line is relaxed, and those before it stay so
  pub offered_more : (line : ℕ) → ((other bound : ℕ)
      → IsKnownWithin (table_in search.map.now old other) bound
      → IsKnownWithin (table_in search.map.now now other) bound)
      → ((other bound : ℕ) → IsKnownWithin (table_in search.map.now now other) bound
      → IsKnownWithin (table_in search.map.now new other) bound)
      → ((other bound : ℕ) → other < line → IsKnownWithin (table_in search.map.now old other) bound
      → IsOffered search (start_of other) bound now)
      → ((at_start : ℕ) → table_in search.map.now now line ≡ Some at_start
      → IsOffered search (start_of line) at_start new)
      → (other bound : ℕ) → other < line + 1
      → IsKnownWithin (table_in search.map.now old other) bound
      → IsOffered search (start_of other) bound new
  offered_more line before after earlier here other bound inside known =
      elim (cases_lt other line) [
        | inl less ↦ λ next clear turn within. after next
            (bound + rest_of_line search.map.now (start_of other))
            (earlier other bound less known _ clear turn within)
        | inr last ↦
            let same : line ≡ other = omega arith in
            offered_within other (table_in search.map.now now other)
            (rw same at here)
            bound (before other bound known)
      ]

  -- after a pass in which no length was kept, each line is relaxed
  pub all_relaxed : ((line bound : ℕ) → line < length search.map.now.lines
      → IsKnownWithin (table_in search.map.now old line) bound
      → IsOffered search (start_of line) bound new)
      → ((line : ℕ) → table_in search.map.now new line ≡ table_in search.map.now old line)
      → (asked : Option (List ℕ)) (line : ℕ)
      → IsRelaxed search.map.now search.class asked search.limit (table_in search.map.now new)
      line
  all_relaxed offered same asked line len next known clear turn useful =
      within_more _
      _ _
      (omega arith)
      (offered line len (slice_get_within search.map.now.lines line clear.line clear.at)
      (subst (λ (o : Option ℕ). IsKnownWithin o len) (sym known ∙ same line) (omega arith)) next
      clear turn (omega (arith, useful_within search.map.now search.class asked useful)))
