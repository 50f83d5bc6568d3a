-- The first line of an input.
use Rattle.olr_messages.proofs.Common.{arith, ◌≡◌, ◌≢◌, ℕ, List, [], ◌∷◌, ◌++◌, refl, ap, ◌∙◌, append_assoc, append-nil, Option, Some, None, Consumes, IsAtEnd, eqb_tells, All-head, All-tail, lines_of, onto, HasNoLf, IsNext}

-- a byte that isn't LF goes to the front of the first line
lines_of-other : (byte : ℕ) (rest : List ℕ) → byte ≢ 10
    → lines_of (byte ∷ rest) ≡ onto byte (lines_of rest)
unfolding lines_of
lines_of-other byte rest other = grind (arith, eqb_tells)

-- a line before an LF
pub lines_of-lf : (line rest : List ℕ) → HasNoLf line
    → lines_of (line ++ 10 ∷ rest) ≡ line ∷ lines_of rest
unfolding lines_of
lines_of-lf [] rest free = refl
lines_of-lf (byte ∷ line) rest free =
    lines_of-other _ (line ++ 10 ∷ rest) (All-head (λ b. b ≢ 10) byte line free)
    ∙ ap (onto byte) (lines_of-lf _ rest (All-tail (λ b. b ≢ 10) byte line free))

-- a last line, which no LF ends
pub lines_of-last : (line : List ℕ) → HasNoLf line → line ≢ [] → lines_of line ≡ line ∷ []
unfolding lines_of
lines_of-last [] free some = absurd (some refl)
lines_of-last (byte ∷ []) free some = lines_of-other _ [] (All-head (λ b. b ≢ 10) byte [] free)
lines_of-last (byte ∷ next ∷ line) free some =
    lines_of-other _ (next ∷ line) (All-head (λ b. b ≢ 10) byte (next ∷ line) free)
    ∙ ap (onto byte) (lines_of-last _ (All-tail (λ b. b ≢ 10) byte (next ∷ line) free)
    (λ e. absurd cc))

-- what is consumed up to an LF is the next line
pub next_of_lf : (line : List ℕ) (a b : Option (List ℕ)) → HasNoLf line
    → Consumes a b (line ++ 10 ∷ []) → IsNext line a b
next_of_lf line None b free consumed = tt
next_of_lf line (Some xs) None free consumed = absurd consumed
next_of_lf line (Some xs) (Some ys) free consumed = grind (arith, append_assoc, lines_of-lf)

-- an empty input
pub no_more : lines_of [] ≡ []
unfolding lines_of
no_more = refl

-- what is consumed up to the end is the next line, where it isn't empty
pub next_of_end : {line : List ℕ} (a b : Option (List ℕ)) → HasNoLf line → line ≢ []
    → Consumes a b line → IsAtEnd b → IsNext line a b
next_of_end None b free some consumed ended = tt
next_of_end (Some xs) None free some consumed ended = absurd consumed
next_of_end {line = line} (Some xs) (Some ys) free some consumed ended =
    grind (arith, append-nil, lines_of-last, no_more)
