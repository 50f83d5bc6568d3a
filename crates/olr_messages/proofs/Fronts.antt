-- The front of a line, and why it tells the message of the line.
use Rattle.olr_messages.proofs.Common.{◌≡◌, ℕ, zero, suc, ◌+◌, ◌-◌, ◌<◌, ◌≤◌, min, List, [], ◌∷◌, ◌++◌, length, take, refl, sym, ap, ◌∙◌, inl, inr, arith, cases_lt, eqb_tells, length-take, take_all, take-append-le, take-append-add, IsMessage, Message, Empty, Long, record_of, front_of}

take-take-append : (n : ℕ) (xs ys : List ℕ) → take n (take n xs ++ ys) ≡ take n (xs ++ ys)
take-take-append n xs ys = grind (arith, cases_lt, length-take, take-append-le, take_all)

-- what is appended to the front of a line is appended to the line
pub front_of-front_of : (xs ys : List ℕ) → front_of (front_of xs ++ ys) ≡ front_of (xs ++ ys)
unfolding front_of
front_of-front_of xs ys = take-take-append 65538 xs ys

take-min : (n : ℕ) (xs : List ℕ) → take (min (length xs) n) xs ≡ take n xs
take-min n xs = grind (arith, cases_lt, take_all)

-- so much of what is appended is held
pub held_front : (line part : List ℕ) → length line ≤ 65538
    → line ++ take (min (length part) (65538 - length line)) part ≡ front_of (line ++ part)
unfolding front_of
held_front line part held =
    let room = take-append-add line part (65538 - length line) in
    let whole : length line + (65538 - length line) ≡ 65538 = omega arith in
    ap (λ (l : List ℕ). line ++ l) (take-min _ _) ∙ sym room
    ∙ ap (λ (k : ℕ). take k (line ++ part)) whole

pub front_short : (line : List ℕ) → length (front_of line) ≤ 65538
unfolding front_of
front_short line = omega (arith, length-take 65538 line)

take_none : (n : ℕ) (line : List ℕ) → 0 < n → take n line ≡ [] → line ≡ []
take_none n [] some none = refl
take_none zero (byte ∷ line) some none = absurd (omega arith)
take_none (suc n) (byte ∷ line) some none = absurd cc

-- a line is empty where its front is
pub front_none : (line : List ℕ) → front_of line ≡ [] → line ≡ []
unfolding front_of
front_none line none = take_none 65538 line (omega arith) none

-- ---- the message of a line

-- a line has one byte more than its record at most
record_short : (line : List ℕ) → length line ≤ length (record_of line) + 1
record_short line = grind (arith, eqb_tells, length-take)

only_long : (bytes line : List ℕ) (message : Message) → 65536 < length bytes → 65536 < length line
    → IsMessage bytes message → IsMessage line message
only_long bytes line Empty long more is = absurd (omega (arith, ap length is))
only_long bytes line Long long more is = more
only_long bytes line _ long more is = absurd (omega arith)

-- the front of a line has the message of the line
pub message_of_front : (line : List ℕ) (message : Message)
    → IsMessage (record_of (front_of line)) message → IsMessage (record_of line) message
unfolding front_of
message_of_front line message is = elim (cases_lt 65538 (length line)) [
  | inl short ↦ only_long _ _ _
      (omega (arith, length-take 65538 line, record_short (take 65538 line)))
      (omega (arith, record_short line)) is
  | inr all ↦ rw (← (take_all 65538 line all)) is
]
