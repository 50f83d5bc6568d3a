-- The bytes at hand in a chunk, and the first LF among them.
use Rattle.olr_messages.proofs.Common.{◌≡◌, ◌≢◌, ℕ, ◌+◌, ◌-◌, ◌<◌, ◌≤◌, List, [], ◌∷◌, ◌++◌, length, get_or, take, drop, sym, ap, ◌∙◌, ◌↔◌, arith, add-one, take-append-drop, Contains, Bool, IsTrue, Option, Some, None, is_some, slice_range, eq-eqb, eqb-true, get_or-take, length-take, length-drop, drop-take, drop-drop, get_or_default, All-from_get_or, All-contains, drop-cons, HasNoLf}
use Rattle.memchr.specs.Find.{IsFirstByte, NoneBefore, Nowhere, Passes, is_byte}

-- no LF is found
pub no_lf_found : (hand : List ℕ) → Nowhere (Passes (is_byte 10) hand) 0 (length hand)
    → HasNoLf hand
no_lf_found hand none = All-from_get_or (λ byte. byte ≢ 10) hand 0
    (λ i inside lf. none i (omega arith) inside (eq-eqb (get_or hand i 0) 10 lf))

-- an LF is found: what stands before it and what stands behind it
pub lf_found : (hand : List ℕ) (k : ℕ) → NoneBefore (Passes (is_byte 10) hand) 0 (length hand) k
    → Passes (is_byte 10) hand k → hand ≡ take k hand ++ 10 ∷ drop (k + 1) hand
lf_found hand k first passes = grind (arith, eqb-true, take-append-drop, drop-cons, add-one)

pub no_lf_before : (hand : List ℕ) (k : ℕ) → NoneBefore (Passes (is_byte 10) hand) 0 (length hand) k
    → HasNoLf (take k hand)
no_lf_before hand k first =
    let size = length-take k hand in
    All-from_get_or (λ byte. byte ≢ 10) (take k hand) 0
    (λ i before lf. first.before i (omega arith) (omega arith)
    (eq-eqb (get_or hand i 0) 10 (sym (get_or-take k hand i 0 (omega arith)) ∙ lf)))

-- whether an LF is found
pub holds_lf : (hand : List ℕ) (r : Option ℕ) {b : Bool} → IsFirstByte (is_byte 10) hand r
    → b ≡ is_some r → IsTrue b ↔ Contains hand 10
holds_lf hand None first is = grind (arith, All-contains, no_lf_found)
holds_lf hand (Some k) first is = (
  λ yes. (
    k,
    first.0.high,
    get_or_default hand k 10 0 first.0.high ∙ eqb-true (get_or hand k 0) 10 first.1,
  ),
  λ has. is,
)

hand_length : (chunk : List ℕ) (start stop : ℕ) → start ≤ stop → stop ≤ length chunk
    → length (slice_range chunk start stop) ≡ stop - start
hand_length chunk start stop ordered inside = grind (arith, length-take, length-drop)

-- an LF at hand, and what stands behind it
pub behind_lf : (chunk : List ℕ) {start stop k : ℕ} → start ≤ stop → stop ≤ length chunk
    → k < length (slice_range chunk start stop) → start + (k + 1) ≤ stop
behind_lf chunk ordered inside before = let size = hand_length _ _ _ ordered inside in omega arith

pub none_at_hand : (chunk : List ℕ) (stop : ℕ) → slice_range chunk stop stop ≡ []
none_at_hand chunk stop = grind arith

-- behind the first bytes at hand, the rest is at hand
pub rest_at_hand : (chunk : List ℕ) (start stop k : ℕ) → start + k ≤ stop
    → drop k (slice_range chunk start stop) ≡ slice_range chunk (start + k) stop
rest_at_hand chunk start stop k inside =
    ap (λ (n : ℕ). drop k (take n (drop start chunk))) (omega arith)
    ∙ drop-take k (stop - (start + k)) (drop start chunk)
    ∙ ap (λ (l : List ℕ). take (stop - (start + k)) l) (drop-drop k start chunk)
