-- Texts that are put together from parts, and taken apart again at a byte that the parts don't
-- have.
use Rattle.std.proofs.lemmas.Str.Parse.{digit_from_value}
use Rattle.olr_map.proofs.Common.{joined, ◌≡◌, ℕ, ℤ, ◌^◌, ◌<◌, ◌≤◌, List, [], ◌∷◌, ◌++◌, append_assoc, map, length, refl, sym, ap, pos, negsuc, arith, All, ⊤, flat_map, decimal, signed_decimal, mag, AllDigits, length-append, All-head, All-tail, decimal_is_IsNumeral}

-- a byte doesn't occur in a text
abbrev pub Lacks : ℕ → List ℕ → Type 0
Lacks byte [] = ⊤
Lacks byte (c ∷ text) = (c ≡ byte → ⊥) × Lacks byte text

-- it occurs in none of the texts
abbrev pub AllLack : ℕ → List (List ℕ) → Type 0
AllLack byte [] = ⊤
AllLack byte (text ∷ texts) = Lacks byte text × AllLack byte texts

-- the texts, the byte behind each
abbrev pub ended : ℕ → List (List ℕ) → List ℕ
ended byte [] = []
ended byte (text ∷ texts) = text ++ byte ∷ ended byte texts

-- ---- taken apart

-- the parts before and behind the first such byte
record SameCut (u v s t : List ℕ) : Type 0 where
  front : u ≡ v
  rest : s ≡ t

cut_once : (byte : ℕ) (u v s t : List ℕ) → Lacks byte u → Lacks byte v
    → u ++ byte ∷ s ≡ v ++ byte ∷ t → SameCut u v s t
cut_once byte [] [] s t lacks other same = record { front = refl; rest = cc }
cut_once byte [] (d ∷ v) s t lacks other same = let first : d ≡ byte = cc in absurd (other.0 first)
cut_once byte (c ∷ u) [] s t lacks other same = let first : c ≡ byte = cc in absurd (lacks.0 first)
cut_once byte (c ∷ u) (d ∷ v) s t lacks other same =
    let rest : u ++ byte ∷ s ≡ v ++ byte ∷ t = cc in
    let deeper = cut_once _ u v s t lacks.1 other.1 rest in
    let first : c ≡ d = cc in
    record { front = cc; rest = deeper.rest }

-- a text with the byte in it isn't empty
not_empty : (byte : ℕ) (u s : List ℕ) → [] ≡ u ++ byte ∷ s → ⊥
not_empty byte u s none = omega (arith, ap length none, length-append u (byte ∷ s))

pub ended_once : (byte : ℕ) (xs ys : List (List ℕ)) → AllLack byte xs → AllLack byte ys
    → ended byte xs ≡ ended byte ys → xs ≡ ys
ended_once byte [] [] lack other same = refl
ended_once byte [] (y ∷ ys) lack other same = absurd (not_empty _ y _ same)
ended_once byte (x ∷ xs) [] lack other same = absurd (not_empty _ x _ (sym same))
ended_once byte (x ∷ xs) (y ∷ ys) lack other same =
    let cut = cut_once _ x y _ _ lack.0 other.0 same in
    let first = cut.front in
    let rest = ended_once byte xs ys lack.1 other.1 cut.rest in
    cc

-- joined texts, with one more separator behind
further_ended : (byte : ℕ) (xs : List (List ℕ))
    → flat_map (λ (x : List ℕ). (byte ∷ []) ++ x) xs ++ byte ∷ [] ≡ byte ∷ ended byte xs
further_ended byte [] = refl
further_ended byte (x ∷ xs) = grind (arith, append_assoc, further_ended byte xs)

joined_ended : (byte : ℕ) (x : List ℕ) (xs : List (List ℕ))
    → joined (byte ∷ []) (x ∷ xs) ++ byte ∷ [] ≡ ended byte (x ∷ xs)
joined_ended byte x xs = cc (
  append_assoc x (flat_map (λ (y : List ℕ). (byte ∷ []) ++ y) xs) (byte ∷ []),
  further_ended _ _,
)

pub joined_once : (byte : ℕ) (x : List ℕ) (xs : List (List ℕ)) (y : List ℕ) (ys : List (List ℕ))
    → AllLack byte (x ∷ xs) → AllLack byte (y ∷ ys)
    → joined (byte ∷ []) (x ∷ xs) ≡ joined (byte ∷ []) (y ∷ ys) → x ∷ xs ≡ y ∷ ys
joined_once byte x xs y ys lack other same = ended_once _ _ _ lack other
    (cc (joined_ended _ x _, joined_ended _ y _))

-- one of two maps decides the elements, where the function does
pub map_once : {X Y : Type 0} (P : X → Type 0) (f : X → Y)
    → ((a b : X) → P a → P b → f a ≡ f b → a ≡ b) → (xs ys : List X) → All P xs → All P ys
    → map f xs ≡ map f ys → xs ≡ ys
map_once P f once [] [] all other same = refl
map_once P f once (x ∷ xs) (y ∷ ys) all other same =
    let here : f x ≡ f y = cc in
    let behind : map f xs ≡ map f ys = cc in
    let first = once x y (All-head P x xs all) (All-head P y ys other) here in
    let rest = map_once P f once xs ys (All-tail P x xs all) (All-tail P y ys other) behind in
    cc
map_once P f once _ _ all other same = absurd cc

-- ---- texts that lack a byte

pub lacks_both : (byte : ℕ) (u v : List ℕ) → Lacks byte u → Lacks byte v → Lacks byte (u ++ v)
lacks_both byte [] v lacks other = other
lacks_both byte (c ∷ u) v lacks other = (lacks.0, lacks_both _ u v lacks.1 other)

further_lack : (byte separator : ℕ) (xs : List (List ℕ)) → (separator ≡ byte → ⊥) → AllLack byte xs
    → Lacks byte (flat_map (λ (x : List ℕ). (separator ∷ []) ++ x) xs)
further_lack byte separator [] differ lack = tt
further_lack byte separator (x ∷ xs) differ lack =
    grind (arith, lacks_both, further_lack byte separator xs differ lack.1)

pub joined_lacks : (byte separator : ℕ) (xs : List (List ℕ)) → (separator ≡ byte → ⊥)
    → AllLack byte xs → Lacks byte (joined (separator ∷ []) xs)
joined_lacks byte separator [] differ lack = tt
joined_lacks byte separator (x ∷ xs) differ lack =
    lacks_both _ x _ lack.0 (further_lack _ _ _ differ lack.1)

pub each_lacks : {X : Type 0} (byte : ℕ) (P : X → Type 0) (f : X → List ℕ)
    → ((x : X) → P x → Lacks byte (f x)) → (xs : List X) → All P xs → AllLack byte (map f xs)
each_lacks byte P f lacks [] all = tt
each_lacks byte P f lacks (x ∷ xs) all =
    (lacks x (All-head P x _ all), each_lacks byte P f lacks xs (All-tail P x _ all))

digits_lack : (byte : ℕ) (text : List ℕ) → (48 ≤ byte → 57 < byte) → AllDigits 10 text
    → Lacks byte text
digits_lack byte [] other digits = tt
digits_lack byte (c ∷ text) other digits =
    grind (arith, digit_from_value, digits_lack byte text other digits.1)

-- a number has digits alone
pub decimal_lacks : (byte n : ℕ) → (48 ≤ byte → 57 < byte) → n < 2 ^ 64 → Lacks byte (decimal n)
decimal_lacks byte n other small = digits_lack _ _ other (decimal_is_IsNumeral n small).0.1

-- a signed number has a minus sign, too
pub signed_lacks : (byte : ℕ) (z : ℤ) → (45 ≤ byte → 57 < byte) → mag z < 2 ^ 63
    → Lacks byte (signed_decimal z)
signed_lacks byte (pos n) other small = decimal_lacks _ n (λ low. other (omega arith)) (omega arith)
signed_lacks byte (negsuc n) other small =
    ((λ e. omega arith), decimal_lacks _ _ (λ low. other (omega arith)) (omega arith))
