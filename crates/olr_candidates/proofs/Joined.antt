-- Numbers in decimal, with a space between each two neighbours, are known by their text.
use Rattle.olr_candidates.proofs.Common.{◌≡◌, ◌≢◌, ℕ, ◌<◌, ◌^◌, List, [], ◌∷◌, ◌++◌, length, length-append, refl, sym, ap, arith, decimal, map, join_with_byte, ⊤, decimal_injective, decimal_nonempty}
use Rattle.olr_candidates.proofs.Cutting.{Lacks, cut_once, decimal_lacks}

abbrev pub joined : List ℕ → List ℕ
joined numbers = join_with_byte 32 (map decimal numbers)

-- each of them fits into 64 bits
abbrev pub AreSmall : List ℕ → Type 0
AreSmall [] = ⊤
AreSmall (n ∷ rest) = (n < 2 ^ 64) × AreSmall rest

-- a text without a byte isn't cut at one
uncut : (byte : ℕ) (u v w : List ℕ) → Lacks byte u → u ≡ v ++ byte ∷ w → ⊥
uncut byte [] [] w lacks same = cc
uncut byte [] (d ∷ v) w lacks same = cc
uncut byte (c ∷ u) [] w lacks same = lacks.0 cc
uncut byte (c ∷ u) (d ∷ v) w lacks same = uncut byte u v w lacks.1 cc

-- a text of numbers isn't empty
not_empty : (n : ℕ) (ns : List ℕ) → n < 2 ^ 64 → joined (n ∷ ns) ≢ []
not_empty n [] small same = omega (arith, decimal_nonempty n small, ap length same)
not_empty n (o ∷ ns) small same =
    omega (arith, decimal_nonempty n small, simp length-append at (ap length same))

-- equal texts are of the same numbers
pub same_numbers : (ms ns : List ℕ) → AreSmall ms → AreSmall ns → joined ms ≡ joined ns → ms ≡ ns
same_numbers [] [] small also same = refl
same_numbers [] (n ∷ ns) small also same = absurd (not_empty n ns also.0 (sym same))
same_numbers (m ∷ ms) [] small also same = absurd (not_empty m ms small.0 same)
same_numbers (m ∷ []) (n ∷ []) small also same = grind (arith, decimal_injective)
same_numbers (m ∷ []) (n ∷ o ∷ ns) small also same =
    absurd (uncut 32 _ _ _ (decimal_lacks 32 m (omega arith) small.0) same)
same_numbers (m ∷ o ∷ ms) (n ∷ []) small also same =
    absurd (uncut 32 _ _ _ (decimal_lacks 32 n (omega arith) also.0) (sym same))
same_numbers (m ∷ o ∷ ms) (n ∷ p ∷ ns) small also same =
    let cut = cut_once 32 _ _ _ _ (decimal_lacks 32 m (omega arith) small.0)
    (decimal_lacks 32 n (omega arith) also.0) same in
    let first = decimal_injective m n small.0 also.0 cut.front in
    let rest = same_numbers (o ∷ ms) (p ∷ ns) small.1 also.1 cut.rest in
    cc

-- and they have no byte but digits and spaces
lacks_both : (byte : ℕ) (u v : List ℕ) → Lacks byte u → Lacks byte v → Lacks byte (u ++ v)
lacks_both byte [] v lacks also = also
lacks_both byte (c ∷ u) v lacks also = (lacks.0, lacks_both byte u v lacks.1 also)

pub joined_lacks : (byte : ℕ) (ns : List ℕ) → byte < 32 → AreSmall ns → Lacks byte (joined ns)
joined_lacks byte [] low small = tt
joined_lacks byte (n ∷ []) low small = decimal_lacks byte n (omega (arith, low)) small.0
joined_lacks byte (n ∷ o ∷ ns) low small =
    lacks_both byte (decimal n) _ (decimal_lacks byte n (omega (arith, low)) small.0)
    ((λ same. omega (arith, low, same)), joined_lacks byte (o ∷ ns) low small.1)
