-- Two lists place by place.
use Rattle.olr_road.proofs.Common.{rules, ◌≡◌, ℕ, zero, suc, ◌<◌, List, [], ◌∷◌, ◌++◌, length, take, drop, get_or, refl, ap, arith, AllZip}

-- one more at both ends
pub zip_push : {A B : Type 0} (R : A → B → Type 0) (xs : List A) (ys : List B) (x : A) (y : B)
    → AllZip R xs ys → R x y → AllZip R (xs ++ x ∷ []) (ys ++ y ∷ [])
zip_push R [] [] x y all holds = (holds, tt)
zip_push R (a ∷ xs) (b ∷ ys) x y all holds = (all.0, zip_push R xs ys x y all.1 holds)
zip_push R _ _ x y all holds = absurd all

-- as many
pub zip_length : {A B : Type 0} (R : A → B → Type 0) (xs : List A) (ys : List B) → AllZip R xs ys
    → length xs ≡ length ys
zip_length R [] [] all = refl
zip_length R (a ∷ xs) (b ∷ ys) all = cc (zip_length R xs ys all.1)
zip_length R _ _ all = absurd all

pub zip_take : {A B : Type 0} (R : A → B → Type 0) (xs : List A) (ys : List B) (n : ℕ)
    → AllZip R xs ys → AllZip R (take n xs) (take n ys)
zip_take R xs ys zero all = tt
zip_take R [] [] (suc n) all = tt
zip_take R (a ∷ xs) (b ∷ ys) (suc n) all = (all.0, zip_take R _ _ n all.1)
zip_take R _ _ _ all = absurd all

-- the elements at one place
pub record ZipAt {A B : Type 0} (R : A → B → Type 0) (xs : List A) (ys : List B) (at : ℕ) : Type 0
  where
    pub left : A
    pub right : B
    pub split : xs ≡ take at xs ++ left ∷ drop (suc at) xs
    pub there : (d : B) → get_or ys at d ≡ right
    pub holds : R left right

pub zip_at : {A B : Type 0} (R : A → B → Type 0) (xs : List A) (ys : List B) (at : ℕ)
    → AllZip R xs ys → at < length ys → ZipAt R xs ys at
zip_at R [] [] at all inside = absurd (omega arith)
zip_at R (a ∷ xs) (b ∷ ys) zero all inside = search rules
zip_at R (a ∷ xs) (b ∷ ys) (suc at) all inside =
    let deeper = zip_at R _ _ _ all.1 (omega arith) in
    record {
      left = deeper.left;
      right = deeper.right;
      split = ap (λ (l : List _). a ∷ l) deeper.split;
      there = deeper.there;
      holds = deeper.holds;
    }
zip_at R _ _ at all inside = absurd all
