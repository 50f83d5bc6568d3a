-- Lists whose items are taken one after another.
use Rattle.std.proofs.Common.{◌≡◌, ◌<◌, ◌+◌, ℕ, ap, get_or, subst, take, List, [], ◌∷◌, ◌++◌, length, map, All, suc, refl, sym, ◌∙◌, append_assoc, append-nil, arith}
use Rattle.std.proofs.lemmas.List.{get_or-map, length-map, map-append, take_more}
use Rattle.std.specs.List.{AllZip}

none_left : {X : Type 0} (xs : List X) → length xs ≡ 0 → xs ≡ []
none_left [] none = refl
none_left (x ∷ xs) none = absurd (omega arith)

module _ {X : Type 0} (taken : List X) where
  -- all were taken where none is left
  pub all_taken : (left all : List X) → taken ++ left ≡ all → length left ≡ 0 → taken ≡ all
  all_taken left all are none =
      let empty : left ≡ [] = none_left left none in sym (append-nil taken) ∙ rw empty at are

  -- one more was taken
  pub one_taken : (x : X) (left rest all : List X) → left ≡ x ∷ rest → taken ++ left ≡ all
      → (taken ++ x ∷ []) ++ rest ≡ all
  one_taken x left rest all is are = append_assoc taken (x ∷ []) rest ∙ rw (← is) are

  -- what was made of each, with one more
  pub one_made : {Y : Type 0} (f : X → Y) (made : List Y) (x : X) (y : Y) → made ≡ map f taken
      → y ≡ f x → made ++ y ∷ [] ≡ map f (taken ++ x ∷ [])
  one_made f made x y are is = rw (are, is) (sym (map-append f taken (x ∷ [])))

-- lists that go together still do with one more each
push_zip : {X Y : Type 0} (R : X → Y → Type 0) (xs : List X) (ys : List Y) (x : X) (y : Y)
    → AllZip R xs ys → R x y → AllZip R (xs ++ x ∷ []) (ys ++ y ∷ [])
push_zip R [] [] x y all one = (one, tt)
push_zip R [] (b ∷ ys) x y all one = absurd all
push_zip R (a ∷ xs) [] x y all one = absurd all
push_zip R (a ∷ xs) (b ∷ ys) x y all one = (all.0, push_zip R xs ys x y all.1 one)

-- each of a list goes with what was made of it, and so it is with one more
pub zip_more : {X Y : Type 0} (R : X → Y → Type 0) (xs : List X) (ys : List Y) (i : ℕ) (x : X) (y : Y)
    → i < length xs → x ≡ get_or xs i x → AllZip R (take i xs) ys → R x y
    → AllZip R (take (i + 1) xs) (ys ++ y ∷ [])
zip_more R xs ys i x y inside is all one =
    subst (λ l. AllZip R l (ys ++ y ∷ [])) (ap (λ z. take i xs ++ z ∷ []) is ∙ sym (take_more xs i x inside))
    (push_zip R (take i xs) ys x y all one)

-- what holds of all that a list is mapped to holds of what each of its items is mapped to
pub all_before : {X Y : Type 0} (P : Y → Type 0) (f : X → Y) (xs : List X) → All P (map f xs)
    → All (λ x. P (f x)) xs
all_before P f xs all k d inside =
    let mapped = all k (f d) (omega (arith, length-map xs f)) in
    rw (get_or-map f xs k d (f d) inside) at mapped

-- what holds of all holds of the next one
pub next_holds : {X : Type 0} (P : X → Type 0) (taken : List X) (x : X) (left rest all : List X)
    → left ≡ x ∷ rest → taken ++ left ≡ all → All P all → P x
next_holds {X = X} P taken x left rest all is are holds = in_front taken (rw (← is, are) holds)
  where
    in_front : (before : List X) → All P (before ++ x ∷ rest) → P x
    in_front [] holds = holds 0 x (omega arith)
    in_front (first ∷ before) holds =
        in_front before (λ k d inside. holds (suc k) d (omega arith))
