-- Lists by their indices.
use Rattle.olr_matching.proofs.Common.{◌≡◌, ℕ, suc, ◌+◌, ◌<◌, List, [], ◌∷◌, ◌++◌, length, get_or, take, inl, inr, refl, sym, subst, ap, ◌∙◌, arith, below_more, Option, Some, slice_get, slice_index_or, All, AllZip, length-append, take_more, get_or_append_left, get_or_at, get_or_from_slice_get, same_Some, slice_get-get_or, slice_get_within}
use Rattle.std.proofs.Math.ListN.{get_or-eq_default}
use Rattle.std.proofs.Math.Seq.{get_or-append_seam}
use Rattle.std.proofs.lemmas.Bool.{cases_lt}
use Rattle.olr_road.proofs.Zips.{zip_push}

pub same_some : {X : Type 0} (o : Option X) (x y : X) → o ≡ Some x → o ≡ Some y → x ≡ y
same_some o x y one other = same_Some x y (sym one ∙ other)

-- a list that isn't empty is one of the lists
pub list_inside : {X : Type 0} (lists : List (List X)) (index k : ℕ) (x : X)
    → slice_get (slice_index_or lists index []) k ≡ Some x → index < length lists
list_inside {X} lists index k x is = elim (cases_lt index (length lists)) [
  | inl inside ↦ inside
  | inr outside ↦
      let none = ap (λ l. slice_get l k) (sym (get_or-eq_default lists [] {n = index} outside))
      ∙ is in
      absurd cc
]

-- two lists of the same length are the same where they have the same elements by their indices
pub by_index : {X : Type 0} (xs ys : List X) → length xs ≡ length ys
    → ((k : ℕ) (x y : X) → slice_get xs k ≡ Some x → slice_get ys k ≡ Some y → x ≡ y) → xs ≡ ys
by_index [] [] count each = refl
by_index [] (y ∷ ys) count each = absurd (omega arith)
by_index (x ∷ xs) [] count each = absurd (omega arith)
by_index (x ∷ xs) (y ∷ ys) count each =
    let first = each 0 x y refl refl in
    let rest = by_index _ _ (omega arith) (λ k. each (suc k)) in
    λ i. first i ∷ rest i

-- what holds of all holds of the one at an index
pub all_at : {X : Type 0} (P : X → Type 0) (xs : List X) (k : ℕ) (x : X) → All P xs
    → slice_get xs k ≡ Some x → P x
all_at P xs k x all is = rw (get_or_from_slice_get xs k x x is) at
    (all k x (slice_get_within xs k x is))

-- what holds of each by its index holds of one more
pub push_each : {X : Type 0} (P : ℕ → X → Type 0) (xs : List X) (x : X)
    → ((k : ℕ) (y : X) → slice_get xs k ≡ Some y → P k y) → P (length xs) x
    → (k : ℕ) (y : X) → slice_get (xs ++ x ∷ []) k ≡ Some y → P k y
push_each P xs x each here k y is =
    let inside = slice_get_within (xs ++ x ∷ []) k y is in
    let there = get_or_from_slice_get _ k y y is in
    elim (cases_lt k (length xs)) [
      | inl before ↦
          let same = sym (get_or_append_left xs (x ∷ []) y k before) ∙ there in
          each k y (slice_get-get_or _ k y before ∙ ap Some same)
      | inr last ↦
          let at : length xs ≡ k = omega (arith, length-append xs (x ∷ [])) in
          let same = sym (get_or_at xs x [] y k at) ∙ there in
          rw at at (subst (P (length xs)) same here)
    ]

-- ---- two lists, element by element

pub zip_more : {X Y : Type 0} (R : X → Y → Type 0) (xs : List X) (ys : List Y) (index : ℕ) (x : X)
    (y : Y) → index < length xs → x ≡ slice_index_or xs index x
    → AllZip R (take index xs) ys → R x y → AllZip R (take (index + 1) xs) (ys ++ y ∷ [])
zip_more {X} {Y} R xs ys index x y inside is they holds =
    rw (ap (λ (e : X). take index xs ++ e ∷ []) is ∙ sym (take_more xs index x inside)) at
    (zip_push R (take index xs) ys x y they holds)

-- a list of so many elements, of each of which this holds by its index
abbrev pub HoldsOfAll : {B : Type 0} → (ℕ → B → Type 0) → B → ℕ → List B → Type 0
HoldsOfAll P d count xs = (length xs ≡ count) × ((k : ℕ) → k < count → P k (get_or xs k d))

-- the same with one more element
pub holds_of_one_more : {B : Type 0} (P : ℕ → B → Type 0) (d : B) (count : ℕ) (xs : List B) (y : B)
    → HoldsOfAll P d count xs → P count y → HoldsOfAll P d (count + 1) (xs ++ y ∷ [])
holds_of_one_more {B} P d count xs y so_far here =
    let more = xs ++ y ∷ [] in
    let earlier : (k : ℕ) → k < count → P k (get_or more k d) =
    λ k below. rw (sym (get_or_append_left xs (y ∷ []) d k (omega (arith, so_far.0, below)))) at
    (so_far.1 k below) in
    let last =
    rw so_far.0 at (subst (λ (x : B). P (length xs) x) (sym (get_or-append_seam xs y [] d))
    (subst (λ (n : ℕ). P n y) (sym so_far.0) here)) in (
      omega (arith, length-append xs (y ∷ [])),
      below_more (λ k. P k (get_or more k d)) count earlier last,
    )
