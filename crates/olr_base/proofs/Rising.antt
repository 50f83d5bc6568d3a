-- Lists in an order in which no two elements come before each other: the members decide the list,
-- and a place is the number of the elements before it.
use Rattle.std.proofs.lemmas.List.Elements.{All-contains_itself}
use Rattle.std.proofs.Common.{◌≡◌, ℕ, zero, suc, Bool, List, [], ◌∷◌, length, get_or, All, Some, inl, inr, refl, sym, ap, arith, ◌≢◌}
use Rattle.std.specs.Prelude.{◌⊎◌, slice_get, filter, AllPairs, Contains, Decides}
use Rattle.std.proofs.lemmas.Bool.{false_from_ne_true}
use Rattle.std.proofs.lemmas.Option.{none-some, get_or_from_slice_get, slice_get_within}
use Rattle.olr_base.proofs.Contained.{member, no_longer}

module _ {X : Type 0} (R : X → X → Type 0) (one_way : (a b : X) → R a b → R b a → ⊥) where
  pub rest_rises : (x : X) (xs : List X) → AllPairs R (x ∷ xs) → AllPairs R xs
  rest_rises x xs rise i j d below inside = rise (suc i) (suc j) d (omega arith) (omega arith)

  pub behind_first : (x : X) (xs : List X) → AllPairs R (x ∷ xs) → (z : X) → Contains xs z → R x z
  behind_first x xs rise z (k, inside, is) =
      rw (← is) (rise 0 (suc k) z (omega arith) (omega arith))

  not_itself : (x z : X) → x ≡ z → R x z → ⊥
  not_itself x z same before = let back = rw same at before in one_way z z back back

  -- The first members of all that are such, in their order: each that is such is one of them or
  -- comes after each of them.
  pub record AreFirst (Such : X → Type 0) (xs : List X) : Type 0 where
    pub only : All Such xs
    pub rise : AllPairs R xs
    pub others : (z : X) → Such z → Contains xs z ⊎ All (λ y. R y z) xs

  first_or_behind : (Such : X → Type 0) (x : X) (xs : List X) → AreFirst Such (x ∷ xs) → (z : X)
      → Such z
      → (x ≡ z) ⊎ R x z
  first_or_behind Such x xs are z such = elim (are.others z such) [
    | inl there ↦ elim (member x _ z there) [
      | inl same ↦ inl same
      | inr behind ↦ inr (behind_first x _ are.rise z behind)
    ]
    | inr after ↦ inr (after 0 x (omega arith))
  ]

  first_alike : (Such : X → Type 0) (x y : X) (xs ys : List X) → AreFirst Such (x ∷ xs)
      → AreFirst Such (y ∷ ys) → x ≡ y
  first_alike Such x y xs ys one other =
      elim (first_or_behind _ x _ one y (other.only 0 y (omega arith))) [
        | inl same ↦ same
        | inr before ↦ elim (first_or_behind _ y _ other x (one.only 0 x (omega arith))) [
          | inl same ↦ sym same
          | inr back ↦ absurd (one_way x y before back)
        ]
      ]

  -- those behind the first are the first of what comes after it
  behind_it : (Such : X → Type 0) (x : X) (xs : List X) → AreFirst Such (x ∷ xs)
      → AreFirst (λ z. Such z × R x z) xs
  behind_it Such x xs are = record {
    only = λ k d inside. (
      are.only (suc k) d (omega arith),
      are.rise 0 (suc k) d (omega arith)
          (omega arith),
    );
    rise = rest_rises x _ are.rise;
    others = λ z such. elim (are.others z such.0) [
      | inl there ↦ elim (member x _ z there) [
        | inl same ↦ absurd (not_itself x z same such.1)
        | inr behind ↦ inl behind
      ]
      | inr after ↦ inr (λ k d inside. after (suc k) d (omega arith))
    ];
  }

  -- so many first members are one list
  pub same_beginning : (xs ys : List X) (Such : X → Type 0) → length xs ≡ length ys
      → AreFirst Such xs → AreFirst Such ys → xs ≡ ys
  same_beginning [] [] Such many one other = refl
  same_beginning (x ∷ xs) (y ∷ ys) Such many one other =
      let same = first_alike _ x y _ _ one other in
      let again : AreFirst Such (x ∷ ys) = rw same other in
      let rest = same_beginning xs ys (λ z. Such z × R x z) (omega arith)
      (behind_it _ x _ one)
      (behind_it _ x _ again) in
      cc
  same_beginning _ _ Such many one other = absurd (omega arith)

  differ : (xs : List X) → AllPairs R xs → AllPairs (λ a b. a ≢ b) xs
  differ xs rise i j d lt inside same = not_itself _ _ same (rise i j d lt inside)

  -- two lists of the same members in their order are the same
  pub same_list : (xs ys : List X) → AllPairs R xs → AllPairs R ys
      → ((z : X) → Contains xs z → Contains ys z)
      → ((z : X) → Contains ys z → Contains xs z) → xs ≡ ys
  same_list xs ys rise_x rise_y forth back =
      let left : All (Contains ys) xs = λ k d inside. forth _ (All-contains_itself xs k d inside) in
      let right : All (Contains xs) ys = λ k d inside. back _ (All-contains_itself ys k d inside) in
      same_beginning xs ys (Contains xs)
      (omega (
        arith,
        no_longer _ _ (differ xs rise_x) left,
        no_longer _ _ (differ ys rise_y)
            right,
      ))
      (record { only = All-contains_itself xs; rise = rise_x; others = λ z is. inl is })
      (record { only = right; rise = rise_y; others = λ z is. inl (forth z is) })

  -- no element comes before the first
  none_before_first : (y : X) (xs : List X) (x : X) → y ≡ x → AllPairs R (y ∷ xs)
      → All (λ z. R z x → ⊥) (y ∷ xs)
  none_before_first y xs x same rise zero d inside before = not_itself y x same before
  none_before_first y xs x same rise (suc k) d inside before =
      one_way (get_or xs k d) x before (rw (← same) (rise 0 (suc k) d (omega arith) inside))

  module _ (test : X → X → Bool) (decides : (a b : X) → Decides (test a b) (R a b)) where
    none_kept : (x : X) (xs : List X) → All (λ z. R z x → ⊥) xs
        → length (filter (λ z. test z x) xs) ≡ 0
    none_kept x [] none = refl
    none_kept x (y ∷ xs) none =
        let fails = false_from_ne_true _
        (λ is. none 0 y (omega arith) ((decides y x).0 is)) in
        rw fails (none_kept x xs (λ k d inside. none (suc k) d (omega arith)))

    -- a place is the number of elements before it
    pub place_counts : (xs : List X) (k : ℕ) (x : X) → AllPairs R xs → slice_get xs k ≡ Some x
        → length (filter (λ z. test z x) xs) ≡ k
    place_counts [] k x rise at = absurd (none-some x at)
    place_counts (y ∷ xs) zero x rise at = none_kept x (y ∷ xs) (none_before_first y _ x (cc) rise)
    place_counts (y ∷ xs) (suc k) x rise at =
        let before = behind_first y _ rise x
        (k, slice_get_within xs k x at, get_or_from_slice_get _ k x x at) in
        rw ((decides y x).1 before) (ap suc (place_counts xs k x (rest_rises y _ rise) at))
