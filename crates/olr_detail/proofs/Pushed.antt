-- What holds of two lists, item by item, holds with one more at the end of the second one.
use Rattle.std.proofs.Common.{◌≡◌, ◌+◌, ℕ, List, [], ◌∷◌, ◌++◌, Option, Some, length, subst, ap, ◌∙◌, slice_get}
use Rattle.std.proofs.lemmas.List.{length_push}
use Rattle.olr_matching.proofs.Lists.{push_each}

one_found : {A : Type 0} (found : Option A) (a b : A) → found ≡ Some a → found ≡ Some b → a ≡ b
one_found found a b is other = cc

module _ {A B : Type 0} (Holds : ℕ → A → B → Type 0) (firsts : List A) where
  -- this holds of each item of a list and of that of the same index in the other one
  abbrev pub HoldsOfEach : List B → Type 0
  HoldsOfEach others = (k : ℕ) (b : B) → slice_get others k ≡ Some b → (a : A) → slice_get firsts k ≡ Some a
      → Holds k a b

  pub pushed : (others : List B) (a : A) (b : B) (count : ℕ) → length others ≡ count
      → slice_get firsts count ≡ Some a → Holds count a b → HoldsOfEach others → (new : List B)
      → new ≡ others ++ b ∷ [] → (length new ≡ count + 1) × HoldsOfEach new
  pushed others a b count size at one old new is =
      let last : (other : A) → slice_get firsts (length others) ≡ Some other → Holds (length others) other b =
      rw size (λ other found. subst (λ x. Holds count x b) (one_found _ a other at found) one) in
      rw is (
        length_push others b ∙ ap (λ n. n + 1) size,
        push_each (λ k y. (other : A) → slice_get firsts k ≡ Some other → Holds k other y) others b old last,
      )
