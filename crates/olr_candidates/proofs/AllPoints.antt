-- The lists of the points of a reference, from those of each.
use Rattle.std.specs.Global.{Vec}
use Rattle.olr_candidates.proofs.LineCandidates.{line_at}
use Rattle.olr_candidates.proofs.Common.{ArrayVec, AreSeenFrom, SeenLine, map, slice_get, Some, Reference, points_of, RoadLine, Candidate, Tolerances, ◌≡◌, ℕ, ◌+◌, ◌<◌, List, [], ◌∷◌, ◌++◌, length, get_or, inl, inr, ap, ◌∙◌, arith, slice_get-get_or, slice_get_within, OneListOfPoint, NoListOfPointAndTooMany, AreLists, HasTooMany, IsListOf, IsFirstTooMany, lists_of, first_or_last, length-append, map_push, same_lists}

-- ---- point by point

-- this holds of each in a list of so many, by its index
pub record AreSoMany {X : Type 0} (Holds : ℕ → X → Type 0) (count : ℕ) (list : List X) : Type 0
  where
    pub each : (index : ℕ) (x : X) → slice_get list index ≡ Some x → Holds index x
    pub counted : length list ≡ count

-- one more, in a list of what holds them
pub one_more : {X Y : Type 0} (Holds : ℕ → X → Type 0) (of : Y → X) (count : ℕ) (list : List Y)
    (y : Y) → AreSoMany Holds count (map of list) → Holds count (of y)
    → AreSoMany Holds (count + 1) (map of (list ++ y ∷ []))
one_more Holds of count list y so_far holds = rw (map_push of list y) (record {
  each = λ index x at. elim (first_or_last (map of list) (of y) x index at) [
    | inl before ↦ so_far.each index x before
    | inr last ↦ rw (last.0, so_far.counted, ← last.1) holds
  ];
  counted = length-append (map of list) (of y ∷ []) ∙ ap (λ n. n + 1) so_far.counted;
})

-- the lines seen from the first points, so many
abbrev pub AreSeenOf : Reference → List RoadLine → ℕ → ℕ → List (Vec SeenLine) → Type 0
AreSeenOf reference lines reach count points = AreSoMany
    (λ index seen. AreSeenFrom reference lines index reach seen) count
    (map (λ seen. seen.items) points)

module _ (tolerances : Tolerances) (reference : Reference) (lines : List RoadLine) where
  -- the lists of the first points, so many
  abbrev pub AreListsOf : ℕ → List (ArrayVec Candidate) → Type 0
  AreListsOf count lists = AreSoMany (IsListOf tolerances reference lines) count (lists_of lists)

  -- all of them
  pub all_lists : (count : ℕ) (lists : List (ArrayVec Candidate)) → AreListsOf count lists
      → count ≡ length (points_of reference) → AreLists tolerances reference lines (lists_of lists)
  all_lists count lists are all = record { each = are.each; all = are.counted ∙ all }

  -- the next point has too many, and none before
  pub first_too_many : (count : ℕ) (lists : List (ArrayVec Candidate)) → AreListsOf count lists
      → HasTooMany tolerances reference lines count
      → IsFirstTooMany tolerances reference lines count
  first_too_many count lists so_far too_many =
      let before : (earlier : ℕ) → earlier < count → (list : List Candidate)
      × IsListOf _ _ _ earlier list = λ earlier lt.
      let at = line_at (lists_of lists) earlier (rw so_far.counted lt) in
      (at.0, so_far.each earlier at.0 at.1) in
      record { too_many = too_many; before = before }

  -- ---- one list of lists, or one first point with too many

  list_of_point : (lists : List (List Candidate)) → AreLists tolerances reference lines lists
      → (index : ℕ) (d : List Candidate) → index < length lists
      → IsListOf tolerances reference lines index (get_or lists index d)
  list_of_point lists are index d within =
      are.each index (get_or lists index d) (slice_get-get_or _ _ d within)

  pub one_lists : OneListOfPoint → (a b : List (List Candidate))
      → AreLists tolerances reference lines a → AreLists tolerances reference lines b → a ≡ b
  one_lists law a b is other =
      let many : length a ≡ length b = cc in
      same_lists a b many (λ k d within. law _ _ _ _ _ _ (list_of_point a is k d within).0
      (list_of_point b other k d (rw (← many) within)).0)

  pub no_lists_and_too_many : NoListOfPointAndTooMany → (lists : List (List Candidate)) (index : ℕ)
      → AreLists tolerances reference lines lists → HasTooMany tolerances reference lines index → ⊥
  no_lists_and_too_many law lists index are many = law _ _ _ _ _ (list_of_point _ are _ []
      (rw are.all (slice_get_within (points_of reference) index many.point many.point_is))) many

  pub one_first : NoListOfPointAndTooMany → (a b : ℕ) → IsFirstTooMany tolerances reference lines a
      → IsFirstTooMany tolerances reference lines b → a ≡ b
  one_first law a b is other =
      let least : a < b → ⊥ = λ less. let list = other.before a less in
      law _ _ _ _ _ list.1 is.too_many in
      let most : b < a → ⊥ = λ more. law _ _ _ _ _ (is.before b more).1 other.too_many in
      omega arith
