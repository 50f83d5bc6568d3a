-- The lines that meet a window.
use Rattle.olr_index.proofs.Common.{◌≡◌, ℤ, Bool, true, false, List, [], ◌∷◌, ◌++◌, Some, None, refl, ◌∙◌, arith, int_le, ◌≤ℤ◌, Option, IsSomeAnd, All, ints, and_parts, and_from, map-append, All-head, All-tail, filter-append, Meets, meets, ranks_in, Covers, BoundingBox, PlacedLine}

-- ---- the test

le_if : {a b : ℤ} → int_le a b ≡ true → a ≤ℤ b
le_if h = grind (arith, ints)

if_le : {a b : ℤ} → a ≤ℤ b → int_le a b ≡ true
if_le h = grind (arith, ints)

pub meets_if : (window bounding_box : BoundingBox) → meets window bounding_box ≡ true → Meets window bounding_box
meets_if window bounding_box h = grind (arith, and_parts, le_if)

pub if_meets : (window bounding_box : BoundingBox) → Meets window bounding_box → meets window bounding_box ≡ true
if_meets window bounding_box h = grind (arith, and_from, if_le)

-- the bounding box of a rank that meets a window
pub met_bounding_box : (o : Option BoundingBox) (P : BoundingBox → Type 0) → IsSomeAnd o P → (bounding_box : BoundingBox)
    × (o ≡ Some bounding_box) × P bounding_box
met_bounding_box None P h = absurd h
met_bounding_box (Some bounding_box) P h = (bounding_box, refl, h)

by_test : (b : Bool) → (b ≡ true → ⊥) → b ≡ false
by_test true h = absurd (h refl)
by_test false h = refl

wider : (window outer inner : BoundingBox) → Covers outer inner → Meets window inner → Meets window outer
wider window outer inner covers h = grind (arith, ints)

-- what lies within a bounding box that doesn't meet a window doesn't meet it
pub none_within : (window : BoundingBox) {outer : BoundingBox} (inner : BoundingBox) → Covers outer inner
    → meets window outer ≡ false → meets window inner ≡ false
none_within window inner covers none = grind (arith, by_test, if_meets, wider, meets_if)

-- ---- the ranks

pub ranks_in-nil : (window : BoundingBox) → ranks_in window [] ≡ []
unfolding ranks_in
ranks_in-nil window = refl

pub ranks_in-met : (window : BoundingBox) {line : PlacedLine} (lines all : List PlacedLine)
    → all ≡ line ∷ lines → meets window line.bounding_box ≡ true
    → ranks_in window all ≡ line.rank ∷ ranks_in window lines
unfolding ranks_in
ranks_in-met window lines all e h = rw (e, h) refl

pub ranks_in-passed : (window : BoundingBox) {line : PlacedLine} (lines all : List PlacedLine)
    → all ≡ line ∷ lines → meets window line.bounding_box ≡ false
    → ranks_in window all ≡ ranks_in window lines
unfolding ranks_in
ranks_in-passed window lines all e h = rw (e, h) refl

pub ranks_in-append : (window : BoundingBox) (xs ys : List PlacedLine)
    → ranks_in window (xs ++ ys) ≡ ranks_in window xs ++ ranks_in window ys
unfolding ranks_in
ranks_in-append window xs ys = grind (arith, filter-append, map-append)

-- a block that doesn't meet the window has no line that does
pub ranks_in-covered : (window block : BoundingBox) (lines : List PlacedLine)
    → All (λ line. Covers block line.bounding_box) lines → meets window block ≡ false
    → ranks_in window lines ≡ []
ranks_in-covered window block [] covers none = ranks_in-nil _
ranks_in-covered window block (line ∷ lines) covers none =
    ranks_in-passed _ _ _ refl (none_within _ _
    (All-head (λ (l : PlacedLine). Covers block l.bounding_box) line _ covers) none)
    ∙ ranks_in-covered _ _ _ (All-tail (λ (l : PlacedLine). Covers block l.bounding_box) line _ covers)
    none
