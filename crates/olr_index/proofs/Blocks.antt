-- Blocks of lines, of which those that don't meet a window are passed over.
use Rattle.olr_index.proofs.Common.{◌≡◌, ℕ, suc, ◌+◌, ◌-◌, ◌*◌, ◌/◌, ◌%◌, ◌<◌, ◌≤◌, min, pos, false, inl, inr, List, [], ◌∷◌, ◌++◌, length, get_or, take, drop, refl, sym, ap, ◌∙◌, arith, append-nil, div-add-mod, div-lt_iff_lt-mul, mod-lt, mul_comm, cases_lt, All-head, All-tail, All, length-drop, length-take, get_or-drop, get_or-take, take-append-drop, nil_from_length, meets, ranks_in, Covers, AreBlocks, NoneMeets, between, BoundingBox, PlacedLine}
use Rattle.olr_index.proofs.Meeting.{none_within, ranks_in-nil, ranks_in-passed, ranks_in-append, ranks_in-covered}

-- the blocks after the first one
pub blocks_after : (lines : List PlacedLine) {block : BoundingBox} {others : List BoundingBox} (m : ℕ)
    → AreBlocks 64 lines (block ∷ others) → m ≡ min (length lines) 64
    → AreBlocks 64 (drop m lines) others
blocks_after lines m blocks size =
    let left = length-drop m lines in
    let enough = blocks.enough in
    record {
      enough = omega arith;
      cover = λ b i d e b_in i_in inside.
          let place : m + (64 * b + i) ≡ 64 * suc b + i = omega arith in
          let there : 64 * suc b + i < length lines = omega arith in
          rw (get_or-drop m lines (64 * b + i) d, place)
          (blocks.cover (suc b) i d e (omega arith) i_in there);
    }

-- the lines of the first one
first_covered : (lines : List PlacedLine) (block : BoundingBox) {others : List BoundingBox} (m : ℕ)
    → AreBlocks 64 lines (block ∷ others) → m ≡ min (length lines) 64
    → All (λ line. Covers block line.bounding_box) (take m lines)
first_covered lines block m blocks size = λ i d below.
    let some = length-take m lines in
    let inside : i < m = omega arith in
    let place : 64 * 0 + i ≡ i = omega arith in
    rw (get_or-take m lines i d inside)
    (rw place at (blocks.cover 0 i d block (omega arith) (omega arith) (omega arith)))

-- the ranks of the first block's lines, and of those after
pub ranks_split : (window : BoundingBox) (m : ℕ) (lines : List PlacedLine)
    → ranks_in window (take m lines) ++ ranks_in window (drop m lines) ≡ ranks_in window lines
ranks_split window m lines = cc (ranks_in-append _ _ _, take-append-drop m lines)

-- a block that meets the window
pub entered : (window : BoundingBox) (at_hand lines : List PlacedLine) {first rest : List PlacedLine}
    (m : ℕ)
    {value : List ℕ} → first ≡ take m lines → rest ≡ drop m lines → ranks_in window at_hand ≡ []
    → ranks_in window at_hand ++ ranks_in window lines ≡ value
    → ranks_in window first ++ ranks_in window rest ≡ value
entered window at_hand lines m first_is rest_is none left = grind (arith, ranks_split)

-- a block that doesn't
pub passed : (window : BoundingBox) (at_hand : List PlacedLine) {lines : List PlacedLine}
    (rest : List PlacedLine) (block : BoundingBox)
    {others : List BoundingBox} (m : ℕ) {value : List ℕ} → AreBlocks 64 lines (block ∷ others)
    → m ≡ min (length lines) 64
    → rest ≡ drop m lines → meets window block ≡ false → ranks_in window at_hand ≡ []
    → ranks_in window at_hand ++ ranks_in window lines ≡ value
    → ranks_in window [] ++ ranks_in window rest ≡ value
passed window at_hand rest block m blocks size rest_is fails none left =
    let first = ranks_in-covered _ _ _ (first_covered _ _ m blocks size) fails in
    ap (λ (ranks : List ℕ). ranks ++ ranks_in window rest) (ranks_in-nil _ ∙ sym first)
    ∙ entered _ _ _ m refl rest_is none left

-- no block is left
pub over : (window : BoundingBox) (at_hand lines : List PlacedLine) (blocks : List BoundingBox)
    {value : List ℕ} → AreBlocks 64 lines blocks → length blocks ≡ 0 → ranks_in window at_hand ≡ []
    → ranks_in window at_hand ++ ranks_in window lines ≡ value → (value ≡ [])
    × (ranks_in window at_hand ++ ranks_in window lines ≡ [])
over window at_hand lines blocks are none first left = grind (arith, nil_from_length, ranks_in-nil)

-- ---- groups of blocks

-- no line of a block that doesn't meet the window does
none_at : (size : ℕ) (window : BoundingBox) (lines : List PlacedLine) (blocks : List BoundingBox) (j : ℕ)
    (d : PlacedLine) (e : BoundingBox) → 0 < size → AreBlocks size lines blocks
    → j < length lines → meets window (get_or blocks (j / size) e) ≡ false
    → meets window (get_or lines j d).bounding_box ≡ false
none_at size window lines blocks j d e some are inside fails =
    let place : size * (j / size) + j % size ≡ j =
    omega (arith, div-add-mod j size, mul_comm size (j / size)) in
    let below : j / size < length blocks =
    (div-lt_iff_lt-mul some).1 (omega (arith, mul_comm size (length blocks))) in
    let covers = are.cover (j / size) (j % size) d e below (mod-lt j some) (omega arith) in
    none_within _ _ (rw place at covers) fails

ranks_none : (window : BoundingBox) (lines : List PlacedLine)
    → All (λ line. meets window line.bounding_box ≡ false) lines → ranks_in window lines ≡ []
ranks_none window [] none = ranks_in-nil _
ranks_none window (line ∷ lines) none =
    ranks_in-passed _ _ _ refl (All-head (λ (l : PlacedLine). meets window l.bounding_box ≡ false) line
    _ none)
    ∙ ranks_none _ _ (All-tail (λ (l : PlacedLine). meets window l.bounding_box ≡ false) line _ none)

abbrev pub no_bounding_box : BoundingBox
no_bounding_box = record { south = pos 0; north = pos 0; west = pos 0; east = pos 0 }

module _ (size : ℕ) (window : BoundingBox) (lines : List PlacedLine) (blocks : List BoundingBox)
    (first end : ℕ) (some : 0 < size) (are : AreBlocks size lines blocks) where
  none_before : NoneMeets window (take first blocks)
      → All (λ line. meets window line.bounding_box ≡ false)
      (take (size * first) (take (size * end) lines))
  none_before none i d below =
      let kept = take (size * end) lines in
      let there : i < size * first = omega (arith, length-take (size * first) kept) in
      let inside : i < length kept = omega (arith, length-take (size * first) kept) in
      let long : i < length lines = omega (arith, length-take (size * end) lines) in
      let before : i < size * end = omega (arith, length-take (size * end) lines) in
      let at : i / size < first = (div-lt_iff_lt-mul some).1 (omega (arith, mul_comm size first)) in
      let enough = are.enough in
      let below_all : i / size < length blocks =
      (div-lt_iff_lt-mul some).1 (omega (arith, mul_comm size (length blocks))) in
      rw (get_or-take (size * first) kept i d there, get_or-take (size * end) lines i d before)
      (none_at _ _ _ _ i d _ some are long
      (rw (get_or-take first blocks (i / size) no_bounding_box at) at
      (none (i / size) no_bounding_box (omega (arith, length-take first blocks)))))

  none_behind : NoneMeets window (drop end blocks)
      → All (λ line. meets window line.bounding_box ≡ false) (drop (size * end) lines)
  none_behind none i d below =
      let j = size * end + i in
      let long : j < length lines = omega (arith, length-drop (size * end) lines) in
      let enough = are.enough in
      let below_all : j / size < length blocks =
      (div-lt_iff_lt-mul some).1 (omega (arith, mul_comm size (length blocks))) in
      let at : end ≤ j / size = elim (cases_lt (j / size) end) [
        | inl less ↦ absurd (omega (arith, (div-lt_iff_lt-mul some).0 less, mul_comm size end))
        | inr le ↦ le
      ] in
      let k = j / size - end in
      let place : end + k ≡ j / size = omega arith in
      rw (get_or-drop (size * end) lines i d) (none_at _ _ _ _ j d _ some are long
      (rw (get_or-drop end blocks k no_bounding_box, place) at
      (none k no_bounding_box (omega (arith, length-drop end blocks)))))

  -- the lines of the groups between meet the window as all do
  pub ranks_between : NoneMeets window (take first blocks) → NoneMeets window (drop end blocks)
      → ranks_in window (between size first end lines) ≡ ranks_in window lines
  ranks_between before behind =
      let kept = take (size * end) lines in
      sym (ap (λ (ranks : List ℕ). ranks ++ ranks_in window (drop (size * first) kept))
      (ranks_none _ _ (none_before before))) ∙ ranks_split _ _ _
      ∙ sym (append-nil (ranks_in window kept))
      ∙ sym (ap (λ (ranks : List ℕ). ranks_in window kept ++ ranks)
      (ranks_none _ _ (none_behind behind))) ∙ ranks_split _ _ _

-- their blocks
pub blocks_between : (first end : ℕ) (lines : List PlacedLine) (blocks : List BoundingBox)
    → AreBlocks 64 lines blocks
    → AreBlocks 64 (between 4096 first end lines) (between 64 first end blocks)
blocks_between first end lines blocks are =
    let kept = take (4096 * end) lines in
    let kept_blocks = take (64 * end) blocks in
    let long = length-take (4096 * end) lines in
    let long_blocks = length-take (64 * end) blocks in
    let left = length-drop (4096 * first) kept in
    let left_blocks = length-drop (64 * first) kept_blocks in
    let enough = are.enough in
    record {
      enough = omega arith;
      cover = λ b i d e b_in i_in inside.
          let place : 4096 * first + (64 * b + i) ≡ 64 * (64 * first + b) + i = omega arith in
          let there : 4096 * first + (64 * b + i) < 4096 * end = omega arith in
          let there_block : 64 * first + b < 64 * end = omega arith in
          rw (
            get_or-drop (4096 * first) kept (64 * b + i) d,
            get_or-take (4096 * end) lines (4096 * first + (64 * b + i)) d there,
            get_or-drop (64 * first) kept_blocks b e,
            get_or-take (64 * end) blocks (64 * first + b) e there_block,
            place,
          ) (are.cover (64 * first + b) i d e (omega arith) i_in (omega arith));
    }

-- the start: no line is at hand, and those between are left
pub started : (window : BoundingBox) (next all : List PlacedLine)
    → ranks_in window next ≡ ranks_in window all
    → ranks_in window [] ++ ranks_in window next ≡ ranks_in window all
started window next all same = rw (ranks_in-nil _) same
