-- Pages of lengths, and what a page or a length more changes.
use Rattle.std.proofs.lemmas.Grind.{common_steps}
use Rattle.olr_route.proofs.Common.{◌≡◌, ◌/◌, ◌<◌, ◌≤◌, ◌++◌, ◌-◌, ℕ, zero, suc, List, length, take, None, refl, arith, slice_index, get_or-append-add, get_or-append_right, get_or_past, get_or_append_left, length-replicate, take_all, cases_eq, cases_lt, ArePages, length_of, place_of}
use Rattle.std.proofs.Math.ListN.{set, replicate}

zeros : (count place : ℕ) → slice_index (replicate {A = ℕ} count 0) place ≡ 0
zeros zero place = refl
zeros (suc count) zero = refl
zeros (suc count) (suc place) = zeros count place

-- page 0 alone
pub pages_begun : (pages lengths : List ℕ) (count : ℕ) → pages ≡ replicate count 0
    → lengths ≡ replicate 16 0 → ArePages pages lengths
pages_begun pages lengths count first are = grind (arith, zeros, length-replicate)

-- nothing has a length
pub none_begun : (pages lengths : List ℕ) (count : ℕ) → pages ≡ replicate count 0
    → lengths ≡ replicate 16 0 → (node : ℕ)
    → length_of (record { pages = pages; lengths = lengths }) node ≡ None
none_begun pages lengths count first are node = grind (arith, zeros)

-- another list with the same pages
module _ (pages lengths more : List ℕ) (same : (block : ℕ)
    → slice_index more block ≡ slice_index pages block) where
  pub pages_wider : ArePages pages lengths → ArePages more lengths
  pages_wider are = grind arith

-- more blocks, which have no page
pub wider : (pages : List ℕ) (count : ℕ) (more : List ℕ) → length pages ≤ count
    → more ≡ take count pages ++ replicate (count - length pages) 0
    → (block : ℕ) → slice_index more block ≡ slice_index pages block
wider pages count more less is block =
    grind (arith, take_all, cases_lt, get_or_append_left, get_or-append_right, zeros, get_or_past)

-- a page more, of a block that had none, changes no length
module _ (pages lengths : List ℕ) (are : ArePages pages lengths) (block : ℕ)
    (within : block < length pages) (none : slice_index pages block ≡ 0) where
  pub same_more : (page : ℕ) → page ≡ length lengths / 16 → (more : List ℕ)
      → more ≡ lengths ++ replicate 16 0 → (node : ℕ)
      → slice_index more (place_of (set pages block page) node)
      ≡ slice_index lengths (place_of pages node)
  same_more page next more is node = grind (arith, common_steps, cases_eq, zeros, get_or-append-add)
