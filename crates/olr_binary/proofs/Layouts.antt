-- The numbers of points and of offset bytes that a number of bytes stands for.
use Rattle.olr_binary.proofs.Common.{◌≡◌, ℕ, ◌-◌, ◌/◌, ◌%◌, ◌<◌, ◌≤◌, arith, inl, inr, IsLayout, IsLineSize}
use Rattle.olr_binary.specs.declared.status.LocationType.{LocationType}
use Rattle.olr_binary.specs.declared.status.LocationType.TheVariants.{Line, PointAlong}
use Rattle.olr_binary.specs.Stages.{IsSizeOf, HasTwoPoints}

-- by division
pub layout_from : (size : ℕ) → 16 ≤ size → (size - 2) % 7 ≤ 2
    → IsLayout size ((size - 2) / 7) ((size - 2) % 7)
layout_from size long few = record {
  between = (size - 16) / 7;
  with_ends = omega arith;
  whole = omega arith;
  at_most_two = few;
}

pub line_size_from : (size : ℕ) → 16 ≤ size → (size - 2) % 7 ≤ 2 → IsLineSize size
line_size_from size long few = ((size - 2) / 7, (size - 2) % 7, layout_from _ long few)

-- there is one pair of them at most
pub layout_is_one : {size count offsets c o : ℕ} → IsLayout size count offsets → IsLayout size c o
    → (count ≡ c) × (offsets ≡ o)
layout_is_one p q = (omega arith, omega arith)

-- no line has fewer than 16 bytes, nor more than two after its points
pub no_short_line : (size : ℕ) → size < 16 → IsLineSize size → ⊥
no_short_line size short (count, offsets, layout) = omega arith

pub no_other_line : (size : ℕ) → 2 < (size - 2) % 7 → IsLineSize size → ⊥
no_other_line size many (count, offsets, layout) = omega arith

-- a location has at least sixteen bytes
pub long_enough : (location : LocationType) (size : ℕ) → IsSizeOf location size → 16 ≤ size
long_enough Line size (count, offsets, layout) = omega arith
long_enough PointAlong size (inl e) = omega arith
long_enough PointAlong size (inr e) = omega arith

-- the layout by division, of a location
pub laid_out : (location : LocationType) (size : ℕ) → IsSizeOf location size
    → IsLayout size ((size - 2) / 7) ((size - 2) % 7) × HasTwoPoints location ((size - 2) / 7)
laid_out Line size (count, offsets, layout) = grind (arith, layout_from)
laid_out PointAlong size (inl e) = (layout_from _ (omega arith) (omega arith), omega arith)
laid_out PointAlong size (inr e) = (layout_from _ (omega arith) (omega arith), omega arith)
