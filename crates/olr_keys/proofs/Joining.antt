-- A row that is joined with another one step by step.
use Rattle.olr_keys.proofs.Common.{◌≡◌, ℕ, zero, suc, ◌+◌, ◌-◌, ◌*◌, ◌<◌, ◌≤◌, List, [], length, take, drop, slice_index, get_or, bit_or, inl, inr, ap, ◌∙◌, subst, mul-le-mul_left, arith, cases_lt, drop-drop, length-put_chunk, length-chunk, length-zip2, get_or-chunk, get_or-zip2, get_or-put_chunk_below, get_or-put_chunk_at, get_or-put_chunk_above}
use Rattle.std.specs.Simd.{first_chunks}
use Rattle.std.specs.Simd.Lanes.{zip2, put_chunk, chunk}

-- how far the joining has come: below an index each byte is joined, from there on it is as it was
pub record IsJoinedBelow (before other : List ℕ) (count : ℕ) (after : List ℕ) : Type 0 where
  pub same_length : length after ≡ length before
  pub joined : (m : ℕ) → m < count
      → slice_index after m ≡ bit_or (slice_index before m) (slice_index other m)
  pub same : (m : ℕ) → count ≤ m → slice_index after m ≡ slice_index before m

-- the chunk at an index
pub chunk_at : (size count index : ℕ) (xs : List ℕ) → index < count
    → get_or (first_chunks size count xs) index [] ≡ chunk (size * index) size xs
chunk_at size zero index xs inside = absurd (omega arith)
chunk_at size (suc count) zero xs inside =
    ap (λ n. take size (drop n xs)) {x = 0} (omega arith)
chunk_at size (suc count) (suc index) xs inside = grind (arith, drop-drop, chunk_at size count)

module _ (before other now : List ℕ) (at size : ℕ) (as_long : length other ≡ length before)
    (room : at + size ≤ length other) (so_far : IsJoinedBelow before other at now) where
  lanes : List ℕ
  lanes = zip2 bit_or (chunk at size now) (chunk at size other)

  lanes_length : length lanes ≡ size
  unfolding lanes
  lanes_length = grind (arith, length-chunk, length-zip2)

  lane_at : (j : ℕ) → j < size → get_or lanes j 0
      ≡ bit_or (get_or now (at + j) 0) (get_or other (at + j) 0)
  unfolding lanes
  lane_at j inside = grind (arith, length-chunk, get_or-zip2, get_or-chunk)

  joined_at : (j : ℕ) → j < size → get_or (put_chunk at now lanes) (at + j) 0
      ≡ bit_or (get_or before (at + j) 0) (get_or other (at + j) 0)
  joined_at j inside = grind (arith, get_or-put_chunk_at, lanes_length, lane_at)

  pub chunk_joined : IsJoinedBelow before other (at + size)
      (put_chunk at now (zip2 bit_or (chunk at size now) (chunk at size other)))
  unfolding lanes
  chunk_joined = record {
    same_length = cc (length-put_chunk at now lanes);
    joined = λ m below. elim (cases_lt m at) [
      | inl earlier ↦ get_or-put_chunk_below _ _ _ m 0 earlier ∙ so_far.joined m earlier
      | inr here ↦ subst (λ n. get_or (put_chunk at now lanes) n 0
          ≡ bit_or (get_or before n 0) (get_or other n 0)) {x = at + (m - at)} (omega arith)
          (joined_at _ (omega arith))
    ];
    same = λ m above. get_or-put_chunk_above _ _ _ m 0 (omega (arith, lanes_length, above))
        ∙ so_far.same m (omega arith);
  }

pub lanes_joined : (before other now loaded : List ℕ) (at size count index : ℕ)
    → length before ≡ length other → count * size ≤ length other → index < count → at ≡ size * index
    → loaded ≡ get_or (first_chunks size count other) index [] → IsJoinedBelow before other at now
    → IsJoinedBelow before other (at + size)
    (put_chunk at now (zip2 bit_or (chunk at size now) loaded))
lanes_joined before other now loaded at size count index as_long room inside position is so_far =
    let here : loaded ≡ chunk at size other = is ∙ chunk_at _ _ _ _ inside
    ∙ ap (λ (n : ℕ). chunk n size other) {x = size * index} (omega arith) in
    let whole : at + size ≤ length other = omega (
      arith,
      mul-le-mul_left {m = index + 1} {n = count} size (omega arith),
    ) in
    rw here (chunk_joined before other now at size (cc) whole so_far)
