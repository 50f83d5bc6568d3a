use Rattle.olr_keys.proofs.Common.{◌≡◌, ℕ, ◌+◌, ◌<◌, ◌≤◌, true≢false, List, [], length, All, ◌∙◌, arith, Option, slice_index_or, Vec, length-map, All-map, get_or_from_slice_get, slice_get-get_or, slice_get_within, AreLegsFrom, IsLayer, IsTable, Penalties, penalties_of}
use Rattle.std.proofs.Math.ListN.{get_or-map as map_at}
use Rattle.olr_keys.proofs.limits.is_table.Goals as goal
use Rattle.olr_keys.proofs.limits.is_table.Goals.{then-have_lengths, else-have_lengths}

module _ (penalties : List (Vec ℕ)) (legs : List (Vec (Option ℕ))) where
  abbrev table : Penalties
  table = penalties_of penalties legs

  -- there are 2 to 32 layers, and a list of legs between each two neighbours
  abbrev HaveLengths : Type 0
  HaveLengths = (2 ≤ length penalties) × (length penalties ≤ 32)
      × (length legs + 1 ≡ length penalties)

  -- each list has the legs from its layer to the next one
  abbrev HaveLegs : Type 0
  HaveLegs = (layer : ℕ) → layer < length legs → AreLegsFrom table layer

  -- there are as many lists of numbers as layers, and as many lists of entries as lists of legs
  count_is : length table.candidates ≡ length penalties
  count_is = length-map penalties (λ layer. layer.items)

  legs_is : length table.legs ≡ length legs
  legs_is = length-map legs (λ between. between.items)

  -- lists that pass the three tests are a table
  table_from : HaveLengths → All (λ (layer : Vec ℕ). IsLayer layer.items) penalties → HaveLegs
      → IsTable table
  table_from lengths layers each = record {
    layers_at_least = omega (arith, count_is);
    layers_at_most = omega (arith, count_is);
    layers = All-map IsLayer _ _ layers;
    between = omega (arith, count_is, legs_is);
    legs = λ layer between is.
        let inside : layer < length legs =
        omega (arith, legs_is, slice_get_within table.legs layer between is) in
        rw (← (get_or_from_slice_get table.legs layer between [] is)) (each layer inside);
  }

  -- the lists of a table pass the three tests
  lengths_of : IsTable table → HaveLengths
  lengths_of is = grind (arith, count_is, legs_is)

  layers_of : IsTable table → All (λ (layer : Vec ℕ). IsLayer layer.items) penalties
  layers_of is = λ k d inside.
      rw (← (map_at (λ layer. layer.items) penalties k d))
      (is.layers k d.items (omega (arith, count_is)))

  legs_of : IsTable table → HaveLegs
  legs_of is = λ layer inside.
      is.legs layer (slice_index_or table.legs layer [])
      (slice_get-get_or table.legs layer [] (omega (arith, legs_is)))

pub returns-then-are_layers : goal.returns-then-are_layers
returns-then-are_layers c =
    elim c.if-have_lengths.branch [
      | then-have_lengths w ↦ (
        λ is. table_from _ _ (c.have_lengths.ensures.0 w.if-have_lengths.true)
            (w.are_layers.ensures.0 (cc)) (c.are_all_legs.ensures.0 is),
        λ table. c.are_all_legs.ensures.1 (legs_of _ _ table),
      )
      | else-have_lengths w ↦ absurd (true≢false (cc))
    ]

pub returns-else-are_layers : goal.returns-else-are_layers
returns-else-are_layers c =
    elim c.if-have_lengths.branch [
      | then-have_lengths w ↦ (
        λ is. absurd (true≢false (cc)),
        λ table. w.value-is
            ∙ w.are_layers.ensures.1 (layers_of _ _ table),
      )
      | else-have_lengths w ↦ (
        λ is. absurd (true≢false (cc)),
        λ table. absurd (true≢false (cc (c.have_lengths.ensures.1 (lengths_of _ _ table)))),
      )
    ]
