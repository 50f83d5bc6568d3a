-- Lines that are visited from the end of a line, one after the other, and put into the queue by
-- their steps.
use Rattle.olr_route.proofs.Common.{RoadMap, IsStepOf, line_ranks, Step, Search, IsAllowed, IsArrivalOver, IsStepOver, AreVisited, IsDone, IsPushed, WaitsIn, own_reached, length_at, Arrival, State, ◌≡◌, ℕ, ◌+◌, ◌<◌, ◌≤◌, List, [], ◌∷◌, length, get_or, Option, Some, None, ap, subst, ◌∙◌, sym, refl, arith, Bool, false, ◌⊎◌, ◌++◌, inl, inr, length-append, Contains, IsPermutation, nat_eq, slice_get, get, get_or-map, length-map, map_push, Contains-append_left, Contains-append_right, Contains-push, Contains-push_cases, Contains-permutation, IsPermutation-sym, length_permutation}
use Rattle.olr_road.specs.Steps.{step_of}
use Rattle.olr_route.proofs.Lines.{key_differs, of_value}
use Rattle.olr_route.proofs.Underway.{in_front}

-- ---- steps

-- what is known of the line of a step
pub step_over : (road : RoadMap) (step : Step) → IsStepOf road.lines step → IsStepOver road step
step_over road step is =
    let row = of_value (step_of step.line) (slice_get road.lines step.line) step is in record {
      ends = record { here = row.0; at = row.1; to = ap (λ (s : Step). s.to) row.2 };
      class = ap (λ (s : Step). s.class) row.2;
    }

pub step_length : (road : RoadMap) (step : Step) → IsStepOf road.lines step
    → length_at road step.line ≡ step.length
step_length road step is = grind arith

-- the lines of steps, and of one more
pub line_ranks_of_push : (steps all : List Step) (step : Step) → all ≡ steps ++ step ∷ []
    → line_ranks all ≡ line_ranks steps ++ step.line ∷ []
line_ranks_of_push steps all step is = ap line_ranks is ∙ map_push (λ (s : Step). s.line) steps step

-- the line of a step is among their lines
pub line_among : (steps : List Step) (k : ℕ) (d : Step) → k < length steps
    → Contains (line_ranks steps) (get_or steps k d).line
line_among steps k d inside = (
  k,
  omega (arith, length-map steps (λ (s : Step). s.line)),
  get_or-map
      (λ (s : Step). s.line) steps k d _ inside,
)

-- ---- a line is put into the queue

module _ (search : Search) (step : Step) (so_far : ℕ) (items : List Arrival)
    (over : IsStepOver search.map.now step) where
  abbrev at_end : ℕ
  at_end = so_far + step.length

  abbrev arrival : Arrival
  arrival = record { at_end = at_end; line = step.line; node = step.to }

  -- it holds the arrival now
  pub pushes : (after : List Arrival) → step.class ≤ search.class → at_end ≤ search.limit
      → IsPermutation (arrival ∷ items) after
      → IsPushed search (λ _. ⊥) step.line at_end items after
  pushes after class within moves =
      let is : IsArrivalOver search at_end arrival = record {
        clear = record {
          line = over.ends.here;
          at = over.ends.at;
          within = omega arith;
        };
        ends = over.ends;
        long = refl;
        within = within;
      } in record {
        kept = λ other is. Contains-permutation (arrival ∷ items) after other moves
            (Contains-append_right (arrival ∷ []) items other is);
        added = λ other is. let at = in_front arrival other items
            (Contains-permutation after (arrival ∷ items) other
            (IsPermutation-sym (arrival ∷ items) after moves) is) in grind arith;
        waits = λ clear within. inl (
          arrival,
          Contains-permutation (arrival ∷ items) after arrival
              moves (0, omega arith, refl),
          refl,
          refl,
        );
        grows = omega (arith, length_permutation (arrival ∷ items) after moves);
      }

-- ---- lines that are visited, one after the other

module _ (search : Search) (Done : ℕ → Type 0) (arrival : Arrival) (is_first : Bool) (seen : List ℕ)
    (next : ℕ) (lines : List ℕ) (one_more : lines ≡ seen ++ next ∷ []) (banned : List ℕ)
    (old mid : ℕ → Option (Option ℕ))
    (before items : List Arrival) (first : AreVisited search Done arrival is_first seen banned old
    mid before items) where
  abbrev Allowed : ℕ → Type 0
  Allowed other = IsAllowed search.map.now arrival.line other

  abbrev Among : ℕ → Type 0
  Among other = Contains lines other

  -- what is kept already of the next line, if the turn to it isn't banned
  pub own_still : Allowed next → old next ≡ own_reached is_first arrival.at_end
      → mid next ≡ own_reached is_first arrival.at_end
  own_still allowed own = grind (arith, first.others next, first.each next, first.aside next)

  -- or that it isn't reached, if the turn is banned
  pub none_still : (Allowed next → ⊥) → old next ≡ Some None → mid next ≡ Some None
  none_still never own = grind (arith, first.others next, first.each next)

  here : Among next
  here = rw one_more (Contains-push seen next)

  more : (other : ℕ) → Contains seen other → Among other
  more other among = rw one_more (Contains-append_left seen (next ∷ []) other among)

  module _ (new : ℕ → Option (Option ℕ)) (elsewhere : (other : ℕ) → nat_eq next other ≡ false
      → new other ≡ mid other) where
    -- a line that was visited is the next one, or it was visited before
    which : (other : ℕ) → Among other → (next ≡ other)
        ⊎ ((new other ≡ mid other) × Contains seen other)
    which other is =
        let cases = Contains-push_cases seen next other (rw one_more at is) in
        grind (arith, elsewhere other, key_differs next other)

    others_now : (other : ℕ) → (new other ≡ old other) ⊎ Among other
    others_now other =
        grind (arith, elsewhere other, key_differs next other, first.others other, more other, here)

    added_before : (other : Arrival) → Contains items other
        → Contains before other ⊎ (Among other.line × Allowed other.line
        × IsArrivalOver search (arrival.at_end + length_at search.map.now other.line) other)
    added_before other is = let was = first.added other is in grind (arith, more other.line)

    -- the turn to it is banned
    pub visited_banned : (Allowed next → ⊥) → new next ≡ Some None → (all : List ℕ)
        → all ≡ banned ++ next ∷ [] → AreVisited search Done arrival is_first lines all old new
        before items
    visited_banned never none all are = rw are (record {
      each = λ other is.
          let at = which other is in
          let was = first.each other in
          let put = Contains-append_left banned (next ∷ []) other in
          grind (arith, Contains-push banned next);
      others = others_now;
      aside = λ other is.
          let at = Contains-push_cases banned next other is in let was = first.aside other in
          let among = more other in grind (arith, here);
      kept = first.kept;
      added = added_before;
      grows = omega (
        arith,
        first.grows,
        ap (λ (l : List ℕ). length l) one_more,
        length-append seen
            (next ∷ []),
        length-append banned (next ∷ []),
      );
    })

    -- it isn't
    pub visited_pushed : Allowed next → new next ≡ own_reached is_first arrival.at_end
        → (Other : ℕ → Type 0) (after : List Arrival)
        → IsPushed search Other next (arrival.at_end + length_at search.map.now next) items after
        → (Other next → Done next) → AreVisited search Done arrival is_first lines banned old
        new before after
    visited_pushed may own Other after pushed done = record {
      each = λ other is. elim (which other is) [
        | inl same ↦ inr (subst (λ (n : ℕ). Allowed n
            × (new n ≡ own_reached is_first arrival.at_end)
            × WaitsIn search Done after n (arrival.at_end + length_at search.map.now n)) same (
              may,
              own,
              λ clear within. let waits = pushed.waits clear within in grind arith,
            ))
        | inr (kept, among) ↦ elim (first.each other among) [
          | inl (put, was) ↦ inl (put, kept ∙ was)
          | inr (allowed, was, waits) ↦ inr (
            allowed,
            kept ∙ was,
            λ clear within. elim (waits clear within) [
              | inl (arrives, among, same_line, same_end)
                  ↦ inl (arrives, pushed.kept arrives among, same_line, same_end)
              | inr is_done ↦ inr is_done
            ],
          )
        ]
      ];
      others = others_now;
      aside = λ other is. let at = first.aside other is in (more other at.0, at.1);
      kept = λ other is. pushed.kept other (first.kept other is);
      added = λ other is. elim (pushed.added other is) [
        | inl was ↦ added_before other was
        | inr (same, over) ↦ inr (subst (λ (n : ℕ). Among n × Allowed n
            × IsArrivalOver search (arrival.at_end + length_at search.map.now n) other) (sym same)
            (here, may, over))
      ];
      grows = omega (
        arith,
        first.grows,
        pushed.grows,
        ap (λ (l : List ℕ). length l) one_more,
        length-append seen (next ∷ []),
      );
    }

-- ---- what is done

-- it doesn't depend on the queue and what is kept of lines, nor on a list of banned lines that is
-- there
pub done_before : (road : RoadMap) (old mid : State) → mid.starts.nodes ≡ old.starts.nodes
    → ((node : ℕ) → get nat_eq mid.banned node ≡ None → get nat_eq old.banned node ≡ None)
    → (line : ℕ) → IsDone road mid line → IsDone road old line
done_before road old mid nodes banned line is = grind arith
