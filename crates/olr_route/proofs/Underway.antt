-- Dijkstra's search by the order of its arrivals. None that is still to come is nearer than the
-- last one, so what is reached has its least length.
use Rattle.std.proofs.lemmas.Grind.{common_steps}
use Rattle.olr_route.proofs.Common.{RoadMap, Place, Arrival, Search, AreAllReached, HasEnded, IsArrivalOver, IsArrived, IsPushed, MayGoOn, IsTurn, IsOpen, AreWithin, ReachesStart, IsKnownWithin, IsUseful, rest_of_line, length_at, ◌≡◌, ℕ, zero, suc, ◌+◌, ◌<◌, ◌≤◌, ◌⊎◌, List, [], ◌∷◌, All, length, Option, Some, None, inl, inr, subst, sym, ◌∙◌, refl, arith, Contains, IsPermutation, IsSome, All-contains, Contains-permutation, IsPermutation-sym, Awaits, asked_of}
use Rattle.olr_route.proofs.Walks.{useful_more, useful_within}

known_within : (known : Option ℕ) (bound : ℕ) → IsSome known
    → ((length : ℕ) → known ≡ Some length → length ≤ bound) → IsKnownWithin known bound
known_within None bound some within = absurd cc
known_within (Some length) bound some within = within _ refl

pub in_front : {A : Type 0} → (x y : A) (xs : List A) → Contains (x ∷ xs) y → (y ≡ x)
    ⊎ Contains xs y
in_front x y xs (zero, inside, same) = inl (sym same)
in_front x y xs (suc k, inside, same) = inr (k, omega arith, same)

module _ (search : Search) where
  abbrev road : RoadMap
  road = search.map.now

  abbrev class : ℕ
  class = search.class

  abbrev from : Place
  from = search.from

  abbrev limit : ℕ
  limit = search.limit

  -- an arrival at the end of a line, after a length that a walk to there has
  pub record IsArrival (arrival : Arrival) : Type 0 where
    pub over : IsArrivalOver search arrival.at_end arrival
    pub positive : 0 < arrival.at_end
    pub reaches : (next : ℕ) → IsTurn road arrival.line next → (n : ℕ)
        × ReachesStart road class from n next arrival.at_end

  -- The end of a line is reached after this length: over the rest of the place's own line, or over
  -- a line whose start is reached.
  abbrev EndsAfter : (ℕ → Option ℕ) → ℕ → ℕ → Type 0
  EndsAfter table line at_end = ((line ≡ from.line) × (at_end ≡ rest_of_line road from))
      ⊎ ((at_start : ℕ) × (table line ≡ Some at_start) × (at_end ≡ at_start + length_at road line))

  -- Each length that is known is one of a walk and no longer than the last arrival's, and no
  -- arrival to come is nearer. Over each line the arrival is to come, or all lines that may follow
  -- are reached, none after a greater length.
  pub record IsUnderway (longest : ℕ) (table : ℕ → Option ℕ) (items : List Arrival) : Type 0 where
    pub at_most : longest ≤ limit
    pub sound : (line length : ℕ) → table line ≡ Some length → (length ≤ longest)
        × ((n : ℕ) × ReachesStart road class from n line length)
    pub arrivals : (arrival : Arrival) → Contains items arrival → IsArrival arrival
        × (longest ≤ arrival.at_end)
    pub waiting : (line at_end : ℕ) → EndsAfter table line at_end → IsOpen road class line
        → MayGoOn search line at_end
        → Awaits items line at_end ⊎ ((next : ℕ) → IsTurn road line next
        → IsKnownWithin (table next) at_end)

  -- ---- the beginning

  pub underway_begun : (table : ℕ → Option ℕ) (items : List Arrival)
      → ((line : ℕ) → table line ≡ None) → 0 < rest_of_line road from
      → IsPushed search (λ _. ⊥) from.line (rest_of_line road from) [] items
      → IsUnderway 0 table items
  underway_begun table items none positive left = record {
    at_most = omega arith;
    sound = λ line length known. absurd (let nothing = none line in cc);
    arrivals = λ arrival is. elim (left.added arrival is) [
      | inl before ↦ absurd (omega arith)
      | inr (same, over) ↦ (
        record {
          over = record { clear = over.clear; ends = over.ends; long = refl; within = over.within };
          positive = omega arith;
          reaches = λ next turn. (
            0,
            (
              subst (λ (l : ℕ). IsOpen road class l) same over.clear,
              subst (λ (l : ℕ). IsTurn road l next) same turn,
              over.long,
            ),
          );
        },
        omega arith,
      )
    ];
    waiting = λ line at_end ends clear on. let nothing = none line in let waits = left.waits in
        grind arith;
  }

  -- ---- an arrival

  module _ (longest : ℕ) (arrival : Arrival) (old : ℕ → Option ℕ) (all items : List Arrival)
      (underway : IsUnderway longest old all) (taken : IsPermutation all (arrival ∷ items)) where
    back : (other : Arrival) → Contains (arrival ∷ items) other → Contains all other
    back other is = Contains-permutation (arrival ∷ items) all other
        (IsPermutation-sym all (arrival ∷ items) taken) is

    pub arrives : IsArrival arrival × (longest ≤ arrival.at_end)
    arrives = underway.arrivals arrival (back arrival (0, omega arith, refl))

    -- so none is to come before this one
    pub none_nearer : (bound : ℕ) → bound < arrival.at_end
        → All (λ (other : Arrival). arrival.at_end ≤ other.at_end) items → (other : Arrival)
        → Contains all other → bound < other.at_end
    none_nearer bound less nearest other is =
        let was = in_front arrival other items
        (Contains-permutation all (arrival ∷ items) other taken is) in
        grind (arith, All-contains (λ (a : Arrival). arrival.at_end ≤ a.at_end) items other nearest)

    module _ (nearest : All (λ (other : Arrival). arrival.at_end ≤ other.at_end) items) (new : ℕ
        → Option ℕ) (after : List Arrival)
        (goes : IsArrived search arrival.line arrival.at_end old new items after) where
      later : {other : Arrival} → Contains items other → Contains (arrival ∷ items) other
      later (k, inside, same) = (suc k, omega arith, same)

      stays : (next bound : ℕ) → IsKnownWithin (old next) bound → IsKnownWithin (new next) bound
      stays next bound known = grind arith

      sound_now : (line length : ℕ) → new line ≡ Some length → (length ≤ arrival.at_end)
          × ((n : ℕ) × ReachesStart road class from n line length)
      sound_now line length known = grind (arith, common_steps, arrives)

      -- what is reached is so after no greater length than this arrival's
      known_now : (line bound : ℕ) → arrival.at_end ≤ bound → IsSome (new line)
          → IsKnownWithin (new line) bound
      known_now line bound farther some = grind (arith, known_within, sound_now)

      arrivals_now : (other : Arrival) → Contains after other → IsArrival other
          × (arrival.at_end ≤ other.at_end)
      arrivals_now other is = elim (goes.added other is) [
        | inl was ↦ (
          (underway.arrivals other (back other (later was))).0,
          All-contains
              (λ (a : Arrival). arrival.at_end ≤ a.at_end) items other nearest was,
        )
        | inr (turn, over) ↦ (
          record {
            over = record {
              clear = over.clear;
              ends = over.ends;
              long = refl;
              within =
                  over.within;
            };
            positive = omega (arith, over.long, arrives.0.positive);
            reaches = λ next more. let reached = arrives.0.reaches other.line turn in (
              suc reached.0,
              (
                other.line,
                arrival.at_end,
                reached.1,
                over.clear,
                more,
                over.long,
              ),
            );
          },
          omega arith,
        )
      ]

      -- an arrival that was to come is the one that was made, or still to come
      which : (line at_end : ℕ) → Awaits all line at_end
          → ((arrival.line ≡ line) × (arrival.at_end ≡ at_end)) ⊎ Awaits after line at_end
      which line at_end (other, is, same_line, same_end) = let at =
          in_front arrival other items (Contains-permutation all (arrival ∷ items) other taken
          is) in grind arith

      waiting_old : (line at_end : ℕ) → EndsAfter old line at_end → IsOpen road class line
          → MayGoOn search line at_end
          → Awaits after line at_end ⊎ ((next : ℕ) → IsTurn road line next
          → IsKnownWithin (new next) at_end)
      waiting_old line at_end ends clear on = elim (underway.waiting line at_end ends clear on) [
        | inr passed ↦ inr (λ next turn. stays next at_end (passed next turn))
        | inl waits ↦ elim (which line at_end waits) [
          | inr still ↦ inl still
          | inl (same_line, same_end) ↦ inr
              (λ next turn. known_now next at_end (omega arith)
              (goes.all next (subst (λ (l : ℕ). IsTurn road l next) (sym same_line) turn)))
        ]
      ]

      waiting_new : (line at_end : ℕ) → EndsAfter new line at_end → IsOpen road class line
          → MayGoOn search line at_end
          → Awaits after line at_end ⊎ ((next : ℕ) → IsTurn road line next
          → IsKnownWithin (new next) at_end)
      waiting_new line at_end (inl own) clear on = waiting_old line at_end (inl own) clear on
      waiting_new line at_end (inr (at_start, known, long)) clear on = elim (goes.each line) [
        | inl same ↦ waiting_old line at_end (inr (at_start, sym same ∙ known, long)) clear on
        | inr (none, turn, now) ↦
            let same : arrival.at_end ≡ at_start = cc (sym now ∙ known) in
            let here : at_end ≡ arrival.at_end + length_at road line = omega arith in
            elim (goes.waits line none now clear (subst (λ (w : ℕ). MayGoOn search line w)
            here on)) [
              | inl waits ↦ inl (subst (λ (w : ℕ). Awaits after line w) (sym here) waits)
              | inr reached ↦ inr (λ next more. stays next at_end
                  (known_within (old next) at_end (reached next more)
                  (λ length is. omega (
                    arith,
                    (underway.sound next length is).0,
                    arrives.1,
                    same,
                    long,
                  ))))
            ]
      ]

      pub underway_more : IsUnderway arrival.at_end new after
      underway_more = record {
        at_most = arrives.0.over.within;
        sound = sound_now;
        arrivals =
            arrivals_now;
        waiting = waiting_new;
      }

  -- ---- the end

  module _ (longest searched : ℕ) (table : ℕ → Option ℕ) (items : List Arrival)
      (underway : IsUnderway longest table items) (at_most : searched ≤ limit)
      (within : AreWithin table searched)
      (none : (arrival : Arrival) → Contains items arrival → searched < arrival.at_end) where
    passed : (line at_end : ℕ) → EndsAfter table line at_end → IsOpen road class line → (next : ℕ)
        → IsTurn road line next → IsUseful road class (asked_of search) searched next at_end
        → IsKnownWithin (table next) at_end
    passed line at_end ends clear next turn useful =
        elim (underway.waiting line at_end ends clear (
          next,
          turn,
          useful_more road class (asked_of search) limit at_end at_most (omega arith)
              useful,
        )) [
          | inr known ↦ known next turn
          | inl (arrival, is, same_line, same_end)
              ↦ absurd (omega (
                arith,
                none arrival is,
                same_end,
                useful_within road class
                    (asked_of search) useful,
              ))
        ]

    -- No arrival is to come within this length, to which the search went. So it is a search up to
    -- it.
    pub ended : AreAllReached (asked_of search) table ⊎ (searched ≡ limit)
        → HasEnded road class from (asked_of search) limit table
    ended far = record {
      searched = searched;
      at_most = at_most;
      knows = record {
        sound = λ line length known. (
          within line length known,
          (underway.sound line length known).1,
        );
        first = λ next clear turn useful. passed from.line (rest_of_line road from)
            (inl (refl, refl)) clear next turn useful;
      };
      settled = λ line length next known clear turn useful. passed line
          (length + length_at road line) (inr (length, known, refl)) clear next turn useful;
      far = far;
    }
