-- What an arrival at a node changes: the first one, and a later one.
use Rattle.olr_route.proofs.Common.{RoadMap, origins_of, IsStepOf, line_ranks, items_in, EndsAt, StartsAt, Arrival, Search, Starts, State, AreNodes, AreVisited, banned_at, HasArrived, IsArrived, IsDone, own_reached, WaitsIn, node_length, table_in, IsAllowed, length_at, ◌≡◌, ◌≢◌, ℕ, ◌+◌, ◌^◌, ◌<◌, ◌≤◌, ◌⊎◌, Bool, List, length, Option, Some, None, inl, inr, ap, sym, ◌∙◌, refl, arith, All, Contains, IsSome, nat_eq, option_map, slice_get, unwrap_or, get, cases_eq, AreAheadReached, IsDoneAt, still_banned, steps_at, length_of}
use Rattle.olr_route.specs.Starts.{start_length}
use Rattle.olr_route.proofs.Relaxing.{total_at, worth}
use Rattle.olr_route.proofs.Lines.{starts_there, turn_there}

-- how many lines are left of a node that is reached
pub left_of : (limit left : ℕ) (found : Option ℕ) → IsSome found
    → worth limit (option_map (λ (_ : ℕ). left) found) ≡ left
left_of limit left None some = absurd cc
left_of limit left (Some value) some = refl

-- over a line that is done all lines that may follow are reached
pub done_ahead : (road : RoadMap) (state : State) → AreNodes road state → (line : ℕ)
    → IsDone road state line → AreAheadReached road (table_in road state.starts) line
done_ahead road state nodes line is next turn = let was =
    nodes.reached is.node next is.done.arrived (starts_there road line is.node is.ends next turn) in
    grind arith

-- a line starts at the node, or the length that is kept for its node is as it was
at_node_or_same : (old new : ℕ → Option ℕ) (node : ℕ) (origin : Option ℕ)
    → ((other : ℕ) → other ≢ node → new other ≡ old other) → (origin ≡ Some node)
    ⊎ (node_length new origin ≡ node_length old origin)
at_node_or_same old new node None elsewhere = inr refl
at_node_or_same old new node (Some other) elsewhere = let differs = elsewhere other in grind arith

-- the length to a line, by what is kept of it and of its node
pub own_length : (road : RoadMap) (nodes : ℕ → Option ℕ) (own : ℕ → Option (Option ℕ)) (line : ℕ)
    (kept : Option (Option ℕ)) → own line ≡ kept
    → start_length road nodes own line
    ≡ unwrap_or kept (node_length nodes (slice_get (origins_of road.lines) line))
own_length road nodes own line kept is = grind arith

pub by_parts : (road : RoadMap) (starts : Starts) (line : ℕ) (own : Option (Option ℕ))
    (origin : Option ℕ) → get nat_eq starts.own line ≡ own
    → node_length (length_of starts.nodes) (slice_get (origins_of road.lines) line) ≡ origin
    → table_in road starts line ≡ unwrap_or own origin
by_parts road starts line own origin kept at = grind (arith, own_length)

module _ (search : Search) (arrival : Arrival)
    (ends : EndsAt search.map.now arrival.node arrival.line)
    (inside : arrival.node < length search.map.now.nodes) (old new : State)
    (nodes : AreNodes search.map.now old)
    (Done : ℕ → Type 0) (is_first : Bool) (lines banned : List ℕ)
    (visited : AreVisited search Done arrival is_first lines banned (get nat_eq old.starts.own)
    (get nat_eq new.starts.own) old.queue new.queue) where
  abbrev road : RoadMap
  road = search.map.now

  abbrev line : ℕ
  line = arrival.line

  abbrev node : ℕ
  node = arrival.node

  abbrev before : ℕ → Option ℕ
  before = table_in road old.starts

  abbrev now : ℕ → Option ℕ
  now = table_in road new.starts

  -- The lines that were visited are those from the node that weren't reached. What is known of the
  -- node now is right for each of them that is reached.
  pub record AreReached : Type 0 where
    pub done : (next : ℕ) → Done next → AreAheadReached road before next
    pub there : (next : ℕ) → Contains lines next → StartsAt road node next × (before next ≡ None)
    pub rest : (next : ℕ) → StartsAt road node next → Contains lines next
        ⊎ (IsSome (before next) × (length_of new.starts.nodes node
        ≡ length_of old.starts.nodes node))
    pub reached : unwrap_or (own_reached is_first arrival.at_end) (length_of new.starts.nodes node)
        ≡ Some arrival.at_end
    pub node_here : IsSome (length_of new.starts.nodes node)
    pub nodes_elsewhere : (other : ℕ) → other ≢ node
        → length_of new.starts.nodes other ≡ length_of old.starts.nodes other
    pub banned_here : banned_at new node ≡ banned
    pub steps_here : All (IsStepOf road.lines) (steps_at new node)
    pub banned_elsewhere : (other : ℕ) → other ≢ node
        → get nat_eq new.banned other ≡ get nat_eq old.banned other
    pub few : length lines ≤ worth (2 ^ 63) (still_banned old node)

  module _ (are : AreReached) where
    -- a line that was visited
    visited_now : (next : ℕ) → Contains lines next → (Contains banned next × (now next ≡ None))
        ⊎ (IsAllowed road line next × (now next ≡ Some arrival.at_end)
        × WaitsIn search Done new.queue next (arrival.at_end + length_at road next))
    visited_now next among = grind (arith, by_parts)

    changed : (next : ℕ) → (now next ≡ before next)
        ⊎ (Contains lines next × IsAllowed road line next × (now next ≡ Some arrival.at_end)
        × WaitsIn search Done new.queue next (arrival.at_end + length_at road next))
    changed next = elim (visited.others next) [
      | inr among ↦ visits among
      | inl own ↦
          let by = by_parts road new.starts next (get nat_eq old.starts.own next)
          (node_length (length_of old.starts.nodes) (slice_get (origins_of road.lines) next))
          own in
          elim (at_node_or_same (length_of old.starts.nodes) (length_of new.starts.nodes) node
          (slice_get (origins_of road.lines) next) are.nodes_elsewhere) [
            | inr same ↦ inl (by same)
            | inl starts ↦ elim (are.rest next starts) [
              | inl among ↦ visits among
              | inr (_, same) ↦ inl (by (ap (node_length (length_of new.starts.nodes)) starts ∙ same
                  ∙ ap (node_length (length_of old.starts.nodes)) (sym starts)))
            ]
          ]
    ]
      where
        visits : Contains lines next → (now next ≡ before next)
            ⊎ (Contains lines next × IsAllowed road line next × (now next ≡ Some arrival.at_end)
            × WaitsIn search Done new.queue next (arrival.at_end + length_at road next))
        visits among = elim (visited_now next among) [
          | inl (aside, none) ↦ inl (none ∙ sym (are.there next among).1)
          | inr (allowed, is, waits) ↦ inr (among, allowed, is, waits)
        ]

    still : (next : ℕ) → IsSome (before next) → IsSome (now next)
    still next some = grind arith

    reached_here : (next : ℕ) → StartsAt road node next → IsSome (now next) ⊎ Contains banned next
    reached_here next starts = grind (arith, visited_now, still)

    arrived : IsArrived search line arrival.at_end before now old.queue new.queue
    arrived = record {
      each = λ next. elim (changed next) [
        | inl same ↦ inl same
        | inr (among, allowed, is, _) ↦ let at = are.there next among in
            inr (at.1, turn_there road line node ends _ at.0 allowed, is)
      ];
      all = λ next turn. elim (reached_here next (starts_there road line node ends _ turn)) [
        | inl some ↦ some
        | inr aside ↦ absurd ((visited.aside next aside).1 turn.allowed)
      ];
      kept = visited.kept;
      added = λ other is. elim (visited.added other is) [
        | inl was ↦ inl was
        | inr (among, allowed, over) ↦ inr
            (turn_there road line node ends _ (are.there other.line among).0 allowed, over)
      ];
      waits = λ next none some clear on. elim (changed next) [
        | inl same ↦ absurd (let nothing = same ∙ none in cc)
        | inr (_, _, _, waits) ↦ elim (waits clear on)
            [ inl is ↦ inl is | inr is_done ↦ inr (are.done next is_done) ]
      ];
    }

    -- what is kept of a line from another node is as it was
    own_elsewhere : (other next : ℕ) → other ≢ node → StartsAt road other next
        → get nat_eq new.starts.own next ≡ get nat_eq old.starts.own next
    own_elsewhere other next differs starts = grind arith

    nodes_now : AreNodes road new
    nodes_now = record {
      unreached = λ other none.
          let was = nodes.unreached other in
          let far = are.nodes_elsewhere other in
          let kept = are.banned_elsewhere other in
          grind (arith, are.node_here, own_elsewhere other);
      reached = λ other next some starts.
          let was = nodes.reached other next in
          let far = are.nodes_elsewhere other in
          let kept = are.banned_elsewhere other in
          let here = reached_here next in
          grind (arith, still next, are.banned_here);
      banned = λ other next aside. elim (cases_eq other node) [
        | inl same ↦
            let is = visited.aside next
            (rw (ap (λ (n : ℕ). banned_at new n) same ∙ are.banned_here) at aside) in (
              rw (sym same) at (are.there next is.0).0,
              elim (visited.each next is.0) [
                | inl (_, none) ↦ none
                | inr (allowed, _, _) ↦ absurd (is.1 allowed)
              ],
            )
        | inr differs ↦
            let was = nodes.banned other next
            (rw (ap (λ o. line_ranks (items_in o)) (are.banned_elsewhere other differs))
            at aside) in
            (was.0, own_elsewhere other next differs was.0 ∙ was.1)
      ];
      steps = λ other. let was = nodes.steps other in let kept = are.banned_elsewhere other in
          grind (arith, are.steps_here);
    }

    left_elsewhere : (other : ℕ) → other ≢ node → still_banned new other ≡ still_banned old other
    left_elsewhere other differs = grind arith

    left_here : worth (2 ^ 63) (still_banned new node) ≡ length banned
    left_here = grind (arith, left_of)

    pub has_arrived : HasArrived search arrival old new
    has_arrived = record {
      arrived = arrived;
      nodes = nodes_now;
      bounded = omega (
        arith,
        visited.grows,
        are.few,
        left_here,
        total_at (2 ^ 63)
            (length road.nodes) (still_banned old) (still_banned new) node inside left_elsewhere,
      );
    }

-- nothing changes where the node is done
pub arrived_done : (search : Search) (arrival : Arrival)
    → EndsAt search.map.now arrival.node arrival.line → (state : State)
    → AreNodes search.map.now state → IsDoneAt state arrival.node
    → HasArrived search arrival state state
arrived_done search arrival ends state nodes is =
    grind (
      arith,
      arrived,
      done_ahead _ _ nodes _ (record { node = arrival.node; ends = ends; done = is }),
    )
