-- Lines in groups, and the lines on a shortest path to the target, found backwards from it, group
-- by group.
use Rattle.std.specs.BTreeMap.{get, UpdatesBy}
use Rattle.std.specs.Option.{IsSome, is_some}
use Rattle.std.specs.declared.cmp.Ordering.TheVariants.{Less}
use Rattle.olr_route.proofs.Common.{Groups, by_key, group_of, items_in, IsLinesOf, RoadMap, IsSoundMap, Place, Search, EndsAt, StartsAt, AreWithin, rest_of_line, length_at, start_of, ◌≡◌, ℕ, [], false, Option, None, Some, ap, refl, arith, Vec, Global, ◌⊎◌, inl, inr, List, ◌∷◌, ◌++◌, sym, subst, ◌∙◌, add-one, drop, drop-cons, get_or, length, ◌+◌, ◌<◌, ◌≤◌, is_lt, common_steps, Contains, IsSome, slice_get, Contains-append_left, Contains-push_cases, IsIn, AreGroups, AreOnShortestPaths, IsOnPath, IsTightIn, IsTightPath, LeadsOn, length-map, same_Some, slice_get-map, slice_get_within, destinations_of}
use Rattle.olr_route.specs.Groups.{HasGroup, IsBefore, IsAdded, IsLastBefore}
use Rattle.std.proofs.Math.Seq.{drop-length}
use Rattle.olr_route.proofs.Lines.{length_here, long_at, origin_inside, starts_there}
use Rattle.olr_route.proofs.Relaxing.{same_length}
use Rattle.olr_route.proofs.Underway.{in_front}

-- ---- the order

pub less_from_before : (length node other_length other_node : ℕ)
    → IsBefore (length, node) (other_length, other_node)
    → by_key (length, node) (other_length, other_node) ≡ Less
less_from_before length node other_length other_node before = grind (arith, common_steps)

pub before_from_less : (length node other_length other_node : ℕ)
    → by_key (length, node) (other_length, other_node) ≡ Less
    → IsBefore (length, node) (other_length, other_node)
before_from_less length node other_length other_node less = grind (arith, common_steps)

-- a key that is found is that of a group
pub some_group : (groups : Groups) (key : ℕ × ℕ) (group : Vec ℕ Global)
    → get by_key groups.table key ≡ Some group → HasGroup groups key
some_group groups key group found = ap is_some found

-- a group that no key is found for has no line
pub no_lines : (groups : Groups) (length node : ℕ) → get by_key groups.table (length, node) ≡ None
    → group_of groups node length ≡ []
no_lines groups length node none = ap items_in none

-- none of the keys found lies behind the last one
pub none_behind : (groups : Groups) (last : ℕ × ℕ) (length node : ℕ)
    → (IsSome (get by_key groups.table (length, node)) → is_lt (by_key last (length, node)) ≡ false)
    → IsBefore last (length, node) → group_of groups node length ≡ []
none_behind groups last length node not_less before = grind arith

-- one of two keys comes first, or they are the same
pub order_cases : (length node other_length other_node : ℕ)
    → IsBefore (length, node) (other_length, other_node)
    ⊎ ((length ≡ other_length) × (node ≡ other_node))
    ⊎ IsBefore (other_length, other_node) (length, node)
order_cases length node other_length other_node = grind arith

-- ---- one line more

-- the group of the line is written, and no other one
pub added : (node length line : ℕ) (before after : Groups) (group : Vec ℕ Global)
    → UpdatesBy by_key (by_key (length, node)) before.table after.table (Some group)
    → group.items ≡ group_of before node length ++ line ∷ [] → IsAdded node length line before after
added node length line before after group updates is = grind arith

-- ---- what the groups have then

module _ (node len line : ℕ) (before after : Groups) (add : IsAdded node len line before after)
  where
    -- what holds of the lines before and of this one holds of all
    pub added_only : (P : ℕ → ℕ → ℕ → Type 0)
        → ((n l x : ℕ) → Contains (group_of before n l) x → P n l x) → P node len line → (n l x : ℕ)
        → Contains (group_of after n l) x → P n l x
    added_only P old new n l x is =
        let far = add.elsewhere n l in
        let cases = Contains-push_cases (group_of before node len) line x in
        let was = old n l x in
        grind (arith, add.here)

    -- a line that is in a group of this length was in it before, or it is this one
    pub added_cases : (x l : ℕ) → IsIn after x l → IsIn before x l ⊎ ((x ≡ line) × (l ≡ len))
    added_cases x l (n, is) = added_only (λ n l x. IsIn before x l ⊎ ((x ≡ line) × (l ≡ len)))
        (λ n l x old. inl (n, old)) (inr (refl, refl)) n l x is

    pub added_kept : (x l : ℕ) → IsIn before x l → IsIn after x l
    added_kept x l (n, is) =
        let far = add.elsewhere n l in
        let more = Contains-append_left (group_of before node len) (line ∷ []) x in
        (n, grind (arith, add.here))

    pub added_here : IsIn after line len
    added_here = grind (arith, common_steps)

-- ---- the lines on a shortest path

-- over the line its end is reached at this group or at one before it
abbrev pub EndsUpTo : RoadMap → ℕ → ℕ → ℕ → ℕ → Type 0
EndsUpTo road length node line len = (there : ℕ) × EndsAt road there line
    × (IsBefore (len + length_at road line, there) (length, node)
    ⊎ ((len + length_at road line ≡ length) × (there ≡ node)))

-- over the line its end is reached at a group before this one
abbrev pub EndsBefore : RoadMap → ℕ → ℕ → ℕ → ℕ → Type 0
EndsBefore road length node line len = (there : ℕ) × EndsAt road there line
    × IsBefore (len + length_at road line, there) (length, node)

-- of the lines that end at the group only these are still to be visited
abbrev pub IsLeft : RoadMap → ℕ → ℕ → List ℕ → ℕ → ℕ → Type 0
IsLeft road length node lines line len = EndsBefore road length node line len
    ⊎ (Contains lines line × (len + length_at road line ≡ length))

-- the line is among those that end at the node
ends_there : (road : RoadMap) (node line : ℕ) → EndsAt road node line
    → slice_get (destinations_of road.lines) line ≡ Some node
ends_there road node line ends = grind (arith, slice_get-map)

module _ (search : Search) (table : ℕ → Option ℕ) (target : ℕ) where
  abbrev road : RoadMap
  road = search.map.now

  abbrev OnPath : ℕ → ℕ → Type 0
  OnPath line len = IsOnPath road search.class table target line len

  -- Each line of the groups is on a shortest path, and the target is one of them. A line from which
  -- a tight turn leads to one of them is one too, or it is still to be visited.
  pub record AreSpread (Left : ℕ → ℕ → Type 0) (groups : Groups) : Type 0 where
    pub only : (node len line : ℕ) → Contains (group_of groups node len) line
        → StartsAt road node line × OnPath line len
    pub known : (len : ℕ) → table target ≡ Some len → IsIn groups target len
    pub closed : (line len next : ℕ) → table line ≡ Some len
        → IsTightIn search groups (start_of line) len next → IsIn groups line len ⊎ Left line len
    pub on_map : (key : ℕ × ℕ) → HasGroup groups key → key.1 < length road.nodes

  pub groups_within : AreWithin table search.limit → (Left : ℕ → ℕ → Type 0) (groups : Groups)
      → AreSpread Left groups → AreGroups search groups
  groups_within within Left groups spread node len line among = let on =
      spread.only node len line among in (on.0, within line _ on.1.0)

  whole : (line : ℕ) → rest_of_line road (start_of line) ≡ length_at road line
  whole line = omega arith

  -- the node at which a line ends from which a turn leads on
  end_of_turn : (groups : Groups) (line len next : ℕ)
      (tight : IsTightIn search groups (start_of line) len next)
      → EndsAt road tight.turn.before.to line
  end_of_turn groups line len next tight =
      record { here = tight.turn.before; at = tight.turn.leaves; to = refl }

  -- there is no tight turn to a group that has no line
  none_in : (Left : ℕ → ℕ → Type 0) (groups : Groups) → AreSpread Left groups → (line len next : ℕ)
      → IsTightIn search groups (start_of line) len next
      → (node : ℕ) → EndsAt road node line → group_of groups node (len + length_at road line) ≡ []
      → ⊥
  none_in Left groups spread line len next tight node ends empty =
      let starts = (spread.only tight.least.0 (len + rest_of_line road (start_of line)) next
      tight.least.1).0 in
      let here =
      same_Some tight.least.0 node (sym starts
      ∙ starts_there road line node ends next tight.turn) in
      let none : Contains [] next = subst (λ (l : List ℕ). Contains l next)
      (ap (λ (n : ℕ). group_of groups n (len + rest_of_line road (start_of line))) here
      ∙ ap (λ (w : ℕ). group_of groups node (len + w)) (whole line) ∙ empty) tight.least.1 in
      omega arith

  -- the lines that are still to be visited may be others
  fewer : (Left Fewer : ℕ → ℕ → Type 0) (groups : Groups) → AreSpread Left groups
      → ((line len next : ℕ) → table line ≡ Some len
      → IsTightIn search groups (start_of line) len next → Left line len → IsIn groups line len
      ⊎ Fewer line len) → AreSpread Fewer groups
  fewer Left Fewer groups spread left = record {
    only = spread.only;
    known = spread.known;
    closed = λ line len next some tight. let was = spread.closed line len next some tight in
        let then = left line len next some tight in grind arith;
    on_map = spread.on_map;
  }

  -- a line is put into its group: what is still to be visited then
  spread_added : IsSoundMap road → (Now : ℕ → ℕ → Type 0) (origin at_start line : ℕ)
      (before after : Groups) → StartsAt road origin line
      → IsAdded origin at_start line before after → OnPath line at_start
      → ((node len other : ℕ) → Contains (group_of before node len) other → StartsAt road node other
      × OnPath other len) → ((key : ℕ × ℕ) → HasGroup before key → key.1 < length road.nodes)
      → ((len : ℕ) → table target ≡ Some len → IsIn after target len)
      → ((other len next : ℕ) → table other ≡ Some len
      → IsTightIn search after (start_of other) len next → IsIn after other len ⊎ Now other len)
      → AreSpread Now after
  spread_added sound Now origin at_start line before after starts add on only on_map known closed =
      record {
        only = added_only origin at_start line before after add
            (λ node len other. StartsAt road node other × OnPath other len) only (starts, on);
        known = known;
        closed = closed;
        on_map = λ key has. elim (add.groups key has) [
          | inl old ↦ on_map key old
          | inr same ↦ subst (λ (k : ℕ × ℕ). k.1 < length road.nodes) (sym same)
              (origin_inside road origin line sound starts)
        ];
      }

  -- ---- the target alone

  pub spread_begun : IsSoundMap road → (longest : ℕ) → table target ≡ Some longest
      → (node : ℕ) (empty groups : Groups) → ((n l : ℕ) → group_of empty n l ≡ [])
      → ((key : ℕ × ℕ) → HasGroup empty key → ⊥)
      → StartsAt road node target → IsAdded node longest target empty groups
      → AreSpread (EndsUpTo road longest node) groups
  spread_begun sound longest reached node empty groups is_empty none starts add =
      spread_added sound (EndsUpTo road longest node) node longest target empty groups starts add
      (reached, ([], (refl, reached)))
      (λ n l x is. absurd (let inside = subst (λ (g : List ℕ). Contains g x) (is_empty n l) is in
      omega arith)) (λ key has. absurd (none key has))
      (λ len some. subst (λ (w : ℕ). IsIn groups target w)
      (same_length longest len (table target) reached some)
      (added_here node longest target empty groups add))
      (λ line len next some tight. elim (added_cases node longest target empty groups add next
      (len + rest_of_line road (start_of line)) tight.least) [
        | inl (n, old) ↦ absurd (let inside =
            subst (λ (g : List ℕ). Contains g next)
            (is_empty n (len + rest_of_line road (start_of line))) old in omega arith)
        | inr (same_line, same_len) ↦
            let ends = end_of_turn groups line len next tight in
            let there =
            same_Some tight.turn.before.to node
            (sym (subst (λ (l : ℕ). StartsAt road tight.turn.before.to l) same_line
            (starts_there road line tight.turn.before.to ends next tight.turn)) ∙ starts) in
            inr (tight.turn.before.to, ends, inr (omega (arith, whole line), there))
      ])

  -- ---- the lines that end at a group

  pub spread_to : (length node : ℕ) (lines : List ℕ)
      → IsLinesOf (destinations_of road.lines) node lines → (groups : Groups)
      → AreSpread (EndsUpTo road length node) groups
      → AreSpread (IsLeft road length node lines) groups
  spread_to length node lines are groups spread =
      fewer (EndsUpTo road length node) (IsLeft road length node lines) groups spread
      (λ line len next some tight left. let among = are.all line in
      let there = ends_there road node line in grind arith)

  module _ (length node line : ℕ) (rest : List ℕ) (before : Groups)
      (spread : AreSpread (IsLeft road length node (line ∷ rest)) before) where
    -- the line doesn't lead on over its end at the group
    pub spread_skip : ((at_start : ℕ) → LeadsOn search table before length line at_start → ⊥)
        → AreSpread (IsLeft road length node rest) before
    spread_skip never = fewer (IsLeft road length node (line ∷ rest)) (IsLeft road length node rest)
        before spread (λ other len next some tight left. elim left [
          | inl earlier ↦ inr (inl earlier)
          | inr (among, long) ↦
              let at = in_front line other rest among in
              let leads : LeadsOn search table before length other len =
              record { start = some; long = long; next = next; tight = tight } in
              grind (arith, never len)
        ])

    -- it leads on
    pub spread_more : IsSoundMap road → (at_start : ℕ) (after : Groups)
        → LeadsOn search table before length line at_start → (origin : ℕ)
        → StartsAt road origin line
        → IsAdded origin at_start line before after → AreSpread (IsLeft road length node rest) after
    spread_more sound at_start after leads origin starts add =
        let on = (spread.only leads.tight.least.0 (at_start + rest_of_line road (start_of line))
        leads.next leads.tight.least.1).1 in
        let earlier : at_start < length =
        omega (
          arith,
          long_at road line leads.tight.clear.line sound
              leads.tight.clear.at,
          length_here road line leads.tight.clear.line
              leads.tight.clear.at,
        ) in
        spread_added sound (IsLeft road length node rest) origin at_start line before after starts
        add (
          leads.start,
          (
            leads.next ∷ on.1.0,
            (record { clear = leads.tight.clear; turn = leads.tight.turn; least = on.0 }, on.1.1),
          ),
        )
        spread.only spread.on_map (λ len some. added_kept origin at_start line before after add
        target len (spread.known len some))
        (λ other len next some tight. elim (added_cases origin at_start line before after add next
        (len + rest_of_line road (start_of other)) tight.least) [
          | inr (same_line, same_len) ↦ inr
              (inl (
                tight.turn.before.to,
                end_of_turn after other len next tight,
                inl
                    (omega (arith, whole other)),
              ))
          | inl old ↦ elim (spread.closed other len next some
              (record { clear = tight.clear; turn = tight.turn; least = old })) [
                | inl found ↦ inl (added_kept origin at_start line before after add other len found)
                | inr (inl before_it) ↦ inr (inl before_it)
                | inr (inr (among, long)) ↦ elim (in_front _ _ _ among) [
                  | inr later ↦ inr (inr (later, long))
                  | inl same ↦ inl (subst (λ l. IsIn after l len) (sym same)
                      (rw (same_length at_start len (table line) leads.start (ap table (sym same)
                      ∙ some)) at (added_here origin at_start line before after add)))
                ]
              ]
        ])

  -- ---- the next group

  pub spread_over : (length node : ℕ) (lines : List ℕ) → lines ≡ [] → (groups : Groups)
      → AreSpread (IsLeft road length node lines) groups
      → AreSpread (EndsBefore road length node) groups
  spread_over length node lines none groups spread = grind (arith, fewer)

  pub spread_next : (length node last_length last_node : ℕ) (groups : Groups)
      → IsLastBefore groups (length, node) (Some (last_length, last_node))
      → AreSpread (EndsBefore road length node) groups
      → AreSpread (EndsUpTo road last_length last_node) groups
  spread_next length node last_length last_node groups last spread =
      fewer (EndsBefore road length node) (EndsUpTo road last_length last_node) groups spread
      (λ line len next some tight left.
      let at = order_cases (len + length_at road line) left.0 last_length last_node in
      let no = none_in (EndsBefore road length node) groups spread line len next tight left.0
      left.1 in
      let empty = last.2 (len + length_at road line) left.0 left.2 in
      grind arith)

  -- no group is left
  pub spread_all : (length node : ℕ) (groups : Groups) → IsLastBefore groups (length, node) None
      → AreSpread (EndsBefore road length node) groups
      → AreOnShortestPaths road search.class table target groups
  spread_all length node groups none spread =
      record { only = spread.only; each = λ line len on. each _ _ on.1.0 on.0 on.1.1 }
    where
      each : (line len : ℕ) (rest : List ℕ) → table line ≡ Some len
          → IsTightPath road search.class table target (start_of line) len rest
          → IsIn groups line len
      each _ len [] some (here, known) =
          subst (λ (p : Place). IsIn groups p.line len) (sym here) (spread.known len known)
      each line len (next ∷ rest) some (tight, on) =
          let found = each next (len + rest_of_line road (start_of line)) rest tight.least on in
          let turn : IsTightIn search groups (start_of line) len next =
          record { clear = tight.clear; turn = tight.turn; least = found } in
          elim (spread.closed line len next some turn) [
            | inl is ↦ is
            | inr left ↦ absurd (none_in (EndsBefore road length node) groups spread line len next
                turn left.0 left.1 (none (len + length_at road line) left.0 left.2))
          ]

-- ---- the lines that are left

-- each of them is on the map
pub line_inside : (road : RoadMap) (node : ℕ) (lines : List ℕ)
    → IsLinesOf (destinations_of road.lines) node lines → (i : ℕ) → i < length lines
    → get_or lines i 0 < length road.lines
line_inside road node lines are i inside = grind (arith, slice_get_within, length-map)

-- the next line, and those behind it
pub next_line : (lines : List ℕ) (i : ℕ) → i < length lines
    → drop i lines ≡ get_or lines i 0 ∷ drop (i + 1) lines
next_line lines i inside = rw (add-one, drop-cons lines i 0)

pub no_line_left : (lines : List ℕ) (i : ℕ) → i ≤ length lines → length lines ≤ i
    → drop i lines ≡ []
no_line_left lines i inside over =
    ap (λ k. drop k lines) (let e : i ≡ length lines = omega arith in e)
    ∙ drop-length lines

-- ---- the target isn't reached

no_end : (road : RoadMap) (class : ℕ) (table : ℕ → Option ℕ) (target : ℕ) → table target ≡ None
    → (place : Place) (len : ℕ) (rest : List ℕ) → IsTightPath road class table target place len rest
    → ⊥
no_end road class table target none place len [] (here, known) = grind arith
no_end road class table target none place len (next ∷ rest) (tight, on) =
    no_end road class table target none (start_of next) (len + rest_of_line road place) rest on

pub unreached : (road : RoadMap) (class : ℕ) (table : ℕ → Option ℕ) (target : ℕ) (groups : Groups)
    → table target ≡ None → ((node length : ℕ) → group_of groups node length ≡ [])
    → AreOnShortestPaths road class table target groups
unreached road class table target groups none empty = record {
  only = λ node length line is. absurd (let inside =
      subst (λ (l : List ℕ). Contains l line) (empty node length) is in omega arith);
  each = λ line len on. absurd (no_end road class table target none (start_of line) len on.1.0
      on.1.1);
}
