-- The lines seen from a point: those among the lines that were tested, and those of a reference's
-- point by its query.
use Rattle.std.specs.Global.{Vec}
use Rattle.std.proofs.lemmas.Option.{slice_get-map}
use Rattle.std.proofs.lemmas.List.{get_or-map, get_or_append_left, get_or_push}
use Rattle.olr_candidates.proofs.Common.{All-contains, All-nil, All-push, AreSeenAmong, AreSeenFrom, AreSurroundings, Contains, Contains-append_left, Contains-push, HoldAllWithin, IsQueryOf, IsSeen, Projection, Projects, Query, Reference, RoadLine, SeenLine, Sees, SeesRadius, Surroundings, Tolerances, coordinates_of, ranks_of, seen_of, cases_lt, get_or, get_or-take, get_or_default, inl, inr, ap, length, length-append, length-map, length-take, map_push, sym, take, [], ◌++◌, ◌<◌, ◌∙◌, ◌∷◌, ◌≡◌, ◌≢◌, ◌≤◌, ◌*◌, ℕ, AllPairs, All, List, None, Some, arith, option_map, slice_get-get_or, slice_get}
use Rattle.olr_candidates.proofs.SeenLines.{now_seen, one_seen, still_seen}

-- ---- ranks, each once

pub ranks_count : (seen : List SeenLine) → length (ranks_of seen) ≡ length seen
ranks_count seen = length-map seen (λ one. one.line)

differ_more : (xs : List ℕ) (x : ℕ) → AllPairs (λ a b. a ≢ b) xs → (Contains xs x → ⊥)
    → AllPairs (λ a b. a ≢ b) (xs ++ x ∷ [])
differ_more xs x once unseen i j d lt inside same =
    let first : i < length xs = omega (arith, length-append xs (x ∷ [])) in
    let at : get_or (xs ++ x ∷ []) i d ≡ get_or xs i d = get_or_append_left xs (x ∷ []) d i first in
    elim (cases_lt j (length xs)) [
      | inl less ↦ once i j d lt less (sym at ∙ same ∙ get_or_append_left xs (x ∷ []) d j less)
      | inr no_less ↦
          let last : length xs ≡ j = omega (arith, length-append xs (x ∷ [])) in
          unseen (
            i,
            first,
            get_or_default xs i x d first ∙ sym at ∙ same ∙ get_or_push xs x d j last,
          )
    ]

-- of the line at an index
abbrev pub no_line : SeenLine
no_line = record { line = 0; projection = record { distance = 0; at = 0; sector = None } }

pub rank_at : (seen : List SeenLine) (i : ℕ) → i < length seen
    → get_or (ranks_of seen) i (get_or seen i no_line).line ≡ (get_or seen i no_line).line
rank_at seen i within = get_or-map (λ one. one.line) seen i no_line _ within

-- one that comes later isn't among the first ones
pub not_before : (ranks : List ℕ) (i rank : ℕ) → i < length ranks → get_or ranks i rank ≡ rank
    → AllPairs (λ a b. a ≢ b) ranks → Contains (take i ranks) rank → ⊥
not_before ranks i rank within at once (k, inside, is) =
    let less : k < i = omega (arith, length-take i ranks) in
    once k i rank less within (sym (get_or-take i ranks k rank less) ∙ is ∙ sym at)

-- ---- the lines that were tested

module _ (query : Query) (lines : List RoadLine) (reach : ℕ) where
  -- none
  pub none_seen : AreSeenAmong query lines reach [] []
  none_seen = record {
    only = All-nil _;
    once = λ i j d lt inside. absurd (omega arith);
    among = All-nil _;
    each = λ rank projection is. absurd (omega (arith, is.1));
  }

  -- one more
  module _ (ranks : List ℕ) (rank : ℕ) (seen : List SeenLine)
      (are : AreSeenAmong query lines reach ranks seen) where
    among_still : All (λ r. Contains (ranks ++ rank ∷ []) r) (ranks_of seen)
    among_still k d inside = still_seen ranks rank _ (are.among k d inside)

    -- that is farther away
    pub seen_still : ((projection : Projection) → Projects query lines rank projection
        → 100 * reach < projection.distance)
        → AreSeenAmong query lines reach (ranks ++ rank ∷ []) seen
    seen_still far = record {
      only = are.only;
      once = are.once;
      among = among_still;
      each = λ other projection is at near. elim (one_seen ranks rank is) [
        | inl before ↦ are.each other projection before at near
        | inr same ↦ absurd (omega (arith, near, far projection (rw (← same) at)))
      ];
    }

    -- that is near enough
    pub seen_more : (projection : Projection) → (Contains ranks rank → ⊥)
        → IsSeen (coordinates_of query.plane) query.point query.is_last lines reach
        (record { line = rank; projection = projection })
        → AreSeenAmong query lines reach (ranks ++ rank ∷ [])
        (seen ++ record { line = rank; projection = projection } ∷ [])
    seen_more projection unseen is =
        let one : SeenLine = record { line = rank; projection = projection } in
        let more = map_push (λ (s : SeenLine). s.line) seen one in record {
          only = All-push (IsSeen (coordinates_of query.plane) query.point query.is_last lines reach)
              seen one are.only is;
          once = rw more (differ_more (ranks_of seen) rank are.once
              (λ there. unseen (All-contains (λ r. Contains ranks r) _ _ are.among there)));
          among = rw more (All-push (λ r. Contains (ranks ++ rank ∷ []) r) (ranks_of seen) rank
              among_still (now_seen ranks rank));
          each = λ other found is_other at near. rw more (elim (one_seen ranks rank is_other) [
            | inl before ↦ Contains-append_left _ _ _ (are.each other found before at near)
            | inr same ↦ rw same (Contains-push (ranks_of seen) rank)
          ]);
        }

  -- all of them around the point
  pub all_seen : (ranks : List ℕ) (seen : List SeenLine) → HoldAllWithin query lines reach ranks
      → AreSeenAmong query lines reach ranks seen → Sees query lines reach seen
  all_seen ranks seen covers are = record {
    only = are.only;
    covers = record {
      once = are.once;
      known = λ k d inside.
          All-contains (λ r. r < length lines) _ _ covers.known (are.among k d inside);
      each = λ rank projection at near.
          are.each rank projection (covers.each rank projection at near) at near;
    };
  }

-- ---- the points of a reference

pub seen_by : {tolerances : Tolerances} {reference : Reference} {index : ℕ} {query : Query}
    (lines : List RoadLine) (reach : ℕ) (seen : List SeenLine)
    → IsQueryOf tolerances reference index query → AreSeenFrom reference lines index reach seen
    → Sees query lines reach seen
seen_by {query = query} lines reach seen is from =
    let first : is.first ≡ from.first = cc in
    let point : query.point ≡ from.point = cc in
    rw (is.plane_is, is.last_is, first, point) from.just

-- the lines seen from a point serve each radius up to their reach
pub sees_radius : {tolerances : Tolerances} {reference : Reference} {index : ℕ} {query : Query}
    (lines : List RoadLine) (around : Surroundings) (seen : List SeenLine)
    → IsQueryOf tolerances reference index query → tolerances.radius ≤ around.reach
    → AreSurroundings reference lines around → slice_get (seen_of around) index ≡ Some seen
    → SeesRadius query lines seen
sees_radius lines around seen is at_most are at = (
  around.reach,
  omega (arith, at_most, ap (λ (t : Tolerances). t.radius) is.tolerances_is),
  seen_by _ _ _ is (are.each _ _ at),
)

-- the lines seen from the point of an index
pub seen_at : (around : Surroundings) (index : ℕ) (one : Vec SeenLine) (seen : List SeenLine)
    → one ≡ get_or around.points.items index one → seen ≡ one.items
    → index < length around.points.items → slice_get (seen_of around) index ≡ Some seen
seen_at around index one seen is items within =
    slice_get-map (λ v. v.items) around.points.items index
    ∙ ap (option_map (λ v. v.items)) (slice_get-get_or around.points.items index one within)
    ∙ cc

pub seen_count : (around : Surroundings) → length (seen_of around) ≡ length around.points.items
seen_count around = length-map around.points.items (λ v. v.items)
