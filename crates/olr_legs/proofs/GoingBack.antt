-- Going back from a line to the lines before it.
use Rattle.std.proofs.Common.{◌≡◌, ℕ, ◌+◌, ◌-◌, ◌<◌, ◌≤◌, List, ◌∷◌, arith, inl, inr, subst, sym, get_or, length}
use borrow.Author.Count.{below_more}
use Rattle.std.specs.Prelude.{Some, slice_get}
use Rattle.olr_index.specs.ByNode.{IsLinesOf}
use Rattle.olr_road.specs.RoadMap.{destinations_of}
use Rattle.olr_route.specs.Turn.{IsTurn}
use Rattle.olr_route.specs.Walk.{length_at, start_of}
use Rattle.olr_legs.specs.Labels.{AreKept, AreSettled, AreSettledBut, AreSound, IsKnownFrom, IsOffered, IsOver}
use Rattle.olr_legs.specs.Search.{LeadsOn, MayPrecede}
use Rattle.olr_legs.specs.declared.labels.Labels.{Labels}
use Rattle.olr_legs.specs.declared.search.Search.{Search}
use Rattle.olr_legs.proofs.Settling.{offered_settled, offered_sound}
use Rattle.olr_legs.proofs.Turns.{each_of}
use Rattle.olr_legs.proofs.Leading.{leads_from}

-- the walk over a line before, over which the search may go
leads_more : (search : Search) (line before long : ℕ) (rest : List ℕ)
    → LeadsOn search (start_of line) long rest → IsTurn search.map.now before line
    → MayPrecede search before (search.bound - long)
    → LeadsOn search (start_of before) (length_at search.map.now before + long) (line ∷ rest)
leads_more search line before long rest leads turn may =
    subst (λ l. LeadsOn search (start_of before) (l + long) (line ∷ rest))
    (let same : length_at search.map.now before - 0 ≡ length_at search.map.now before = omega arith in
    same) (leads_from search (start_of before) line long rest leads turn may.opened may.clear
    (omega (arith, may.within, leads.within)))

module _ (search : Search) (line long : ℕ) (behind lines : List ℕ) where
  -- the lines before were tried as far as this index
  pub record IsGoingBack (index : ℕ) (old new : Labels) : Type 0 where
    pub sound : AreSound search new
    pub kept : AreKept old new
    pub settled : AreSettledBut search new (IsOver line long behind)
    pub tried : (k : ℕ) → k < index → IsTurn search.map.now (get_or lines k 0) line
        → IsKnownFrom search new (get_or lines k 0) long behind

  pub going_begun : (labels : Labels) → AreSound search labels
      → AreSettledBut search labels (IsOver line long behind) → IsGoingBack 0 labels labels
  going_begun labels sound settled = record {
    sound = sound;
    kept = λ other far rest known. known;
    settled = settled;
    tried = λ k below. absurd (omega arith);
  }

  -- the next one is passed over
  pub going_over : (index : ℕ) (old new : Labels) → IsGoingBack index old new
      → (before : ℕ) → get_or lines index 0 ≡ before
      → (IsTurn search.map.now before line → IsKnownFrom search new before long behind)
      → IsGoingBack (index + 1) old new
  going_over index old new going before is known = record {
    sound = going.sound;
    kept = going.kept;
    settled = going.settled;
    tried = below_more
        (λ k. IsTurn search.map.now (get_or lines k 0) line
        → IsKnownFrom search new (get_or lines k 0) long behind) index going.tried
        (subst (λ b. IsTurn search.map.now b line → IsKnownFrom search new b long behind) (sym is)
        known);
  }

  -- the walk is offered to it
  pub going_on : (index : ℕ) (old now new : Labels) → IsGoingBack index old now
      → (rest : List ℕ) → behind ≡ line ∷ rest → LeadsOn search (start_of line) long rest
      → (before : ℕ) → get_or lines index 0 ≡ before
      → IsTurn search.map.now before line → MayPrecede search before (search.bound - long)
      → IsOffered before (length_at search.map.now before + long) behind now new
      → IsGoingBack (index + 1) old new
  going_on index old now new going rest over leads before is turn may offered =
      going_over index old new (record {
        sound = offered_sound search now new before (length_at search.map.now before + long) behind
            offered going.sound
            (subst (λ b. LeadsOn search (start_of before) (length_at search.map.now before + long) b)
            (sym over) (leads_more search line before long rest leads turn may));
        kept = λ other far some known. offered.kept other far some (going.kept other far some known);
        settled = offered_settled search now new before (length_at search.map.now before + long)
            behind offered (IsOver line long behind) going.settled;
        tried = λ k below there may_there. offered.kept _ _ _ (going.tried k below there may_there);
      }) before is (λ _ _. offered.known)

  known_of : (labels : Labels) (before far : ℕ) (over : List ℕ) → far ≡ long → over ≡ behind
      → IsKnownFrom search labels before long behind → IsKnownFrom search labels before far over
  known_of labels before far over same_far same_over known =
      subst (λ b. IsKnownFrom search labels before far b) (sym same_over)
      (subst (λ f. IsKnownFrom search labels before f behind) (sym same_far) known)

  -- all were tried
  pub gone_back : (index : ℕ) (old new : Labels) (node : ℕ) → IsGoingBack index old new
      → IsLinesOf (destinations_of search.map.now.lines) node lines → length lines ≤ index
      → ((before : ℕ) → IsTurn search.map.now before line
      → slice_get (destinations_of search.map.now.lines) before ≡ Some node)
      → AreSettled search new
  gone_back index old new node going are all ends other way is =
      elim (going.settled other way is) [
        | inl done ↦ done
        | inr same ↦ inr (λ before turn.
            let here = subst (λ l. IsTurn search.map.now before l) same.0.0 turn in
            known_of new before way.length (other ∷ way.behind.items) same.0.1 same.1
            (each_of (λ b. IsTurn search.map.now b line → IsKnownFrom search new b long behind)
            lines index going.tried all before (are.all before (ends before here)) here))
      ]
