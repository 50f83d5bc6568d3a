-- The tight turns from the end of a place's line, by the groups of lines.
use Rattle.std.specs.List.{AllWithin, HoldsAt}
use Rattle.olr_route.proofs.Common.{RoadMap, Place, Groups, Search, group_of, rest_of_line, IsAllowed, IsOpen, EndsAt, ◌≡◌, ℕ, ◌+◌, ◌<◌, ◌≤◌, Bool, true, false, List, [], length, get_or, Option, None, Some, sym, subst, refl, ◌∙◌, arith, Contains, MatchBool, Contains-get_or, same_Some, AreGroups, AreTightAhead, HasUpTo, IsFirstTight, IsTightIn}
use Rattle.olr_route.proofs.Lines.{starts_there, turn_there}

-- ---- one group

-- tight turns lead to the group of the line's end and the length there
pub group_ahead : (search : Search) (place : Place) (so_far : ℕ) (groups : Groups)
    → AreGroups search groups → (node : ℕ) → EndsAt search.map.now node place.line
    → IsOpen search.map.now search.class place.line → (at_end : ℕ)
    → at_end ≡ so_far + rest_of_line search.map.now place
    → AreTightAhead search groups place so_far (group_of groups node at_end)
group_ahead search place so_far groups are node ends clear at_end long = record {
  only = λ next is allowed. record {
    clear = clear;
    turn = turn_there search.map.now place.line node ends _ (are node at_end next is).0 allowed;
    least = (node, rw long at is);
  };
  each = λ next tight.
      let starts = (are tight.least.0 (so_far + rest_of_line search.map.now place) next
      tight.least.1).0 in
      let here =
      same_Some tight.least.0 node (sym starts
      ∙ starts_there search.map.now place.line node ends _ tight.turn) in
      rw here at (subst (λ (w : ℕ). Contains (group_of groups tight.least.0 w) next) (sym long)
      tight.least.1);
}

-- there are none where the end isn't reached within the limit
pub none_ahead : (search : Search) (place : Place) (so_far : ℕ) (groups : Groups)
    → AreGroups search groups
    → (IsOpen search.map.now search.class place.line
    → search.limit < so_far + rest_of_line search.map.now place)
    → AreTightAhead search groups place so_far []
none_ahead search place so_far groups are beyond = record {
  only = λ next is. absurd (omega arith);
  each = λ next tight. absurd (omega (
    arith,
    beyond tight.clear,
    (are tight.least.0 (so_far + rest_of_line search.map.now place)
        next tight.least.1).1,
  ));
}

-- ---- a loop over some lines

-- a rank is less than one that is found, if it is no greater than the rank
pub lesser : (found : Option ℕ) (rank other : ℕ) → (HasUpTo found rank → ⊥) → HasUpTo found other
    → rank ≤ other
lesser None rank other none is = absurd is
lesser (Some least) rank other none is = omega arith

module _ (search : Search) (groups : Groups) (place : Place) (so_far : ℕ) (ahead : List ℕ)
    (are : AreTightAhead search groups place so_far ahead) where
  abbrev road : RoadMap
  road = search.map.now

  -- what going over these lines up to the first turn that isn't banned says of the tight ones
  pub tight_found : (found : Bool)
      → MatchBool found ((k : ℕ) × (k < length ahead)
      × HoldsAt (λ next. IsAllowed road place.line next) ahead k)
      (AllWithin (λ next. IsAllowed road place.line next → ⊥) ahead 0 (length ahead))
      → MatchBool found ((next : ℕ) × IsTightIn search groups place so_far next) ((next : ℕ)
      → IsTightIn search groups place so_far next → ⊥)
  tight_found true (k, inside, allowed) =
      (get_or ahead k 0, are.only (get_or ahead k 0) (Contains-get_or ahead k 0 inside) (allowed 0))
  tight_found false none = λ next tight. let at = are.each next tight in
      none at.0 next (omega arith) at.1 (rw at.2 tight.turn.allowed)

  pub least_over : (first : Option ℕ)
      → ((rank : ℕ) → first ≡ Some rank → Contains ahead rank × IsAllowed road place.line rank)
      → ((k d : ℕ) → k < length ahead → IsAllowed road place.line (get_or ahead k d)
      → HasUpTo first (get_or ahead k d)) → IsFirstTight search groups place so_far first
  least_over None among least = λ next tight. let at = are.each next tight in
      least at.0 next at.1 (rw at.2 tight.turn.allowed)
  least_over (Some rank) among least =
      let here = among rank refl in (
        are.only rank here.0 here.1,
        λ next tight. let at = are.each next tight in
            rw (sym at.2) (least at.0 next at.1 (rw at.2 tight.turn.allowed)),
      )
