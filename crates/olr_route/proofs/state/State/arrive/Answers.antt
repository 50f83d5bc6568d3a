use Rattle.olr_route.proofs.Common.{origins_of, IsStepOf, line_ranks, Step, HasArrived, IsDone, banned_at, items_in, node_length, ◌≡◌, ◌≢◌, ◌^◌, ℕ, List, length, None, Some, inl, inr, true, false, ap, subst, sym, ◌∙◌, refl, rules, arith, get, option_copied_mut, All, Contains, IsSome, nat_eq, option_map, slice_get, length-map, All-contains, length_of}
use Rattle.olr_route.proofs.Arrived.{arrived_done, by_parts, done_ahead, has_arrived, left_of}
use Rattle.olr_route.proofs.Lines.{end_inside, key_differs}
use Rattle.olr_route.proofs.Relaxing.{worth}
use Rattle.olr_route.proofs.Visiting.{done_before}
use Rattle.olr_route.proofs.state.State.arrive.Goals as goal

pub returns-then-is_none : goal.returns-then-is_none
returns-then-is_none c =
    let road = c.args.search.now.map.now in
    let self = c.args.self.now in
    let node = c.args.arrival.node in
    let visits = c.in_ok-banned.ensures in
    let kept = c.in_ok-insert.ensures in
    let aside = c.in_ok-keep_banned.ensures in
    let ahead = c.steps_from-steps.ensures.lines in
    let none : length_of self.starts.nodes node ≡ None = search rules in
    subst (λ s. HasArrived c.args.search.now c.args.arrival self s) (sym aside.same)
    (has_arrived c.args.search.now c.args.arrival c.requires.ends
    (end_inside road node c.args.arrival.line c.sound.ensures c.requires.ends) self _
    c.requires.nodes (IsDone road self) true
    (line_ranks c.steps_from-steps.result.now) (line_ranks c.in_ok-banned.banned.items)
    visits.visited (record {
      done = done_ahead road self c.requires.nodes;
      there = λ next among. let starts =
          All-contains (λ (r : ℕ). slice_get (origins_of road.lines) r ≡ Some node)
          (line_ranks c.steps_from-steps.result.now) next ahead.only among in (
            starts,
            by_parts road self.starts next None None
                ((c.requires.nodes.unreached node none).1 next starts)
                (ap (node_length (length_of self.starts.nodes)) starts ∙ none),
          );
      rest = λ next starts. inl (ahead.all next starts);
      reached = kept.here;
      node_here = subst IsSome (sym kept.here) refl;
      nodes_elsewhere = λ other differs. kept.elsewhere other differs
          ∙ ap (λ n. length_of n other) visits.same.0;
      banned_here = ap line_ranks aside.here;
      steps_here = subst (λ (l : List Step). All (IsStepOf road.lines) l) (sym aside.here)
          visits.steps;
      banned_elsewhere = λ other differs. aside.elsewhere other differs
          ∙ ap (λ b. get nat_eq b other) visits.same.1;
      few = omega (
        arith,
        length-map c.steps_from-steps.result.now (λ (s : Step). s.line),
        ap
            (λ o. worth (2 ^ 63) (option_map (λ (_ : ℕ). length (banned_at self node)) o)) none,
      );
    }))

pub returns-in_default : goal.returns-in_default
returns-in_default c =
    let self = c.args.self.now in
    let none = sym c.get_mut.ensures.value
    ∙ ap option_copied_mut c.in_default.is in
    let some : IsSome (length_of self.starts.nodes c.args.arrival.node) = search rules in
    subst (λ banned. HasArrived c.args.search.now c.args.arrival self
    (record self { banned = banned })) (sym c.get_mut.follows.holds-at-none)
    (arrived_done _ _ c.requires.ends _ c.requires.nodes
    (record { arrived = some; none_banned = none }))

pub try_turns-requires-2-clause-later : goal.try_turns-requires-2-clause-later
try_turns-requires-2-clause-later c = λ _ next among.
    let are = c.deref.ensures.value ∙ ap (λ steps. steps.items) c.replace-steps.ensures.value
    ∙ ap items_in c.in-Some.ensures.value in
    (c.requires.nodes.banned c.args.arrival.node next
    (rw are at among)).1

pub returns : goal.returns
returns c =
    let road = c.args.search.now.map.now in
    let self = c.args.self.now in
    let node = c.args.arrival.node in
    let kept = (c.get_mut.follows.holds c.replace-steps.new.dest).3 (search rules) in
    let mid = record self { banned = c.get_mut.follows.lender c.replace-steps.new.dest } in
    let visits = c.in_ok-banned-2.ensures in
    let aside = c.in_ok-keep_banned-2.ensures in
    let are = c.deref.ensures.value ∙ ap (λ steps. steps.items) c.replace-steps.ensures.value
    ∙ ap items_in c.in-Some.ensures.value in
    let some : IsSome (length_of self.starts.nodes node) = search rules in
    let elsewhere = λ (other : ℕ) (differs : other ≢ node). kept.2 other
    (key_differs _ _ differs) in
    let still_none : (other : ℕ) → get nat_eq mid.banned other ≡ None
    → get nat_eq self.banned other ≡ None =
    λ other none. sym (elsewhere _
    (λ same. absurd (let here = ap (λ n. get nat_eq mid.banned n) (sym same) ∙ none in
    let some = kept.1 in cc))) ∙ none in
    subst (λ s. HasArrived c.args.search.now c.args.arrival self s) (sym aside.same)
    (has_arrived c.args.search.now c.args.arrival c.requires.ends
    (end_inside _ _ _ c.sound.ensures c.requires.ends) self _
    c.requires.nodes (IsDone road mid) false
    (line_ranks c.deref.result.now) (line_ranks c.in_ok-banned-2.banned.items) visits.visited
    (record {
      done = λ next is. done_ahead _ _ c.requires.nodes _
          (done_before _ self mid refl still_none next is);
      there = λ next among. let was =
          c.requires.nodes.banned node next
          (subst (λ (l : List Step). Contains (line_ranks l) next) are among) in
          (was.0, by_parts road self.starts next (Some None) _ was.1 refl);
      rest = λ next starts. elim (c.requires.nodes.reached node next some starts) [
        | inl known ↦ inr (known, ap (λ n. length_of n node) visits.same.0)
        | inr aside ↦ inl (subst (λ (l : List Step). Contains (line_ranks l) next) (sym are) aside)
      ];
      reached = refl;
      node_here = subst (λ n. IsSome (length_of n node)) (sym visits.same.0) some;
      nodes_elsewhere = λ other differs. ap (λ n. length_of n other) visits.same.0;
      banned_here = ap line_ranks aside.here;
      steps_here = subst (λ (l : List Step). All (IsStepOf road.lines) l) (sym aside.here)
          visits.steps;
      banned_elsewhere = λ other differs. aside.elsewhere other differs
          ∙ ap (λ b. get nat_eq b other) visits.same.1 ∙ elsewhere other differs;
      few = omega (
        arith,
        ap (λ (l : List Step). length (line_ranks l)) are,
        left_of (2 ^ 63)
            (length (banned_at self node)) (length_of self.starts.nodes node) some,
      );
    }))

pub try_turns-requires-2-clause-steps : goal.try_turns-requires-2-clause-steps
try_turns-requires-2-clause-steps c =
    let are = c.deref.ensures.value ∙ ap (λ steps. steps.items) c.replace-steps.ensures.value
    ∙ ap items_in c.in-Some.ensures.value in
    rw (sym are) at (c.requires.nodes.steps c.args.arrival.node)
