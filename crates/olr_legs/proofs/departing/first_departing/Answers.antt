use Rattle.std.proofs.Common.{◌≡◌, ℕ, ◌+◌, ◌∙◌, ap, arith, refl, sym}
use Rattle.olr_road.specs.declared.place.Place.{Place}
use Rattle.olr_route.specs.Steps.{rest_of_line}
use Rattle.std.proofs.lemmas.Option.{same_Some}
use Rattle.olr_legs.specs.declared.way.Way.{Way}
use Rattle.olr_legs.specs.Search.{from_of}
use Rattle.olr_legs.proofs.Trying.{tried_all, trying_on, trying_over}
use Rattle.olr_legs.proofs.Turns.{head_length, starts_there, turn_to}
use Rattle.olr_legs.proofs.departing.first_departing.Goals as goal

pub loop-next-preserved-then-banned : goal.loop-next-preserved-then-banned
loop-next-preserved-then-banned c =
    let from : c.asked.result.1 ≡ from_of c.args.search.now = ap (λ a. a.1) c.asked.ensures in
    trying_over _ _ _ _ _ c.loop-next.invariant _ refl
    (λ turn. absurd (turn.allowed (rw from at c.if-banned.ensures)))

pub loop-next-preserved-in_default : goal.loop-next-preserved-in_default
loop-next-preserved-in_default c =
    trying_over _ _ _ _ _ c.loop-next.invariant _ refl
    (λ _ way has within. absurd (let none = c.in_default.ensures.value in cc))

pub overflow_sub-search : goal.overflow_sub-search
overflow_sub-search c =
    (c.requires.sound _ c.in-Some.way.now (sym c.in-Some.ensures.value)).within

pub loop-next-preserved-then-rest-search : goal.loop-next-preserved-then-rest-search
loop-next-preserved-then-rest-search c =
    let search = c.args.search.now in
    let from : c.asked.result.1 ≡ from_of search = ap (λ a. a.1) c.asked.ensures in
    let row = rw from at c.line-row.ensures.line in
    let rest : c.from-rest.result ≡ rest_of_line search.map.now (from_of search) =
    omega (
      arith,
      c.from-rest.ensures,
      head_length search.map.now _ _ row,
      ap (λ (p : Place). p.at) from,
    ) in
    trying_over _ _ _ _ _ c.loop-next.invariant _ refl
    (λ _ way has within. absurd (let same : c.in-Some.way.now.length ≡ way.length =
    ap (λ (w : Way). w.length) (same_Some c.in-Some.way.now way (c.in-Some.ensures.value ∙ has)) in
    omega (arith, c.if-rest-search.true)))

pub loop-next-preserved : goal.loop-next-preserved
loop-next-preserved c =
    let search = c.args.search.now in
    let from : c.asked.result.1 ≡ from_of search = ap (λ a. a.1) c.asked.ensures in
    let row = rw from at c.line-row.ensures.line in
    let rest : c.from-rest.result ≡ rest_of_line search.map.now (from_of search) =
    omega (
      arith,
      c.from-rest.ensures,
      head_length search.map.now _ _ row,
      ap (λ (p : Place). p.at) from,
    ) in
    let within = (c.requires.sound _ c.in-Some.way.now (sym c.in-Some.ensures.value)).within in
    let first = c.first_of.ensures in
    trying_on _ _ _ c.requires.sound (c.if-not-may_depart.ensures.0 refl) _ _ c.loop-next.invariant _ refl
    (turn_to search.map.now _ _ row _
    (c.lines_from-lines.ensures.lines.only c.loop-next.next-index 0 c.loop-next-test.true)
    (rw from at c.if-banned.ensures)) c.in-Some.way.now _
    _ (sym c.in-Some.ensures.value)
    (omega (arith, within, c.if-rest-search.false))
    (ap (λ (r : ℕ). r + c.in-Some.way.now.length) rest) c.in_ok-behind.ensures first.other first.best first.either

pub returns : goal.returns
returns c =
    let from : c.asked.result.1 ≡ from_of c.args.search.now = ap (λ a. a.1) c.asked.ensures in
    let row = rw from at c.line-row.ensures.line in
    tried_all _ _ _ _ _ _ c.loop-next.invariant c.lines_from-lines.ensures.lines
    c.loop-next-test.false (starts_there c.args.search.now.map.now _ _ row)
