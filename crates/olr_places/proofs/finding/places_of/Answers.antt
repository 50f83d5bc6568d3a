use Rattle.olr_places.proofs.Common.{answers_of, ArePlacesOf, IsOpenerAt, entry_of, length, sym, ap, subst, ◌∙◌, arith, length-map, All-weaker}
use Rattle.olr_places.proofs.Progress.{at_start, ended, enough, goes_on, no_more, position}
use Rattle.olr_places.proofs.finding.places_of.Goals as goal

pub loop-looking-init : goal.loop-looking-init
loop-looking-init c =
    let stands = c.new-looking.ensures c.args.limits.now in (
      rw (← c.table.ensures) c.in_ok-finder.ensures.answers,
      at_start _ stands,
      c.with_searches-routes.ensures,
      λ k d inside. absurd (omega (
        arith,
        length-map c.new-looking.result.openers.items entry_of,
        ap length stands.openers,
      )),
      omega arith,
    )

pub next-requires : goal.next-requires
next-requires c = rw c.as_ref.ensures.value (position c.loop-looking.invariant.1)

pub returns-then-looking-limits-clause-places : goal.returns-then-looking-limits-clause-places
returns-then-looking-limits-clause-places c =
    let found = enough c.loop-looking.invariant.1 c.loop-looking.invariant.0.rise
    (rw c.as_ref.ensures.value at c.in_ok-key.ensures.next) c.in-Some.is
    c.if-looking-limits.true in (
      answers_of c.loop-looking.finder.penalties,
      found.0,
      c.loop-looking.invariant.0,
      found.1,
      rw c.places.ensures found.2,
    )

pub returns-in-Some-2-clause-places : goal.returns-in-Some-2-clause-places
returns-in-Some-2-clause-places c =
    let found = ended c.loop-looking.invariant.1 c.loop-looking.invariant.0.rise
    (rw c.as_ref.ensures.value at c.in_ok-key.ensures.next) c.in-Some.is
    c.in_ok-opener.ensures.key (rw c.loop-looking.invariant.2 at c.in_ok-opener.ensures.entry)
    c.in-Some-2.ending (rw c.in-Some-2.is at c.in_ok-ending.ensures.looks) in (
      answers_of c.loop-looking.finder.penalties,
      found.0,
      c.loop-looking.invariant.0,
      found.1,
      subst (ArePlacesOf c.args.limits.now found.0) (sym c.places-in-Some-2.ensures) found.2,
    )

pub returns-in-Some-2-clause-openers : goal.returns-in-Some-2-clause-openers
returns-in-Some-2-clause-openers c = rw c.places-in-Some-2.ensures
    (c.in_ok-ending.ensures.openers c.args.map.now c.args.layers.now c.loop-looking.invariant.3
    (rw c.loop-looking.invariant.2 at c.in_ok-opener.ensures.entry))

pub returns-in-Some-2-clause-on_map : goal.returns-in-Some-2-clause-on_map
returns-in-Some-2-clause-on_map c = rw c.places-in-Some-2.ensures
    (All-weaker (IsOpenerAt c.args.map.now c.args.layers.now) _ (λ opener is. is.on_map) _
    (c.in_ok-ending.ensures.openers c.args.map.now c.args.layers.now c.loop-looking.invariant.3
    (rw c.loop-looking.invariant.2 at c.in_ok-opener.ensures.entry)))

pub loop-looking-preserved : goal.loop-looking-preserved
loop-looking-preserved c =
    let entry = rw c.loop-looking.invariant.2 at c.in_ok-opener.ensures.entry in
    let on = goes_on c.loop-looking.invariant.1 c.loop-looking.invariant.0.rise
    (rw c.as_ref.ensures.value at c.in_ok-key.ensures.next) c.in-Some.is
    c.in_ok-opener.ensures.key entry (rw c.in_default-2.is at c.in_ok-ending.ensures.looks) in (
      rw c.in_ok-key.ensures.same c.loop-looking.invariant.0,
      rw c.in_ok-key.ensures.same on,
      c.in_ok-opener.ensures.same ∙ c.loop-looking.invariant.2,
      c.in_ok-ending.ensures.openers c.args.map.now c.args.layers.now c.loop-looking.invariant.3
          entry,
      omega (arith, rw c.in_default-2.is at c.in_ok-ending.ensures.counts),
    )

pub returns-clause-places : goal.returns-clause-places
returns-clause-places c =
    let found = no_more c.loop-looking.invariant.1 c.loop-looking.invariant.0.rise
    (rw c.as_ref.ensures.value at c.in_ok-key.ensures.next) c.in_default.is in (
      answers_of c.loop-looking.finder.penalties,
      found.0,
      c.loop-looking.invariant.0,
      found.1,
      rw c.places-2.ensures found.2,
    )
