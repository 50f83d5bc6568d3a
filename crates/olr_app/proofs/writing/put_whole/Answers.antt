use Rattle.olr_app.proofs.Common.{rules, ◌∙◌, ◌++◌, ◌<◌, [], refl, take, Appends, no_call, one_call}
use Rattle.olr_app.proofs.Taking.{taken_more}
use Rattle.olr_app.proofs.writing.put_whole.Goals as goal

pub loop-rest-init : goal.loop-rest-init
loop-rest-init g c =
    let old = g.O.Sink.taken c.args.out.now in
    let none : Appends old old [] = search rules in ([], refl, none, refl, no_call)

pub loop-rest-preserved : goal.loop-rest-preserved
loop-rest-preserved g c =
    let front = c.loop-rest.invariant.0 in
    let more = taken_more _ _ (g.O.Sink.taken c.put.new.self) c.args.bytes.now front
    c.loop-rest.rest.now c.in_ok-count.count c.loop-rest.invariant.1 c.loop-rest.invariant.2
    c.in_ok-count.ensures.takes in
    let positive : 0 < c.in_ok-count.count = search rules in (
      front ++ take c.in_ok-count.count c.loop-rest.rest.now,
      rw c.split_at.ensures.back more.0,
      more.1,
      c.in_ok-count.ensures.counts ∙ c.loop-rest.invariant.3,
      one_call c.in_ok-count.count c.loop-rest.invariant.4 c.in_ok-count.ensures.gives positive
          c.split_at.ensures.back,
    )
