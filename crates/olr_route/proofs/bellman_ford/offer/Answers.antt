use Rattle.olr_route.proofs.Common.{arith, get, nat_eq, length_of}
use Rattle.olr_route.proofs.Arrived.{own_length}
use Rattle.olr_route.proofs.Relaxing.{IsShorter, lowered}
use Rattle.olr_route.proofs.Lines.{key_differs}
use Rattle.olr_route.proofs.bellman_ford.offer.Goals.{in-Some+else-known-offered, in_default}
use Rattle.olr_route.proofs.bellman_ford.offer.Goals as goal

pub returns-clause-lowered : goal.returns-clause-lowered
returns-clause-lowered c =
    let shorter : IsShorter c.args.offered c.length_to.result =
    λ bound within. elim c.match-length_to.branch [
      | in-Some+else-known-offered w ↦ omega
          (arith, rw w.in-Some.is at within, w.if-known-offered.false)
      | in_default w ↦ absurd (rw w.in_default.is at within)
    ] in
    lowered _ _ (record { nodes = c.args.starts.now.nodes; own = c.insert.new.self })
    c.requires.sound _ _ c.requires.line c.requires.limit c.requires.reached
    (rw c.length_to.ensures at shorter)
    (own_length c.args.search.now.map.now (length_of c.args.starts.now.nodes)
    (get nat_eq c.insert.new.self) _ _ c.in_ok-insert.ensures.updates.1)
    (λ other differs. own_length c.args.search.now.map.now (length_of c.args.starts.now.nodes)
    (get nat_eq c.insert.new.self) other _
    (c.in_ok-insert.ensures.updates.2 other (key_differs c.args.line other differs)))
