use Rattle.olr_app.proofs.Common.{Bans, Lines, Nodes, inl, inr, refl}
use Rattle.olr_app.specs.Legs.{as_match}
use Rattle.olr_app.proofs.Accepts.{none_refused, passed_on}
use Rattle.olr_app.proofs.LegsLeave.{leaves_file, map_leaves, refused_leaves}
use Rattle.olr_app.proofs.Single.{exit}
use Rattle.olr_app.proofs.legs_run.run_legs.Goals as goal

-- ---- the request is refused

pub returns-in_err-accepted-clause-refused : goal.returns-in_err-accepted-clause-refused
returns-in_err-accepted-clause-refused g c =
    passed_on {request = as_match c.args.asked.now} c.in_err-accepted.ensures.only
    (exit c.from_residual.ensures.1)

pub returns-in_err-accepted-clause-fault : goal.returns-in_err-accepted-clause-fault
returns-in_err-accepted-clause-fault g c =
    rw (exit c.from_residual.ensures.1) (inl (c.in_err-accepted.ensures.accepted, refl))

pub returns-in_err-accepted-clause-nodes_source : goal.returns-in_err-accepted-clause-nodes_source
returns-in_err-accepted-clause-nodes_source g c = rw (exit c.from_residual.ensures.1)
    (refused_leaves g.S1.Source.left g.S1.Source.failed c.args.nodes.now Nodes c.args.asked.now _
    c.in_err-accepted.ensures.accepted)

pub returns-in_err-accepted-clause-lines_source : goal.returns-in_err-accepted-clause-lines_source
returns-in_err-accepted-clause-lines_source g c = rw (exit c.from_residual.ensures.1)
    (refused_leaves g.S2.Source.left g.S2.Source.failed c.args.lines.now Lines c.args.asked.now _
    c.in_err-accepted.ensures.accepted)

pub returns-in_err-accepted-clause-bans_source : goal.returns-in_err-accepted-clause-bans_source
returns-in_err-accepted-clause-bans_source g c = rw (exit c.from_residual.ensures.1)
    (refused_leaves g.S3.Source.left g.S3.Source.failed c.args.bans.now Bans c.args.asked.now _
    c.in_err-accepted.ensures.accepted)

-- ---- the files have no map

pub returns-in_err-map-clause-refused : goal.returns-in_err-map-clause-refused
returns-in_err-map-clause-refused g c =
    none_refused {request = as_match c.args.asked.now} c.in_ok-accepted.ensures.only

-- ---- the map is read

pub returns-clause-refused : goal.returns-clause-refused
returns-clause-refused g c =
    none_refused {request = as_match c.args.asked.now} c.in_ok-accepted.ensures.only

pub returns-clause-nodes_source : goal.returns-clause-nodes_source
returns-clause-nodes_source g c = leaves_file g.S1.Source.left g.S1.Source.failed
    c.args.nodes.now c.read_map_with_bans.new.nodes Nodes g.O.Sink.taken g.O.Sink.failed
    g.O.Sink.put_gives g.O.Sink.flush_gives c.args.asked.now c.in_ok-accepted.accepted
    c.in_ok-map.map c.args.out.now c.write_legs.new.out c.in_ok-map.ensures.nodes_source
    c.write_legs.result c.write_legs.ensures.fault

pub returns-clause-lines_source : goal.returns-clause-lines_source
returns-clause-lines_source g c = leaves_file g.S2.Source.left g.S2.Source.failed
    c.args.lines.now c.read_map_with_bans.new.lines Lines g.O.Sink.taken g.O.Sink.failed
    g.O.Sink.put_gives g.O.Sink.flush_gives c.args.asked.now c.in_ok-accepted.accepted
    c.in_ok-map.map c.args.out.now c.write_legs.new.out c.in_ok-map.ensures.lines_source
    c.write_legs.result c.write_legs.ensures.fault

pub returns-clause-bans_source : goal.returns-clause-bans_source
returns-clause-bans_source g c = leaves_file g.S3.Source.left g.S3.Source.failed
    c.args.bans.now c.read_map_with_bans.new.bans Bans g.O.Sink.taken g.O.Sink.failed
    g.O.Sink.put_gives g.O.Sink.flush_gives c.args.asked.now c.in_ok-accepted.accepted
    c.in_ok-map.map c.args.out.now c.write_legs.new.out c.in_ok-map.ensures.bans_source
    c.write_legs.result c.write_legs.ensures.fault
