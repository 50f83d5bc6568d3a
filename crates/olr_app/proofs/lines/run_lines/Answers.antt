use Rattle.olr_app.proofs.Common.{Bans, Lines, Nodes}
use Rattle.olr_app.proofs.LinesLeave.{leaves_file}
use Rattle.olr_app.proofs.lines.run_lines.Goals as goal

pub returns-clause-nodes_source : goal.returns-clause-nodes_source
returns-clause-nodes_source g c =
    leaves_file g.S1.Source.left g.S1.Source.failed g.O.Sink.taken g.O.Sink.failed
    g.O.Sink.put_gives g.O.Sink.flush_gives c.args.asked.now c.in_ok-map.map c.args.out.now
    c.write_lines.new.out c.args.nodes.now c.read_map_with_bans.new.nodes Nodes
    c.in_ok-map.ensures.nodes_source c.write_lines.result c.write_lines.ensures.fault

pub returns-clause-lines_source : goal.returns-clause-lines_source
returns-clause-lines_source g c =
    leaves_file g.S2.Source.left g.S2.Source.failed g.O.Sink.taken g.O.Sink.failed
    g.O.Sink.put_gives g.O.Sink.flush_gives c.args.asked.now c.in_ok-map.map c.args.out.now
    c.write_lines.new.out c.args.lines.now c.read_map_with_bans.new.lines Lines
    c.in_ok-map.ensures.lines_source c.write_lines.result c.write_lines.ensures.fault

pub returns-clause-bans_source : goal.returns-clause-bans_source
returns-clause-bans_source g c =
    leaves_file g.S3.Source.left g.S3.Source.failed g.O.Sink.taken g.O.Sink.failed
    g.O.Sink.put_gives g.O.Sink.flush_gives c.args.asked.now c.in_ok-map.map c.args.out.now
    c.write_lines.new.out c.args.bans.now c.read_map_with_bans.new.bans Bans
    c.in_ok-map.ensures.bans_source c.write_lines.result c.write_lines.ensures.fault
