use Rattle.olr_map.proofs.Common.{Degrees, coordinates_of, nodes_of, List, map, refl, ap, line_of}
use Rattle.olr_map.proofs.LineFaults.{stops_late}
use Rattle.olr_map.proofs.lines.LineFileTableFile.add.Goals as goal

pub returns-in_ok-push-in-Ok-2-clause-added : goal.returns-in_ok-push-in-Ok-2-clause-added
returns-in_ok-push-in-Ok-2-clause-added c =
    let read = rw c.in-Ok.is at c.in_ok-line.ensures in
    let shape = ap (λ (l : List Degrees). map coordinates_of l) c.deref.ensures.value in
    let points = ap (λ (l : List Degrees). map coordinates_of l) c.deref-in-Ok-2.ensures.value in
    let line = rw c.in-Ok-2.is at
    (c.in_ok-line-2.ensures.line (nodes_of c.args.self.now.nodes.now) c.args.row.now
    (rw shape read.0) read.1) in (
      record {
        row = line_of c.in-Ok-2.line (map coordinates_of c.deref-in-Ok-2.result.now);
        is = rw points line;
        rows = c.in_ok-push-in-Ok-2.ensures.ok;
      },
      tt,
    )

pub returns-in-Err-2-clause-added : goal.returns-in-Err-2-clause-added
returns-in-Err-2-clause-added c =
    let read = rw c.in-Ok.is at c.in_ok-line.ensures in
    let shape = ap (λ (l : List Degrees). map coordinates_of l) c.deref.ensures.value in
    let fault = rw c.in-Err-2.is at
    (c.in_ok-line-2.ensures.line (nodes_of c.args.self.now.nodes.now) c.args.row.now
    (rw shape read.0) read.1) in
    let size = c.count-number.ensures.count in
    record { rows = refl; stops = stops_late refl c.requires.room read.0 (rw (← size) fault) }
