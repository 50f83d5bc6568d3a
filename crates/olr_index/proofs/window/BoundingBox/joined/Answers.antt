use Rattle.std.proofs.Common.{rules}
use Rattle.olr_index.proofs.Spans.{least_covers, greatest_covers}
use Rattle.olr_index.proofs.window.BoundingBox.joined.Goals as goal

pub returns : goal.returns
returns c =
    let souths = least_covers (search rules) (search rules) (search rules) c.min.ensures.value in
    let norths = greatest_covers (search rules) (search rules) (search rules) c.max.ensures.value in
    let wests = least_covers (search rules) (search rules) (search rules) c.min-2.ensures.value in
    let easts = greatest_covers (search rules) (search rules) (search rules)
    c.max-2.ensures.value in
    record {
      first = record { south = souths.0; north = norths.0; west = wests.0; east = easts.0 };
      second = record { south = souths.1; north = norths.1; west = wests.1; east = easts.1 };
    }
