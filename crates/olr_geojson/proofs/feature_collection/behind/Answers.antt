use Rattle.std.proofs.lemmas.Str.Pattern.{strip_prefix_char}
use Rattle.olr_geojson.proofs.Members.{IsFound, begins, empty}
use Rattle.olr_geojson.proofs.feature_collection.behind.Goals as goal

pub returns : goal.returns
returns c =
    let found : IsFound c.args.first c.args.text c.strip_prefix.result =
    strip_prefix_char c.args.first c.args.text.now c.strip_prefix.result
    c.strip_prefix.ensures.cases c.requires in
    record {
      begins = λ rest is. rw c.unwrap_or.ensures (begins c.args.first c.args.text c.strip_prefix.result found rest is);
      empty = λ is. rw c.unwrap_or.ensures (empty c.args.first c.args.text c.strip_prefix.result found is);
    }
