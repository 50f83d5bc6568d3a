use Rattle.std.proofs.Common.{sym}
use Rattle.serde_json.specs.View.{view}
use Rattle.olr_confidence.proofs.file.range_of.Goals as goal

pub returns-clause-found : goal.returns-clause-found
returns-clause-found c = record {
  member = view c.in_ok-member.member.now;
  member_is = sym c.in_ok-member.ensures;
  is_range = c.in-Some.ensures.found;
}
