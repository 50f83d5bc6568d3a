use Rattle.std.proofs.Common.{rules}
use Rattle.olr_tools.proofs.lengths.search.Goals as goal

pub add-requires-clause-held : goal.add-requires-clause-held
add-requires-clause-held c = search rules
