use Rattle.std.proofs.Common.{arith, refl, Some, None}
use Rattle.std.proofs.lemmas.Str.Pattern.{split_once_first}
use Rattle.olr_messages.proofs.Tabs.{at_tab, no_tab}
use Rattle.olr_messages.proofs.content.split_at_tab.Goals as goal

pub returns-in-Some : goal.returns-in-Some
returns-in-Some c =
    let parts = split_once_first 9 c.args.whole.now (Some (c.in-Some.key, c.in-Some.text))
    c.in-Some.ensures.cases (omega arith) in
    at_tab _ parts.0 parts.1 parts.2

pub returns-in-None : goal.returns-in-None
returns-in-None c = (
  refl,
  no_tab _ (split_once_first 9 c.args.whole.now None c.in-None.ensures.cases (omega arith)),
)
