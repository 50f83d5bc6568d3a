use Rattle.std.proofs.Common.{◌≡◌, ◌++◌, ◌-◌, length, take, rules}
use Rattle.std.specs.Prelude.{replicate}
use Rattle.olr_route.proofs.Pages.{pages_wider, wider}
use Rattle.olr_route.proofs.node_lengths.NodeLengths.lengthen.Goals as goal

pub invariant_of-self : goal.invariant_of-self
invariant_of-self c =
    let pages = c.self.inside.pages.items in
    let more = c.resize.new.self.items in
    let is : more ≡ take c.args.count pages ++ replicate (c.args.count - length pages) 0 =
    search rules in
    pages_wider pages c.self.inside.lengths.items more
    (wider _ _ _ (search rules) is) c.self.invariant
