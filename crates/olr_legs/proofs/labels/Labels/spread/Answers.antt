use Rattle.std.proofs.Common.{ℕ, ◌∙◌, arith, subst, sym}
use Rattle.olr_route.specs.Walk.{start_of}
use Rattle.olr_legs.specs.Search.{LeadsOn}
use Rattle.olr_legs.proofs.labels.Labels.spread.Goals as goal

pub go_back-requires-clause-way : goal.go_back-requires-clause-way
go_back-requires-clause-way c =
    let way = c.in-Some.way.now in (
      way.behind.items,
      c.deref.ensures.value ∙ c.in_ok-behind.ensures,
      subst (λ (long : ℕ). LeadsOn c.args.search.now (start_of c.args.line) long way.behind.items)
          (omega arith) (c.requires.sound c.args.line way (sym c.in-Some.ensures.value)),
    )
