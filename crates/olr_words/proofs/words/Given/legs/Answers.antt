use Rattle.std.proofs.Common.{◌≡◌, ◌≤◌, false, subst, sym, true}
use Rattle.olr_words.proofs.words.Given.legs.Goals as goal

pub returns-in_default-clause-refused : goal.returns-in_default-clause-refused
returns-in_default-clause-refused c = (
  (c.in_ok-tolerances.tolerances, c.in_ok-tolerances.ensures.accepted),
  λ within. let no : false ≡ true = c.in_default.ensures.range.1
      (subst (λ n. n ≤ 100) (sym c.unwrap_or.ensures) within) in absurd cc,
)
