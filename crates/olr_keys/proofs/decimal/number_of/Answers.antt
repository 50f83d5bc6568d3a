use Rattle.olr_keys.proofs.Common.{◌≡◌, ℕ, ◌≤◌, ◌<◌, ◌^◌, List, sym, ap, ◌∙◌, arith, decimal, Result, Ok, parse-decimal}
use Rattle.std.specs.Str.Parse.{ParsesUnsigned}
use Rattle.olr_keys.proofs.Outcomes.{differ, same_ok}
use Rattle.olr_keys.proofs.decimal.number_of.Goals as goal

-- what `parse` gives for the text of a number of 16 bits
parsed : {E : Type 0} {most n : ℕ} {text : List ℕ} {r : Result ℕ E} → most < 2 ^ 16 → n ≤ most
    → text ≡ decimal n → ParsesUnsigned 16 10 text r → r ≡ Ok n
parsed {n} {text} {r} fits at_most same given =
    parse-decimal 16 n text r (omega arith) (omega arith) same given

pub returns-in_default : goal.returns-in_default
returns-in_default c n at_most same =
    c.in_default.not-Ok n (parsed (omega arith) at_most same c.parse.ensures.value.0)

pub returns-then-number-most : goal.returns-then-number-most
returns-then-number-most c n at_most same =
    grind (arith, same_ok, parsed (omega arith) at_most same c.parse.ensures.value.0)

pub returns-then-ne : goal.returns-then-ne
returns-then-ne c n at_most same =
    let is = same_ok _ n c.in-Ok.is
    (parsed (omega arith) at_most same c.parse.ensures.value.0) in
    differ (sym c.if-ne.true ∙ c.ne.ensures) (c.format.ensures.text ∙ ap decimal is ∙ sym same)
