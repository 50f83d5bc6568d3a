use Rattle.std.proofs.Common.{ℕ, ◌∷◌, ap, ◌∙◌}
use Rattle.olr_records.proofs.Signs.{none_plain, none_negative, is_negative}
use Rattle.olr_records.proofs.front.signed_before.Goals as goal

pub returns-in_default-number_before : goal.returns-in_default-number_before
returns-in_default-number_before c = none_plain _ c.in-Some.ensures.cases.0 c.if-first-ne45.true
    c.in_default-number_before.ensures.spelled

pub returns-in_default-number_before-2 : goal.returns-in_default-number_before-2
returns-in_default-number_before-2 c = none_negative _ (c.in-Some.ensures.cases.0
    ∙ ap (λ (b : ℕ). b ∷ c.in-Some.digits.now) c.if-first-ne45.false)
    c.in_default-number_before-2.ensures.spelled

pub returns : goal.returns
returns c =
    let found = c.in-Some-number_before-2 in
    is_negative _ _ (c.in-Some.ensures.cases.0
    ∙ ap (λ (b : ℕ). b ∷ c.in-Some.digits.now) c.if-first-ne45.false)
    found.ensures.spelled found.ensures.small
