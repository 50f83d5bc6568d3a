use Rattle.std.proofs.Common.{None, refl, inl, arith}
use Rattle.olr_records.proofs.Signs.{whole_begins, none_with_more}
use Rattle.olr_records.proofs.fields.number_within.Goals as goal

pub returns-in_default : goal.returns-in_default
returns-in_default c = λ n within. c.in_default.ensures.spelled n None
    (whole_begins _ _ _ within.number)

pub returns-in-Some-rest : goal.returns-in-Some-rest
returns-in-Some-rest c = λ n within. none_with_more _ _ _ _ _ c.in-Some-rest.is (inl (omega arith))
    c.in-Some.ensures.spelled (inl (n, within.number, refl))
