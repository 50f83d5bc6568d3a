use Rattle.std.proofs.Common.{None, inl, arith}
use Rattle.olr_records.proofs.Signs.{whole_begins, none_with_more}
use Rattle.olr_records.proofs.fields.latitude_of.Goals as goal

pub returns-in_default : goal.returns-in_default
returns-in_default c = λ lat spelled. c.in_default.ensures lat None (whole_begins _ _ _ spelled)

pub returns-in-Some-rest : goal.returns-in-Some-rest
returns-in-Some-rest c = λ lat spelled. none_with_more _ _ _ _ _ c.in-Some-rest.is
    (inl (omega arith)) c.in-Some.ensures spelled.number
