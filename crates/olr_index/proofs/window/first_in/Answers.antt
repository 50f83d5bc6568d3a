use Rattle.olr_index.proofs.Common.{sym, nil_from_length}
use Rattle.olr_index.proofs.Meeting.{ranks_in-nil, ranks_in-met, ranks_in-passed}
use Rattle.olr_index.proofs.window.first_in.Goals as goal

pub loop-line-preserved : goal.loop-line-preserved
loop-line-preserved c =
    cc (ranks_in-passed _ _ _ c.in-Some.ensures.cases.0 (sym c.if-meets.ensures))

pub returns-then-meets : goal.returns-then-meets
returns-then-meets c = cc (ranks_in-met _ _ _ c.in-Some.ensures.cases.0 (sym c.if-meets.ensures))

pub returns : goal.returns
returns c = cc (c.loop-line.invariant, nil_from_length _ c.in_default.ensures.cases, ranks_in-nil _)
