use Rattle.olr_batch.proofs.Common.{rules, [], refl, no_call}
use Rattle.olr_batch.proofs.answering.pass_on_unless.Goals as goal

pub returns-in_default-clause-fault : goal.returns-in_default-clause-fault
returns-in_default-clause-fault g c = (
  refl,
  record {
    front = [];
    rest = [];
    before = c.args.out.now;
    split = refl;
    handed = no_call;
    taken_before = search rules;
    none_failed = refl;
    last_call = search rules;
    taken_now = search rules;
  },
)
