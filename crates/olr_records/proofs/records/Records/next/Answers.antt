use Rattle.olr_records.proofs.Common.{◌≡◌, Bool, true, false, not}
use Rattle.csv.specs.Records.{fields_of}
use Rattle.olr_records.proofs.ReaderSteps.{read_one, plain_ready, after_read}
use Rattle.olr_records.proofs.records.Records.next.Goals as goal

found_if : (b : Bool) → not b ≡ false → b ≡ true
found_if true e = cc
found_if false e = absurd cc

pub invariant_of-self-2 : goal.invariant_of-self-2
invariant_of-self-2 c = λ goes.
    let plain = c.self.invariant c.if-self.false in
    let h = c.in-Ok.ensures in
    let step = read_one _ _ _ (fields_of c.read_byte_record.new.row) plain
    (h.reads plain.untrimmed (plain_ready c.self.inside.reader plain)) (h.ready plain.untrimmed)
    h.goes h.flexible in
    step.0 (found_if _ goes)

pub returns-clause-found : goal.returns-clause-found
returns-clause-found c =
    let plain = c.self.invariant c.if-self.false in
    let h = c.in-Ok.ensures in
    after_read _ _ _ _ _ c.if-self.false c.self.view_is
    (read_one _ _ _ _ plain (h.reads plain.untrimmed (plain_ready c.self.inside.reader plain))
    (h.ready plain.untrimmed) h.goes h.flexible).1
