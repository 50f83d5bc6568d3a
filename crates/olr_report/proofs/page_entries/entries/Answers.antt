use Rattle.olr_report.proofs.Common.{◌∙◌, length, arith, length_push}
use Rattle.std.proofs.lemmas.Slice.Zip.{zip_turn, zip_end}
use Rattle.olr_report.proofs.PageEntries.{with_entry, all_entries}
use Rattle.olr_report.proofs.page_entries.entries.Goals as goal

pub loop-key-preserved : goal.loop-key-preserved
loop-key-preserved c =
    let keys = c.args.page.now.keys.items in
    let turn = zip_turn keys c.args.matched.now c.loop-key.yielded c.into_iter-key-iterator.result
    c.loop-key.key-iterator c.next.new.self c.next.result
    (cc) (cc) c.loop-key.yielded_by (c.in-Some.key, c.in-Some.matched) c.in-Some.is
    c.next.ensures.steps in
    let done = c.in_ok-entry.ensures in
    let entry = c.in_ok-entry.entry in
    with_entry c.args.reference.now keys c.args.matched.now c.loop-key.entries.items
    (length c.loop-key.yielded) c.push.new.self.items entry _
    turn.0 turn.1 (length_push c.loop-key.yielded (c.in-Some.key, c.in-Some.matched)) (done.key
    ∙ turn.2 entry.key.now)
    (cc (turn.3 entry.matched.now)) done.entry c.in_ok-push.ensures.items c.loop-key.invariant

pub returns : goal.returns
returns c =
    let keys = c.args.page.now.keys.items in
    let ended = zip_end keys c.args.matched.now c.loop-key.yielded c.into_iter-key-iterator.result
    c.loop-key.key-iterator c.next.new.self c.next.result
    (cc) (cc) c.loop-key.yielded_by c.in-None.is c.next.ensures.steps in
    all_entries c.args.reference.now keys c.args.matched.now c.loop-key.entries.items
    (length c.loop-key.yielded)
    (omega (arith, ended, c.requires.one_each)) (omega (arith, ended, c.requires.one_each))
    c.loop-key.invariant
