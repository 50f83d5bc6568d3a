use Rattle.olr_batch.proofs.Common.{exit, string_bytes}
use Rattle.olr_request.specs.declared.request.Query.TheVariants.{Reference}
use Rattle.olr_words.specs.Record.{parts_of}
use Rattle.olr_batch.proofs.Replies.{by_words, fault_by, fault_to, no_words, refused, reply_by}
use Rattle.olr_batch.proofs.reply.reply_to_request.Goals as goal

pub returns-in_err-answer-clause-fault : goal.returns-in_err-answer-clause-fault
returns-in_err-answer-clause-fault c = rw (exit c.from_residual.ensures.1)
    (fault_to c.args.confidence c.args.on.now.map.now c.args.text.now
    (Reference c.in-Some.request) _ c.in-Some.ensures c.in_err-answer.ensures.fault)

pub returns-in_err-words-clause-fault : goal.returns-in_err-words-clause-fault
returns-in_err-words-clause-fault c = rw (exit c.from_residual-in_err-words.ensures.1)
    (no_words c.args.confidence c.args.on.now.map.now c.args.text.now)

pub returns-in_err-query-clause-fault : goal.returns-in_err-query-clause-fault
returns-in_err-query-clause-fault c = rw (exit c.from_residual-in_err-query.ensures.1)
    (refused c.args.confidence c.args.on.now.map.now c.args.text.now
    (parts_of c.in_ok-words.words) c.in_ok-words.ensures _ c.in_err-query.ensures.fault)

pub returns-clause-answer : goal.returns-clause-answer
returns-clause-answer c =
    let asked = c.in_ok-query.ensures.asked in
    reply_by c.args.confidence c.args.on.now.map.now c.args.text.now c.in_ok-query.query
    (by_words c.args.confidence c.args.on.now.map.now c.args.text.now
    (parts_of c.in_ok-words.words) c.in_ok-words.ensures c.in_ok-query.query asked.0 asked.1
    asked.2) (λ answer. string_bytes answer) c.reply_to_query.result c.reply_to_query.ensures.answer

pub returns-clause-fault : goal.returns-clause-fault
returns-clause-fault c =
    let asked = c.in_ok-query.ensures.asked in
    fault_by c.args.confidence c.args.on.now.map.now c.args.text.now c.in_ok-query.query
    (by_words c.args.confidence c.args.on.now.map.now c.args.text.now
    (parts_of c.in_ok-words.words) c.in_ok-words.ensures c.in_ok-query.query asked.0 asked.1
    asked.2) (λ answer. string_bytes answer) c.reply_to_query.result c.reply_to_query.ensures.fault
