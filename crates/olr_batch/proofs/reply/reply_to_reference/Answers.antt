use Rattle.olr_batch.proofs.Common.{string_bytes, exit}
use Rattle.olr_batch.proofs.Replies.{answer_of, fault_of}
use Rattle.olr_batch.proofs.reply.reply_to_reference.Goals as goal

pub returns-in_err-request-clause-fault : goal.returns-in_err-request-clause-fault
returns-in_err-request-clause-fault c =
    let never = c.in_err-request.ensures.always in absurd cc

pub returns-in_err-answer-clause-fault : goal.returns-in_err-answer-clause-fault
returns-in_err-answer-clause-fault c =
    rw (exit c.from_residual-in_err-answer.ensures.1)
    (fault_of c.args.question.now c.args.on.now.map.now c.args.text c.in_ok-request.request _
    c.in_ok-request.ensures.asked c.in_err-answer.ensures.fault)

pub returns-clause-answer : goal.returns-clause-answer
returns-clause-answer c =
    answer_of c.args.question.now c.args.on.now.map.now c.args.text c.in_ok-request.request
    (string_bytes c.in_ok-answer.answer) c.in_ok-request.ensures.asked
    c.in_ok-answer.ensures.answer
