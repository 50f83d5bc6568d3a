use Rattle.olr_app.proofs.Common.{Bans, Lines, Nodes, string_bytes}
use Rattle.olr_app.proofs.AnswerOf as answer
use Rattle.olr_app.proofs.Single.{exit}
use Rattle.olr_app.proofs.answering.output_of.Goals as goal

-- ---- the fault of the map

pub returns-in_err-map-clause-reason : goal.returns-in_err-map-clause-reason
returns-in_err-map-clause-reason g c =
    rw (exit c.from_residual-in_err-map.ensures.1) (answer.reason_of_map _ _
    (answer.reads_map _ c.in_default.not-Show) _ c.requires.accepted _ c.in_err-map.ensures.fault)

pub returns-in_err-map-clause-nodes_source : goal.returns-in_err-map-clause-nodes_source
returns-in_err-map-clause-nodes_source g c =
    rw (exit c.from_residual-in_err-map.ensures.1) (answer.map_fault_leaves _ _ _ _ Nodes _ _ _
    (answer.reads_map _ c.in_default.not-Show) c.in_err-map.ensures.nodes_source)

pub returns-in_err-map-clause-lines_source : goal.returns-in_err-map-clause-lines_source
returns-in_err-map-clause-lines_source g c =
    rw (exit c.from_residual-in_err-map.ensures.1) (answer.map_fault_leaves _ _ _ _ Lines _ _ _
    (answer.reads_map _ c.in_default.not-Show) c.in_err-map.ensures.lines_source)

pub returns-in_err-map-clause-bans_source : goal.returns-in_err-map-clause-bans_source
returns-in_err-map-clause-bans_source g c =
    rw (exit c.from_residual-in_err-map.ensures.1) (answer.map_fault_leaves _ _ _ _ Bans _ _ _
    (answer.reads_map _ c.in_default.not-Show) c.in_err-map.ensures.bans_source)

-- ---- the answer on the map

pub returns-clause-output : goal.returns-clause-output
returns-clause-output g c =
    answer.output_on_map _ _ (answer.reads_map _ c.in_default.not-Show) _ c.requires.accepted
    (λ output. string_bytes output) _ c.output_on_map.result c.in_ok-map.ensures.map
    c.output_on_map.ensures.output

pub returns-clause-reason : goal.returns-clause-reason
returns-clause-reason g c =
    answer.reason_on_map _ _ (answer.reads_map _ c.in_default.not-Show) _ c.requires.accepted _ _
    c.in_ok-map.ensures.map c.output_on_map.ensures.fault

pub returns-clause-nodes_source : goal.returns-clause-nodes_source
returns-clause-nodes_source g c =
    answer.answer_leaves _ _ _ _ Nodes c.args.request.now c.args.accepted.now c.in_ok-map.map
    c.output_on_map.result (answer.reads_map _ c.in_default.not-Show) c.output_on_map.ensures.fault
    c.in_ok-map.ensures.nodes_source

pub returns-clause-lines_source : goal.returns-clause-lines_source
returns-clause-lines_source g c =
    answer.answer_leaves _ _ _ _ Lines c.args.request.now c.args.accepted.now c.in_ok-map.map
    c.output_on_map.result (answer.reads_map _ c.in_default.not-Show) c.output_on_map.ensures.fault
    c.in_ok-map.ensures.lines_source

pub returns-clause-bans_source : goal.returns-clause-bans_source
returns-clause-bans_source g c =
    answer.answer_leaves _ _ _ _ Bans c.args.request.now c.args.accepted.now c.in_ok-map.map
    c.output_on_map.result (answer.reads_map _ c.in_default.not-Show) c.output_on_map.ensures.fault
    c.in_ok-map.ensures.bans_source
