use Rattle.std.proofs.Common.{◌≡◌, ◌++◌, ℕ, List, ap, ◌∙◌}
use Rattle.std.proofs.lemmas.Fmt.{contents_after_writes}
use Rattle.olr_request.specs.Fault.{fault_text}
use Rattle.olr_batch.proofs.record.text_of.Goals as goal

pub returns : goal.returns
returns c =
    contents_after_writes (λ s bytes t. t.bytes ≡ s.bytes ++ bytes) (λ s. s.bytes)
    (λ s bytes t is. is) c.new-text.result (fault_text c.args.fault.now) c.write.new.self
    c.in-Ok.ensures.writes
    ∙ ap (λ (bytes : List ℕ). bytes ++ fault_text c.args.fault.now) c.new-text.ensures
