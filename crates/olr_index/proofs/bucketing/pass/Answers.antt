use Rattle.olr_index.proofs.Buckets.{head_here}
use Rattle.olr_index.proofs.bucketing.pass.Goals as goal

pub returns-then-bucket_of-bucket : goal.returns-then-bucket_of-bucket
returns-then-bucket_of-bucket c =
    head_here _ _ _ _ c.requires.rise c.loop-next.invariant.0 c.loop-next.invariant.1
    (λ _. rw (← c.bucket_of.ensures) c.if-bucket_of-bucket.true)
