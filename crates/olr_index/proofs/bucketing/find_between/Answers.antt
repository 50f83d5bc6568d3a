use Rattle.olr_index.proofs.Common.{rules, Ok, Err, answers_always}
use Rattle.olr_index.proofs.Buckets.{found_between}
use Rattle.olr_index.proofs.bucketing.find_between.Goals as goal

pub returns-in_default : goal.returns-in_default
returns-in_default g c =
    let key_of = g.T.Keyed.key_of in
    found_between key_of c.args.items.now c.args.shift c.args.low c.args.high c.args.key
    (Err c.in_default.field-0)
    c.requires.low c.requires.high c.requires.rise c.in_default.ensures.bound
    (c.in_default.ensures.position key_of (answers_always _ _ _ (λ f a r q h. search rules)))

pub returns : goal.returns
returns g c =
    let key_of = g.T.Keyed.key_of in
    found_between key_of c.args.items.now c.args.shift c.args.low c.args.high c.args.key
    (Ok c.in-Ok.place) c.requires.low c.requires.high c.requires.rise c.in-Ok.ensures.bound
    (c.in-Ok.ensures.position key_of (answers_always _ _ _ (λ f a r q h. search rules)))
