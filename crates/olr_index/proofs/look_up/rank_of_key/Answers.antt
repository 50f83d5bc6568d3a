use Rattle.olr_index.proofs.Common.{rules, Ok, Err, answers_always}
use Rattle.olr_index.proofs.Finding.{found_by_key}
use Rattle.olr_index.proofs.look_up.rank_of_key.Goals as goal

pub returns-in_default : goal.returns-in_default
returns-in_default g c =
    let key_of = g.T.Keyed.key_of in
    found_by_key _ _ c.args.key (Err c.in_default.field-0) c.requires.rise
    c.in_default.ensures.bound
    (c.in_default.ensures.position key_of (answers_always _ _ _ (λ f a r q h. search rules)))

pub returns : goal.returns
returns g c =
    let key_of = g.T.Keyed.key_of in
    found_by_key _ _ c.args.key (Ok c.in-Ok.rank) c.requires.rise c.in-Ok.ensures.bound
    (c.in-Ok.ensures.position key_of (answers_always _ _ _ (λ f a r q h. search rules)))
