use Rattle.olr_route.proofs.Common.{items_in, ◌++◌, ◌∷◌, [], ap, rules, sym, ◌∙◌, option_copied_mut}
use Rattle.olr_route.proofs.Spreading.{added}
use Rattle.olr_route.proofs.groups.Groups.add.Goals as goal

pub returns-in-Some : goal.returns-in-Some
returns-in-Some c = added _ _ _ _
    _ _
    ((c.get_mut.follows.holds c.push.new.self).3 (search rules))
    (c.in_ok-push.ensures.items ∙ ap (λ group. items_in group ++ c.args.line ∷ [])
    c.in-Some.ensures.value)

pub returns : goal.returns
returns c = added _ _ _ _
    _ _
    (rw c.get_mut.follows.holds-at-none at c.in_ok-insert.ensures.updates)
    (c.in_ok-lines.ensures.items ∙ ap (λ lines. lines ++ c.args.line ∷ [])
    (sym (ap items_in (sym c.get_mut.ensures.value ∙ ap option_copied_mut c.in_default.is))))
