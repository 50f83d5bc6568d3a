use Rattle.olr_records.proofs.Common.{ℕ, List, [], ◌∷◌, Option, Bor, option_map, subst, refl, arith, map-append, length-append, coordinates_of, Begins, IsItem}
use Rattle.olr_records.proofs.Items.{at_start, one_more_item, no_item}
use Rattle.olr_records.proofs.shape.read_items.Goals as goal

pub loop-init : goal.loop-init
loop-init c = rw c.requires.empty (refl, at_start)

pub returns-in_default : goal.returns-in_default
returns-in_default c = λ places are. no_item _ _ c.loop.invariant.1 c.in_default.ensures _ are.0

pub loop-preserved : goal.loop-preserved
loop-preserved c =
    let begins = subst (λ (part : Option (Bor (List ℕ))). Begins
    (λ front. IsItem front (coordinates_of c.in-Some.place)) 59 c.loop.rest.now
    (option_map (λ part. part.now) part)) c.in-Some-others.is c.in-Some.ensures in
    rw c.in_ok-push.ensures.items (
      omega (arith, length-append c.loop.shape.items (c.in-Some.place ∷ [])),
      rw (map-append coordinates_of c.loop.shape.items (c.in-Some.place ∷ []))
          (one_more_item _ _ _ _ _ c.loop.invariant.1 begins),
    )
