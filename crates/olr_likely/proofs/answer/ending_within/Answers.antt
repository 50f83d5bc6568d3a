use Rattle.std.proofs.Common.{nat_lt, refl, rules, tests}
use Rattle.std.proofs.lemmas.Iterator.{YieldsList-from_slice}
use Rattle.std.proofs.lemmas.Iterator.Search.{find_from_yields_List}
use Rattle.olr_likely.specs.declared.ranked.RankedPlace.{RankedPlace}
use Rattle.olr_likely.proofs.answer.ending_within.Goals as goal

pub returns-in-Some : goal.returns-in-Some
returns-in-Some c =
    let first = find_from_yields_List
    (λ (place : RankedPlace). nat_lt c.args.within place.opener.gap) _ _ c.find.result
    c.find.ensures.ran (YieldsList-from_slice c.args.places.now cc)
    (λ x b q k. search (rules, tests)) in
    rw (← first, c.in-Some.is) refl

pub returns-in-None : goal.returns-in-None
returns-in-None c =
    let first = find_from_yields_List
    (λ (place : RankedPlace). nat_lt c.args.within place.opener.gap) _ _ c.find.result
    c.find.ensures.ran (YieldsList-from_slice c.args.places.now cc)
    (λ x b q k. search (rules, tests)) in
    rw (← first, c.in-None.is) refl
