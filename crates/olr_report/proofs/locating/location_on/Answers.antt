use Rattle.olr_report.proofs.Common.{Leg, ap, refl, ◌∙◌}
use Rattle.olr_report.proofs.LegLengths.{reaches}
use Rattle.olr_report.proofs.locating.location_on.Goals as goal

pub place_on-requires-clause-positive : goal.place_on-requires-clause-positive
place_on-requires-clause-positive c =
    (reaches c.args.reference.now c.args.legs.now c.args.route.now c.args.route.now
    c.index-legs-0.result c.earliest.result c.requires.reference c.requires.legs
    c.requires.route refl (rw (ap (λ (leg : Leg). leg.length) (c.first.view_is ∙ c.index-legs-0.is))
    at c.earliest.ensures.within)).0

pub place_on-requires-clause-within : goal.place_on-requires-clause-within
place_on-requires-clause-within c =
    (reaches c.args.reference.now c.args.legs.now c.args.route.now c.args.route.now
    c.index-legs-0.result c.earliest.result c.requires.reference c.requires.legs
    c.requires.route refl (rw (ap (λ (leg : Leg). leg.length) (c.first.view_is ∙ c.index-legs-0.is))
    at c.earliest.ensures.within)).1

pub place_on-requires-in-PointAlong-clause-positive :
    goal.place_on-requires-in-PointAlong-clause-positive
place_on-requires-in-PointAlong-clause-positive c =
    (reaches c.args.reference.now c.args.legs.now c.args.route.now c.args.route.now
    c.index-legs-0.result c.latest.result c.requires.reference c.requires.legs
    c.requires.route refl (rw (ap (λ (leg : Leg). leg.length) (c.first.view_is ∙ c.index-legs-0.is))
    at c.latest.ensures.within)).0

pub place_on-requires-in-PointAlong-clause-within :
    goal.place_on-requires-in-PointAlong-clause-within
place_on-requires-in-PointAlong-clause-within c =
    (reaches c.args.reference.now c.args.legs.now c.args.route.now c.args.route.now
    c.index-legs-0.result c.latest.result c.requires.reference c.requires.legs
    c.requires.route refl (rw (ap (λ (leg : Leg). leg.length) (c.first.view_is ∙ c.index-legs-0.is))
    at c.latest.ensures.within)).1
