use Rattle.olr_report.specs.Entries.{HasLocation}
use Rattle.olr_report.specs.Location.{located_value}
use Rattle.olr_places.proofs.Common.{IsMatchedBy, Located, ◌≡◌, List, [], ◌∷◌, ◌++◌, length, get_or, rules, sym, ap, subst, length-append, arith, AllZip}
use Rattle.olr_places.proofs.finding.opener_of.Goals as goal

-- the parts of one key alone
of_one : {A B : Type 0} (R : A → B → Type 0) (key : A) (all rest : List B) (one : B)
    → AllZip R (key ∷ []) all → all ≡ rest ++ one ∷ [] → R key one
of_one R key [] rest one each is = absurd each
of_one R key (other ∷ []) [] one each is = subst (R key) (ap (λ l. get_or l 0 other) is) each.0
of_one R key (other ∷ []) (first ∷ rest) one each is =
    absurd (omega (arith, ap length is, length-append rest (one ∷ [])))
of_one R key (other ∷ second ∷ more) rest one each is = absurd each.1

pub returns-clause-entry : goal.returns-clause-entry
returns-clause-entry c =
    let road = c.args.routes.now.road in
    let layers = c.args.routes.now.layers in
    let on = rw c.in_ok-all.ensures.same at c.layers.ensures.on_map in
    let parts = of_one (IsMatchedBy road layers) c.args.key _ _ _
    (rw c.from_ref.ensures.value at c.in_ok-all.ensures.matched)
    (rw c.in-Some.is at c.pop.ensures.items) in
    let shown = c.sound_parts_can_be_shown.ensures road layers.reference c.in-Some.matched
    (c.matchings_are_sound.ensures road layers c.args.key c.in-Some.matched
    (rw c.map.ensures at c.sound.ensures) on c.requires parts) in
    let is = c.in_ok-route.ensures.on_map road shown.on_map in
    record {
      is_entry = search rules;
      on_map = record {
        matched = rw c.matched-2.view_is shown.on_map;
        route = is.route;
        located = subst (λ (l : Located). HasLocation road (located_value l))
            (sym c.in_ok-new.ensures) is.located;
      };
    }
