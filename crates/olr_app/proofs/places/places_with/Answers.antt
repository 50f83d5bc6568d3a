use Rattle.olr_app.proofs.Common.{string_bytes, subst, sym}
use Rattle.olr_app.specs.Places.{IsPlacesIn}
use Rattle.olr_app.proofs.places.places_with.Goals as goal

pub returns-clause-places : goal.returns-clause-places
returns-clause-places c =
    let asked = c.args.asked.now in
    let are_layers = c.in_ok-layers.ensures.layers in (
      c.in_ok-layers.layers,
      are_layers,
      record {
        shown = c.in_ok-shown.shown;
        are_asked = c.in_ok-shown.ensures;
        output_is = subst (λ reference. IsPlacesIn asked.format asked.extras c.args.map.now reference
            c.in_ok-shown.shown (string_bytes c.in_ok-output.output)) (sym are_layers.1)
            c.in_ok-output.ensures;
      },
    )
