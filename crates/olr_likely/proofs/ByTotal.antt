-- The verdict and the key after which looking would go on, of places in the order of totals.
use Rattle.std.proofs.Common.{◌≡◌, List, length, refl, sym, ap, ◌∙◌}
use Rattle.std.proofs.lemmas.List.{length-map}
use Rattle.olr_report.specs.Entries.{Entry}
use Rattle.olr_places.specs.Looking.{Looked, key_behind, listed_of, next_of}
use Rattle.olr_places.specs.Places.{ArePlacesOf, entry_of, verdict_in}
use Rattle.olr_places.specs.Verdict.{verdict_of}
use Rattle.olr_places.specs.declared.limits.PlaceLimits.{PlaceLimits}
use Rattle.olr_places.specs.declared.places.Places.{Places}
use Rattle.olr_likely.specs.Showing.{AreShownByTotal}
use Rattle.olr_likely.specs.declared.showing.ShownPlaces.{ShownPlaces}

module _ {limits : PlaceLimits} {looked : Looked} {places : Places} {shown : ShownPlaces}
    (are : ArePlacesOf limits looked places) (is : AreShownByTotal places shown) where
  pub verdict_is : shown.verdict ≡ verdict_of limits looked
  verdict_is =
      let listed : length places.openers.items ≡ length (listed_of limits looked.matchings) =
      sym (length-map places.openers.items entry_of)
      ∙ ap (λ (l : List Entry). length l) are.openers in
      let same : verdict_in places ≡ verdict_of limits looked =
      rw (are.count, listed, are.ending) refl in
      is.verdict_is ∙ same

  pub next_is : shown.next ≡ next_of looked
  next_is =
      let same : key_behind places.ending places.last ≡ next_of looked =
      rw (are.ending, are.last) refl in
      is.next_is ∙ same
