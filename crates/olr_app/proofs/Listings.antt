-- The candidates of points, as a value and in detail.
use Rattle.olr_app.proofs.Common.{ArrayVec, items_of, lists_of, Candidate, ◌≡◌, List, [], ◌∷◌, map, codes, refl, ap, array_of, candidates_array, listing_object}
use Rattle.olr_app.specs.Listing.{IsListingInDetail, IsListingTextWith}
use Rattle.olr_app.specs.Page.{shown_for}
use Rattle.olr_detail.specs.Listing.{AreListsInDetail}
use Rattle.olr_detail.specs.declared.candidate_detail.CandidateDetail.{CandidateDetail}
use Rattle.olr_report.specs.ShownMap.{MapShown}
use Rattle.olr_request.specs.declared.request.Format.{Format}
use Rattle.olr_app.proofs.Common.{Extras, Reference, RoadMap, Tolerances, ℕ, subst, sym}
use Rattle.olr_app.proofs.PagesOf.{same_road}
use Rattle.serde_json.specs.Data.{array, member, no_members, object}

module _ (on : MapShown) where
  each_array : (lists : List (ArrayVec Candidate))
      → map (λ (list : ArrayVec Candidate). candidates_array on list.items) lists
      ≡ map (candidates_array on) (lists_of lists)
  each_array [] = refl
  each_array (list ∷ lists) = ap (λ l. candidates_array on list.items ∷ l) (each_array lists)

  -- the object, from lists of bounded length
  pub same_lists : (lists : List (ArrayVec Candidate))
      → object (member (codes "points")
      (array_of (λ (list : ArrayVec Candidate). candidates_array on list.items) lists)
      no_members)
      ≡ listing_object on (lists_of lists)
  same_lists lists = ap (λ l. object (member (codes "points") (array (items_of l)) no_members))
      (each_array lists)

-- the listing in detail, on the map with shapes or without
pub listed_in_detail : (extras : Extras) (format : Format) (tolerances : Tolerances)
    (reference : Reference) (road : RoadMap) (lists : List (List Candidate))
    (details : List (List CandidateDetail)) (text : List ℕ)
    → AreListsInDetail tolerances reference road.lines lists details
    → IsListingTextWith format (shown_for extras road reference) details text
    → IsListingInDetail format tolerances reference (shown_for extras road reference) lists text
listed_in_detail extras format tolerances reference road lists details text are text_is = record {
  details = details;
  are = subst (λ r. AreListsInDetail tolerances reference r.lines lists details)
      (sym (same_road extras.shape road reference)) are;
  text_is = text_is;
}
