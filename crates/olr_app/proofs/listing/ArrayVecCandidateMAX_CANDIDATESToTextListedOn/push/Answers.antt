use Rattle.std.proofs.Common.{decimal}
use Rattle.olr_text.specs.Texts.{texts_from}
use Rattle.olr_app.proofs.Common.{Candidate, RoadMap, candidate_row, point_listing, ◌≡◌, ℕ, List, ◌++◌, codes, length, append_assoc}
use Rattle.olr_app.proofs.listing.ArrayVecCandidateMAX_CANDIDATESToTextListedOn.push.Goals as goal

rows_are : (road : RoadMap) (number count : ℕ) (list shown : List Candidate)
    (before row after : List ℕ) → count ≡ length list → shown ≡ list
    → row ≡ before ++ (codes "point " ++ (decimal number ++ (codes " candidates "
    ++ (decimal count ++ codes "\n")))) → after ≡ row ++ texts_from (candidate_row road) 1 shown
    → after ≡ before ++ point_listing road number list
rows_are road number count list shown before row after count_is shown_is row_is after_is =
    rw (after_is, row_is, count_is, shown_is) (simp append_assoc)

pub returns : goal.returns
returns c = rows_are c.args.on.now.map.now c.args.number _ c.args.self.now.items _ _ _ _
    c.len.ensures.value c.deref.ensures.0 c.in_ok-write.ensures.bytes c.in_ok-push_texts.ensures
