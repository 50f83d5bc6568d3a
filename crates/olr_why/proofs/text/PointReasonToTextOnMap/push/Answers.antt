use Rattle.std.proofs.Common.{◌≡◌, ℕ, List, ◌++◌, codes, append_assoc, decimal}
use Rattle.olr_text.specs.Texts.{text_or, texts_of}
use Rattle.olr_why.specs.Common.{NearLine, RoadMap}
use Rattle.olr_why.specs.Text.{near_row, point_rows}
use Rattle.olr_why.specs.Values.{PointValue}
use Rattle.olr_why.proofs.text.PointReasonToTextOnMap.push.Goals as goal

rows_are : (road : RoadMap) (number : ℕ) (inside point : PointValue) (nearest : List NearLine)
    (before row after : List ℕ) → inside ≡ point → nearest ≡ inside.nearest
    → row ≡ before ++ (codes "point " ++ (decimal number ++ (codes " candidates "
    ++ (text_or decimal (codes "many") inside.candidates ++ codes "\n"))))
    → after ≡ row ++ texts_of (near_row road) nearest
    → after ≡ before ++ point_rows road number point
rows_are road number inside point nearest before row after view_is nearest_is row_is after_is =
    rw (after_is, row_is, nearest_is, view_is) (simp append_assoc)

pub returns : goal.returns
returns c = rows_are c.args.on.now.map.now c.args.number _ _ _ _ _ _ c.self.view_is
    c.deref.ensures.value c.in_ok-write.ensures.bytes c.in_ok-push_texts.ensures
