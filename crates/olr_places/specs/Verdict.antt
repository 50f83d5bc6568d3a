-- Whether a match is unique, by the matchings that were looked at. Gaps are in penalty points.
use Rattle.std.specs.Prelude.{ℕ, List, length, ◌==◌, Option, codes, option_map, slice_get, nat_le, if◌then◌else◌}
use Rattle.olr_report.specs.Entries.{Entry}
use Rattle.olr_places.specs.Looking.{Looked, gap_of, listed_of, openers_of}
use Rattle.olr_places.specs.declared.ending.Ending.{Ending}
use Rattle.olr_places.specs.declared.ending.Ending.TheVariants.{Beyond, Cut, NoMore}
use Rattle.olr_places.specs.declared.ending.Verdict.{Verdict}
use Rattle.olr_places.specs.declared.ending.Verdict.TheVariants as verdict
use Rattle.olr_places.specs.declared.limits.PlaceLimits.{PlaceLimits}

-- the gap of the second place, listed or not; none where no second one was looked at
abbrev pub margin_of : PlaceLimits → List Entry → Option ℕ
margin_of limits matchings =
    option_map (λ (one : Entry). gap_of matchings one.key)
    (slice_get (openers_of limits matchings) 1)

-- the verdict of one place, by why looking ended: a further one may lie behind where looking was
-- cut off
abbrev pub verdict_of_one : Ending → Verdict
verdict_of_one NoMore = verdict.Unique
verdict_of_one (Beyond gap) = verdict.Unique
verdict_of_one Cut = verdict.Open

-- by how many matchings were looked at and how many places are listed: none where there is no
-- matching; ambiguous where two places or more are listed; else by why looking ended
abbrev pub verdict_by : ℕ → ℕ → Ending → Verdict
verdict_by looked listed ending =
    if looked == 0 then verdict.None
    else if nat_le 2 listed then verdict.Ambiguous else verdict_of_one ending

abbrev pub verdict_of : PlaceLimits → Looked → Verdict
verdict_of limits looked =
    verdict_by (length looked.matchings) (length (listed_of limits looked.matchings)) looked.ending

-- the word of a verdict
abbrev pub verdict_word : Verdict → List ℕ
verdict_word verdict.None = codes "none"
verdict_word verdict.Unique = codes "unique"
verdict_word verdict.Ambiguous = codes "ambiguous"
verdict_word verdict.Open = codes "open"
