-- One step of looking at matchings, and what is kept between steps.
use Rattle.std.specs.Prelude.{◌≡◌, ℕ, zero, suc, ◌+◌, ◌-◌, List, [], ◌∷◌, ◌++◌, length, map, min, All, MatchOption, Option, None, Some, true}
use Rattle.olr_keys.specs.Key.{KeyValue}
use Rattle.olr_keys.specs.Page.{last_of}
use Rattle.olr_report.specs.Entries.{Entry, keys_of}
use Rattle.olr_places.specs.Looking.{Looked, is_within, looking, looking_on, openers_of}
use Rattle.olr_places.specs.Places.{AreCounted, ArePlacesOf, entry_of}
use Rattle.olr_places.specs.declared.ending.Ending.{Ending}
use Rattle.olr_places.specs.declared.ending.Ending.TheVariants.{Beyond, Cut, NoMore}
use Rattle.olr_places.specs.declared.limits.PlaceLimits.{PlaceLimits}
use Rattle.olr_places.specs.declared.looking.Looking.{Looking}
use Rattle.olr_places.specs.declared.opener.Opener.{Opener}
use Rattle.olr_places.specs.declared.places.Places.{Places}

-- ---- what is kept

-- the place of this index has one member more, up to the greatest number
abbrev pub one_more_at : ℕ → List Opener → List Opener
one_more_at index [] = []
one_more_at zero (opener ∷ openers) =
    record opener { members = min (opener.members + 1) 4294967295 } ∷ openers
one_more_at (suc index) (opener ∷ openers) = opener ∷ one_more_at index openers

-- an opener with this gap
abbrev pub with_gap : Opener → ℕ → Opener
with_gap opener gap = record opener { gap = gap }

-- What is kept of the matchings that were looked at, while looking goes on: each of those that
-- opened a place.
pub record Stands (limits : PlaceLimits) (before : List Entry) (kept : Looking) : Type 0 where
  pub openers : map entry_of kept.openers.items ≡ openers_of limits before
  pub within : All (λ (one : Entry). is_within limits before one ≡ true) (openers_of limits before)
  pub counted : AreCounted limits before 0 kept.openers.items
  pub count : kept.looked ≡ length before
  pub last : kept.last ≡ last_of None (keys_of before)
  pub goes_on : (left : List Entry)
      → looking limits (before ++ left) ≡ looking_on limits before left

-- the gap of the next matching: its total less that of the first one, which opened the first place
abbrev pub gap_behind : List Opener → KeyValue → ℕ
gap_behind [] key = 0
gap_behind (first ∷ others) key = key.total - first.key.total

-- the gap of the matching behind which looking ended, if it had one
abbrev pub gap_in : Ending → Option ℕ
gap_in NoMore = None
gap_in (Beyond gap) = Some gap
gap_in Cut = None

-- the margin: the gap of the second opener that is kept, else that of the matching behind which
-- looking ended
abbrev pub margin_in : List Opener → Ending → Option ℕ
margin_in (first ∷ second ∷ others) ending = Some second.gap
margin_in openers ending = gap_in ending

-- the places, where this is why looking ended
abbrev pub places_in : Looking → Ending → Places
places_in kept ending = record {
  openers = kept.openers;
  looked = kept.looked;
  last = kept.last;
  margin = margin_in kept.openers.items ending;
  ending = ending;
}

-- ---- steps

-- looking ended within these matchings
pub record HasEnded (limits : PlaceLimits) (seen : List Entry) (kept : Looking) (ending : Ending)
    : Type 0 where
  pub looked : Looked
  pub places : ArePlacesOf limits looked (places_in kept ending)
  pub looked_at : (behind : List Entry) × (seen ≡ looked.matchings ++ behind)
  pub looks : (left : List Entry) → looking limits (seen ++ left) ≡ looked

-- one matching was looked at, after others: looking goes on behind it, or has ended
abbrev pub LooksAt : PlaceLimits → Looking → Looking → Opener → Option Ending → Type 0
LooksAt limits old new opener ending =
    (before : List Entry) → Stands limits before old → MatchOption ending
    (Stands limits (before ++ entry_of opener ∷ []) new)
    (HasEnded limits (before ++ entry_of opener ∷ []) new)
