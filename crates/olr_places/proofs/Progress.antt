-- Looking at the matchings of a reference, key by key.
use Rattle.olr_keys.proofs.PageLists.{after_keys, first_and_others, next_is, position_within}
use Rattle.olr_keys.specs.Finder.{IsNext, IsPosition}
use Rattle.olr_places.proofs.Common.{KeyValue, IsBefore, IsRestAfter, RoadMap, LayersValue, ArePlacesOf, IsLooked, IsOpenerAt, Looked, entry_of, looking_on, IsEntryAt, Entry, keys_of, Ending, Cut, NoMore, PlaceLimits, Looking, Opener, ◌≡◌, All, List, [], ◌∷◌, ◌++◌, length, drop, Option, Some, None, refl, sym, ◌∙◌, append_assoc, arith, AllPairs, slice_get, eq-eqb, append-nil, map-append, All-nil, All-push, LooksAt, Stands, gap_in, places_in}
use Rattle.olr_places.proofs.LookSteps.{ends_here}

module _ (limits : PlaceLimits) (road : RoadMap) (layers : LayersValue) (answers : List KeyValue)
  where
    -- the matchings of the first keys were looked at, and these keys are left
    pub record Progress (kept : Looking) : Type 0 where
      pub seen : List Entry
      pub left : List KeyValue
      pub keys_are : answers ≡ keys_of seen ++ left
      pub each : All (IsEntryAt road layers) seen
      pub stands : Stands limits seen kept

    -- looking has ended, for this reason
    abbrev pub IsFound : Looking → Ending → Type 0
    IsFound kept ending = (looked : Looked) × IsLooked limits road layers answers looked
        × ArePlacesOf limits looked (places_in kept ending)

pub at_start : {limits : PlaceLimits} {road : RoadMap} {layers : LayersValue}
    (answers : List KeyValue) {kept : Looking} → Stands limits [] kept
    → Progress limits road layers answers kept
at_start answers stands = grind (arith, All-nil)

module _ {limits : PlaceLimits} {road : RoadMap} {layers : LayersValue} {answers : List KeyValue}
    {old : Looking} (progress : Progress limits road layers answers old) where
  rest : IsRestAfter answers old.last progress.left
  rest = grind (arith, after_keys)

  pub position : IsPosition answers old.last
  position = position_within answers old.last progress.left rest

  -- looking ends behind the matchings that were looked at
  ends : (ending : Ending) → gap_in ending ≡ None
      → ((others : List Entry) → keys_of others ≡ progress.left
      → looking_on limits progress.seen others
      ≡ record { matchings = progress.seen; ending = ending })
      → IsFound limits road layers answers old ending
  ends ending none here = (
    record { matchings = progress.seen; ending = ending },
    record {
      seen = progress.seen;
      left = progress.left;
      keys = progress.keys_are;
      each = progress.each;
      looked_at = ([], sym (append-nil progress.seen));
      looks = λ others same. progress.stands.goes_on others ∙ here others same;
    },
    ends_here progress.stands ending none,
  )

  module _ (rise : AllPairs IsBefore answers) {found : Option KeyValue}
      (next : IsNext answers old.last found) where
    first_left : found ≡ slice_get progress.left 0
    first_left = next_is answers rise old.last progress.left found rest next

    -- where no key is left
    pub no_more : found ≡ None → IsFound limits road layers answers old NoMore
    no_more none = ends NoMore refl (λ others same. no_others progress.left others
        (sym none ∙ first_left) same)
      where
        no_others : (left : List KeyValue) (others : List Entry) → None ≡ slice_get left 0
            → keys_of others ≡ left → looking_on limits progress.seen others
            ≡ record { matchings = progress.seen; ending = NoMore }
        no_others left [] empty same = refl
        no_others [] (one ∷ others) empty same = absurd cc
        no_others (key ∷ left) (one ∷ others) empty same = absurd cc

    module _ {key : KeyValue} (some : found ≡ Some key) where
      left_is : progress.left ≡ key ∷ drop 1 progress.left
      left_is = first_and_others progress.left (sym some ∙ first_left)

      -- where as many were looked at as are asked for
      pub enough : old.looked ≡ limits.look → IsFound limits road layers answers old Cut
      enough all = ends Cut refl (λ others same. cut_here others (same ∙ left_is))
        where
          cut_here : (others : List Entry) → keys_of others ≡ key ∷ drop 1 progress.left
              → looking_on limits progress.seen others
              ≡ record { matchings = progress.seen; ending = Cut }
          cut_here [] same = absurd cc
          cut_here (one ∷ others) same =
              let full = eq-eqb (length progress.seen) limits.look
              (omega (arith, progress.stands.count)) in rw full refl

      module _ {opener : Opener} (at : opener.key ≡ key) (is : IsOpenerAt road layers opener) where
        abbrev with : List Entry
        with = progress.seen ++ entry_of opener ∷ []

        keys_with : answers ≡ keys_of with ++ drop 1 progress.left
        keys_with = rw map-append (rw append_assoc (rw at (rw (← left_is) progress.keys_are)))

        each_with : All (IsEntryAt road layers) with
        each_with = All-push (IsEntryAt road layers) progress.seen (entry_of opener)
            progress.each is.is_entry

        pub goes_on : {new : Looking} → LooksAt limits old new opener None
            → Progress limits road layers answers new
        goes_on step = record {
          seen = with;
          left = drop 1 progress.left;
          keys_are = keys_with;
          each = each_with;
          stands = step progress.seen progress.stands;
        }

        pub ended : {new : Looking} (why : Ending) → LooksAt limits old new opener (Some why)
            → IsFound limits road layers answers new why
        ended why step =
            let behind = step progress.seen progress.stands in (
              behind.looked,
              record {
                seen = with;
                left = drop 1 progress.left;
                keys = keys_with;
                each = each_with;
                looked_at = behind.looked_at;
                looks = λ others same. behind.looks others;
              },
              behind.places,
            )
