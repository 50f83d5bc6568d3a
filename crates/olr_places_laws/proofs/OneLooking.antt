-- Looking at the matchings of keys gives one value.
use Rattle.olr_road.specs.RoadMap.{IsSoundMap}
use Rattle.olr_places_laws.proofs.Common.{KeyValue, RoadMap, LayersValue, looking, IsEntryAt, Entry, keys_of, ◌≡◌, List, [], ◌∷◌, ◌++◌, All, refl, sym, ap, ◌∙◌, map-append, All-head, All-tail, OneEntry, OneLooking}
use Rattle.olr_places_laws.proofs.Looks.{any_of, keys_of_any}

module _ (one_entry : OneEntry) {road : RoadMap} {layers : LayersValue} (sound : IsSoundMap road)
  where
    -- the matchings of the first keys, and any of those that are left
    in_common : (seen others : List Entry) (left behind : List KeyValue)
        → keys_of seen ++ left ≡ keys_of others ++ behind
        → All (IsEntryAt road layers) seen → All (IsEntryAt road layers) others
        → (more rest : List Entry) × (keys_of more ≡ left) × (keys_of rest ≡ behind)
        × (seen ++ more ≡ others ++ rest)
    in_common [] others left behind same each each' = (
      others ++ any_of behind,
      any_of behind,
      map-append (λ (one : Entry). one.key) others
          (any_of behind) ∙ rw keys_of_any (sym same),
      keys_of_any behind,
      refl,
    )
    in_common (one ∷ seen) [] left behind same each each' = (
      any_of left,
      one ∷ seen ++ any_of left,
      keys_of_any left,
      map-append (λ (one : Entry). one.key) (one ∷ seen) (any_of left) ∙ rw keys_of_any same,
      refl,
    )
    in_common (one ∷ seen) (other ∷ others) left behind same each each' =
        let first = one_entry road layers sound one other (cc)
        (All-head (IsEntryAt road layers) one seen each)
        (All-head (IsEntryAt road layers) other others each') in
        let found = in_common seen others left behind (cc)
        (All-tail (IsEntryAt road layers) one seen each)
        (All-tail (IsEntryAt road layers) other others each') in (
          found.0,
          found.1,
          found.2,
          found.3,
          ap (λ (l : List Entry). one ∷ l) found.4
              ∙ ap (λ (s : Entry). s ∷ others ++ found.1) first,
        )

-- ---- the law

pub one_looking : OneEntry → OneLooking
one_looking one_entry limits road layers answers looked other sound is is' =
    let found = in_common one_entry sound _ _ _ is'.left (sym is.keys
    ∙ is'.keys) is.each is'.each in
    sym (is.looks found.0 found.2) ∙ ap (looking limits) found.4 ∙ is'.looks found.1 found.3
