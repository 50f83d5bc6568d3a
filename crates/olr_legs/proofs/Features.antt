-- The texts of the features of legs.
use Rattle.std.proofs.Common.{◌≡◌, ◌≢◌, ℕ, ◌+◌, ◌∙◌, List, [], ◌∷◌, ◌++◌, refl, sym, ap}
use Rattle.std.proofs.lemmas.List.{append-nil, append_assoc}
use Rattle.std.specs.Prelude.{codes}
use Rattle.serde_json.specs.Data.{Data, no_members}
use Rattle.olr_geojson.specs.Feature.{Feature, feature_text}
use Rattle.olr_geojson.specs.Joined.{behind_commas}
use Rattle.olr_road.specs.RoadMap.{RoadMap}
use Rattle.olr_text.specs.Texts.{texts_from}
use Rattle.olr_legs.specs.GeoJson.{features_of_leg, features_of_legs, members_with}
use Rattle.olr_legs.specs.declared.legs.LegAlternatives.{LegAlternatives}

pub not_empty : (matching : Data) → members_with matching ≢ no_members
not_empty matching same = absurd cc

-- a text with one feature more
pub one_feature : (text : List ℕ) (feature : Feature) → text ++ codes "," ++ feature_text feature
    ≡ text ++ behind_commas feature_text (feature ∷ [])
one_feature text feature =
    append_assoc text (codes ",") (feature_text feature)
    ∙ ap (λ (l : List ℕ). text ++ l) (sym (append-nil (codes "," ++ feature_text feature)))

behind-append : (xs ys : List Feature) → behind_commas feature_text (xs ++ ys)
    ≡ behind_commas feature_text xs ++ behind_commas feature_text ys
behind-append [] ys = refl
behind-append (x ∷ xs) ys = ap (λ rest. codes "," ++ feature_text x ++ rest) (behind-append xs ys)
    ∙ sym (append_assoc (codes "," ++ feature_text x) (behind_commas feature_text xs)
    (behind_commas feature_text ys))

-- the texts of legs are those of all their features
pub features_are : (road : RoadMap) (number : ℕ) (legs : List LegAlternatives)
    → texts_from (λ number leg. behind_commas feature_text (features_of_leg road number leg)) number
    legs ≡ behind_commas feature_text (features_of_legs road number legs)
features_are road number [] = refl
features_are road number (leg ∷ legs) =
    ap (λ rest. behind_commas feature_text (features_of_leg road number leg) ++ rest)
    (features_are road (number + 1) legs)
    ∙ sym (behind-append (features_of_leg road number leg)
    (features_of_legs road (number + 1) legs))
