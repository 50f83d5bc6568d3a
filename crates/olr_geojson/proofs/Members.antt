-- What is taken off the texts of features and of other members, and the line that they make.
use Rattle.std.proofs.Common.{◌≡◌, ◌≢◌, ℕ, List, [], ◌∷◌, ◌++◌, Option, None, Some, MatchOption, Bor, codes, true, false, refl, append_assoc}
use Rattle.std.specs.Option.{unwrap_or}
use Rattle.serde_json.specs.Data.{Members, no_members, member}
use Rattle.serde_json.specs.Written.{members_text}
use Rattle.olr_geojson.specs.Feature.{Feature, feature_text, features_text}
use Rattle.olr_geojson.specs.Joined.{behind_commas}

-- the text without its first byte, where this is that one
module _ (first : ℕ) (text : Bor (List ℕ)) where
  abbrev pub IsFound : Option (Bor (List ℕ)) → Type 0
  IsFound found = MatchOption found ((rest : List ℕ) → text.now ≢ first ∷ rest)
      (λ found. text.now ≡ first ∷ found.now)

  pub begins : (found : Option (Bor (List ℕ))) → IsFound found → (rest : List ℕ)
      → text.now ≡ first ∷ rest → (unwrap_or found text).now ≡ rest
  begins None is rest begun = absurd (is rest begun)
  begins (Some behind) is rest begun = cc

  pub empty : (found : Option (Bor (List ℕ))) → IsFound found → text.now ≡ []
      → (unwrap_or found text).now ≡ []
  empty None is none = none
  empty (Some behind) is none = cc

-- features without the first comma
pub features : (all : List Feature) (text rest : List ℕ)
    → ((others : List ℕ) → text ≡ 44 ∷ others → rest ≡ others) → (text ≡ [] → rest ≡ [])
    → text ≡ behind_commas feature_text all → rest ≡ features_text all
features [] text rest begins empty is = empty is
features (feature ∷ others) text rest begins empty is = begins _ is

-- members behind others
pub members : (all : Members) (old new rest : List ℕ) → all ≢ no_members
    → rest ≡ members_text false all → new ≡ (old ++ codes ",") ++ rest
    → new ≡ old ++ members_text true all
members no_members old new rest some is added = absurd (some refl)
members (member name value all) old new rest some is added =
    rw (added, is) (append_assoc old (codes ",") (members_text false (member name value all)))

-- the line of a collection
pub line : (cut all others none begun held new : List ℕ) → none ≡ [] → begun ≡ none ++ codes "{"
    → held ≡ begun ++ cut ++ codes "\"features\":[" ++ all ++ codes "]" ++ others
    → new ≡ held ++ codes "\n"
    → new ≡ codes "{" ++ cut ++ codes "\"features\":[" ++ all ++ codes "]" ++ others ++ codes "\n"
line cut all others none begun held new p q r s = rw (s, r, q, p) refl
