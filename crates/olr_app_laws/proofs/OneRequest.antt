-- Equal fingerprinted texts name the same reference, the same tolerances and the same map.
use Rattle.olr_app_laws.proofs.Common.{◌≡◌, ℕ, List, ◌∷◌, ◌++◌, append_assoc, sym, ◌∙◌, codes, Tolerances, IsSoundMap, RoadMap}
use Rattle.olr_binary.specs.Text.{trimmed}
use Rattle.olr_candidates.proofs.Cutting.{cut_once, lacks_from_not}
use Rattle.olr_candidates.proofs.Values.{same_text, text_is_one_line}
use Rattle.olr_candidates.specs.Values.{tolerances_text}
use Rattle.olr_road.specs.Canonical.{canonical_text}
use Rattle.olr_fingerprint.specs.Fingerprint.{line_text, fingerprinted_text}
use Rattle.olr_app_laws.specs.FingerprintLaws.{IsRequest, SameInputs}

-- the text piece by piece
by_pieces : (text numbers more : List ℕ)
    → (line_text (codes "olr 2") ++ line_text text ++ line_text numbers) ++ more
    ≡ 111 ∷ 108 ∷ 114 ∷ 32 ∷ 50 ∷ 10 ∷ (text ++ 10 ∷ (numbers ++ 10 ∷ more))
by_pieces text numbers more = simp append_assoc

-- the lines of the request, and what follows them
pieces_of : (text : List ℕ) (t : Tolerances) (road : RoadMap)
    → fingerprinted_text text t road ≡ 111 ∷ 108 ∷ 114 ∷ 32 ∷ 50 ∷ 10
    ∷ (trimmed text ++ 10 ∷ (tolerances_text t ++ 10 ∷ canonical_text road))
unfolding fingerprinted_text
pieces_of text t road = by_pieces _ _ _

pub inputs_by_text : (text other : List ℕ) (a b : Tolerances) (road another : RoadMap)
    → ((p q : RoadMap) → IsSoundMap p → IsSoundMap q → canonical_text p ≡ canonical_text q → p ≡ q)
    → IsRequest text a road → IsRequest other b another
    → fingerprinted_text text a road ≡ fingerprinted_text other b another
    → SameInputs text other a b road another
inputs_by_text text other a b road another one_map is is_other same =
    let pieces = sym (pieces_of _ a _) ∙ same ∙ pieces_of _ b _ in
    let lines = cut_once _ _ _ _ _
    (lacks_from_not _ _ is.one_line) (lacks_from_not _ _ is_other.one_line) cc in
    let cut = cut_once _ _ _ _ _ (text_is_one_line a) (text_is_one_line b) lines.rest in
    record {
      reference = lines.front;
      tolerances = same_text a b cut.front;
      map = one_map road another is.sound is_other.sound cut.rest;
    }
