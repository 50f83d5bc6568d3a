-- The text that names the inputs of a request: the map, the reference and the tolerances. Its
-- SHA-256 digest is their fingerprint.
use Rattle.std.specs.Prelude.{◌≡◌, ℕ, List, ◌++◌, codes}
use Rattle.sha2.specs.Sha256.{sha256}
use Rattle.olr_binary.specs.Text.{trimmed}
use Rattle.olr_candidates.specs.Values.{tolerances_text}
use Rattle.olr_candidates.specs.declared.tolerances.Tolerances.{Tolerances}
use Rattle.olr_road.specs.RoadMap.{RoadMap}
use Rattle.olr_keys.specs.Cursor.{IsMark}
use Rattle.olr_keys.specs.declared.mark.Mark.{Mark}
use Rattle.olr_road.specs.Canonical.{canonical_text}

-- a line, with a line feed at its end
abbrev pub line_text : List ℕ → List ℕ
line_text line = line ++ codes "\n"

-- the lines before those of the map: the version of this text, the reference's text without the
-- blanks at its two ends, and the tolerances
abbrev pub request_text : List ℕ → Tolerances → List ℕ
request_text text tolerances = line_text (codes "olr 2") ++ line_text (trimmed text)
    ++ line_text (tolerances_text tolerances)

-- the whole text: these lines, and the map's canonical text, each of whose rows is a line
unfoldable pub fingerprinted_text : List ℕ → Tolerances → RoadMap → List ℕ
fingerprinted_text text tolerances road = request_text text tolerances ++ canonical_text road

-- the mark of these inputs is the digest of that text
abbrev pub IsFingerprint : List ℕ → Tolerances → RoadMap → Mark → Type 0
IsFingerprint text tolerances road mark = mark.0 ≡ sha256 (fingerprinted_text text tolerances road)

-- A fingerprint has the form of a mark: 32 bytes.
abbrev pub FingerprintIsMark : Type 0
FingerprintIsMark = (text : List ℕ) (tolerances : Tolerances) (road : RoadMap) (mark : Mark)
    → IsFingerprint text tolerances road mark → IsMark mark
