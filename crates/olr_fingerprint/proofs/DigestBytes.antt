-- A digest has 32 bytes.
use Rattle.std.proofs.Common.{ℕ, zero, suc, ◌%◌, ◌<◌, List, length, ap, ◌∙◌, sym, All, arith, slice_index}
use Rattle.std.specs.Int.{byte_at, bytes_high_first, to_be_bytes, w32}
use Rattle.std.proofs.lemmas.List.Elements.{All-append, All-cons, All-nil}
use Rattle.sha2.specs.Sha256.{digest_bytes, sha256}
use Rattle.sha2.proofs.Facts256.{length-sha256}
use Rattle.olr_candidates.specs.declared.tolerances.Tolerances.{Tolerances}
use Rattle.olr_road.specs.RoadMap.{RoadMap}
use Rattle.olr_keys.specs.Cursor.{IsMark}
use Rattle.olr_keys.specs.declared.mark.Mark.{Mark}
use Rattle.olr_fingerprint.specs.Fingerprint.{IsFingerprint, fingerprinted_text}

abbrev IsByte : ℕ → Type 0
IsByte byte = byte < 256

remainder : (n : ℕ) → n % 256 < 256
remainder n = omega arith

below : (count word : ℕ) → IsByte (byte_at count word)
below zero word = remainder _
below (suc count) word = remainder _

word_is_bytes : (count word : ℕ) → All IsByte (bytes_high_first count word)
word_is_bytes zero word = All-nil IsByte
word_is_bytes (suc count) word =
    All-cons IsByte (byte_at _ _) (bytes_high_first count word) (below _ word)
    (word_is_bytes count word)

digest_is_bytes : (words : List ℕ) (count : ℕ) → All IsByte (digest_bytes words count)
unfolding digest_bytes
digest_is_bytes words zero = All-nil IsByte
digest_is_bytes words (suc count) =
    All-append IsByte (digest_bytes words count) (to_be_bytes w32 (slice_index words count))
    (digest_is_bytes words count) (word_is_bytes 4 (slice_index words count))

sha256_is_bytes : (message : List ℕ) → All IsByte (sha256 message)
unfolding sha256
sha256_is_bytes message = digest_is_bytes _ 8

pub fingerprint_is_mark : (text : List ℕ) (tolerances : Tolerances) (road : RoadMap) (mark : Mark)
    → IsFingerprint text tolerances road mark → IsMark mark
fingerprint_is_mark text tolerances road mark is = record {
  count = ap length is ∙ length-sha256 (fingerprinted_text text tolerances road);
  bytes = rw (sym is) at (sha256_is_bytes (fingerprinted_text text tolerances road));
}
