-- A digest that takes in the rows of a text.
use Rattle.std.proofs.Common.{ℕ, ◌+◌, ◌<◌, List, [], ◌++◌, append_assoc, length, get_or, take}
use Rattle.std.specs.List.{concat}
use Rattle.sha2.specs.declared.Sha256.{Sha256}
use Rattle.olr_road.proofs.CanonicalRows.{row_more}
use Rattle.olr_fingerprint.specs.Digest.{Extends}

-- what was taken in, and then one row more
pub extended_more : (start before after : Sha256) (rows : List (List ℕ)) (number : ℕ)
    → number < length rows → Extends start before (concat (take number rows))
    → Extends before after (get_or rows number [])
    → Extends start after (concat (take (number + 1) rows))
extended_more start before after rows number inside first then = λ held holds.
    rw (
      ← row_more _ _ inside,
      ← append_assoc held (concat (take number rows))
          (get_or rows number []),
    )
    (then (held ++ concat (take number rows)) (first held holds))
