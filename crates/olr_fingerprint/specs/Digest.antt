-- What a digest holds after it took in a text. (The inner contracts of `fingerprint_lines.rt`.)
use Rattle.std.specs.Prelude.{ℕ, List, ◌++◌}
use Rattle.sha2.specs.Hashers.{Holds256}
use Rattle.sha2.specs.declared.Sha256.{Sha256}

-- whatever text the digest held before, it now holds that text and then this one
abbrev pub Extends : Sha256 → Sha256 → List ℕ → Type 0
Extends before after text = (held : List ℕ) → Holds256 before held → Holds256 after (held ++ text)
