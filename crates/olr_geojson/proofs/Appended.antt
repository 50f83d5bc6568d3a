-- A text to which others were added, one after the other.
use Rattle.std.proofs.Common.{◌≡◌, ℕ, List, ◌++◌, append_assoc}

module _ (old a b c : List ℕ) where
  pub three : (one two new : List ℕ) → one ≡ old ++ a → two ≡ one ++ b → new ≡ two ++ c
      → new ≡ old ++ ((a ++ b) ++ c)
  three one two new p q r = rw (r, q, p) (simp append_assoc)

  pub five : (d e one two more four new : List ℕ) → one ≡ old ++ a → two ≡ one ++ b
      → more ≡ two ++ c → four ≡ more ++ d → new ≡ four ++ e
      → new ≡ old ++ ((((a ++ b) ++ c) ++ d) ++ e)
  five d e one two more four new p q r s t = rw (t, s, r, q, p) (simp append_assoc)
