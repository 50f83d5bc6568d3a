-- Texts that are added one after another.
use Rattle.std.proofs.Common.{◌≡◌, ℕ, List, ◌++◌, ap, ◌∙◌, append_assoc}

-- a text was added, and another one
pub joined : (old between new text other : List ℕ) → between ≡ old ++ text
    → new ≡ between ++ other → new ≡ old ++ (text ++ other)
joined old between new text other first then =
    then ∙ ap (λ (so_far : List ℕ). so_far ++ other) first ∙ append_assoc old text other
