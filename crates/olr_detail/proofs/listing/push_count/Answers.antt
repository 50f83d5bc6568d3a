use Rattle.std.proofs.Common.{◌≡◌, ◌++◌, ◌∙◌, List, ℕ, append_assoc, refl}
use Rattle.std.specs.Prelude.{codes, decimal}
use Rattle.olr_detail.proofs.listing.push_count.Goals as goal

-- one text after the other
joined : (old a b c d e : List ℕ)
    → old ++ (a ++ (b ++ (c ++ (d ++ e)))) ≡ old ++ ((((a ++ b) ++ c) ++ d) ++ e)
joined old a b c d e = simp append_assoc refl

pub returns : goal.returns
returns c = c.in_ok-write.ensures.bytes
    ∙ joined _ (codes "point ") (decimal c.args.number) (codes " candidates ")
    (decimal c.args.count) (codes "\n")
