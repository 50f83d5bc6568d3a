use Rattle.std.proofs.Common.{◌≡◌, ◌++◌, ◌∙◌, List, ℕ, ap, append_assoc, refl}
use Rattle.std.specs.Prelude.{codes, decimal}
use Rattle.olr_detail.proofs.text.push_leg.Goals as goal

-- one text after the other
joined : (old a b c d e f g h i j k : List ℕ)
    → (old ++ (a ++ (b ++ (c ++ d)))) ++ (e ++ (f ++ (g ++ (h ++ (i ++ (j ++ k))))))
    ≡ old ++ ((((((((((a ++ b) ++ c) ++ d) ++ e) ++ f) ++ g) ++ h) ++ i) ++ j) ++ k)
joined old a b c d e f g h i j k = simp append_assoc refl

pub returns : goal.returns
returns c =
    let detail = c.args.detail.now in
    c.in_ok-write-2.ensures.bytes
    ∙ ap (λ (front : List ℕ). front ++ (codes " of " ++ (decimal detail.least ++ (codes " to "
    ++ (decimal detail.greatest ++ (codes " limit " ++ (decimal detail.limit ++ codes "\n")))))))
    c.in_ok-write.ensures.bytes
    ∙ joined _ (codes " length ") (decimal detail.length) (codes " penalty ")
    (decimal detail.penalty) (codes " of ") (decimal detail.least) (codes " to ")
    (decimal detail.greatest) (codes " limit ") (decimal detail.limit) (codes "\n")
