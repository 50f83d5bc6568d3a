use Rattle.std.proofs.Common.{◌≡◌, ◌⊎◌, Some, refl, inl, inr}
use Rattle.olr_legs.specs.declared.way.Way.{Way}
use Rattle.olr_legs.proofs.best.both.Goals as goal

either_of : (one other first : Way) → (first ≡ other) ⊎ (Some one ≡ Some first)
    → (first ≡ one) ⊎ (first ≡ other)
either_of one other first (inl same) = inr same
either_of one other first (inr same) = inl (cc)

pub returns-in-Found-first : goal.returns-in-Found-first
returns-in-Found-first c =
    let is = c.first_of.ensures in
    rw (c.in-Found.is, c.in-Found-first.is) (
      c.first_of.result,
      record {
        either = either_of _ _ _ is.either;
        up_to_one = is.best;
        up_to_other = is.other;
      },
      refl,
    )
