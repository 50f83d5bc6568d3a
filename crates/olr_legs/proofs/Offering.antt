-- What offering a walk to a line does.
use Rattle.std.proofs.Common.{◌≡◌, ◌≢◌, ℕ, List, ◌∷◌, arith, refl, inl, inr, subst, suc, sym, ◌∙◌, false}
use Rattle.std.proofs.lemmas.Bool.{cases_eq}
use Rattle.std.proofs.lemmas.Grind.{common_steps}
use Rattle.std.proofs.lemmas.Option.{same_Some}
use Rattle.std.proofs.lemmas.List.Sorted.{Contains-permutation}
use Rattle.std.specs.BinaryHeap.{heap_items}
use Rattle.std.specs.Prelude.{IsPermutation, Some, nat_eq}
use Rattle.olr_route.specs.Route.{IsUpTo}
use Rattle.olr_legs.specs.Labels.{AreKept, IsOffered, way_in}
use Rattle.olr_legs.specs.Way.{IsUpToWay}
use Rattle.olr_legs.specs.declared.labels.Labels.{Labels}
use Rattle.olr_legs.specs.declared.way.Way.{Way}
use Rattle.olr_legs.proofs.Ways.{up_to_itself, way_trans}

-- the line keeps its walk
pub offered_kept : (labels : Labels) (line length : ℕ) (behind : List ℕ) (way : Way)
    → way_in labels line ≡ Some way → IsUpToWay way.length way.behind.items length behind
    → IsOffered line length behind labels labels
offered_kept labels line length behind way is up = record {
  known = (way, is, up);
  here = inl refl;
  others = λ other differs. refl;
  kept = λ other long rest known. known;
  waits = λ other long waits. waits;
}

-- the line has the walk now, and waits
module _ (old new : Labels) (line length : ℕ) (behind : List ℕ) (way : Way)
    (earlier : (prior : Way) → way_in old line ≡ Some prior
    → IsUpToWay length behind prior.length prior.behind.items)
    (here : way_in new line ≡ Some way) (long : way.length ≡ length)
    (over : way.behind.items ≡ behind)
    (others : (other : ℕ) → nat_eq line other ≡ false → way_in new other ≡ way_in old other)
    (pushed : IsPermutation (record { 0 = (length, line) } ∷ heap_items old.waiting)
    (heap_items new.waiting)) where
  other_way : (other : ℕ) → other ≢ line → way_in new other ≡ way_in old other
  other_way other differs = others other (grind (arith, common_steps))

  itself : IsUpToWay way.length way.behind.items length behind
  itself = inr (long, subst (λ b. IsUpTo way.behind.items b) over (up_to_itself way.behind.items))

  still : AreKept old new
  still other far rest (prior, is, up) = elim (cases_eq other line) [
    | inl same ↦ (
      way,
      subst (λ (l : ℕ). way_in new l ≡ Some way) (sym same) here,
      way_trans _ prior.length _ _ prior.behind.items _
          (way_trans _ length _ _ behind _ itself
          (earlier prior (subst (λ (l : ℕ). way_in old l ≡ Some prior) same is))) up,
    )
    | inr differs ↦ (prior, other_way other differs ∙ is, up)
  ]

  pub offered_new : IsOffered line length behind old new
  offered_new = record {
    known = (way, here, itself);
    here = inr (way, here, long, over, Contains-permutation _ _ _ pushed (0, omega arith, refl));
    others = other_way;
    kept = still;
    waits = λ other far waits. Contains-permutation _ _ _ pushed
        (suc waits.0, omega arith, waits.2);
  }

-- a walk that comes before the one that a line has comes before each that it has
pub earlier_than : (old : Labels) (line length : ℕ) (behind : List ℕ) (way : Way)
    → way_in old line ≡ Some way → IsUpToWay length behind way.length way.behind.items
    → (prior : Way) → way_in old line ≡ Some prior
    → IsUpToWay length behind prior.length prior.behind.items
earlier_than old line length behind way has up prior is =
    subst (λ (w : Way). IsUpToWay length behind w.length w.behind.items)
    (same_Some way prior (sym has ∙ is)) up
