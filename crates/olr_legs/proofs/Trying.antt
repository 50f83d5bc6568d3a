-- Looking for the first walk from the place where the walks begin.
use Rattle.std.proofs.Common.{◌≡◌, ℕ, ◌+◌, ◌<◌, ◌≤◌, ◌⊎◌, List, ◌∷◌, arith, refl, inl, inr, subst, sym, ◌∙◌, get_or, length}
use Rattle.std.proofs.lemmas.Option.{same_Some}
use borrow.Author.Count.{below_more}
use Rattle.std.specs.Prelude.{IfSome, Option, None, Some, slice_get}
use Rattle.olr_index.specs.ByNode.{IsLinesOf}
use Rattle.olr_road.specs.RoadMap.{origins_of}
use Rattle.olr_road.specs.declared.place.Place.{Place}
use Rattle.olr_route.specs.Steps.{rest_of_line}
use Rattle.olr_route.specs.Turn.{IsTurn}
use Rattle.olr_legs.specs.Departing.{IsBestOf, IsBestOver, IsDeparting, IsFirstDeparting, MayDepart}
use Rattle.olr_legs.specs.Labels.{AreSound, way_in}
use Rattle.olr_legs.specs.Search.{LeadsOn, from_of}
use Rattle.olr_legs.specs.Way.{IsUpToWay}
use Rattle.olr_legs.specs.declared.labels.Labels.{Labels}
use Rattle.olr_legs.specs.declared.search.Search.{Search}
use Rattle.olr_legs.specs.declared.way.Way.{Way}
use Rattle.olr_legs.proofs.Leading.{leads_from}
use Rattle.olr_legs.proofs.Turns.{each_of}
use Rattle.olr_legs.proofs.Ways.{way_trans}

module _ (search : Search) (labels : Labels) (lines : List ℕ) where
  abbrev from : Place
  from = from_of search

  -- the lines that may follow were tried as far as this index
  pub record IsTrying (index : ℕ) (best : Option Way) : Type 0 where
    pub departs : IfSome best (IsDeparting search)
    pub tried : (k : ℕ) → k < index → IsTurn search.map.now from.line (get_or lines k 0)
        → IsBestOver search labels best (get_or lines k 0)

  pub trying_begun : IsTrying 0 None
  trying_begun = record { departs = tt; tried = λ k below. absurd (omega arith) }

  -- the next one is passed over
  pub trying_over : (index : ℕ) (best : Option Way) → IsTrying index best
      → (next : ℕ) → get_or lines index 0 ≡ next
      → (IsTurn search.map.now from.line next → IsBestOver search labels best next)
      → IsTrying (index + 1) best
  trying_over index best trying next is known = record {
    departs = trying.departs;
    tried = below_more
        (λ k. IsTurn search.map.now from.line (get_or lines k 0)
        → IsBestOver search labels best (get_or lines k 0)) index trying.tried
        (subst (λ n. IsTurn search.map.now from.line n → IsBestOver search labels best n) (sym is)
        known);
  }

  -- a walk that is not behind the best one is one itself
  module _ (best : Option Way) (other way : Way)
      (up : IfSome best (λ b. IsUpToWay way.length way.behind.items b.length b.behind.items)) where
    still_up : (b : Way) → best ≡ Some b
        → IsUpToWay way.length way.behind.items b.length b.behind.items
    still_up b is = rw is at up

    still_best : (long : ℕ) (behind : List ℕ) → IsBestOf best long behind
        → IsBestOf (Some way) long behind
    still_best long behind (b, is, first) =
        (way, refl, way_trans _ b.length _ _ b.behind.items _ (still_up b is) first)

    pub still_trying : (index : ℕ) → IsTrying index best
        → IsDeparting search other → (way ≡ other) ⊎ (best ≡ Some way) → IsTrying index (Some way)
    still_trying index trying departs either = record {
      departs = elim either [
        | inl same ↦ subst (IsDeparting search) (sym same) departs
        | inr same ↦ rw same at trying.departs
      ];
      tried = λ k below turn w is within. still_best _ _ (trying.tried k below turn w is within);
    }

  module _ (sound : AreSound search labels) (may : MayDepart search) where
    -- the walk over this line
    pub departing : (next : ℕ) (way made : Way) → way_in labels next ≡ Some way
        → IsTurn search.map.now from.line next
        → rest_of_line search.map.now from + way.length ≤ search.bound
        → made.length ≡ rest_of_line search.map.now from + way.length
        → made.behind.items ≡ next ∷ way.behind.items → IsDeparting search made
    departing next way made has turn within long over =
        let leads = leads_from search from next way.length way.behind.items (sound next way has) turn
        may.opened may.clear within in record {
          leads = subst (λ b. LeadsOn search from made.length b) (sym over)
              (subst (λ l. LeadsOn search from l (next ∷ way.behind.items)) (sym long) leads);
          leaves_line = λ none. absurd cc;
        }

    -- the next one gives a walk, of which and the best one this is the first
    pub trying_on : (index : ℕ) (best : Option Way) → IsTrying index best
        → (next : ℕ) → get_or lines index 0 ≡ next → IsTurn search.map.now from.line next
        → (way made result : Way) → way_in labels next ≡ Some way
        → rest_of_line search.map.now from + way.length ≤ search.bound
        → made.length ≡ rest_of_line search.map.now from + way.length
        → made.behind.items ≡ next ∷ way.behind.items
        → IsUpToWay result.length result.behind.items made.length made.behind.items
        → IfSome best (λ b. IsUpToWay result.length result.behind.items b.length b.behind.items)
        → (result ≡ made) ⊎ (best ≡ Some result) → IsTrying (index + 1) (Some result)
    trying_on index best trying next is turn way made result has within long over up_made up either =
        trying_over index (Some result)
        (still_trying best made result up index trying
        (departing next way made has turn within long over) either) next is
        (λ _ w has_w within_w. (
          result,
          refl,
          subst (λ (v : Way). IsUpToWay result.length result.behind.items
              (rest_of_line search.map.now from + v.length) (next ∷ v.behind.items))
              (same_Some way w (sym has ∙ has_w))
              (subst (λ b. IsUpToWay result.length result.behind.items
              (rest_of_line search.map.now from + way.length) b) over
              (subst (λ l. IsUpToWay result.length result.behind.items l made.behind.items) long
              up_made)),
        ))

  -- all were tried
  pub tried_all : (index node : ℕ) (best : Option Way) → IsTrying index best
      → IsLinesOf (origins_of search.map.now.lines) node lines → length lines ≤ index
      → ((next : ℕ) → IsTurn search.map.now from.line next
      → slice_get (origins_of search.map.now.lines) next ≡ Some node)
      → IsFirstDeparting search labels best
  tried_all index node best trying are all starts = record {
    departs = trying.departs;
    first = λ _ next turn. each_of
        (λ n. IsTurn search.map.now from.line n → IsBestOver search labels best n) lines index
        trying.tried all next (are.all next (starts next turn)) turn;
  }
