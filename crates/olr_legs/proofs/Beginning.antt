-- The walk with which a search begins.
use Rattle.std.proofs.Common.{◌≡◌, ℕ, [], arith, inl, refl, subst, sym}
use Rattle.std.proofs.lemmas.List.Elements.{All-cons, All-nil}
use Rattle.std.specs.Prelude.{None, Some}
use Rattle.olr_route.specs.Walk.{IsDrivable, start_of}
use Rattle.olr_legs.specs.Avoiding.{IsClearOf}
use Rattle.olr_legs.specs.Labels.{AreSettled, AreSound, IsOffered, IsSettled, Waits, way_in}
use Rattle.olr_legs.specs.Search.{LeadsOn, MayEnd, last_piece}
use Rattle.olr_legs.specs.declared.labels.Labels.{Labels}
use Rattle.olr_legs.specs.declared.search.Search.{Search}
use Rattle.olr_legs.specs.declared.way.Way.{Way}
use Rattle.olr_legs.proofs.Settling.{offered_holds, offered_sound}
use Rattle.olr_legs.proofs.Walks.{rest_last}

end_leads : (search : Search) → MayEnd search
    → LeadsOn search (start_of search.to.line) search.to.at []
end_leads search may = record {
  on = record {
    turns = tt;
    ends = refl;
    drivable = All-cons (IsDrivable search.map.now search.reach.now.class) (last_piece search) []
        may.drivable (All-nil (IsDrivable search.map.now search.reach.now.class));
  };
  clear = All-cons (IsClearOf search.shut.now) (last_piece search) [] may.clear
      (All-nil (IsClearOf search.shut.now));
  long = omega (arith, rest_last search.map.now (start_of search.to.line) search.to);
  within = may.within;
}

module _ (search : Search) (none labels : Labels)
    (nothing : (line : ℕ) → way_in none line ≡ None)
    (offered : IsOffered search.to.line search.to.at [] none labels) where
  never : (line : ℕ) (way : Way) → way_in none line ≡ Some way → ⊥
  never line way is = let no = nothing line in cc

  pub begun_sound : MayEnd search → AreSound search labels
  begun_sound may = offered_sound search none labels search.to.line search.to.at [] offered
      (λ line way is. absurd (never line way is)) (end_leads search may)

  pub begun_settled : AreSettled search labels
  begun_settled =
      offered_holds (IsSettled search labels) none labels search.to.line search.to.at [] offered
      (λ line way is. absurd (never line way is))
      (λ way same _ waits. inl (subst (λ l. Waits labels search.to.line l) (sym same) waits))
