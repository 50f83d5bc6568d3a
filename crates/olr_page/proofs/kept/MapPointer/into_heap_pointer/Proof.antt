-- A handle that has a value gives up what lies behind its pointer.
use Rattle.std.proofs.Common.{[], ◌∷◌, refl}
use Rattle.std.proofs.alloc.Calls.{Goes-blank}
use Rattle.std.proofs.raw_atomic.Walks.{proved}
use Rattle.std.specs.Prelude.{◌≡◌, Option, None, Some, IsSome}
use Rattle.std.proofs.lemmas.Bool.{false≢true}
use base.Fml.{ftrue}
use contract.Monad.{fact}
use denote.Exit.{yes}
use denote.Signature.{plain}
use denote.Steps.{nothing, heard}
use denote.Triple.Walked.{Stays, walk_of, says, stay_dropped, ends_at}
use types.ByLocal.{alloc_all, pass_all, free_all, look_at, get, get_in, sets}
use types.Kit.{‵, raw, ◌⊛◌, ◌$◌, ◌∵◌, !, qed, done, drop, move, keep, join, split, fsplit, rewrite, use1, suffices}
use types.Part.{agg, whole, sub}
use types.Run.{enter, of_opd, and_then, no_more, returns, fld, stop}
use Rattle.std.specs.contracts.impls.GlobalAllocator.TheImpl.{ghosts}
use Rattle.olr_page.proofs.Pointers.{word, word_typed, pointer_typed, holds}
use Rattle.olr_page.proofs.kept.MapPointer.into_heap_pointer.Code as code
use Rattle.olr_page.proofs.kept.MapPointer.into_heap_pointer.Statement.{statement}
use Rattle.olr_page.proofs.kept.MapPointer.TheLaws.{lowers}
use Rattle.olr_page.specs.Kept.{owned_at}
use Rattle.olr_page.specs.contracts.kept.MapPointer as H
use Rattle.olr_page.specs.contracts.kept.MapPointer.into_heap_pointer as f
use Rattle.olr_page.specs.contracts.heap_pointer.HeapPointer as P
use Rattle.olr_road.specs.contracts.map.Map.{the_row}
use Rattle.olr_page.specs.declared.heap_pointer.HeapPointer.{HeapPointer}
use Rattle.olr_road.specs.RoadMap.{RoadMap}

abbrev stayed : Stays f.ended.signature.params f.ended.kept
stayed = (stay_dropped _ yes, tt)

-- the value that there is
found : {X : Type 0} (o : Option X) → IsSome o → (x : X) × (o ≡ Some x)
found None is = absurd (false≢true is)
found (Some x) is = (x, refl)

pub into_heap_pointer_spec : {M : Type 1} → statement M
into_heap_pointer_spec 𝓤 𝓛 𝓜 𝓡 wired =
    let c = f.clauses 𝓛 𝓜.mem 𝓡.returns in let W = walk_of 𝓛 f.ended stayed c in
    proved 𝓛 f.ended stayed c 𝓜 𝓡 (Goes-blank 𝓛 0 (plain (λ _. H.the_row)) yes (λ κs x w. tt), tt)
    f.Key.name code.function (code.unfolded 𝓤 𝓛.H 𝓜 𝓡 wired)
    (λ κs. ((λ h. word h.at ∷ []), tt)) (λ κs. (lowers.val_is, tt)) (λ κs qs bounds args _ are.
    let h = args.0 in
    let y : W.Ghost = ((κs, qs, bounds, args, (word h.at ∷ [], tt)), tt) in
    qed 𝓛 ((‵ ftrue ⊛ ‵ (H.the_row.own_val h (word h.at ∷ [])) ⊛ ‵ ftrue) ∷ raw (fact 𝓤 (IsSome h.map)) ∷ []) ∵
    move ! (1 ∷ []) $ heard ! _ (λ is.
    let it = found h.map is in
    let p : HeapPointer RoadMap = record { at = h.at; heap = h.heap; value = it.0 } in
    split ! $ drop ! $ split ! $ fsplit ! $ drop ! $ keep ! (0 ∷ []) $
    rewrite ! 0 (λ (map : Option RoadMap). ‵ (owned_at the_row (ghosts.dealloc_token h.heap) h.at map)) it.1 refl $
    -- [what lies at the pointer]
    enter ! _ _ _ _ _ $ alloc_all ! (λ l. pass_all ! refl (word_typed H.the_type.name h.at, tt) $
    sets ! (of_opd ! (get_in ! (fld ! refl (stop !)) (sub ! 0 refl (whole !)))) refl (pointer_typed h.at) $
    sets ! (of_opd ! (get ! refl)) refl (pointer_typed h.at) $
    sets ! (agg ! (and_then ! (get ! refl) (no_more !))) refl (word_typed (P.the_type the_row).name h.at) $
    returns ! (look_at ! 0 refl) $ free_all ! refl $
    suffices ! _ (ends_at 𝓛 f.ended stayed c y (word h.at) p (tt, tt) (tt, tt)) $ says ! it.1 $
    use1 𝓛 (‵ ((P.the_row the_row).own_val p (word h.at ∷ []))) (holds 𝓛 (P.the_type the_row).name (P.the_type the_row).types h.at (P.the_heap the_row p)) $
    nothing ! $ nothing ! $ join ! $ nothing ! $ done !)))
