-- A handle takes over what lies behind a pointer.
use Rattle.std.proofs.Common.{[], ◌∷◌, refl}
use Rattle.std.proofs.alloc.Calls.{Goes-blank}
use Rattle.std.proofs.raw_atomic.Walks.{proved}
use Rattle.std.specs.Prelude.{Some}
use base.Fml.{ftrue}
use denote.Exit.{yes}
use denote.Signature.{plain}
use denote.Steps.{nothing}
use denote.Triple.Walked.{Stays, walk_of, says, stay_dropped, ends_at}
use types.ByLocal.{alloc_all, pass_all, free_all, look_at, get, get_in, sets}
use types.Kit.{‵, ◌⊛◌, ◌$◌, ◌∵◌, !, qed, done, drop, keep, join, split, fsplit, use1, suffices}
use types.Part.{agg, whole, sub}
use types.Run.{enter, of_opd, and_then, no_more, returns, fld, stop}
use Rattle.olr_page.proofs.Pointers.{word, word_typed, pointer_typed, holds}
use Rattle.olr_page.proofs.kept.MapPointer.of.Code as code
use Rattle.olr_page.proofs.kept.MapPointer.of.Statement.{statement}
use Rattle.olr_page.proofs.heap_pointer.HeapPointer.TheLaws.{lowers}
use Rattle.olr_road.proofs.map.Map.TheLaws.{the_row_laws}
use Rattle.olr_page.specs.contracts.kept.MapPointer as H
use Rattle.olr_page.specs.contracts.kept.MapPointer.of as f
use Rattle.olr_page.specs.contracts.heap_pointer.HeapPointer as P
use Rattle.olr_road.specs.contracts.map.Map.{the_row}
use Rattle.olr_page.specs.declared.kept.MapPointer.{MapPointer}

abbrev stayed : Stays f.ended.signature.params f.ended.kept
stayed = (stay_dropped _ yes, tt)

pub of_spec : {M : Type 1} → statement M
of_spec 𝓤 𝓛 𝓜 𝓡 wired =
    let c = f.clauses 𝓛 𝓜.mem 𝓡.returns in let W = walk_of 𝓛 f.ended stayed c in
    proved 𝓛 f.ended stayed c 𝓜 𝓡 (Goes-blank 𝓛 0 (plain (λ _. P.the_row the_row)) yes (λ κs x w. tt), tt)
    f.Key.name code.function (code.unfolded 𝓤 𝓛.H 𝓜 𝓡 wired)
    (λ κs. ((λ p. word p.at ∷ []), tt)) (λ κs. ((lowers the_row the_row_laws).val_is, tt)) (λ κs qs bounds args _ are.
    let p = args.0 in
    let y : W.Ghost = ((κs, qs, bounds, args, (word p.at ∷ [], tt)), tt) in
    let h : MapPointer = record { at = p.at; heap = p.heap; map = Some p.value } in
    qed 𝓛 ((‵ ftrue ⊛ ‵ ((P.the_row the_row).own_val p (word p.at ∷ [])) ⊛ ‵ ftrue) ∷ ‵ ftrue ∷ []) ∵
    split ! $ drop ! $ split ! $ fsplit ! $ drop ! $ keep ! (0 ∷ []) $
    -- [what lies at the pointer]
    enter ! _ _ _ _ _ $ alloc_all ! (λ l. pass_all ! refl (word_typed (P.the_type the_row).name p.at, tt) $
    sets ! (of_opd ! (get_in ! (fld ! refl (stop !)) (sub ! 0 refl (whole !)))) refl (pointer_typed p.at) $
    sets ! (of_opd ! (get ! refl)) refl (pointer_typed p.at) $
    sets ! (agg ! (and_then ! (get ! refl) (no_more !))) refl (word_typed H.the_type.name p.at) $
    returns ! (look_at ! 0 refl) $ free_all ! refl $
    suffices ! _ (ends_at 𝓛 f.ended stayed c y (word p.at) h (tt, tt) (tt, tt)) $ says ! refl $
    use1 𝓛 (‵ (H.the_row.own_val h (word p.at ∷ []))) (holds 𝓛 H.the_type.name H.the_type.types p.at (H.the_heap h)) $
    nothing ! $ nothing ! $ join ! $ nothing ! $ done !))
