-- What `Box::into_raw` ensures of its pointer is what a `HeapPointer` owns.
use Rattle.std.proofs.Common.{[], ◌∷◌, refl, ap, List}
use Rattle.std.proofs.alloc.Calls.{Goes-blank}
use Rattle.std.proofs.raw_atomic.Walks.{proved_at}
use Rattle.std.specs.Box.Ownership.{box_owns}
use base.Fml.{ftrue, flft}
use base.Fraction.{full_share}
use base.Logic.{id⊢, ent, emp}
use contract.BorrowLft.{◌⊑◌, ⊑_refl}
use contract.Monad.{fact, fact_i}
use contract.Running.{tables}
use denote.Exit.{no}
use denote.Param.{bounded, layout, param}
use denote.Param.Laws.{param_laws}
use denote.Param.NoDrop.{glues}
use denote.Param.Steps.{one_value}
use denote.RattleType.{RattleType}
use denote.RawPtr.{Ptr, RawPtr}
use denote.Signature.{plain}
use denote.Steps.{nothing, heard, only}
use denote.Triple.Call.{calls_at}
use denote.Triple.Clauses.{Lasts, lasts}
use denote.Triple.Spec.{triple_of}
use denote.Triple.Table.{framed}
use denote.Triple.Walked.{Stays, walk_of, says, stay_dropped, ends_at}
use mir.MapTy.{inst_fn}
use mir.Syntax.{Args, Dict, Fn, a_type, dcons, dnil}
use mir.Val.{Val}
use prog.Wp.{WpFn}
use types.ByLocal.{alloc_all, pass_all, free_all, look_at, get, sets, lands_as}
use types.Kit.{‵, raw, ◌⊛◌, some, later, ◌$◌, ◌∵◌, !, qed, done, drop, move, keep, join, split, use0, use1, feq_l, pick, await, suffices}
use types.Part.{agg}
use types.Run.{enter, of_opd, and_then, no_more, returns}
use Rattle.std.specs.contracts.alloc.Global as G
use Rattle.std.specs.contracts.boxed.Box as B
use Rattle.std.specs.contracts.boxed.Box.into_raw as g
use Rattle.std.specs.contracts.impls.GlobalAllocator.TheImpl as A
use Rattle.std.proofs.alloc.Global.TheLaws as G-laws
use Rattle.std.proofs.boxed.Box.TheLaws as B-laws
use Rattle.std.proofs.boxed.Box.into_raw.Met as into_raw
use Rattle.std.proofs.impls.GlobalAllocator.TheImpl.Met as A-met
use Rattle.olr_page.proofs.Destruct++none.drop.Code as no-drop
use Rattle.olr_page.proofs.GlobalHeap.{heap, heap_laws, no_drop}
use Rattle.olr_page.proofs.Pointers.{word, word_typed, pointer_typed, holds}
use Rattle.olr_page.proofs.heap_pointer.HeapPointer.of.Code as code
use Rattle.olr_page.proofs.heap_pointer.HeapPointer.of.Statement.{statement}
use Rattle.olr_page.specs.contracts.heap_pointer.HeapPointer as H
use Rattle.olr_page.specs.contracts.heap_pointer.HeapPointer.of as f
use Rattle.olr_page.specs.declared.heap_pointer.HeapPointer.{HeapPointer}

module _ (T : RattleType) (d : Dict) where
  abbrev passed : Args
  passed = bounded (a_type ∷ []) (T, tt) (dcons d dnil)

  abbrev function : Fn
  function = inst_fn passed code.function

  abbrev boxed : RattleType
  boxed = B.the_row (param 0 T) G.the_row A.ghosts

  abbrev stayed : Stays (f.ended T d).signature.params (f.ended T d).kept
  stayed = (stay_dropped (plain (λ _. boxed)) no, tt)

pub of_spec : {M : Type 1} → statement M
unfolding no-drop.code
of_spec {M} 𝓤 𝓛 𝓜 𝓡 wired T laws d drops =
    let e = f.ended T d in let s = stayed T d in
    let c = f.clauses T d 𝓛 𝓜.mem 𝓡.returns in let W = walk_of 𝓛 e s c in let 𝓣 = tables 𝓤 𝓛.H 𝓜 𝓡 𝓡.env in
    proved_at 𝓛 e s c 𝓜 𝓡 (Goes-blank 𝓛 1 (plain (λ _. boxed T d)) no (λ κs x w. tt), tt)
    (f.Key.name (passed T d)) (function T d) (code.unfolded 𝓤 𝓛.H 𝓜 𝓡 wired (T, tt) d) (λ y are.
    let κ = y.0.0.0 in let q = y.0.1.0 in let x = y.0.3.0 in
    let box_laws = B-laws.the_row_laws (param 0 T) G.the_row A.ghosts (param_laws 0 T laws) G-laws.the_row_laws in
    let at : List Val → W.Ghost = λ vs. ((y.0.0, y.0.1, y.0.2, y.0.3, (vs, tt)), y.1) in
    one_value (layout (boxed T d)) (λ vs. ent 𝓤 (W.pre (at vs)) (WpFn 𝓤 𝓛.H 𝓣.C 𝓣.Λ (function T d) (W.args (at vs)) (W.post (at vs)))) y.0.4.0
    ((box_laws.lawful 𝓛).typed x y.0.4.0 are.0) (λ v typed.
    qed 𝓛 (((‵ (flft κ q) ⊛ ‵ ftrue) ⊛ ‵ ((boxed T d).own_val x (v ∷ [])) ⊛ ‵ ftrue) ∷ (raw (fact 𝓤 (κ ⊑ T.lives)) ⊛ ‵ ftrue) ∷ []) ∵
    move ! (1 ∷ []) $ split ! $ heard ! _ (λ within. drop ! $ split ! $ split ! $ move ! (2 ∷ []) $ split ! $ keep ! (0 ∷ 2 ∷ []) $
    -- [the box; the token of κ]
    enter ! _ _ _ _ _ $ alloc_all ! (λ l. pass_all ! refl (typed, tt) $
    sets ! (of_opd ! (get ! refl)) refl typed $
    -- the callee's two type parameters: T for κ, and `Global` for `'static`
    nothing ! $ use0 𝓛 (raw (fact 𝓤 ([] ⊑ heap.lives))) (fact_i 𝓤 ([] ⊑ heap.lives) (emp 𝓤) (⊑_refl [])) $ join ! $
    use0 𝓛 (raw (fact 𝓤 (κ ⊑ T.lives))) (fact_i 𝓤 (κ ⊑ T.lives) (emp 𝓤) within) $ join ! $
    nothing ! $ move ! (2 ∷ 0 ∷ []) $ join ! $
    nothing ! $ use0 𝓛 (‵ (flft [] full_share)) (𝓛.lfts.lft-nil full_share) $ join ! $ move ! (3 ∷ 0 ∷ []) $ join ! $ join ! $ join ! $
    let P = triple_of 𝓛 (g.signature T heap A.ghosts A.dict no_drop d) (g.spec T heap A.ghosts A.dict no_drop d 𝓛 𝓜.mem 𝓡.returns) in
    let z : P.Ghost = (((κ, ([], tt)), (q, (full_share, tt)), tt, (x, tt), (v ∷ [], tt)), tt) in
    use1 𝓛 (raw (P.pre z)) (id⊢ 𝓤 _) $
    calls_at ! (framed 𝓤 𝓛.H 𝓜 𝓣) P
    (into_raw.met 𝓤 𝓛 𝓜 𝓡 (code.calls-std_alloc::boxed::Box::into_raw 𝓡.env wired) T heap laws heap_laws A.ghosts A.dict no_drop d
    (A-met.passed 𝓡.env (code.calls-std_heap::GlobalAllocator::allocate 𝓡.env wired) (code.calls-std_heap::GlobalAllocator::deallocate 𝓡.env wired)
    (code.calls-std_heap::GlobalAllocator::grow 𝓡.env wired) (code.calls-std_heap::GlobalAllocator::shrink 𝓡.env wired) M 𝓤 𝓛 𝓜 𝓡)
    (glues "olr_page::Destruct++none::drop" 𝓡.env (code.calls-olr_page::Destruct++none::drop 𝓡.env wired) heap heap_laws M 𝓤 𝓛 𝓜 𝓡) drops) z
    (and_then ! (get ! refl) (no_more !)) (λ w.
    let kept = g.ended T heap A.ghosts A.dict no_drop d in
    use1 𝓛 (later (some (λ (p : Ptr). ((‵ (flft κ q) ⊛ ‵ (flft [] full_share) ⊛ ‵ ftrue) ⊛ ‵ (RawPtr.own_val p (w ∷ []))) ⊛
    some (λ (ws : Lasts kept z.0.0 z.0.3). ‵ (lasts kept z.0.0 z.0.3 ws) ⊛ ‵ (box_owns (A.ghosts.dealloc_token x.alloc) (param 0 T) p x.value))))) (id⊢ 𝓤 _) $
    await ! tt $ pick ! (λ p. split ! $ split ! $ split ! $ move ! (2 ∷ []) $ feq_l ! (λ is.
    lands_as ! (ap only is) refl (pointer_typed p) $ move ! (2 ∷ []) $ pick ! (λ ws. split ! $ drop ! $
    -- [what lies at the pointer; the token of κ; that of `'static`]
    let h : HeapPointer T.Denot = record { at = p; heap = x.alloc; value = x.value } in
    sets ! (agg ! (and_then ! (get ! refl) (no_more !))) refl (word_typed (H.the_type (param 0 T)).name p) $
    returns ! (look_at ! 0 refl) $ free_all ! refl $
    suffices ! _ (ends_at 𝓛 e s c (at (v ∷ [])) (word p) h (tt, tt) (tt, tt)) $ says ! refl $
    use1 𝓛 (‵ ((H.the_row (param 0 T)).own_val h (word p ∷ []))) (holds 𝓛 (H.the_type (param 0 T)).name (H.the_type (param 0 T)).types p (H.the_heap (param 0 T) h)) $
    move ! (2 ∷ []) $ drop ! $ nothing ! $ nothing ! $ join ! $ nothing ! $ move ! (3 ∷ 0 ∷ []) $ join ! $ done !))))))))
