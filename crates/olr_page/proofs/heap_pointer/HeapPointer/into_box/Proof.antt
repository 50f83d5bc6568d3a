-- What a `HeapPointer` owns is what `Box::from_raw` requires of its pointer.
use Rattle.std.proofs.Common.{[], ◌∷◌, ◌≡◌, refl, List}
use Rattle.std.proofs.alloc.Calls.{Goes-blank}
use Rattle.std.proofs.raw_atomic.Walks.{proved}
use base.Fml.{ftrue, flft}
use base.Fraction.{full_share}
use base.Logic.{id⊢, emp}
use contract.BorrowLft.{◌⊑◌, ⊑_refl}
use contract.Monad.{fact, fact_i}
use contract.Running.{tables}
use denote.Exit.{no, yes}
use denote.Laws.{Is, shows}
use denote.Param.{layouts, param}
use denote.Param.Laws.{param_laws}
use denote.Param.NoDrop.{glues}
use denote.RattleType.{RattleType}
use denote.RawPtr.{ptr_val}
use denote.Signature.{plain}
use denote.Steps.{nothing, heard, peeks}
use denote.Triple.Call.{calls_at_last}
use denote.Triple.Clauses.{Lasts, lasts}
use denote.Triple.Spec.{triple_of}
use denote.Triple.Table.{framed}
use denote.Triple.Walked.{Stays, walk_of, says, stay_dropped, Goes-dropped, ends_at}
use mir.MapTy.{inst_fn}
use mir.Syntax.{Args, Fn, a_type}
use mir.Val.{Val}
use types.ByLocal.{alloc_all, pass_all, free_all, look_at, get, get_in, sets, lands_last, env}
use types.Kit.{‵, raw, ◌⊛◌, some, later, at_ret, ◌$◌, ◌∵◌, !, qed, done, drop, move, keep, join, split, fsplit, use0, use1, feq_i, pick, await, suffices}
use types.Part.{whole, sub}
use types.Run.{enter, of_opd, and_then, no_more, returns, first, blocks, exec, fld, stop}
use Rattle.std.specs.contracts.alloc.Global as G
use Rattle.std.specs.contracts.boxed.Box as B
use Rattle.std.specs.contracts.boxed.Box.from_raw as g
use Rattle.std.specs.contracts.impls.GlobalAllocator.TheImpl as A
use Rattle.std.proofs.VecSteps.Shapes.{after}
use Rattle.std.proofs.alloc.Global.TheLaws as G-laws
use Rattle.std.proofs.boxed.Box.TheLaws as B-laws
use Rattle.std.proofs.boxed.Box.from_raw.Met as from_raw
use Rattle.std.proofs.impls.GlobalAllocator.TheImpl.Met as A-met
use Rattle.olr_page.proofs.Destruct++none.drop.Code as no-drop
use Rattle.olr_page.proofs.GlobalHeap.{heap, heap_laws, no_drop}
use Rattle.olr_page.proofs.Pointers.{word, word_typed, pointer_typed}
use Rattle.olr_page.proofs.heap_pointer.HeapPointer.TheLaws as H-laws
use Rattle.olr_page.proofs.heap_pointer.HeapPointer.into_box.Code as code
use Rattle.olr_page.proofs.heap_pointer.HeapPointer.into_box.Statement.{statement}
use Rattle.olr_page.specs.contracts.heap_pointer.HeapPointer as H
use Rattle.olr_page.specs.contracts.heap_pointer.HeapPointer.into_box as f

module _ (T : RattleType) where
  abbrev passed : Args
  passed = layouts (a_type ∷ []) (T, tt)

  abbrev function : Fn
  function = inst_fn passed code.function

  abbrev boxed : RattleType
  boxed = B.the_row (param 0 T) G.the_row A.ghosts

  abbrev stayed : Stays (f.ended T).signature.params (f.ended T).kept
  stayed = (stay_dropped _ no, (stay_dropped _ yes, tt))

pub into_box_spec : {M : Type 1} → statement M
unfolding no-drop.code
into_box_spec {M} 𝓤 𝓛 𝓜 𝓡 wired T laws =
    let e = f.ended T in let s = stayed T in
    let c = f.clauses T 𝓛 𝓜.mem 𝓡.returns in let W = walk_of 𝓛 e s c in let 𝓣 = tables 𝓤 𝓛.H 𝓜 𝓡 𝓡.env in
    proved 𝓛 e s c 𝓜 𝓡 (Goes-blank 𝓛 1 (plain (λ _. H.the_row (param 0 T))) no (λ κs x w. tt), (Goes-dropped 𝓛 1 (plain (λ _. G.the_row)) yes (λ κs x w. refl), tt))
    (f.Key.name (passed T)) (function T) (code.unfolded 𝓤 𝓛.H 𝓜 𝓡 wired (T, tt))
    (λ κs. ((λ h. word h.at ∷ []), ((λ a. G-laws.lowered a ∷ []), tt)))
    (λ κs. ((H-laws.lowers (param 0 T) (param_laws 0 T laws)).val_is, (G-laws.lowers.val_is, tt))) (λ κs qs bounds args _ are.
    let κ = κs.0 in let q = qs.0 in let h = args.0 in let a = args.1.0 in let p = ptr_val h.at in let b = G-laws.lowered a in
    let y : W.Ghost = ((κs, qs, bounds, args, (word h.at ∷ [], (b ∷ [], tt))), tt) in
    let box_laws = B-laws.the_row_laws (param 0 T) G.the_row A.ghosts (param_laws 0 T laws) G-laws.the_row_laws in
    let heap_typed = ((G-laws.the_row_laws.lawful 𝓛).typed a (b ∷ []) are.1.0).0 in
    qed 𝓛 (((‵ (flft κ q) ⊛ ‵ ftrue) ⊛ ‵ ((H.the_row (param 0 T)).own_val h (word h.at ∷ [])) ⊛ ‵ (G.the_row.own_val a (b ∷ [])) ⊛ ‵ ftrue)
    ∷ (raw (fact 𝓤 (κ ⊑ T.lives)) ⊛ ‵ ftrue) ∷ []) ∵
    move ! (1 ∷ []) $ split ! $ heard ! _ (λ within. drop ! $ split ! $ split ! $ move ! (2 ∷ []) $ split ! $ fsplit ! $ drop ! $
    move ! (1 ∷ []) $ split ! $ keep ! (2 ∷ 0 ∷ 3 ∷ []) $
    -- [what lies at the pointer; the allocator; the token of κ]
    enter ! _ _ _ _ _ $ alloc_all ! (λ l. pass_all ! refl (word_typed (H.the_type (param 0 T)).name h.at, (heap_typed, tt)) $
    sets ! (of_opd ! (get_in ! (fld ! refl (stop !)) (sub ! 0 refl (whole !)))) refl (pointer_typed h.at) $
    first ! $ blocks ! $
    use0 𝓛 (raw (fact 𝓤 ([] ⊑ heap.lives))) (fact_i 𝓤 ([] ⊑ heap.lives) (emp 𝓤) (⊑_refl [])) $ join ! $
    use0 𝓛 (raw (fact 𝓤 (κ ⊑ T.lives))) (fact_i 𝓤 (κ ⊑ T.lives) (emp 𝓤) within) $ join ! $
    nothing ! $ feq_i ! (List Val) (p ∷ []) (p ∷ []) refl $ join ! $ move ! (2 ∷ 0 ∷ []) $ join ! $
    nothing ! $ use0 𝓛 (‵ (flft [] full_share)) (𝓛.lfts.lft-nil full_share) $ join ! $ move ! (3 ∷ 0 ∷ []) $ join ! $ join ! $ join ! $
    let P = triple_of 𝓛 (g.signature T heap A.ghosts A.dict no_drop) (g.spec T heap A.ghosts A.dict no_drop 𝓛 𝓜.mem 𝓡.returns) in
    let z : P.Ghost = (((κ, ([], tt)), (q, (full_share, tt)), tt, (a, (h.at, tt)), (b ∷ [], (p ∷ [], tt))), h.value) in
    use1 𝓛 (raw (P.pre z)) (id⊢ 𝓤 _) $
    calls_at_last ! (framed 𝓤 𝓛.H 𝓜 𝓣) P
    (from_raw.met 𝓤 𝓛 𝓜 𝓡 (code.calls-std_alloc::boxed::Box::from_raw 𝓡.env wired) T heap laws heap_laws A.ghosts A.dict no_drop
    (A-met.passed 𝓡.env (code.calls-std_heap::GlobalAllocator::allocate 𝓡.env wired) (code.calls-std_heap::GlobalAllocator::deallocate 𝓡.env wired)
    (code.calls-std_heap::GlobalAllocator::grow 𝓡.env wired) (code.calls-std_heap::GlobalAllocator::shrink 𝓡.env wired) M 𝓤 𝓛 𝓜 𝓡)
    (glues "olr_page::Destruct++none::drop" 𝓡.env (code.calls-olr_page::Destruct++none::drop 𝓡.env wired) heap heap_laws M 𝓤 𝓛 𝓜 𝓡)) z
    (and_then ! (get ! refl) (and_then ! (get ! refl) (no_more !))) (λ w.
    let kept = g.ended T heap A.ghosts A.dict no_drop in
    use1 𝓛 (later (some (λ (r : (boxed T).Denot). ((‵ (flft κ q) ⊛ ‵ (flft [] full_share) ⊛ ‵ ftrue) ⊛ ‵ ((boxed T).own_val r (w ∷ []))) ⊛
    some (λ (ws : Lasts kept z.0.0 z.0.3). ‵ (lasts kept z.0.0 z.0.3 ws) ⊛ raw (fact 𝓤 (r.value ≡ h.value)) ⊛ raw (fact 𝓤 (r.alloc ≡ a)))))) (id⊢ 𝓤 _) $
    await ! tt $ pick ! (λ r. split ! $ split ! $ split ! $ move ! (2 ∷ []) $
    peeks ! (boxed T) (Is (boxed T)) (shows 𝓛 (boxed T)) r (w ∷ []) (λ is.
    let typed = ((box_laws.lawful 𝓛).typed r (w ∷ []) is).0 in
    lands_last ! refl typed $ move ! (3 ∷ []) $ pick ! (λ ws. split ! $ drop ! $ split ! $ heard ! _ (λ same. drop ! $
    -- [the box; the token of κ; that of `'static`]
    exec ! 𝓣.C 𝓣.Λ (env (function T).locals l) (after 2 (function T).body) (at_ret _ (W.post y)) $
    sets ! (of_opd ! (get ! refl)) refl typed $
    returns ! (look_at ! 0 refl) $ free_all ! refl $
    suffices ! _ (ends_at 𝓛 e s c y w r (tt, (tt, tt)) (tt, (tt, tt))) $ says ! same $
    move ! (2 ∷ []) $ drop ! $ nothing ! $ nothing ! $ join ! $ nothing ! $ join ! $ nothing ! $ move ! (3 ∷ 0 ∷ []) $ join ! $ done !))))))))
