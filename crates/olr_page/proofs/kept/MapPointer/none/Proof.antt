-- A handle with nothing behind it owns nothing.
use Rattle.std.proofs.Common.{[], ◌∷◌, refl}
use Rattle.std.proofs.raw_atomic.Walks.{proved}
use Rattle.std.specs.Prelude.{None}
use base.Fml.{ftrue}
use denote.RawPtr.{null_ptr}
use denote.Steps.{nothing}
use denote.Triple.Entry.{on_entry}
use denote.Triple.Walked.{Stays, walk_of, says, ends_at}
use types.ByLocal.{alloc_all, pass_all, free_all, look_at, sets}
use types.Kit.{‵, raw, ◌$◌, ◌∵◌, !, qed, done, drop, use1, suffices}
use types.Part.{agg}
use types.Run.{enter, lit, and_then, no_more, returns}
use Rattle.olr_page.proofs.kept.MapPointer.none.Code as code
use Rattle.olr_page.proofs.kept.MapPointer.none.Statement.{statement}
use Rattle.olr_page.proofs.Pointers.{word, word_typed, holds}
use Rattle.olr_page.specs.contracts.kept.MapPointer.none as f
use Rattle.olr_page.specs.contracts.kept.MapPointer.{the_row, the_type}
use Rattle.olr_page.specs.declared.kept.MapPointer.{MapPointer}

abbrev stayed : Stays f.ended.signature.params f.ended.kept
stayed = tt

abbrev empty : MapPointer
empty = record { at = null_ptr; heap = record { memory = record { seal = tt } }; map = None }

pub none_spec : {M : Type 1} → statement M
none_spec 𝓤 𝓛 𝓜 𝓡 wired =
    let c = f.clauses 𝓛 𝓜.mem 𝓡.returns in let W = walk_of 𝓛 f.ended stayed c in
    proved 𝓛 f.ended stayed c 𝓜 𝓡 tt f.Key.name code.function (code.unfolded 𝓤 𝓛.H 𝓜 𝓡 wired)
    (λ κs. tt) (λ κs. tt) (λ κs qs bounds a g are.
    let y : W.Ghost = ((κs, qs, bounds, a, tt), tt) in
    qed 𝓛 (raw (on_entry 𝓛 f.signature κs qs a tt) ∷ ‵ ftrue ∷ []) ∵ drop ! $ drop ! $
    enter ! _ _ _ _ _ $ alloc_all ! (λ l. pass_all ! refl tt $
    sets ! (agg ! (and_then ! (lit ! tt) (no_more !))) refl (word_typed the_type.name null_ptr) $
    returns ! (look_at ! 0 refl) $ free_all ! refl $
    suffices ! _ (ends_at 𝓛 f.ended stayed c y (word null_ptr) empty tt tt) $ says ! refl $
    nothing ! $ use1 𝓛 (‵ (the_row.own_val empty (word null_ptr ∷ []))) (holds 𝓛 the_type.name the_type.types null_ptr ftrue) $
    nothing ! $ nothing ! $ done !))
