-- A struct of one pointer that owns what lies there: its machine value, and how it is made.
use Rattle.std.proofs.Common.{List, [], ◌∷◌, refl, lit<}
use seplogic.Ra.Ura.{Ura}
use lib.Dec.{T}
use mir.Syntax.{Sym, ty_ptr, ty_struct, tnil, tcons}
use mir.Val.{Val, vstruct, vnil, vcons, has_ty, WT}
use base.Fml.{Fml, fsep}
use base.Logic.{ent}
use types.Logic.{Logic, sem}
use types.Kit.{‵, ◌$◌, ◌∵◌, !, qed, done, fjoin, fpack, feq_i}
use denote.RattleType.{RattleType, Valss}
use denote.RawPtr.{Ptr, block_ptr, null_ptr, RawPtr, ptr_val}
use denote.Steps.{nothing}
use denote.Struct.Struct.{Shape, Struct, within}

-- the machine value of a struct that holds this pointer
abbrev pub word : Ptr → Val
word p = vstruct (vcons (ptr_val p) vnil)

-- it has the type of such a struct
pub word_typed : (name : Sym) (p : Ptr) → T (has_ty (ty_struct name (tcons ty_ptr tnil)) (word p)) × WT (word p)
word_typed name (block_ptr b o) = (tt, (tt, tt))
word_typed name null_ptr = (tt, (record { fits = lit< tt }, tt))

-- a pointer's machine value has a pointer's type
pub pointer_typed : (p : Ptr) → T (has_ty ty_ptr (ptr_val p)) × WT (ptr_val p)
pointer_typed (block_ptr b o) = (tt, tt)
pointer_typed null_ptr = (tt, record { fits = lit< tt })

-- what lies behind the pointer makes what the struct owns
pub holds : {M : Type 1} {𝓤 : Ura M} (𝓛 : Logic 𝓤) (name : Sym) (types : List RattleType) (p : Ptr) (F : Fml)
    → let S : Shape = record { name = name; args = []; types = types; fields = RawPtr ∷ [] } in
    ent 𝓤 (sem 𝓛 F) (sem 𝓛 (fsep ((Struct S).own_val (p, tt) (word p ∷ [])) F))
holds 𝓛 name types p F =
    let S : Shape = record { name = name; args = []; types = types; fields = RawPtr ∷ [] } in
    let inner : List Val = ptr_val p ∷ [] in let outer : List Val = word p ∷ [] in
    qed 𝓛 (‵ F ∷ []) ∵
    nothing ! $ feq_i ! (List Val) inner inner refl $ fjoin ! $ feq_i ! (List Val) outer outer refl $ fjoin ! $
    fpack ! (Valss (RawPtr ∷ [])) (within S (p, tt) outer) (inner, tt) $ fjoin ! $ done !
