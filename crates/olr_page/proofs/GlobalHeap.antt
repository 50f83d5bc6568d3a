-- `Global` where a function of `Box` takes it as a type argument.
use Rattle.std.proofs.Common.{[], ◌∷◌, refl}
use Rattle.std.proofs.alloc.Global.TheLaws as global
use Rattle.std.specs.contracts.alloc.Global.{the_row}
use denote.Exit.{no}
use denote.Param.Laws.{Laws, arg_laws}
use denote.Param.{arg, layout}
use denote.RattleType.{RattleType}
use mir.Raw.{raw}
use mir.Syntax.{Dict, dnil, impl, tcons, tnil}

abbrev pub heap : RattleType
heap = arg (raw (layout the_row)) no the_row

abbrev pub heap_laws : Laws heap
heap_laws = arg_laws (raw (layout the_row)) no the_row global.the_row_laws refl

-- it has nothing to drop
abbrev pub no_drop : Dict
no_drop = impl ("olr_page::Destruct++none::drop" ∷ []) (tcons (layout heap) tnil) dnil
