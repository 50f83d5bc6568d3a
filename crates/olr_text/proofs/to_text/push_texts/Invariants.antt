use Rattle.std.proofs.Common.{◌≡◌, ◌++◌, ◌+◌, drop, string_bytes}
use Rattle.olr_text.specs.Texts.{texts_from}
use Rattle.olr_text.proofs.to_text.push_texts.Given as goal

-- the text so far, with the texts of the items that are left, is the whole text
abbrev pub invariant-loop-index : goal.invariant-loop-index
invariant-loop-index g l = string_bytes l.out
    ++ texts_from (g.T.ToText.text l.on) (l.index + 1) (drop l.index l.list)
    ≡ string_bytes l.initial.out ++ texts_from (g.T.ToText.text l.on) 1 l.list
