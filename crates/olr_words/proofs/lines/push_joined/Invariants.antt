use Rattle.std.proofs.Common.{◌≡◌, ◌<◌, ◌++◌, drop, string_bytes}
use Rattle.clap.specs.Walk.{texts}
use Rattle.olr_words.specs.Lines.{joined_behind}
use Rattle.olr_words.proofs.lines.push_joined.Given as goal

abbrev pub invariant-loop-word : goal.invariant-loop-word
invariant-loop-word l = (l.before < 128)
    × (string_bytes l.initial.text ++ joined_behind l.fn.first (texts l.fn.words)
    ≡ string_bytes l.text ++ joined_behind l.before (texts (drop l.word-index l.fn.words)))
