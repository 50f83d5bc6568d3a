use Rattle.std.proofs.Common.{drop, map}
use Rattle.serde.specs.Event.{Log}
use Rattle.serde_json.specs.View.{items_of}
use Rattle.olr_text.specs.Sent.{SendsItems}
use Rattle.olr_text.proofs.to_json.send_array.Given as goal

-- with what the values that are left send, and the end, all of them are sent
abbrev pub invariant-loop-value : goal.invariant-loop-value
invariant-loop-value g l = (end : Log)
    → SendsItems (items_of (map (g.T.ToJson.value l.on) (drop l.value-index l.list)))
    (g.S.Serializer.written l.out) end
    → SendsItems (items_of (map (g.T.ToJson.value l.on) l.list))
    (g.S.Serializer.written l.initial.out) end
