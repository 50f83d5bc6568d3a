use Rattle.std.proofs.Common.{◌≡◌, [], drop, map, Some, sym, subst, arith}
use Rattle.std.proofs.lemmas.List.{drop_all}
use Rattle.std.proofs.lemmas.Result.{on_ok_weaker}
use Rattle.serde.specs.Event.{Logs, seq_begins}
use Rattle.serde_json.specs.View.{items_of}
use Rattle.olr_text.specs.Sent.{SendsItems}
use Rattle.olr_text.proofs.SentTexts.{count, one_more}
use Rattle.olr_text.proofs.to_json.send_array.Goals as goal

pub loop-value-preserved : goal.loop-value-preserved
loop-value-preserved g c = λ end others.
    c.loop-value.invariant end (one_more (g.T.ToJson.value c.args.on.now) c.args.list.now
    c.loop-value.value-index
    c.value-item.result _ (g.S.Serializer.written c.send.new.out) end (omega arith) c.value-item.is
    c.in_ok-send.ensures others)

pub returns : goal.returns
returns g c =
    let value = g.T.ToJson.value c.args.on.now in
    let list = c.args.list.now in
    let first = g.S.Serializer.written c.begin_seq.new.self in
    let end = g.S.Serializer.written c.end_seq.new.self in
    let begun = subst (λ n. Logs (g.S.Serializer.written c.args.out.now) first
    (seq_begins (Some n))) (sym (count value list)) c.in_ok-begin_seq.ensures in
    let none : drop c.loop-value.value-index list ≡ [] =
    drop_all c.loop-value.value-index list (omega arith) in
    on_ok_weaker c.end_seq.result (λ ended. (
      first,
      begun,
      c.loop-value.invariant end (subst
          (λ l. SendsItems (items_of (map value l)) (g.S.Serializer.written c.loop-value.out) end)
          (sym none) ended),
    )) c.end_seq.ensures
