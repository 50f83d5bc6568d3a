use Rattle.std.proofs.Common.{arith, ◌∙◌, ap}
use Rattle.olr_text.proofs.Nesting.{items_nest}
use Rattle.olr_confidence.specs.Json.{name_value}
use Rattle.olr_likely.specs.Extending.{names_in}
use Rattle.olr_likely.proofs.Features.{added}
use Rattle.olr_likely.proofs.geojson.push_differs.Goals as goal

pub to_json_text-requires : goal.to_json_text-requires
to_json_text-requires c = (omega arith, items_nest name_value 126 (λ name. tt) c.in-Some.names.items)

pub returns : goal.returns
unfolding lib.Utf8.encode
returns c = added c.args.shown.now.differs c.in-Some.names.items _ _ _ _ _ (ap names_in c.in-Some.is)
    (c.deref.ensures ∙ c.in_ok-value.ensures.text_is) c.in_ok-push_str.ensures.bytes
    c.in_ok-push_str-2.ensures.bytes c.in_ok-push.ensures.bytes
