use Rattle.std.proofs.Common.{ap, ◌∙◌, ◌++◌, codes}
use Rattle.olr_text.proofs.to_json.to_json_line.Goals as goal

pub returns : goal.returns
unfolding lib.Utf8.encode
returns g c = record {
  line_is = c.in_ok-push.ensures.bytes
      ∙ ap (λ text. text ++ codes "\n") c.in_ok-line.ensures.text_is;
  reads_as = c.in_ok-line.ensures.reads_as;
}
