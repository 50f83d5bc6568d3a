use Rattle.olr_words.proofs.Tables.{any_of, contained}
use Rattle.olr_words.proofs.options.CommandOption.takes_in_record.Goals as goal

pub returns-in-OneOf : goal.returns-in-OneOf
returns-in-OneOf c = rw c.in-OneOf.is (
  λ yes. contained _ _ (c.is_one_of.ensures.0 yes),
  λ is. c.is_one_of.ensures.1 (any_of _ _ is),
)

pub returns-in-Format : goal.returns-in-Format
returns-in-Format c = rw c.in-Format.is (
  λ yes. contained _ _ (c.is_one_of-in-Format.ensures.0 yes),
  λ is. c.is_one_of-in-Format.ensures.1 (any_of _ _ is),
)
