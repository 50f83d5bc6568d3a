use Rattle.olr_likely.proofs.Likeliest.{first_likeliest, none_less, shown_first}
use Rattle.olr_likely.proofs.likely_laws.likeliest_is_first.Goals as goal

pub returns-clause-least : goal.returns-clause-least
returns-clause-least c = none_less

pub returns-clause-in_order : goal.returns-clause-in_order
returns-clause-in_order c = shown_first

pub returns-clause-likeliest : goal.returns-clause-likeliest
returns-clause-likeliest c = first_likeliest
