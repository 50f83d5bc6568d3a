use Rattle.olr_keys.proofs.Least.{stays_held}
use Rattle.olr_keys.proofs.product.lesser.Goals as goal

pub returns-else-is_before : goal.returns-else-is_before
returns-else-is_before c =
    stays_held _ _ c.in-Some-held.is c.is_before-2.ensures c.if-is_before.false
