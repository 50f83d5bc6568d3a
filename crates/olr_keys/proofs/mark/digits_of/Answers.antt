use Rattle.olr_keys.proofs.Hexadecimal.{are_text}
use Rattle.olr_keys.proofs.mark.digits_of.Goals as goal

pub unwrap-requires : goal.unwrap-requires
unwrap-requires c = c.from_byte_string.ensures.variant.1
    (rw c.write_digits.ensures.digits (are_text _))
