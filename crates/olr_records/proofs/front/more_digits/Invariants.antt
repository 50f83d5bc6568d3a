use Rattle.olr_records.proofs.Common.{◌≡◌, take, digits_value, AllDigits}
use Rattle.olr_records.proofs.front.more_digits.Given as goal

-- the bytes so far are digits, and the value is theirs
abbrev pub invariant-loop-place : goal.invariant-loop-place
invariant-loop-place l = record {
  digits : AllDigits 10 (take l.place l.fn.text);
  value : l.value ≡ digits_value 10 (take l.place l.fn.text);
}
