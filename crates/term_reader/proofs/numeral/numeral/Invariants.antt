-- The number so far, with the digits that are left, is that of all digits.
use Rattle.std.proofs.Common.{◌≡◌, ◌<◌, ◌^◌, drop}
use Rattle.std.specs.Str.Parse.{digits_value, digits_value_after}
use Rattle.term_reader.proofs.numeral.numeral.Given as goal

abbrev pub invariant-loop-digit : goal.invariant-loop-digit
invariant-loop-digit l = (digits_value 10 l.digits ≡ digits_value_after 10 l.value (drop l.digit-index l.digits)) × (l.value < 2 ^ 63)
