use Rattle.std.specs.Prelude.{ℕ, List, codes}
use Rattle.mbqi_values.specs.declared.fault.FaultKind.{FaultKind}
use Rattle.mbqi_values.specs.declared.fault.FaultKind.TheVariants.{BadByte, BadNumeral, OpenQuote, OpenString, Unopened, Unclosed, TooDeep, BadForm, Unsupported, ReservedName, Twice, UnknownName, WrongCount, WrongSort, NumeralTooWide, OffsetTooWide, NotDifference, QuantifierPlace, BoundArray, Order, Missing, Spelling}

-- The name of a kind as messages write it.
abbrev pub name_of : FaultKind → List ℕ
name_of BadByte = codes "BadByte"
name_of BadNumeral = codes "BadNumeral"
name_of OpenQuote = codes "OpenQuote"
name_of OpenString = codes "OpenString"
name_of Unopened = codes "Unopened"
name_of Unclosed = codes "Unclosed"
name_of TooDeep = codes "TooDeep"
name_of BadForm = codes "BadForm"
name_of Unsupported = codes "Unsupported"
name_of ReservedName = codes "ReservedName"
name_of Twice = codes "Twice"
name_of UnknownName = codes "UnknownName"
name_of WrongCount = codes "WrongCount"
name_of WrongSort = codes "WrongSort"
name_of NumeralTooWide = codes "NumeralTooWide"
name_of OffsetTooWide = codes "OffsetTooWide"
name_of NotDifference = codes "NotDifference"
name_of QuantifierPlace = codes "QuantifierPlace"
name_of BoundArray = codes "BoundArray"
name_of Order = codes "Order"
name_of Missing = codes "Missing"
name_of Spelling = codes "Spelling"
