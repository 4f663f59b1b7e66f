-- The parts of sorts (SMT-LIB 2.6, theory ArraysEx).
use Rattle.std.specs.Prelude.{◌==◌, ◌&&◌, Bool, true, false, Option, Some, None}
use Rattle.mbqi_terms.specs.declared.sort.Plain.{Plain}
use Rattle.mbqi_terms.specs.declared.sort.Plain.TheVariants as plain
use Rattle.mbqi_terms.specs.declared.sort.Sort.{Sort}
use Rattle.mbqi_terms.specs.declared.sort.Sort.TheVariants.{Truth, Int, Elem, Array}

-- The sort of a part of an array, and the part as a sort.
abbrev pub plain_of : Sort → Option Plain
plain_of Truth = Some plain.Truth
plain_of Int = Some plain.Int
plain_of (Elem s) = Some (plain.Elem s)
plain_of (Array i e) = None

abbrev pub plain_sort : Plain → Sort
plain_sort plain.Truth = Truth
plain_sort plain.Int = Int
plain_sort (plain.Elem s) = Elem s

abbrev pub index_of : Sort → Option Sort
index_of (Array i e) = Some (plain_sort i)
index_of sort = None

abbrev pub element_of : Sort → Option Sort
element_of (Array i e) = Some (plain_sort e)
element_of sort = None

abbrev pub is_array : Sort → Bool
is_array (Array i e) = true
is_array Truth = false
is_array Int = false
is_array (Elem s) = false

-- Whether two sorts are one.
abbrev pub is_plain : Plain → Plain → Bool
is_plain plain.Truth plain.Truth = true
is_plain plain.Int plain.Int = true
is_plain (plain.Elem s) (plain.Elem t) = s == t
is_plain p q = false

abbrev pub is_sort : Sort → Sort → Bool
is_sort Truth Truth = true
is_sort Int Int = true
is_sort (Elem s) (Elem t) = s == t
is_sort (Array i e) (Array j f) = is_plain i j && is_plain e f
is_sort s t = false
