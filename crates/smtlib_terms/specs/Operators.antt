use Rattle.std.specs.Prelude.{ℕ, ◌-◌, ◌^◌, ◌+ℤ◌, ℤ, Bool, true, false, not, ◌&&◌, ◌==◌, nat_le, List, [], ◌∷◌, ◌++◌, length, map, Result, Ok, Err, if◌then◌else◌}
use Rattle.std.specs.List.{list_all, list_any}
use Rattle.mbqi_values.specs.declared.fault.FaultKind.{FaultKind}
use Rattle.mbqi_values.specs.declared.fault.FaultKind.TheVariants.{Unsupported, UnknownName, WrongCount, WrongSort, OffsetTooWide, NotDifference, QuantifierPlace, BoundArray}
use Rattle.mbqi_terms.specs.declared.formula.Formula.{Formula}
use Rattle.mbqi_terms.specs.declared.formula.Formula.TheVariants as formula
use Rattle.mbqi_terms.specs.declared.sort.Plain.{Plain}
use Rattle.mbqi_terms.specs.declared.sort.Plain.TheVariants as plain
use Rattle.mbqi_terms.specs.declared.sort.Sort.{Sort}
use Rattle.mbqi_terms.specs.declared.sort.Sort.TheVariants as sort
use Rattle.mbqi_terms.specs.declared.term.ArrayTerm.{ArrayTerm}
use Rattle.mbqi_terms.specs.declared.term.ArrayTerm.TheVariants as array
use Rattle.mbqi_terms.specs.declared.term.Term.{Term}
use Rattle.mbqi_terms.specs.declared.term.Term.TheVariants as term
use Rattle.smtlib_terms.specs.declared.meaning.Meaning.{Meaning}
use Rattle.smtlib_terms.specs.declared.meaning.Meaning.TheVariants as meaning
use Rattle.smtlib_terms.specs.declared.meaning.Side.{Side}
use Rattle.smtlib_terms.specs.declared.meaning.Side.TheVariants.{Meant, Difference}
use Rattle.smtlib_terms.specs.declared.word.Word.{Word}
use Rattle.smtlib_terms.specs.declared.word.Word.TheVariants as word
use Rattle.smtlib_terms.specs.Meaning.{sort_of, depth_of, unless_deep}
use Rattle.smtlib_terms.specs.Names.{◌>>=◌}
use Rattle.smtlib_terms.specs.Number.{difference, negation, sum_of, sum_of_terms, term_of}
use Rattle.mbqi_terms.specs.Binders.{is_quantified}
use Rattle.mbqi_terms.specs.Varies.{varies}
use Rattle.mbqi_terms.specs.Sort.{plain_sort, is_sort}
use Rattle.mbqi_terms.specs.Depth.{depth_of_array, depth_of_formula}
use Rattle.mbqi_terms.specs.Limits.{is_within}

-- At least, or exactly, so many arguments.
abbrev pub at_least : {A B : Type 0} → ℕ → List A → Result B FaultKind → Result B FaultKind
at_least n args result = if nat_le n (length args) then result else Err WrongCount

abbrev pub exactly : {A B : Type 0} → ℕ → List A → Result B FaultKind → Result B FaultKind
exactly n args result = if length args == n then result else Err WrongCount

-- What was meant, as a formula or as an integer.
abbrev pub as_formula : Meaning → Result Formula FaultKind
as_formula (meaning.Formula f) = Ok f
as_formula (meaning.Term s t) = Err WrongSort
as_formula (meaning.Array i e a) = Err WrongSort

abbrev pub as_integer : Meaning → Result Term FaultKind
as_integer (meaning.Term sort.Int t) = Ok t
as_integer other = Err WrongSort

abbrev pub as_formulas : List Meaning → Result (List Formula) FaultKind
as_formulas [] = Ok []
as_formulas (m ∷ ms) = as_formula m >>= (λ f. as_formulas ms >>= (λ fs. Ok (f ∷ fs)))

abbrev pub as_integers : List Meaning → Result (List Term) FaultKind
as_integers [] = Ok []
as_integers (m ∷ ms) = as_integer m >>= (λ t. as_integers ms >>= (λ ts. Ok (t ∷ ts)))

abbrev pub formula_meant : Result Formula FaultKind → Result Meaning FaultKind
formula_meant r = r >>= (λ f. Ok (meaning.Formula f))

abbrev pub integer_meant : Result Term FaultKind → Result Meaning FaultKind
integer_meant r = r >>= (λ t. Ok (meaning.Term sort.Int t))

-- What is made of formulas, in some of which no quantifier may stand.
abbrev pub unquantified : List Formula → Formula → Result Formula FaultKind
unquantified fs made = if list_any is_quantified fs then Err (unless_deep QuantifierPlace (depth_of_formula made)) else Ok made

-- `and` and `or` of one formula is itself (SMT-LIB 2.6, theory Core).
abbrev pub joined : (List Formula → Formula) → List Formula → Formula
joined join (f ∷ []) = f
joined join fs = join fs

abbrev pub all_of : List Formula → Formula
all_of fs = joined formula.All fs

abbrev pub connective : (List Formula → Formula) → List Meaning → Result Formula FaultKind
connective join args = at_least 1 args (as_formulas args >>= (λ fs. Ok (joined join fs)))

abbrev pub negated_first : List Formula → Result Formula FaultKind
negated_first (f ∷ fs) = Ok (formula.Not f)
negated_first [] = Err WrongCount

abbrev pub negated : List Meaning → Result Formula FaultKind
negated args = exactly 1 args (as_formulas args >>= negated_first)

-- `=>` is right associative (SMT-LIB 2.6, theory Core).
abbrev pub implied_by : Formula → List Formula → Formula
implied_by f [] = f
implied_by f (g ∷ gs) = formula.Any (formula.Not f ∷ implied_by g gs ∷ [])

abbrev pub implication_of : List Formula → Result Formula FaultKind
implication_of (f ∷ fs) = Ok (implied_by f fs)
implication_of [] = Err WrongCount

abbrev pub implication : List Meaning → Result Formula FaultKind
implication args = at_least 2 args (as_formulas args >>= implication_of)

-- `xor` is left associative (SMT-LIB 2.6, theory Core).
abbrev pub unlike : Formula → List Formula → Formula
unlike f [] = f
unlike f (g ∷ gs) = unlike (formula.Not (formula.Iff f g)) gs

abbrev pub exclusion_of : List Formula → Result Formula FaultKind
exclusion_of (f ∷ fs) = unquantified (f ∷ fs) (unlike f fs)
exclusion_of [] = Err WrongCount

abbrev pub exclusion : List Meaning → Result Formula FaultKind
exclusion args = at_least 2 args (as_formulas args >>= exclusion_of)

-- `=` of two meanings of one sort.
abbrev pub equality : Meaning → Meaning → Formula
equality (meaning.Formula f) (meaning.Formula g) = formula.Iff f g
equality (meaning.Term s t) (meaning.Term r u) = formula.Equal t u
equality (meaning.Array i e a) (meaning.Array j f b) = formula.SameArray a b
equality m n = formula.Truth false

abbrev pub inequality : Meaning → Meaning → Formula
inequality m n = formula.Not (equality m n)

-- A relation of each argument and the next; of each argument and each later one.
abbrev pub chained : {A : Type 0} → (A → A → Formula) → A → List A → List Formula
chained relation a [] = []
chained relation a (b ∷ bs) = relation a b ∷ chained relation b bs

abbrev pub chain : {A : Type 0} → (A → A → Formula) → List A → List Formula
chain relation [] = []
chain relation (a ∷ as') = chained relation a as'

abbrev pub pairs : {A : Type 0} → (A → A → Formula) → List A → List Formula
pairs relation [] = []
pairs relation (a ∷ as') = map (relation a) as' ++ pairs relation as'

-- All arguments have the sort of the first.
abbrev pub have_sort : Sort → List Meaning → Bool
have_sort s ms = list_all (λ m. is_sort s (sort_of m)) ms

abbrev pub have_one_sort : List Meaning → Bool
have_one_sort [] = true
have_one_sort (m ∷ ms) = have_sort (sort_of m) ms

abbrev pub is_quantified_meaning : Meaning → Bool
is_quantified_meaning (meaning.Formula f) = is_quantified f
is_quantified_meaning (meaning.Term s t) = false
is_quantified_meaning (meaning.Array i e a) = false

-- `=` is chainable and `distinct` is pairwise (SMT-LIB 2.6, theory Core).
abbrev pub compared : List Meaning → Formula → Result Formula FaultKind
compared args made =
    if list_any is_quantified_meaning args then Err (unless_deep QuantifierPlace (depth_of_formula made)) else Ok made

abbrev pub compared_by : (List Meaning → List Formula) → List Meaning → Result Formula FaultKind
compared_by relation args = if have_one_sort args then compared args (all_of (relation args)) else Err WrongSort

-- `<=`, `<`, `>=` and `>` are chainable (SMT-LIB 2.6, theory Ints).
abbrev pub ordered_by : (Term → Term → Formula) → List Meaning → Result Formula FaultKind
ordered_by relation args = as_integers args >>= (λ ts. Ok (all_of (chain relation ts)))

abbrev pub at_most : Term → Term → Formula
at_most s t = formula.AtMost s t

abbrev pub below : Term → Term → Formula
below s t = formula.Not (formula.AtMost t s)

abbrev pub is_relation : Word → Bool
is_relation word.Equal = true
is_relation word.Distinct = true
is_relation word.AtMost = true
is_relation word.Below = true
is_relation word.AtLeast = true
is_relation word.Above = true
is_relation other = false

-- `ite` of formulas (SMT-LIB 2.6, theory Core). Of another sort it is left out for now.
abbrev pub choice_of : List Formula → Result Formula FaultKind
choice_of (c ∷ f ∷ g ∷ []) = unquantified (c ∷ []) (formula.Choose c f g)
choice_of fs = Err WrongCount

abbrev pub is_other_choice : Sort → Sort → Bool
is_other_choice s t = is_sort s t && not (is_sort s sort.Truth)

abbrev pub choice : List Meaning → Result Formula FaultKind
choice (c ∷ m ∷ n ∷ []) =
    if is_other_choice (sort_of m) (sort_of n) then Err Unsupported else as_formulas (c ∷ m ∷ n ∷ []) >>= choice_of
choice args = Err WrongCount

-- A term of a plain sort: one of sort Bool is a formula.
abbrev pub term_meant : Plain → Term → Meaning
term_meant plain.Truth t = meaning.Formula (formula.Atom t)
term_meant plain.Int t = meaning.Term sort.Int t
term_meant (plain.Elem s) t = meaning.Term (sort.Elem s) t

-- What may be an element of an array over Bool: `true`, `false` or an atom.
abbrev pub truth_value : Formula → Result Term FaultKind
truth_value (formula.Truth b) = Ok (term.Truth b)
truth_value (formula.Atom t) = Ok t
truth_value other = Err Unsupported

-- A meaning as the term of a place of this sort.
abbrev pub as_plain : Plain → Meaning → Result Term FaultKind
as_plain plain.Truth (meaning.Formula f) = truth_value f
as_plain e (meaning.Term s t) = if is_sort (plain_sort e) s then Ok t else Err WrongSort
as_plain e other = Err WrongSort

-- No variable of a quantifier stands in an array term.
abbrev pub unbound : Plain → Plain → ArrayTerm → Result Meaning FaultKind
unbound i e a = if varies a then Err (unless_deep BoundArray (depth_of_array a)) else Ok (meaning.Array i e a)

-- `select` and `store` (SMT-LIB 2.6, theory ArraysEx).
abbrev pub read_at : Meaning → Meaning → Result Meaning FaultKind
read_at (meaning.Array i e a) m = as_plain i m >>= (λ index. Ok (term_meant e (term.Read a index)))
read_at other m = Err WrongSort

abbrev pub stored_at : Meaning → Meaning → Meaning → Result Meaning FaultKind
stored_at (meaning.Array i e a) m n =
    as_plain e n >>= (λ value. as_plain i m >>= (λ index. unbound i e (array.Store a index value)))
stored_at other m n = Err WrongSort

abbrev pub selection : List Meaning → Result Meaning FaultKind
selection (a ∷ i ∷ []) = read_at a i
selection args = Err WrongCount

abbrev pub storing : List Meaning → Result Meaning FaultKind
storing (a ∷ i ∷ v ∷ []) = stored_at a i v
storing args = Err WrongCount

-- `default` of an array over Int (this project's own).
abbrev pub default_meant : ArrayTerm → Meaning → Result Meaning FaultKind
default_meant a m = if varies a then Err (unless_deep BoundArray (depth_of m)) else Ok m

abbrev pub default_of : Meaning → Result Meaning FaultKind
default_of (meaning.Array plain.Int e a) = default_meant a (term_meant e (term.Default a))
default_of (meaning.Array i e a) = Err Unsupported
default_of other = Err WrongSort

abbrev pub defaulting : List Meaning → Result Meaning FaultKind
defaulting (a ∷ []) = default_of a
defaulting args = Err WrongCount

-- `((as const S) v)`: the array of sort S with this value everywhere (this project's own).
abbrev pub constant_of : Sort → Meaning → Result Meaning FaultKind
constant_of (sort.Array i e) m = as_plain e m >>= (λ value. unbound i e (array.Const (sort.Array i e) value))
constant_of other m = Err WrongSort

abbrev pub constant : Sort → List Meaning → Result Meaning FaultKind
constant s (m ∷ []) = constant_of s m
constant s args = Err WrongCount

-- `+`, and `-` of which a difference is left to the atom around it.
abbrev pub addition : List Meaning → Result Meaning FaultKind
addition args = at_least 1 args (as_integers args >>= (λ ts. integer_meant (sum_of_terms (map sum_of ts))))

abbrev pub is_numeral : Term → Bool
is_numeral (term.Num n) = true
is_numeral other = false

abbrev pub meant : Result Meaning FaultKind → Result Side FaultKind
meant r = r >>= (λ m. Ok (Meant m))

abbrev pub subtracted : List Term → Result Side FaultKind
subtracted [] = Err WrongCount
subtracted (s ∷ []) = meant (integer_meant (negation (sum_of s)))
subtracted (s ∷ t ∷ []) =
    if is_numeral t then meant (integer_meant (difference (sum_of s) (sum_of t ∷ []))) else Ok (Difference s t)
subtracted (s ∷ t ∷ u ∷ ts) = meant (integer_meant (difference (sum_of s) (map sum_of (t ∷ u ∷ ts))))

abbrev pub subtraction : List Meaning → Result Side FaultKind
subtraction args = at_least 1 args (as_integers args >>= subtracted)

-- What stands where no difference may.
abbrev pub plainly : Side → Result Meaning FaultKind
plainly (Meant m) = Ok m
plainly (Difference s t) = Err NotDifference

-- The term moved by the number of a numeral, also past the limit, which is judged at the atom.
abbrev pub moved_by : Term → ℤ → Meaning
moved_by t n = meaning.Term sort.Int (term_of (sum_of t).base ((sum_of t).number +ℤ n))

-- `s - t` beside the numeral n stands for s beside t + n (this project's own).
abbrev pub beside : Meaning → Term → Term → (Meaning → Meaning → List Meaning) → Result (List Meaning) FaultKind
beside (meaning.Term sort.Int (term.Num n)) s t order = Ok (order (meaning.Term sort.Int s) (moved_by t n))
beside other s t order = Err NotDifference

abbrev pub two : Meaning → Meaning → List Meaning
two a b = a ∷ b ∷ []

abbrev pub two_turned : Meaning → Meaning → List Meaning
two_turned a b = b ∷ a ∷ []

-- The two arguments that an atom compares: a difference needs a numeral beside it, and is at fault before what
-- stands behind it.
abbrev pub two_sides : Side → Result Side FaultKind → Result (List Meaning) FaultKind
two_sides (Meant m) (Ok (Meant n)) = Ok (two m n)
two_sides (Meant m) (Ok (Difference s t)) = beside m s t two_turned
two_sides (Meant m) (Err kind) = Err kind
two_sides (Difference s t) (Ok (Meant n)) = beside n s t two
two_sides (Difference s t) (Ok (Difference u v)) = Err NotDifference
two_sides (Difference s t) (Err kind) = Err NotDifference

-- An integer whose number is past its limit. Each argument was judged where it stands, so that this is a term which a
-- difference beside it moved.
abbrev pub is_wide_term : Term → Bool
is_wide_term (term.Num n) = not (is_within (2 ^ 63 - 1) n)
is_wide_term (term.Plus' u row n) = not (is_within (2 ^ 59) n)
is_wide_term t = false

abbrev pub is_wide : Meaning → Bool
is_wide (meaning.Term sort.Int t) = is_wide_term t
is_wide other = false

-- What a relation makes of its arguments, of which none may have a number past its limit.
abbrev pub narrow : List Meaning → Meaning → Result Meaning FaultKind
narrow args m = if list_any is_wide args then Err (unless_deep OffsetTooWide (depth_of m)) else Ok m

abbrev pub relation_meant : List Meaning → Result Formula FaultKind → Result Meaning FaultKind
relation_meant args r = formula_meant r >>= narrow args

-- What a word makes of its arguments (SMT-LIB 2.6, theories Core, Ints and ArraysEx).
abbrev pub applied : Word → List Meaning → Result Meaning FaultKind
applied word.Not args = formula_meant (negated args)
applied word.And args = formula_meant (connective formula.All args)
applied word.Or args = formula_meant (connective formula.Any args)
applied word.Implies args = formula_meant (implication args)
applied word.Xor args = formula_meant (exclusion args)
applied word.Equal args = relation_meant args (at_least 2 args (compared_by (chain equality) args))
applied word.Distinct args = relation_meant args (at_least 2 args (compared_by (pairs inequality) args))
applied word.Choose args = formula_meant (choice args)
applied word.AtMost args = relation_meant args (at_least 2 args (ordered_by at_most args))
applied word.Below args = relation_meant args (at_least 2 args (ordered_by below args))
applied word.AtLeast args = relation_meant args (at_least 2 args (ordered_by (λ s t. at_most t s) args))
applied word.Above args = relation_meant args (at_least 2 args (ordered_by (λ s t. below t s) args))
applied word.Plus args = addition args
applied word.Select args = selection args
applied word.Store args = storing args
applied word.Default args = defaulting args
applied word.Arithmetic args = Err Unsupported
applied other args = Err UnknownName
