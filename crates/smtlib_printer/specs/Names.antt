use Rattle.std.specs.Prelude.{ℕ, ◌+◌, ◌-◌, zero, suc, max, Bool, not, ◌&&◌, ◌||◌, ◌==◌, List, [], ◌++◌, length, take, replicate, slice_index, slice_get, codes, decimal, Option, None, Some, unwrap_or, if◌then◌else◌}
use Rattle.std.specs.List.{list_all, list_any, fold}
use Rattle.std.specs.Char.{is_ascii_digit}
use Rattle.sexpr_text.specs.Text.{is_simple}
use Rattle.smtlib_terms.specs.Words.{is_reserved_word}
use Rattle.mbqi_terms.specs.declared.script.Function.{Function}
use Rattle.mbqi_terms.specs.declared.script.Script.{Script}

-- A name (SMT-LIB 2.6, section 3.1): bars where it is no simple symbol, or is a reserved word.
abbrev pub name_text : List ℕ → List ℕ
name_text name = if is_simple name && not (is_reserved_word name) then name else codes "|" ++ (name ++ codes "|")

-- The name of a declared sort, and the empty one for a number that no sort has.
abbrev pub sort_name : Script → ℕ → List ℕ
sort_name script sort = name_text (unwrap_or (slice_get script.sorts sort) [])

abbrev pub name_in : Option Function → List ℕ
name_in None = []
name_in (Some function) = function.name

-- The name of a declared function, and the empty one for a number that no function has.
abbrev pub function_name : Script → ℕ → List ℕ
function_name script function = name_text (name_in (slice_get script.functions function))

-- Whether a name begins with so many question marks and then a digit.
abbrev pub begins_with : ℕ → List ℕ → Bool
begins_with count name = is_ascii_digit (slice_index name count) && list_all (λ b. b == 63) (take count name)

-- Whether a declared name does.
unfoldable pub is_begun : Script → ℕ → Bool
is_begun script count =
    list_any (begins_with count) script.sorts
    || list_any (λ (f : Function). begins_with count f.name) script.functions

-- The length of the longest name.
abbrev pub longest : List (List ℕ) → ℕ
longest names = fold (λ n name. max n (length name)) 0 names

abbrev pub longest_function : List Function → ℕ
longest_function functions = fold (λ n (f : Function). max n (length f.name)) 0 functions

-- The first number from a place on, of so many, that isn't taken; else the one behind them.
abbrev pub first_free : (ℕ → Bool) → ℕ → ℕ → ℕ
first_free is_taken zero at = at
first_free is_taken (suc left) at = if is_taken at then first_free is_taken left (at + 1) else at

-- How many question marks begin the name of a variable: the fewest, but at least one, so that no declared name begins
-- with them and then a digit (this project's own). A name that begins so is longer than they are many.
unfoldable pub marks_of : Script → ℕ
marks_of script = first_free (is_begun script) (max (longest script.sorts) (longest_function script.functions) - 1) 1

-- The variable of a place.
abbrev pub variable_text : ℕ → ℕ → List ℕ
variable_text marks place = replicate marks 63 ++ decimal place
