-- The measures of each kind of term by those of its parts.
use Rattle.std.proofs.Common.{◌≡◌, ℕ, ◌+◌, ℤ, Bool, true, false, ◌||◌, List, map, max, Some, refl, rules}
use Rattle.std.specs.List.{list_any}
use Rattle.mbqi_terms.specs.declared.term.ArrayTerm.{ArrayTerm}
use Rattle.mbqi_terms.specs.declared.term.Symbol.{Symbol}
use Rattle.mbqi_terms.specs.declared.term.Term.{Term}
use Rattle.mbqi_terms.specs.declared.term.Term as terms
use Rattle.mbqi_terms.specs.declared.term.Term.TheVariants as term
use Rattle.mbqi_terms.specs.declared.term.ArrayTerm.TheBlock.{hidden-the_row-Term-1}
use denote.Hole.Carrier.{hidden}
use Rattle.measured_terms.specs.Measures.{depth_of_symbol, varies_symbol}
use Rattle.mbqi_terms.specs.Depth.{deepest, depth_of_array, depth_of_term}
use Rattle.smtlib_terms.specs.Number.{sum_of}
use Rattle.mbqi_terms.specs.Varies.{varies, varies_term}

pub depth-Num : (n : ℤ) → depth_of_term (term.Num n) ≡ 1
unfolding depth_of_term depth_of_array depth_of_symbol hidden-the_row-Term-1 hidden
depth-Num n = search (rules, terms.the_lemmas)

pub varies-Num : (n : ℤ) → varies_term (term.Num n) ≡ false
unfolding varies_term varies varies_symbol hidden-the_row-Term-1 hidden
varies-Num n = search (rules, terms.the_lemmas)

pub ruleset num_laws = (depth-Num, varies-Num)

pub depth-Plus : (t : Term) (n : ℤ) → depth_of_term (term.Plus t n) ≡ depth_of_term t + 1
unfolding depth_of_term depth_of_array depth_of_symbol hidden-the_row-Term-1 hidden
depth-Plus t n = search (rules, terms.the_lemmas)

pub varies-Plus : (t : Term) (n : ℤ) → varies_term (term.Plus t n) ≡ varies_term t
unfolding varies_term varies varies_symbol hidden-the_row-Term-1 hidden
varies-Plus t n = search (rules, terms.the_lemmas)

pub ruleset plus_laws = (depth-Plus, varies-Plus)

pub depth-Var : (p : ℕ) → depth_of_term (term.Var p) ≡ 1
unfolding depth_of_term depth_of_array depth_of_symbol hidden-the_row-Term-1 hidden
depth-Var p = search (rules, terms.the_lemmas)

pub varies-Var : (p : ℕ) → varies_term (term.Var p) ≡ true
unfolding varies_term varies varies_symbol hidden-the_row-Term-1 hidden
varies-Var p = search (rules, terms.the_lemmas)

pub ruleset var_laws = (depth-Var, varies-Var)

pub depth-Truth : (b : Bool) → depth_of_term (term.Truth b) ≡ 1
unfolding depth_of_term depth_of_array depth_of_symbol hidden-the_row-Term-1 hidden
depth-Truth b = search (rules, terms.the_lemmas)

pub varies-Truth : (b : Bool) → varies_term (term.Truth b) ≡ false
unfolding varies_term varies varies_symbol hidden-the_row-Term-1 hidden
varies-Truth b = search (rules, terms.the_lemmas)

pub ruleset truth_laws = (depth-Truth, varies-Truth)

pub depth-Apply : (s : Symbol) (ts : List Term) → depth_of_term (term.Apply s ts) ≡ max (depth_of_symbol s) (deepest (map depth_of_term ts)) + 1
unfolding depth_of_term depth_of_array depth_of_symbol hidden-the_row-Term-1 hidden
depth-Apply s ts = search (rules, terms.the_lemmas)

pub varies-Apply : (s : Symbol) (ts : List Term) → varies_term (term.Apply s ts) ≡ varies_symbol s || list_any (λ v. v) (map varies_term ts)
unfolding varies_term varies varies_symbol hidden-the_row-Term-1 hidden
varies-Apply s ts = search (rules, terms.the_lemmas)

pub ruleset apply_laws = (depth-Apply, varies-Apply)

pub depth-Read : (a : ArrayTerm) (i : Term) → depth_of_term (term.Read a i) ≡ max (depth_of_array a) (depth_of_term i) + 1
unfolding depth_of_term depth_of_array depth_of_symbol hidden-the_row-Term-1 hidden
depth-Read a i = search (rules, terms.the_lemmas)

pub varies-Read : (a : ArrayTerm) (i : Term) → varies_term (term.Read a i) ≡ varies a || varies_term i
unfolding varies_term varies varies_symbol hidden-the_row-Term-1 hidden
varies-Read a i = search (rules, terms.the_lemmas)

pub ruleset read_laws = (depth-Read, varies-Read)

pub depth-Default : (a : ArrayTerm) → depth_of_term (term.Default a) ≡ depth_of_array a + 1
unfolding depth_of_term depth_of_array depth_of_symbol hidden-the_row-Term-1 hidden
depth-Default a = search (rules, terms.the_lemmas)

pub varies-Default : (a : ArrayTerm) → varies_term (term.Default a) ≡ varies a
unfolding varies_term varies varies_symbol hidden-the_row-Term-1 hidden
varies-Default a = search (rules, terms.the_lemmas)

pub ruleset default_laws = (depth-Default, varies-Default)

pub base-Plus : (t : Term) (n : ℤ) → (sum_of (term.Plus t n)).base ≡ Some t
unfolding hidden-the_row-Term-1 hidden
base-Plus t n = refl

pub number-Plus : (t : Term) (n : ℤ) → (sum_of (term.Plus t n)).number ≡ n
unfolding hidden-the_row-Term-1 hidden
number-Plus t n = refl

pub ruleset sum_laws = (depth-Plus, varies-Plus, base-Plus, number-Plus)
