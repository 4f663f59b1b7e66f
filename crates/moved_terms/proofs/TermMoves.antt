-- Moving the variables of each kind of term, array term and symbol, by moving those of its parts.
use Rattle.std.proofs.Common.{◌≡◌, ℕ, ℤ, Bool, List, map, rules}
use Rattle.mbqi_terms.specs.declared.sort.Sort.{Sort}
use Rattle.mbqi_terms.specs.declared.term.ArrayTerm.{ArrayTerm}
use Rattle.mbqi_terms.specs.declared.term.ArrayTerm.TheBlock.{hidden-the_row-Term-1}
use Rattle.mbqi_terms.specs.declared.term.ArrayTerm.TheVariants as array
use Rattle.mbqi_terms.specs.declared.term.MapOp.{MapOp}
use Rattle.mbqi_terms.specs.declared.term.Symbol.{Symbol}
use Rattle.mbqi_terms.specs.declared.term.Symbol.TheVariants as symbol
use Rattle.mbqi_terms.specs.declared.term.Term.{Term}
use Rattle.mbqi_terms.specs.declared.term.Term as terms
use Rattle.mbqi_terms.specs.declared.term.Term.TheVariants as term
use denote.Hole.Carrier.{hidden}
use Rattle.moved_terms.specs.Moves.{shifted_array, shifted_symbol}
use Rattle.smtlib_terms.specs.Meaning.{shifted_place, shifted_term}

pub moved-Num : (from by : ℕ) (n : ℤ) → shifted_term from by (term.Num n) ≡ term.Num n
unfolding shifted_term shifted_array shifted_symbol hidden-the_row-Term-1 hidden
moved-Num from by n = search (rules, terms.the_lemmas)

pub moved-Plus : (from by : ℕ) (t : Term) (n : ℤ) → shifted_term from by (term.Plus t n) ≡ term.Plus (shifted_term from by t) n
unfolding shifted_term shifted_array shifted_symbol hidden-the_row-Term-1 hidden
moved-Plus from by t n = search (rules, terms.the_lemmas)

pub moved-Var : (from by : ℕ) (p : ℕ) → shifted_term from by (term.Var p) ≡ term.Var (shifted_place from by p)
unfolding shifted_term shifted_array shifted_symbol hidden-the_row-Term-1 hidden
moved-Var from by p = search (rules, terms.the_lemmas)

pub moved-Truth : (from by : ℕ) (b : Bool) → shifted_term from by (term.Truth b) ≡ term.Truth b
unfolding shifted_term shifted_array shifted_symbol hidden-the_row-Term-1 hidden
moved-Truth from by b = search (rules, terms.the_lemmas)

pub moved-Apply : (from by : ℕ) (s : Symbol) (ts : List Term) → shifted_term from by (term.Apply s ts) ≡ term.Apply (shifted_symbol from by s) (map (shifted_term from by) ts)
unfolding shifted_term shifted_array shifted_symbol hidden-the_row-Term-1 hidden
moved-Apply from by s ts = search (rules, terms.the_lemmas)

pub moved-Read : (from by : ℕ) (a : ArrayTerm) (i : Term) → shifted_term from by (term.Read a i) ≡ term.Read (shifted_array from by a) (shifted_term from by i)
unfolding shifted_term shifted_array shifted_symbol hidden-the_row-Term-1 hidden
moved-Read from by a i = search (rules, terms.the_lemmas)

pub moved-Default : (from by : ℕ) (a : ArrayTerm) → shifted_term from by (term.Default a) ≡ term.Default (shifted_array from by a)
unfolding shifted_term shifted_array shifted_symbol hidden-the_row-Term-1 hidden
moved-Default from by a = search (rules, terms.the_lemmas)

pub ruleset term_laws = (moved-Num, moved-Plus, moved-Var, moved-Truth, moved-Apply, moved-Read, moved-Default)

pub moved-Declared : (from by : ℕ) (k : ℕ) → shifted_symbol from by (symbol.Declared k) ≡ symbol.Declared k
unfolding shifted_term shifted_array shifted_symbol hidden-the_row-Term-1 hidden
moved-Declared from by k = search (rules, terms.the_lemmas)

pub moved-Skolem : (from by : ℕ) (k p : ℕ) → shifted_symbol from by (symbol.Skolem k p) ≡ symbol.Skolem k p
unfolding shifted_term shifted_array shifted_symbol hidden-the_row-Term-1 hidden
moved-Skolem from by k p = search (rules, terms.the_lemmas)

pub moved-Seed : (from by : ℕ) (k : ℕ) → shifted_symbol from by (symbol.Seed k) ≡ symbol.Seed k
unfolding shifted_term shifted_array shifted_symbol hidden-the_row-Term-1 hidden
moved-Seed from by k = search (rules, terms.the_lemmas)

pub moved-Far : (from by : ℕ) → shifted_symbol from by symbol.Far ≡ symbol.Far
unfolding shifted_term shifted_array shifted_symbol hidden-the_row-Term-1 hidden
moved-Far from by = search (rules, terms.the_lemmas)

pub moved-Diff : (from by : ℕ) (a b : ArrayTerm) → shifted_symbol from by (symbol.Diff a b) ≡ symbol.Diff (shifted_array from by a) (shifted_array from by b)
unfolding shifted_term shifted_array shifted_symbol hidden-the_row-Term-1 hidden
moved-Diff from by a b = search (rules, terms.the_lemmas)

pub ruleset symbol_laws = (moved-Declared, moved-Skolem, moved-Seed, moved-Far, moved-Diff)

pub moved-Name : (from by : ℕ) (k : ℕ) → shifted_array from by (array.Name k) ≡ array.Name k
unfolding shifted_term shifted_array shifted_symbol hidden-the_row-Term-1 hidden
moved-Name from by k = search (rules, terms.the_lemmas)

pub moved-Store : (from by : ℕ) (a : ArrayTerm) (i v : Term) → shifted_array from by (array.Store a i v) ≡ array.Store (shifted_array from by a) (shifted_term from by i) (shifted_term from by v)
unfolding shifted_term shifted_array shifted_symbol hidden-the_row-Term-1 hidden
moved-Store from by a i v = search (rules, terms.the_lemmas)

pub moved-Const : (from by : ℕ) (s : Sort) (v : Term) → shifted_array from by (array.Const s v) ≡ array.Const s (shifted_term from by v)
unfolding shifted_term shifted_array shifted_symbol hidden-the_row-Term-1 hidden
moved-Const from by s v = search (rules, terms.the_lemmas)

pub moved-Map : (from by : ℕ) (op : MapOp) (as' : List ArrayTerm) → shifted_array from by (array.Map op as') ≡ array.Map op (map (shifted_array from by) as')
unfolding shifted_term shifted_array shifted_symbol hidden-the_row-Term-1 hidden
moved-Map from by op as' = search (rules, terms.the_lemmas)

pub ruleset array_laws = (moved-Name, moved-Store, moved-Const, moved-Map)
