-- The measures of each kind of array term by those of its parts.
use Rattle.std.proofs.Common.{◌≡◌, ℕ, ◌+◌, false, ◌||◌, List, map, max, rules}
use Rattle.std.specs.List.{list_any}
use Rattle.mbqi_terms.specs.declared.sort.Sort.{Sort}
use Rattle.mbqi_terms.specs.declared.term.ArrayTerm.{ArrayTerm}
use Rattle.mbqi_terms.specs.declared.term.ArrayTerm.TheVariants as array
use Rattle.mbqi_terms.specs.declared.term.MapOp.{MapOp}
use Rattle.mbqi_terms.specs.declared.term.Term.{Term}
use Rattle.mbqi_terms.specs.declared.term.Term as terms
use Rattle.mbqi_terms.specs.declared.term.ArrayTerm.TheBlock.{hidden-the_row-Term-1}
use denote.Hole.Carrier.{hidden}
use Rattle.measured_terms.specs.Measures.{depth_of_symbol, varies_symbol}
use Rattle.mbqi_terms.specs.Depth.{deepest, depth_of_array, depth_of_term}
use Rattle.mbqi_terms.specs.Varies.{varies, varies_term}

pub depth-Name : (k : ℕ) → depth_of_array (array.Name k) ≡ 1
unfolding depth_of_term depth_of_array depth_of_symbol hidden-the_row-Term-1 hidden
depth-Name k = search (rules, terms.the_lemmas)

pub varies-Name : (k : ℕ) → varies (array.Name k) ≡ false
unfolding varies_term varies varies_symbol hidden-the_row-Term-1 hidden
varies-Name k = search (rules, terms.the_lemmas)

pub ruleset name_laws = (depth-Name, varies-Name)

pub depth-Store : (a : ArrayTerm) (i v : Term) → depth_of_array (array.Store a i v) ≡ max (depth_of_array a) (max (depth_of_term i) (depth_of_term v)) + 1
unfolding depth_of_term depth_of_array depth_of_symbol hidden-the_row-Term-1 hidden
depth-Store a i v = search (rules, terms.the_lemmas)

pub varies-Store : (a : ArrayTerm) (i v : Term) → varies (array.Store a i v) ≡ varies a || (varies_term i || varies_term v)
unfolding varies_term varies varies_symbol hidden-the_row-Term-1 hidden
varies-Store a i v = search (rules, terms.the_lemmas)

pub ruleset store_laws = (depth-Store, varies-Store)

pub depth-Const : (s : Sort) (v : Term) → depth_of_array (array.Const s v) ≡ depth_of_term v + 1
unfolding depth_of_term depth_of_array depth_of_symbol hidden-the_row-Term-1 hidden
depth-Const s v = search (rules, terms.the_lemmas)

pub varies-Const : (s : Sort) (v : Term) → varies (array.Const s v) ≡ varies_term v
unfolding varies_term varies varies_symbol hidden-the_row-Term-1 hidden
varies-Const s v = search (rules, terms.the_lemmas)

pub ruleset const_laws = (depth-Const, varies-Const)

pub depth-Map : (op : MapOp) (as' : List ArrayTerm) → depth_of_array (array.Map op as') ≡ deepest (map depth_of_array as') + 1
unfolding depth_of_term depth_of_array depth_of_symbol hidden-the_row-Term-1 hidden
depth-Map op as' = search (rules, terms.the_lemmas)

pub varies-Map : (op : MapOp) (as' : List ArrayTerm) → varies (array.Map op as') ≡ list_any (λ v. v) (map varies as')
unfolding varies_term varies varies_symbol hidden-the_row-Term-1 hidden
varies-Map op as' = search (rules, terms.the_lemmas)

pub ruleset map_laws = (depth-Map, varies-Map)
