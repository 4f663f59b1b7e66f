-- The measures of each kind of symbol by those of its parts.
use Rattle.std.proofs.Common.{◌≡◌, ℕ, false, ◌||◌, max, rules}
use Rattle.mbqi_terms.specs.declared.term.ArrayTerm.{ArrayTerm}
use Rattle.mbqi_terms.specs.declared.term.Symbol.TheVariants as symbol
use Rattle.mbqi_terms.specs.declared.term.Term as terms
use Rattle.mbqi_terms.specs.declared.term.ArrayTerm.TheBlock.{hidden-the_row-Term-1}
use denote.Hole.Carrier.{hidden}
use Rattle.measured_terms.specs.Measures.{depth_of_symbol, varies_symbol}
use Rattle.mbqi_terms.specs.Depth.{depth_of_array, depth_of_term}
use Rattle.mbqi_terms.specs.Varies.{varies, varies_term}

pub depth-Declared : (k : ℕ) → depth_of_symbol (symbol.Declared k) ≡ 0
unfolding depth_of_term depth_of_array depth_of_symbol hidden-the_row-Term-1 hidden
depth-Declared k = search (rules, terms.the_lemmas)

pub varies-Declared : (k : ℕ) → varies_symbol (symbol.Declared k) ≡ false
unfolding varies_term varies varies_symbol hidden-the_row-Term-1 hidden
varies-Declared k = search (rules, terms.the_lemmas)

pub ruleset declared_laws = (depth-Declared, varies-Declared)

pub depth-Skolem : (k p : ℕ) → depth_of_symbol (symbol.Skolem k p) ≡ 0
unfolding depth_of_term depth_of_array depth_of_symbol hidden-the_row-Term-1 hidden
depth-Skolem k p = search (rules, terms.the_lemmas)

pub varies-Skolem : (k p : ℕ) → varies_symbol (symbol.Skolem k p) ≡ false
unfolding varies_term varies varies_symbol hidden-the_row-Term-1 hidden
varies-Skolem k p = search (rules, terms.the_lemmas)

pub ruleset skolem_laws = (depth-Skolem, varies-Skolem)

pub depth-Seed : (k : ℕ) → depth_of_symbol (symbol.Seed k) ≡ 0
unfolding depth_of_term depth_of_array depth_of_symbol hidden-the_row-Term-1 hidden
depth-Seed k = search (rules, terms.the_lemmas)

pub varies-Seed : (k : ℕ) → varies_symbol (symbol.Seed k) ≡ false
unfolding varies_term varies varies_symbol hidden-the_row-Term-1 hidden
varies-Seed k = search (rules, terms.the_lemmas)

pub ruleset seed_laws = (depth-Seed, varies-Seed)

pub depth-Far : depth_of_symbol symbol.Far ≡ 0
unfolding depth_of_term depth_of_array depth_of_symbol hidden-the_row-Term-1 hidden
depth-Far = search (rules, terms.the_lemmas)

pub varies-Far : varies_symbol symbol.Far ≡ false
unfolding varies_term varies varies_symbol hidden-the_row-Term-1 hidden
varies-Far = search (rules, terms.the_lemmas)

pub ruleset far_laws = (depth-Far, varies-Far)

pub depth-Diff : (a b : ArrayTerm) → depth_of_symbol (symbol.Diff a b) ≡ max (depth_of_array a) (depth_of_array b)
unfolding depth_of_term depth_of_array depth_of_symbol hidden-the_row-Term-1 hidden
depth-Diff a b = search (rules, terms.the_lemmas)

pub varies-Diff : (a b : ArrayTerm) → varies_symbol (symbol.Diff a b) ≡ varies a || varies b
unfolding varies_term varies varies_symbol hidden-the_row-Term-1 hidden
varies-Diff a b = search (rules, terms.the_lemmas)

pub ruleset diff_laws = (depth-Diff, varies-Diff)
