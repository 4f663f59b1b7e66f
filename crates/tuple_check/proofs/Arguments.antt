-- Arguments and atoms of a clause at a tuple of pool terms.
use Rattle.std.proofs.Common.{◌≡◌, ℕ, zero, suc, ◌<◌, List, [], ◌∷◌, length, map, refl, sym, ap, subst, ◌∙◌, inl, inr, arith}
use Rattle.std.specs.Prelude.{All, slice_index, slice_index_or}
use Rattle.std.proofs.lemmas.List.{length-map}
use Rattle.std.proofs.lemmas.List.Elements.{All-head, All-tail, All-nil, All-cons}
use Rattle.std.proofs.lemmas.Option.{get_or_from_slice_get, slice_get_within}
use Rattle.mbqi_terms.specs.Store.{tree_at}
use Rattle.mbqi_terms.specs.declared.script.Function.{Function}
use Rattle.mbqi_terms.specs.declared.term.Symbol.TheVariants as symbol
use Rattle.mbqi_terms.specs.declared.term.Term.{Term}
use Rattle.mbqi_terms.specs.declared.term.Term.TheVariants as term
use Rattle.mbqi_terms.specs.declared.term.ArrayTerm.TheOpen.{Term-F}
use Rattle.mbqi_terms.specs.declared.term_id.TermId.{TermId}
use Rattle.mbqi_terms.proofs.Levels.{out-apply, out-declared, out-var}
use Rattle.element_atoms.specs.Atoms.{IsOver, IsPool, atom_tree}
use Rattle.element_atoms.specs.Numbering.{number_of_symbol}
use Rattle.element_atoms.specs.Profile.{IsArgument, IsAtom, constant, seed}
use Rattle.element_atoms.specs.declared.pool.Pool.{Pool}
use Rattle.element_atoms.proofs.Numbers.{same_declared}
use Rattle.rule_form.specs.Rules.{term_at}
use Rattle.mbqi_terms.specs.Substitution.{put_into}
use Rattle.rule_form.proofs.Putting.{put_apply, put_constant, put_variable}
use Rattle.tuple_check.specs.Failing.{IsPlaced, argument_at, argument_layer, atom_at_tuple, atom_layer, atom_of_symbol, id_of, term_in}

pub at_default : {X : Type 0} (xs : List X) (i : ℕ) (d e : X) → i < length xs → slice_index_or xs i d ≡ slice_index_or xs i e
at_default [] i d e h = absurd (omega (arith, h))
at_default (x ∷ xs) zero d e h = refl
at_default (x ∷ xs) (suc i) d e h = at_default xs i d e (omega (arith, h))

mapped_at : (f : ℕ → Term) (xs : List ℕ) (i : ℕ) (d : Term) → i < length xs → slice_index_or (map f xs) i d ≡ f (slice_index xs i)
mapped_at f [] i d h = absurd (omega (arith, h))
mapped_at f (x ∷ xs) zero d h = refl
mapped_at f (x ∷ xs) (suc i) d h = mapped_at f xs i d (omega (arith, h))

within_at : (n : ℕ) (xs : List ℕ) (i : ℕ) → All (λ x. x < n) xs → i < length xs → slice_index xs i < n
within_at n xs i all h = all i 0 h

module _ (functions : List Function) (pool : Pool) (is : IsPool functions pool) where
  -- an argument of a clause is a variable of the tuple, or a constant that the pool numbers
  pub placed : (n : ℕ) (t : Term) → IsArgument functions n t → IsPlaced pool n t
  placed n t (inl named) =
      let within = slice_get_within functions named.0 named.2.0 named.2.1 in
      inr (inl (record { number = named.0; is = named.1; within = omega (arith, within, is.numbers); place = is.places named.0 named.2 }))
  placed n t (inr variable) = inl variable

  pub all_placed : (n : ℕ) (t : Term) (p : ℕ) (args : List Term) → IsAtom functions (IsArgument functions n) t → t ≡ term.Apply (symbol.Declared p) args
      → All (IsPlaced pool n) args
  all_placed n t p args atom e =
      let same = same_declared p atom.0 args atom.2 (sym e ∙ atom.3) in
      subst (All (IsPlaced pool n)) (sym same.1) (λ i d h. placed n (slice_index_or atom.2 i d) (atom.7 i d h))

  module _ (tuple : List ℕ) (within : All (λ i. i < length pool.terms) tuple) where
    -- the number of an argument is below the pool's length, and its term is the argument with the tuple's terms in it
    at : ℕ → Term
    at = term_at (map (term_in pool.terms) tuple)

    constant_number : (c : ℕ) → argument_at pool tuple (constant c) ≡ slice_index pool.numbers c
    constant_number c =
        let s : argument_layer pool tuple (Term-F.Apply (symbol.Declared c) []) ≡ slice_index pool.numbers c = ap (number_of_symbol pool) (out-declared c) in
        ap (argument_layer pool tuple) (out-apply (symbol.Declared c) []) ∙ s

    variable_number : (place : ℕ) → argument_at pool tuple (term.Var place) ≡ slice_index tuple place
    variable_number place = ap (argument_layer pool tuple) (out-var place)

    argument_within : (t : Term) → IsArgument functions (length tuple) t → argument_at pool tuple t < length pool.terms
    argument_within t (inl named) =
        let number = ap (argument_at pool tuple) named.1 ∙ constant_number named.0 in
        let below = slice_get_within pool.terms (slice_index pool.numbers named.0) (constant named.0) (is.places named.0 named.2) in
        omega (arith, number, below)
    argument_within t (inr variable) =
        let number = ap (argument_at pool tuple) variable.1 ∙ variable_number variable.0 in
        let below = within_at (length pool.terms) tuple variable.0 within variable.2 in
        omega (arith, number, below)

    argument_tree : (t : Term) → IsArgument functions (length tuple) t → tree_at pool.terms (id_of pool tuple t) ≡ put_into (term_at (map (term_in pool.terms) tuple)) t
    argument_tree t (inl named) =
        let number = ap (argument_at pool tuple) named.1 ∙ constant_number named.0 in
        ap (λ n. tree_at pool.terms (record { 0 = n })) number
        ∙ (get_or_from_slice_get pool.terms (slice_index pool.numbers named.0) (constant named.0) (tree_at [] (record { 0 = 0 })) (is.places named.0 named.2)
        ∙ sym (ap (put_into (term_at (map (term_in pool.terms) tuple))) named.1 ∙ put_constant (term_at (map (term_in pool.terms) tuple)) named.0))
    argument_tree t (inr variable) =
        let number = ap (argument_at pool tuple) variable.1 ∙ variable_number variable.0 in
        let below = within_at (length pool.terms) tuple variable.0 within variable.2 in
        ap (λ n. tree_at pool.terms (record { 0 = n })) number
        ∙ (at_default pool.terms (slice_index tuple variable.0) (tree_at [] (record { 0 = 0 })) seed below
        ∙ (sym (mapped_at (term_in pool.terms) tuple variable.0 (term.Var variable.0) variable.2)
        ∙ sym (ap (put_into (term_at (map (term_in pool.terms) tuple))) variable.1 ∙ put_variable (term_at (map (term_in pool.terms) tuple)) variable.0)))

    argument_trees : (ts : List Term) → All (IsArgument functions (length tuple)) ts
        → map (tree_at pool.terms) (map (id_of pool tuple) ts) ≡ map (put_into (term_at (map (term_in pool.terms) tuple))) ts
    argument_trees [] all = refl
    argument_trees (t ∷ ts) all =
        let first = argument_tree t (All-head (IsArgument functions (length tuple)) t ts all) in
        let rest = argument_trees ts (All-tail (IsArgument functions (length tuple)) t ts all) in
        λ i. first i ∷ rest i

    arguments_within : (ts : List Term) → All (IsArgument functions (length tuple)) ts → All (λ id. id.0 < length pool.terms) (map (id_of pool tuple) ts)
    arguments_within [] all = All-nil (λ (id : TermId). id.0 < length pool.terms)
    arguments_within (t ∷ ts) all =
        All-cons (λ (id : TermId). id.0 < length pool.terms) (id_of pool tuple t) (map (id_of pool tuple) ts)
        (argument_within t (All-head (IsArgument functions (length tuple)) t ts all)) (arguments_within ts (All-tail (IsArgument functions (length tuple)) t ts all))

    -- an atom
    atom_is : (p : ℕ) (args : List Term) → atom_at_tuple pool tuple (term.Apply (symbol.Declared p) args) ≡ record { predicate = p; args = map (id_of pool tuple) args }
    atom_is p args =
        let s : atom_layer pool tuple (Term-F.Apply (symbol.Declared p) args) ≡ record { predicate = p; args = map (id_of pool tuple) args } =
        ap (atom_of_symbol pool tuple args) (out-declared p) in
        ap (atom_layer pool tuple) (out-apply (symbol.Declared p) args) ∙ s

    pub atom_tree_at : (t : Term) → IsAtom functions (IsArgument functions (length tuple)) t
        → atom_tree pool.terms (atom_at_tuple pool tuple t) ≡ put_into (term_at (map (term_in pool.terms) tuple)) t
    atom_tree_at t atom =
        let is_it = ap (atom_at_tuple pool tuple) atom.3 ∙ atom_is atom.0 atom.2 in
        ap (atom_tree pool.terms) is_it ∙ (ap (term.Apply (symbol.Declared atom.0)) (argument_trees atom.2 atom.7)
        ∙ sym (ap (put_into (term_at (map (term_in pool.terms) tuple))) atom.3 ∙ put_apply (term_at (map (term_in pool.terms) tuple)) atom.0 atom.2))

    pub atom_over : (t : Term) → IsAtom functions (IsArgument functions (length tuple)) t → IsOver functions pool.terms (atom_at_tuple pool tuple t)
    atom_over t atom =
        let is_it = ap (atom_at_tuple pool tuple) atom.3 ∙ atom_is atom.0 atom.2 in
        subst (IsOver functions pool.terms) (sym is_it)
        (record { predicate = (atom.1, atom.4, atom.5, length-map atom.2 (id_of pool tuple) ∙ atom.6); args = arguments_within atom.2 atom.7 })
