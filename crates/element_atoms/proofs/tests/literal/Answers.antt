use Rattle.std.proofs.Common.{◌≡◌, ℕ, List, [], ◌∷◌, All, length, map, Some, slice_get, inl, inr, refl, sym, ap, subst, ◌∙◌}
use Rattle.std.proofs.lemmas.List.{length-map}
use Rattle.std.proofs.lemmas.List.Elements.{All-head, All-tail, All-nil, All-cons}
use Rattle.mbqi_terms.specs.declared.formula.Formula.TheVariants as formula
use Rattle.mbqi_terms.specs.declared.script.Function.{Function}
use Rattle.mbqi_terms.specs.declared.term.Symbol.TheVariants as symbol
use Rattle.mbqi_terms.specs.declared.term.Term.{Term}
use Rattle.mbqi_terms.specs.declared.term.Term.TheVariants as term
use Rattle.element_atoms.specs.Profile.{IsAtom, IsGround, IsPredicate, NamesConstant, constant}
use Rattle.element_atoms.proofs.tests.literal.Goals as goal

abbrev tree : ℕ → List Term → Term
tree p ts = term.Apply (symbol.Declared p) ts

all_ground : (functions : List Function) (constants : List ℕ) → All (NamesConstant functions) constants → All (IsGround functions) (map constant constants)
all_ground functions [] all = All-nil (IsGround functions)
all_ground functions (c ∷ constants) all =
    All-cons (IsGround functions) (constant c) (map constant constants) (inl (c, refl, All-head (NamesConstant functions) c constants all))
    (all_ground functions constants (All-tail (NamesConstant functions) c constants all))

is_atom : (functions : List Function) (p : ℕ) (constants : List ℕ) (ts : List Term)
    → (function : Function) × (slice_get functions p ≡ Some function) × IsPredicate function × (length constants ≡ length function.args)
    → All (NamesConstant functions) constants → ts ≡ map constant constants → IsAtom functions (IsGround functions) (tree p ts)
is_atom functions p constants ts named all e =
    (p, named.0, ts, refl, named.1, named.2, ap length e ∙ (length-map constants constant ∙ named.3), subst (All (IsGround functions)) (sym e) (all_ground functions constants all))

pub returns-then-yes : goal.returns-then-yes
returns-then-yes c =
    let ts = c.in_ok-terms.field-0 in
    let atom = is_atom c.args.functions.now c.args.number c.args.constants.now ts c.requires.predicate c.requires.constants c.in_ok-terms.ensures in
    (tree c.args.number ts, atom, inl refl)

pub returns : goal.returns
returns c =
    let ts = c.in_ok-terms.field-0 in
    let atom = is_atom c.args.functions.now c.args.number c.args.constants.now ts c.requires.predicate c.requires.constants c.in_ok-terms.ensures in
    (tree c.args.number ts, atom, inr (ap formula.Not c.in_ok-new.ensures))
