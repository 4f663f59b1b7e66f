-- Numbers of terms, atoms and literals, by places.
use Rattle.std.proofs.Common.{◌≡◌, ℕ, zero, suc, ◌+◌, ◌<◌, inl, inr, List, [], ◌∷◌, ◌++◌, length, map, take, Some, slice_get, refl, sym, ap, subst, ◌∙◌, arith, length-append}
use Rattle.std.specs.List.{All, AllZip}
use Rattle.std.proofs.lemmas.List.Elements.{All-push}
use Rattle.std.proofs.lemmas.Option.{slice_get_within, get_or_from_slice_get, slice_get_read, slice_get-map}
use Rattle.std.specs.Prelude.{slice_index_or, ◌-◌}
use Rattle.std.specs.Option.{option_map}
use Rattle.mbqi_terms.specs.declared.instance.InstanceLine.{InstanceLine}
use Rattle.mbqi_values.specs.declared.lit.Lit.{Lit}
use Rattle.mbqi_terms.specs.Distinct.{Puts}
use Rattle.mbqi_terms.specs.Store.{tree_at}
use Rattle.mbqi_terms.specs.declared.formula.Formula.{Formula}
use Rattle.mbqi_terms.specs.declared.script.Function.{Function}
use Rattle.mbqi_terms.specs.declared.term.ArrayTerm.TheOpen.{Term-F, Symbol-F}
use Rattle.mbqi_terms.specs.declared.term.Symbol.{out-Symbol}
use Rattle.mbqi_terms.specs.declared.term.Symbol.TheVariants as symbol
use Rattle.mbqi_terms.specs.declared.term.Term.{Term, out-Term}
use Rattle.mbqi_terms.specs.declared.term.Term.TheVariants as term
use Rattle.mbqi_terms.specs.declared.term_id.TermId.{TermId}
use Rattle.mbqi_terms.proofs.Levels.{out-apply, out-declared}
use Rattle.mbqi_terms.proofs.Trees.{get_seam, get_take, take-push}
use Rattle.mbqi_terms.proofs.Zips.{zip_length, zip_push}
use Rattle.element_atoms.specs.Atoms.{IsOver, IsPool, formulas_in}
use Rattle.element_atoms.specs.Numbering.{Extends, IsNumbered, IsNumberOf, IsAtomOf, IsLitOf, IsClauseOf}
use Rattle.element_atoms.specs.Profile.{IsAtom, IsGround, constants_of, seed, variables_from}
use Rattle.element_atoms.specs.declared.atoms.GroundAtom.{GroundAtom}
use Rattle.element_atoms.specs.declared.pool.Pool.{Pool}

-- how many variables there are from a place on
pub length_variables : (place n : ℕ) → length (variables_from place n) ≡ n
length_variables place zero = refl
length_variables place (suc n) = ap suc (length_variables (place + 1) n)

-- the declared function that a term applies and its arguments are one
pub same_declared : (f g : ℕ) (ss ts : List Term) → term.Apply (symbol.Declared f) ss ≡ term.Apply (symbol.Declared g) ts → (f ≡ g) × (ss ≡ ts)
same_declared f g ss ts e =
    let layers : Term-F.Apply (symbol.Declared f) ss ≡ Term-F.Apply (symbol.Declared g) ts =
    sym (out-apply (symbol.Declared f) ss) ∙ (ap out-Term e ∙ out-apply (symbol.Declared g) ts) in
    let symbols : symbol.Declared f ≡ symbol.Declared g = cc in
    let heads : Symbol-F.Declared f ≡ Symbol-F.Declared g = sym (out-declared f) ∙ (ap out-Symbol symbols ∙ out-declared g) in
    (cc, cc)

-- the next element of a list
pub next_zip : {X Y : Type 0} (R : X → Y → Type 0) (xs : List X) (ys : List Y) (i : ℕ) (x : X) (y : Y) → slice_get ys i ≡ Some y
    → AllZip R xs (take i ys) → R x y → AllZip R (xs ++ x ∷ []) (take (i + 1) ys)
next_zip R xs ys i x y e zip r = subst (AllZip R (xs ++ x ∷ [])) (sym (take-push ys i y e)) (zip_push R xs (take i ys) x y zip r)

-- a constant among the functions is numbered by their pool, and so is the seed
numbered : (functions : List Function) (pool : Pool) → IsPool functions pool → (t : Term) → IsGround functions t → IsNumbered pool t
numbered functions pool is t (inl named) =
    let within = slice_get_within functions named.0 named.2.0 named.2.1 in
    inl (record { number = named.0; is = named.1; within = omega (arith, within, is.numbers); place = is.places named.0 named.2 })
numbered functions pool is t (inr last) =
    let some : length pool.terms ≡ length (constants_of functions) + 1 = ap length is.terms ∙ length-append (constants_of functions) (seed ∷ []) in
    let at : length pool.terms - 1 ≡ length (constants_of functions) = omega (arith, some) in
    inr (record {
      is = last;
      some = omega (arith, some);
      place = ap (λ n. slice_get pool.terms n) at ∙ (ap (λ ts. slice_get ts (length (constants_of functions))) is.terms ∙ get_seam (constants_of functions) seed []);
    })

all_numbered : (functions : List Function) (pool : Pool) → IsPool functions pool → (ts : List Term) → All (IsGround functions) ts → All (IsNumbered pool) ts
all_numbered functions pool is ts ground i d h = numbered functions pool is (slice_index_or ts i d) (ground i d h)

-- the arguments of an atom are numbered
pub args_numbered : (functions : List Function) (pool : Pool) (t : Term) (p : ℕ) (args : List Term) → IsPool functions pool
    → IsAtom functions (IsGround functions) t → t ≡ term.Apply (symbol.Declared p) args → All (IsNumbered pool) args
args_numbered functions pool t p args is atom e =
    let same = same_declared p atom.0 args atom.2 (sym e ∙ atom.3) in
    subst (All (IsNumbered pool)) (sym same.1) (all_numbered functions pool is atom.2 atom.7)

module _ (terms : List Term) where
  pub zip_trees : (ids : List TermId) (ts : List Term) → AllZip (IsNumberOf terms) ids ts → map (tree_at terms) ids ≡ ts
  zip_trees [] [] zip = refl
  zip_trees [] (t ∷ ts) zip = absurd zip
  zip_trees (id ∷ ids) [] zip = absurd zip
  zip_trees (id ∷ ids) (t ∷ ts) zip =
      let here = get_or_from_slice_get terms id.0 t _ zip.0 in
      let rest = zip_trees ids ts zip.1 in
      λ i. here i ∷ rest i

  pub zip_within : (ids : List TermId) (ts : List Term) → AllZip (IsNumberOf terms) ids ts → All (λ id. id.0 < length terms) ids
  zip_within [] ts zip k d h = absurd (omega arith)
  zip_within (id ∷ ids) [] zip k d h = absurd zip
  zip_within (id ∷ ids) (t ∷ ts) zip zero d h = slice_get_within terms id.0 t zip.0
  zip_within (id ∷ ids) (t ∷ ts) zip (suc k) d h = zip_within ids ts zip.1 k d (omega arith)

  -- an atom of the profile by the numbers of its arguments
  pub is_over : (functions : List Function) (t : Term) (p : ℕ) (args : List Term) (ids : List TermId) → IsAtom functions (IsGround functions) t
      → t ≡ term.Apply (symbol.Declared p) args → AllZip (IsNumberOf terms) ids args → IsOver functions terms (record { predicate = p; args = ids })
  is_over functions t p args ids atom e zip =
      let same = same_declared p atom.0 args atom.2 (sym e ∙ atom.3) in
      record {
        predicate = (atom.1, ap (slice_get functions) same.0 ∙ atom.4, atom.5, zip_length (IsNumberOf terms) ids args zip ∙ (ap length same.1 ∙ atom.6));
        args = zip_within ids args zip;
      }

-- growing
pub extends_refl : (atoms : List GroundAtom) → Extends atoms atoms
extends_refl atoms = record { front = take_whole atoms }
  where
    take_whole : (xs : List GroundAtom) → take (length xs) xs ≡ xs
    take_whole [] = refl
    take_whole (x ∷ xs) = ap (λ l. x ∷ l) (take_whole xs)

front_get : (xs ys : List GroundAtom) (i : ℕ) (x : GroundAtom) → Extends xs ys → slice_get xs i ≡ Some x → slice_get ys i ≡ Some x
front_get xs ys i x extends e = get_take ys (length xs) i x (ap (λ l. slice_get l i) extends.front ∙ e)

pub extends_trans : (xs ys zs : List GroundAtom) → Extends xs ys → Extends ys zs → Extends xs zs
extends_trans xs ys zs p q = record { front = shorter xs ys zs p.front q.front }
  where
    shorter : (xs ys zs : List GroundAtom) → take (length xs) ys ≡ xs → take (length ys) zs ≡ ys → take (length xs) zs ≡ xs
    shorter [] ys zs p q = refl
    shorter (x ∷ xs) [] zs p q = cc
    shorter (x ∷ xs) (y ∷ ys) [] p q = cc
    shorter (x ∷ xs) (y ∷ ys) (z ∷ zs) p q =
        let first : z ≡ x = cc in
        let rest : take (length xs) ys ≡ xs = cc in
        let more : take (length ys) zs ≡ ys = cc in
        let tail = shorter xs ys zs rest more in
        λ i. first i ∷ tail i

pub puts_extends : (old new : List GroundAtom) (atom : GroundAtom) (place : ℕ) → Puts old atom place new → Extends old new
puts_extends old new atom place (inl stays) = subst (Extends old) (sym stays.1) (extends_refl old)
puts_extends old new atom place (inr last) = record { front = ap (take (length old)) last.2 ∙ front old }
  where
    front : (xs : List GroundAtom) → take (length xs) (xs ++ atom ∷ []) ≡ xs
    front [] = refl
    front (x ∷ xs) = ap (λ l. x ∷ l) (front xs)

pub puts_at : (old new : List GroundAtom) (atom : GroundAtom) (place : ℕ) → Puts old atom place new → slice_get new place ≡ Some atom
puts_at old new atom place (inl stays) = ap (λ l. slice_get l place) stays.1 ∙ stays.0
puts_at old new atom place (inr last) =
    ap (λ l. slice_get l place) last.2 ∙ (ap (slice_get (old ++ atom ∷ [])) last.1 ∙ get_seam old atom [])

pub puts_all : (P : GroundAtom → Type 0) (old new : List GroundAtom) (atom : GroundAtom) (place : ℕ) → Puts old atom place new → P atom → All P old → All P new
puts_all P old new atom place (inl stays) p all = subst (All P) (sym stays.1) all
puts_all P old new atom place (inr last) p all = subst (All P) (sym last.2) (All-push P old atom all p)

module _ (terms : List Term) (old new : List GroundAtom) (extends : Extends old new) where
  pub atom_grows : (number : ℕ) (t : Term) → IsAtomOf terms old number t → IsAtomOf terms new number t
  atom_grows number t is = record { atom = is.atom; place = front_get old new number is.atom extends is.place; tree = is.tree }

  pub lit_grows : (lit : Lit) (f : Formula) → IsLitOf terms old lit f → IsLitOf terms new lit f
  lit_grows lit f is = record { term = is.term; atom = atom_grows lit.atom is.term is.atom; is = is.is }

  pub lits_grow : (lits : List Lit) (fs : List Formula) → AllZip (IsLitOf terms old) lits fs → AllZip (IsLitOf terms new) lits fs
  lits_grow [] [] zip = tt
  lits_grow [] (f ∷ fs) zip = absurd zip
  lits_grow (lit ∷ lits) [] zip = absurd zip
  lits_grow (lit ∷ lits) (f ∷ fs) zip = (lit_grows lit f zip.0, lits_grow lits fs zip.1)

  pub clause_grows : (lits : List Lit) (f : Formula) → IsClauseOf terms old lits f → IsClauseOf terms new lits f
  clause_grows lits f (inl one) = inl (lits_grow lits (f ∷ []) one)
  clause_grows lits f (inr any) = inr (any.0, any.1, lits_grow lits any.0 any.2)

  pub clauses_grow : (clauses : List (List Lit)) (fs : List Formula) → AllZip (IsClauseOf terms old) clauses fs → AllZip (IsClauseOf terms new) clauses fs
  clauses_grow [] [] zip = tt
  clauses_grow [] (f ∷ fs) zip = absurd zip
  clauses_grow (c ∷ clauses) [] zip = absurd zip
  clauses_grow (c ∷ clauses) (f ∷ fs) zip = (clause_grows c f zip.0, clauses_grow clauses fs zip.1)

-- the formula of the instance at a place stands at that place among the formulas
pub formula_there : (lines : List InstanceLine) (i : ℕ) (line : InstanceLine) → i < length lines → line ≡ slice_index_or lines i line
    → slice_get (formulas_in lines) i ≡ Some line.formula
formula_there lines i line within is =
    slice_get-map (λ (l : InstanceLine). l.formula) lines i ∙ ap (option_map (λ (l : InstanceLine). l.formula)) (slice_get_read lines (length lines) i line refl within is)

-- what holds of each element holds of the one at a place
pub there_holds : {X : Type 0} (P : X → Type 0) (xs : List X) (i : ℕ) (x : X) → slice_get xs i ≡ Some x → All P xs → P x
there_holds P xs i x there all = subst P (get_or_from_slice_get xs i x x there) (all i x (slice_get_within xs i x there))
