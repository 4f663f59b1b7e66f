-- Literals of formulas: by the kind of formula, in a table that grows, and their truths.
use Rattle.std.proofs.Common.{◌≡◌, ℕ, ◌<◌, Bool, true, false, not, if◌then◌else◌, List, [], ◌∷◌, ◌++◌, length, refl, sym, ap, subst, ◌∙◌, rules}
use Rattle.std.specs.List.{AllZip, list_any}
use Rattle.std.proofs.lemmas.Option.{slice_get_within}
use Rattle.mbqi_values.specs.Clauses.{lit_true}
use Rattle.mbqi_values.specs.declared.lit.Lit.{Lit}
use Rattle.mbqi_terms.specs.declared.formula.Formula as formulas
use Rattle.mbqi_terms.specs.declared.formula.Formula.{Formula, Row_of-Formula, end_of-Formula, more_of-Formula}
use Rattle.mbqi_terms.specs.declared.formula.Formula.TheBlock.{hidden-the_row-Formula-0, hidden-the_row-Formula-1}
use Rattle.mbqi_terms.specs.declared.formula.Formula.TheVariants as formula
use Rattle.mbqi_terms.specs.declared.formula.Formula.TheVariants.{Atom, Equal, AtMost, SameArray, Not', All', Any', Iff', Choose', Forall', Exists'}
use denote.Hole.Carrier.{hidden}
use Rattle.mbqi_terms.specs.Distinct.{AreDistinct}
use Rattle.mbqi_terms.specs.Meanings.{Meanings, truth_of}
use Rattle.mbqi_terms.proofs.Trees.{get_front}
use Rattle.ground_form.specs.Clauses.{IsAtomOf, IsLitOf, negated, truth_at, truths_in}

pub negated_twice : (lit : Lit) → negated (negated lit) ≡ lit
negated_twice lit = by lit.atom lit.yes
  where
    by : (atom : ℕ) (yes : Bool) → negated (negated (record { atom = atom; yes = yes })) ≡ record { atom = atom; yes = yes }
    by atom true = refl
    by atom false = refl

pub true_negated : (truths : ℕ → Bool) (lit : Lit) → lit_true truths (negated lit) ≡ not (lit_true truths lit)
true_negated truths lit = by (truths lit.atom) lit.yes
  where
    by : (truth yes : Bool) → (if not yes then truth else not truth) ≡ not (if yes then truth else not truth)
    by true true = refl
    by true false = refl
    by false true = refl
    by false false = refl

module _ (table : List Formula) where
  pub lit_of_not : (lit : Lit) (f : Formula) → IsLitOf table lit f → IsLitOf table (negated lit) (formula.Not f)
  unfolding IsLitOf hidden-the_row-Formula-0 hidden hidden-the_row-Formula-1
  lit_of_not lit f is = subst (λ l. IsLitOf table l f) (sym (negated_twice lit)) is

  pub lit_in_not : (lit : Lit) (f : Formula) → IsLitOf table lit (formula.Not f) → IsLitOf table (negated lit) f
  unfolding IsLitOf hidden-the_row-Formula-0 hidden hidden-the_row-Formula-1
  lit_in_not lit f is = is

  -- a literal is below the length of the table
  pub lit_below : (f : Formula) (lit : Lit) → IsLitOf table lit f → lit.atom < length table
  unfolding IsLitOf hidden-the_row-Formula-0 hidden hidden-the_row-Formula-1
  lit_below (formula.Truth b) lit is = slice_get_within table lit.atom (formula.Truth b) is.0
  lit_below (Atom t) lit is = slice_get_within table lit.atom (Atom t) is.0
  lit_below (Equal s t) lit is = slice_get_within table lit.atom (Equal s t) is.0
  lit_below (AtMost s t) lit is = slice_get_within table lit.atom (AtMost s t) is.0
  lit_below (SameArray a b) lit is = slice_get_within table lit.atom (SameArray a b) is.0
  lit_below (Not' u (more_of-Formula f end_of-Formula)) lit is = lit_below f (negated lit) is
  lit_below (All' n fs) lit is = slice_get_within table lit.atom (All' n fs) is.0
  lit_below (Any' n fs) lit is = slice_get_within table lit.atom (Any' n fs) is.0
  lit_below (Iff' u f v g) lit is = slice_get_within table lit.atom (Iff' u f v g) is.0
  lit_below (Choose' u c v f w g) lit is = slice_get_within table lit.atom (Choose' u c v f w g) is.0
  lit_below (Forall' bs u f) lit is = slice_get_within table lit.atom (Forall' bs u f) is.0
  lit_below (Exists' bs u f) lit is = slice_get_within table lit.atom (Exists' bs u f) is.0

  -- it stays that of its formula where the table grows
  module _ (more : List Formula) where
    atom_grows : (f : Formula) (lit : Lit) → IsAtomOf table lit f → IsAtomOf (table ++ more) lit f
    atom_grows f lit is = (get_front table more lit.atom (slice_get_within table lit.atom f is.0) ∙ is.0, is.1)

    pub lit_grows : (f : Formula) (lit : Lit) → IsLitOf table lit f → IsLitOf (table ++ more) lit f
    unfolding IsLitOf hidden-the_row-Formula-0 hidden hidden-the_row-Formula-1
    lit_grows (formula.Truth b) lit is = atom_grows (formula.Truth b) lit is
    lit_grows (Atom t) lit is = atom_grows (Atom t) lit is
    lit_grows (Equal s t) lit is = atom_grows (Equal s t) lit is
    lit_grows (AtMost s t) lit is = atom_grows (AtMost s t) lit is
    lit_grows (SameArray a b) lit is = atom_grows (SameArray a b) lit is
    lit_grows (Not' u (more_of-Formula f end_of-Formula)) lit is = lit_grows f (negated lit) is
    lit_grows (All' n fs) lit is = atom_grows (All' n fs) lit is
    lit_grows (Any' n fs) lit is = atom_grows (Any' n fs) lit is
    lit_grows (Iff' u f v g) lit is = atom_grows (Iff' u f v g) lit is
    lit_grows (Choose' u c v f w g) lit is = atom_grows (Choose' u c v f w g) lit is
    lit_grows (Forall' bs u f) lit is = atom_grows (Forall' bs u f) lit is
    lit_grows (Exists' bs u f) lit is = atom_grows (Exists' bs u f) lit is

    pub lits_grow : (lits : List Lit) (fs : List Formula) → AllZip (IsLitOf table) lits fs → AllZip (IsLitOf (table ++ more)) lits fs
    lits_grow [] [] zip = tt
    lits_grow [] (f ∷ fs) zip = absurd zip
    lits_grow (lit ∷ lits) [] zip = absurd zip
    lits_grow (lit ∷ lits) (f ∷ fs) zip = (lit_grows f lit zip.0, lits_grow lits fs zip.1)

    pub clauses_grow : (clauses : List (List Lit)) (rows : List (List Formula)) → AllZip (AllZip (IsLitOf table)) clauses rows
        → AllZip (AllZip (IsLitOf (table ++ more))) clauses rows
    clauses_grow [] [] zip = tt
    clauses_grow [] (row ∷ rows) zip = absurd zip
    clauses_grow (clause ∷ clauses) [] zip = absurd zip
    clauses_grow (clause ∷ clauses) (row ∷ rows) zip = (lits_grow clause row zip.0, clauses_grow clauses rows zip.1)

  -- a formula has one literal
  module _ (distinct : AreDistinct table) where
    abbrev made : ℕ → Bool → Lit
    made atom sign = record { atom = atom; yes = sign }

    one_atom : (f : Formula) (l k : Lit) → IsAtomOf table l f → IsAtomOf table k f → l ≡ k
    one_atom f l k here there =
        let same = distinct l.atom k.atom f here.0 there.0 in
        let sign = here.1 ∙ sym there.1 in
        λ i. made (same i) (sign i)

    pub one_lit : (f : Formula) (l k : Lit) → IsLitOf table l f → IsLitOf table k f → l ≡ k
    unfolding IsLitOf hidden-the_row-Formula-0 hidden hidden-the_row-Formula-1
    one_lit (formula.Truth b) l k here there = one_atom (formula.Truth b) l k here there
    one_lit (Atom t) l k here there = one_atom (Atom t) l k here there
    one_lit (Equal s t) l k here there = one_atom (Equal s t) l k here there
    one_lit (AtMost s t) l k here there = one_atom (AtMost s t) l k here there
    one_lit (SameArray a b) l k here there = one_atom (SameArray a b) l k here there
    one_lit (Not' u (more_of-Formula f end_of-Formula)) l k here there =
        sym (negated_twice l) ∙ (ap negated (one_lit f (negated l) (negated k) here there) ∙ negated_twice k)
    one_lit (All' n fs) l k here there = one_atom (All' n fs) l k here there
    one_lit (Any' n fs) l k here there = one_atom (Any' n fs) l k here there
    one_lit (Iff' u f v g) l k here there = one_atom (Iff' u f v g) l k here there
    one_lit (Choose' u c v f w g) l k here there = one_atom (Choose' u c v f w g) l k here there
    one_lit (Forall' bs u f) l k here there = one_atom (Forall' bs u f) l k here there
    one_lit (Exists' bs u f) l k here there = one_atom (Exists' bs u f) l k here there

  -- where each atom has the truth of its formula, so has each literal
  module _ (m : Meanings) where
    atom_truth : (f : Formula) (lit : Lit) → IsAtomOf table lit f → lit_true (truths_in m table) lit ≡ truth_of m f
    atom_truth f lit is = ap (λ yes. if yes then truths_in m table lit.atom else not (truths_in m table lit.atom)) is.1 ∙ ap (truth_at m) is.0

    truth_not : (f : Formula) → truth_of m (formula.Not f) ≡ not (truth_of m f)
    truth_not f = search (rules, formulas.the_lemmas)

    pub lit_truth : (f : Formula) (lit : Lit) → IsLitOf table lit f → lit_true (truths_in m table) lit ≡ truth_of m f
    unfolding IsLitOf hidden-the_row-Formula-0 hidden hidden-the_row-Formula-1
    lit_truth (formula.Truth b) lit is = atom_truth (formula.Truth b) lit is
    lit_truth (Atom t) lit is = atom_truth (Atom t) lit is
    lit_truth (Equal s t) lit is = atom_truth (Equal s t) lit is
    lit_truth (AtMost s t) lit is = atom_truth (AtMost s t) lit is
    lit_truth (SameArray a b) lit is = atom_truth (SameArray a b) lit is
    lit_truth (Not' u (more_of-Formula f end_of-Formula)) lit is =
        ap (lit_true (truths_in m table)) (sym (negated_twice lit))
        ∙ (true_negated (truths_in m table) (negated lit) ∙ (ap not (lit_truth f (negated lit) is) ∙ sym (truth_not f)))
    lit_truth (All' n fs) lit is = atom_truth (All' n fs) lit is
    lit_truth (Any' n fs) lit is = atom_truth (Any' n fs) lit is
    lit_truth (Iff' u f v g) lit is = atom_truth (Iff' u f v g) lit is
    lit_truth (Choose' u c v f w g) lit is = atom_truth (Choose' u c v f w g) lit is
    lit_truth (Forall' bs u f) lit is = atom_truth (Forall' bs u f) lit is
    lit_truth (Exists' bs u f) lit is = atom_truth (Exists' bs u f) lit is

    pub lits_truth : (lits : List Lit) (fs : List Formula) → AllZip (IsLitOf table) lits fs
        → list_any (lit_true (truths_in m table)) lits ≡ list_any (truth_of m) fs
    lits_truth [] [] zip = refl
    lits_truth [] (f ∷ fs) zip = absurd zip
    lits_truth (lit ∷ lits) [] zip = absurd zip
    lits_truth (lit ∷ lits) (f ∷ fs) zip = cc (lit_truth f lit zip.0, lits_truth lits fs zip.1)
