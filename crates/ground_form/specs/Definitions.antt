-- The parts of a formula without quantifiers, and the clauses that define them (Tseitin 1968): each part stands for an atom, and its
-- clauses say how its truth follows from the truths of the parts next below it.
use Rattle.std.specs.Prelude.{Bool, true, false, List, [], ◌∷◌, ◌++◌, map, if◌then◌else◌}
use Rattle.std.specs.List.{flat_map}
use Rattle.mbqi_terms.specs.declared.formula.Formula.{Formula, Row_of-Formula, end_of-Formula, more_of-Formula, out-Formula}
use Rattle.mbqi_terms.specs.declared.formula.Formula.TheOpen.{Formula-F}
use Rattle.mbqi_terms.specs.declared.formula.Formula.TheVariants.{Atom, Equal, AtMost, SameArray, Not, Not', All', Any', Iff', Choose', Forall', Exists'}
use Rattle.mbqi_terms.specs.declared.formula.Formula.TheVariants as formula

-- Whether the formula is a negation. It then has the literal of what it negates, negated, and no atom of its own.
abbrev pub is_not_layer : {X : Type 0} → Formula-F X → Bool
is_not_layer (Formula-F.Truth b) = false
is_not_layer (Formula-F.Atom t) = false
is_not_layer (Formula-F.Equal s t) = false
is_not_layer (Formula-F.AtMost s t) = false
is_not_layer (Formula-F.SameArray a b) = false
is_not_layer (Formula-F.Not f) = true
is_not_layer (Formula-F.All parts) = false
is_not_layer (Formula-F.Any parts) = false
is_not_layer (Formula-F.Iff f g) = false
is_not_layer (Formula-F.Choose c f g) = false
is_not_layer (Formula-F.Forall binders f) = false
is_not_layer (Formula-F.Exists binders f) = false

abbrev pub is_not : Formula → Bool
is_not f = is_not_layer (out-Formula f)

-- Whether the truth of a formula is that of its parts.
abbrev pub is_compound_layer : {X : Type 0} → Formula-F X → Bool
is_compound_layer (Formula-F.Truth b) = true
is_compound_layer (Formula-F.Atom t) = false
is_compound_layer (Formula-F.Equal s t) = false
is_compound_layer (Formula-F.AtMost s t) = false
is_compound_layer (Formula-F.SameArray a b) = false
is_compound_layer (Formula-F.Not f) = true
is_compound_layer (Formula-F.All parts) = true
is_compound_layer (Formula-F.Any parts) = true
is_compound_layer (Formula-F.Iff f g) = true
is_compound_layer (Formula-F.Choose c f g) = true
is_compound_layer (Formula-F.Forall binders f) = true
is_compound_layer (Formula-F.Exists binders f) = true

abbrev pub is_compound : Formula → Bool
is_compound f = is_compound_layer (out-Formula f)

-- A formula and the parts that stand in it, each before those that stand in itself.
unfoldable mutual
  pub parts_in : Formula → List Formula
  parts_in (formula.Truth b) = formula.Truth b ∷ []
  parts_in (Atom t) = Atom t ∷ []
  parts_in (Equal s t) = Equal s t ∷ []
  parts_in (AtMost s t) = AtMost s t ∷ []
  parts_in (SameArray a b) = SameArray a b ∷ []
  parts_in (Not' u (more_of-Formula f end_of-Formula)) = Not' u (more_of-Formula f end_of-Formula) ∷ parts_in f
  parts_in (All' n fs) = All' n fs ∷ parts_in_all fs
  parts_in (Any' n fs) = Any' n fs ∷ parts_in_all fs
  parts_in (Iff' u (more_of-Formula f end_of-Formula) v (more_of-Formula g end_of-Formula)) =
      Iff' u (more_of-Formula f end_of-Formula) v (more_of-Formula g end_of-Formula) ∷ (parts_in f ++ parts_in g)
  parts_in (Choose' u (more_of-Formula c end_of-Formula) v (more_of-Formula f end_of-Formula) w (more_of-Formula g end_of-Formula)) =
      Choose' u (more_of-Formula c end_of-Formula) v (more_of-Formula f end_of-Formula) w (more_of-Formula g end_of-Formula)
      ∷ (parts_in c ++ (parts_in f ++ parts_in g))
  parts_in (Forall' bs u f) = Forall' bs u f ∷ []
  parts_in (Exists' bs u f) = Exists' bs u f ∷ []

  -- The parts of each of the formulas.
  pub parts_in_all : {n : _} → Row_of-Formula n → List Formula
  parts_in_all end_of-Formula = []
  parts_in_all (more_of-Formula f fs) = parts_in f ++ parts_in_all fs

-- The clauses that define a part, each a list of formulas of which one is true.
abbrev pub definition_layer : Formula → Formula-F Formula → List (List Formula)
definition_layer f (Formula-F.Truth b) = ((if b then f else Not f) ∷ []) ∷ []
definition_layer f (Formula-F.Atom t) = []
definition_layer f (Formula-F.Equal s t) = []
definition_layer f (Formula-F.AtMost s t) = []
definition_layer f (Formula-F.SameArray a b) = []
definition_layer f (Formula-F.Not g) = []
definition_layer f (Formula-F.All parts) = map (λ part. Not f ∷ part ∷ []) parts ++ (f ∷ map Not parts) ∷ []
definition_layer f (Formula-F.Any parts) = map (λ part. f ∷ Not part ∷ []) parts ++ (Not f ∷ parts) ∷ []
definition_layer f (Formula-F.Iff a b) =
    (Not f ∷ Not a ∷ b ∷ []) ∷ (Not f ∷ a ∷ Not b ∷ []) ∷ (f ∷ a ∷ b ∷ []) ∷ (f ∷ Not a ∷ Not b ∷ []) ∷ []
definition_layer f (Formula-F.Choose c a b) =
    (Not f ∷ Not c ∷ a ∷ []) ∷ (Not f ∷ c ∷ b ∷ []) ∷ (f ∷ Not c ∷ Not a ∷ []) ∷ (f ∷ c ∷ Not b ∷ []) ∷ []
definition_layer f (Formula-F.Forall binders g) = []
definition_layer f (Formula-F.Exists binders g) = []

abbrev pub definition_of : Formula → List (List Formula)
definition_of f = definition_layer f (out-Formula f)

-- The clauses that define all parts of a formula.
abbrev pub definitions_in : Formula → List (List Formula)
definitions_in f = flat_map definition_of (parts_in f)
