-- The clauses that define a literal have the literals of those that define its formula.
use Rattle.std.proofs.Common.{◌≡◌, Bool, true, false, List, [], ◌∷◌, ◌++◌, map, sym, ap, subst, ◌∙◌}
use Rattle.std.specs.List.{AllZip, flat_map}
use Rattle.mbqi_values.specs.declared.lit.Lit.{Lit}
use Rattle.mbqi_terms.specs.declared.formula.Formula.{Formula}
use Rattle.mbqi_terms.specs.declared.formula.Formula.TheOpen.{Formula-F}
use Rattle.mbqi_terms.specs.declared.formula.Formula.TheVariants as formula
use Rattle.ground_form.specs.Clauses.{AddsClauses, AreClausesOf, IsLitOf, negated}
use Rattle.ground_form.specs.Definitions.{definition_layer, definitions_in}
use Rattle.ground_form.specs.Rows.{choice_rows, conjunction_rows, constant_rows, disjunction_rows, equivalence_rows}
use Rattle.ground_form.proofs.Growth.{adds_again, zip_append}
use Rattle.ground_form.proofs.Literals.{lit_of_not}
use Rattle.ground_form.proofs.Parts.{definitions_of_all, definitions_of_any, definitions_of_choice, definitions_of_iff, definitions_of_not, definitions_of_truth}

module _ (table : List Formula) where
  abbrev Are : List (List Lit) → List (List Formula) → Type 0
  Are = AreClausesOf table

  module _ (f : Formula) (lit : Lit) (own : IsLitOf table lit f) where
    no : IsLitOf table (negated lit) (formula.Not f)
    no = lit_of_not table lit f own

    each_follows : (lits : List Lit) (fs : List Formula) → AllZip (IsLitOf table) lits fs
        → Are (map (λ l. negated lit ∷ l ∷ []) lits) (map (λ part. formula.Not f ∷ part ∷ []) fs)
    each_follows [] [] zip = tt
    each_follows [] (g ∷ gs) zip = absurd zip
    each_follows (l ∷ lits) [] zip = absurd zip
    each_follows (l ∷ lits) (g ∷ gs) zip = ((no, (zip.0, tt)), each_follows lits gs zip.1)

    follows_from_each : (lits : List Lit) (fs : List Formula) → AllZip (IsLitOf table) lits fs
        → Are (map (λ l. lit ∷ negated l ∷ []) lits) (map (λ part. f ∷ formula.Not part ∷ []) fs)
    follows_from_each [] [] zip = tt
    follows_from_each [] (g ∷ gs) zip = absurd zip
    follows_from_each (l ∷ lits) [] zip = absurd zip
    follows_from_each (l ∷ lits) (g ∷ gs) zip = ((own, (lit_of_not table l g zip.0, tt)), follows_from_each lits gs zip.1)

    nots_of : (lits : List Lit) (fs : List Formula) → AllZip (IsLitOf table) lits fs → AllZip (IsLitOf table) (map negated lits) (map formula.Not fs)
    nots_of [] [] zip = tt
    nots_of [] (g ∷ gs) zip = absurd zip
    nots_of (l ∷ lits) [] zip = absurd zip
    nots_of (l ∷ lits) (g ∷ gs) zip = (lit_of_not table l g zip.0, nots_of lits gs zip.1)

    conjunction_is : (lits : List Lit) (fs : List Formula) → AllZip (IsLitOf table) lits fs
        → Are (conjunction_rows lit lits) (definition_layer f (Formula-F.All fs))
    conjunction_is lits fs zip =
        zip_append (AllZip (IsLitOf table)) (map (λ l. negated lit ∷ l ∷ []) lits) ((lit ∷ map negated lits) ∷ [])
        (map (λ part. formula.Not f ∷ part ∷ []) fs) ((f ∷ map formula.Not fs) ∷ []) (each_follows lits fs zip) ((own, nots_of lits fs zip), tt)

    disjunction_is : (lits : List Lit) (fs : List Formula) → AllZip (IsLitOf table) lits fs
        → Are (disjunction_rows lit lits) (definition_layer f (Formula-F.Any fs))
    disjunction_is lits fs zip =
        zip_append (AllZip (IsLitOf table)) (map (λ l. lit ∷ negated l ∷ []) lits) ((negated lit ∷ lits) ∷ [])
        (map (λ part. f ∷ formula.Not part ∷ []) fs) ((formula.Not f ∷ fs) ∷ []) (follows_from_each lits fs zip) ((no, zip), tt)

    equivalence_is : (l r : Lit) (g h : Formula) → IsLitOf table l g → IsLitOf table r h
        → Are (equivalence_rows lit l r) (definition_layer f (Formula-F.Iff g h))
    equivalence_is l r g h left right =
        let no_left = lit_of_not table l g left in
        let no_right = lit_of_not table r h right in
        ((no, (no_left, (right, tt))), ((no, (left, (no_right, tt))), ((own, (left, (right, tt))), ((own, (no_left, (no_right, tt))), tt))))

    choice_is : (k l r : Lit) (c g h : Formula) → IsLitOf table k c → IsLitOf table l g → IsLitOf table r h
        → Are (choice_rows lit k l r) (definition_layer f (Formula-F.Choose c g h))
    choice_is k l r c g h condition left right =
        let no_condition = lit_of_not table k c condition in
        let no_left = lit_of_not table l g left in
        let no_right = lit_of_not table r h right in
        ((no, (no_condition, (left, tt))), ((no, (condition, (right, tt))), ((own, (no_condition, (no_left, tt))), ((own, (condition, (no_right, tt))), tt))))

    constant_is : (b : Bool) → Are (constant_rows b lit) (definition_layer f (Formula-F.Truth b))
    constant_is true = ((own, tt), tt)
    constant_is false = ((no, tt), tt)

  -- the clauses of a formula are its own and those of its parts
  module _ (f : Formula) (lit : Lit) (own : IsLitOf table lit f) (before mid after : List (List Lit)) where
    pub adds_all : (fs : List Formula) (lits : List Lit) → f ≡ formula.All fs → AllZip (IsLitOf table) lits fs
        → mid ≡ before ++ conjunction_rows lit lits → AddsClauses table mid after (flat_map definitions_in fs) → AddsClauses table before after (definitions_in f)
    adds_all fs lits is zip first rest =
        subst (AddsClauses table before after) (sym (ap definitions_in is ∙ definitions_of_all fs))
        (adds_again table before mid after (definition_layer (formula.All fs) (Formula-F.All fs)) (flat_map definitions_in fs)
        (conjunction_rows lit lits, first, conjunction_is (formula.All fs) lit (subst (IsLitOf table lit) is own) lits fs zip) rest)

    pub adds_any : (fs : List Formula) (lits : List Lit) → f ≡ formula.Any fs → AllZip (IsLitOf table) lits fs
        → mid ≡ before ++ disjunction_rows lit lits → AddsClauses table mid after (flat_map definitions_in fs) → AddsClauses table before after (definitions_in f)
    adds_any fs lits is zip first rest =
        subst (AddsClauses table before after) (sym (ap definitions_in is ∙ definitions_of_any fs))
        (adds_again table before mid after (definition_layer (formula.Any fs) (Formula-F.Any fs)) (flat_map definitions_in fs)
        (disjunction_rows lit lits, first, disjunction_is (formula.Any fs) lit (subst (IsLitOf table lit) is own) lits fs zip) rest)

    pub adds_iff : (g h : Formula) (l r : Lit) (next : List (List Lit)) → f ≡ formula.Iff g h → IsLitOf table l g → IsLitOf table r h
        → mid ≡ before ++ equivalence_rows lit l r → AddsClauses table mid next (definitions_in g) → AddsClauses table next after (definitions_in h)
        → AddsClauses table before after (definitions_in f)
    adds_iff g h l r next is left right first second third =
        subst (AddsClauses table before after) (sym (ap definitions_in is ∙ definitions_of_iff g h))
        (adds_again table before mid after (definition_layer (formula.Iff g h) (Formula-F.Iff g h)) (definitions_in g ++ definitions_in h)
        (equivalence_rows lit l r, first, equivalence_is (formula.Iff g h) lit (subst (IsLitOf table lit) is own) l r g h left right)
        (adds_again table mid next after (definitions_in g) (definitions_in h) second third))

    pub adds_choice : (c g h : Formula) (k l r : Lit) (next last : List (List Lit)) → f ≡ formula.Choose c g h
        → IsLitOf table k c → IsLitOf table l g → IsLitOf table r h → mid ≡ before ++ choice_rows lit k l r
        → AddsClauses table mid next (definitions_in c) → AddsClauses table next last (definitions_in g) → AddsClauses table last after (definitions_in h)
        → AddsClauses table before after (definitions_in f)
    adds_choice c g h k l r next last is condition left right first second third fourth =
        subst (AddsClauses table before after) (sym (ap definitions_in is ∙ definitions_of_choice c g h))
        (adds_again table before mid after (definition_layer (formula.Choose c g h) (Formula-F.Choose c g h)) (definitions_in c ++ (definitions_in g ++ definitions_in h))
        (choice_rows lit k l r, first, choice_is (formula.Choose c g h) lit (subst (IsLitOf table lit) is own) k l r c g h condition left right)
        (adds_again table mid next after (definitions_in c) (definitions_in g ++ definitions_in h) second
        (adds_again table next last after (definitions_in g) (definitions_in h) third fourth)))

  module _ (f : Formula) (lit : Lit) (own : IsLitOf table lit f) (before after : List (List Lit)) where
    pub adds_truth : (b : Bool) → f ≡ formula.Truth b → after ≡ before ++ constant_rows b lit → AddsClauses table before after (definitions_in f)
    adds_truth b is first =
        subst (AddsClauses table before after) (sym (ap definitions_in is ∙ definitions_of_truth b))
        (constant_rows b lit, first, constant_is (formula.Truth b) lit (subst (IsLitOf table lit) is own) b)

  pub adds_not : (f g : Formula) (before after : List (List Lit)) → f ≡ formula.Not g → AddsClauses table before after (definitions_in g)
      → AddsClauses table before after (definitions_in f)
  adds_not f g before after is rest = subst (AddsClauses table before after) (sym (ap definitions_in is ∙ definitions_of_not g)) rest
