-- The truth of the clauses that define formulas, from the truths of the literals of their parts.
use Rattle.std.proofs.Common.{◌≡◌, ℕ, Bool, true, false, not, ◌&&◌, ◌||◌, if◌then◌else◌, List, [], ◌∷◌, ◌++◌, map, refl, sym, ap, ◌∙◌}
use Rattle.std.specs.List.{AllZip, flat_map, list_all, list_any}
use Rattle.std.proofs.lemmas.List.Folds.{list_all-append}
use Rattle.mbqi_values.specs.Clauses.{all_true, clause_true, lit_true}
use Rattle.mbqi_values.specs.declared.lit.Lit.{Lit}
use Rattle.mbqi_terms.specs.declared.formula.Formula.{Formula, out-Formula}
use Rattle.mbqi_terms.specs.declared.formula.Formula.TheFolds.{fold-roll-Formula, map-Formula}
use Rattle.mbqi_terms.specs.declared.formula.Formula.TheOpen.{Formula-F}
use Rattle.mbqi_terms.specs.declared.formula.Formula.TheVariants as formula
use Rattle.mbqi_terms.specs.declared.formula.Formula.TheViews.{roll-Formula, roll-out-Formula}
use Rattle.mbqi_terms.specs.Meanings.{Meanings, truth_layer, truth_of}
use Rattle.ground_form.specs.Clauses.{AreClausesOf, IsLitOf, negated, truths_in}
use Rattle.ground_form.specs.Definitions.{definition_layer, definition_of, definitions_in, parts_in}
use Rattle.ground_form.proofs.Growth.{zip_append}
use Rattle.ground_form.proofs.Literals.{lit_in_not, lit_truth, negated_twice, true_negated}

-- clauses as lists of truths
abbrev pub hold : List (List Bool) → Bool
hold rows = list_all (list_any (λ b. b)) rows

abbrev pub all_rows : Bool → List Bool → List (List Bool)
all_rows v bs = map (λ b. not v ∷ b ∷ []) bs ++ (v ∷ map not bs) ∷ []

abbrev pub any_rows : Bool → List Bool → List (List Bool)
any_rows v bs = map (λ b. v ∷ not b ∷ []) bs ++ (not v ∷ bs) ∷ []

abbrev pub iff_rows : Bool → Bool → Bool → List (List Bool)
iff_rows v a b = (not v ∷ not a ∷ b ∷ []) ∷ (not v ∷ a ∷ not b ∷ []) ∷ (v ∷ a ∷ b ∷ []) ∷ (v ∷ not a ∷ not b ∷ []) ∷ []

abbrev pub choice_rows : Bool → Bool → Bool → Bool → List (List Bool)
choice_rows v c a b = (not v ∷ not c ∷ a ∷ []) ∷ (not v ∷ c ∷ b ∷ []) ∷ (v ∷ not c ∷ not a ∷ []) ∷ (v ∷ c ∷ not b ∷ []) ∷ []

abbrev pub same : Bool → Bool → Bool
same v t = if v then t else not t

pub same_self : (v : Bool) → same v v ≡ true
same_self true = refl
same_self false = refl

pub from_same : (v t : Bool) → same v t ≡ true → v ≡ t
from_same true true e = refl
from_same true false e = sym e
from_same false true e = e
from_same false false e = refl

-- they hold exactly where the truth that they define is the one that its parts give
pub and_true : (b : Bool) → (b && true) ≡ b
and_true true = refl
and_true false = refl

pub or_false : (b : Bool) → (b || false) ≡ b
or_false true = refl
or_false false = refl

each_is : (bs : List Bool) → hold (map (λ b. false ∷ b ∷ []) bs) ≡ list_all (λ b. b) bs
each_is [] = refl
each_is (b ∷ bs) = λ i. or_false b i && each_is bs i

each_is_not : (bs : List Bool) → hold (map (λ b. false ∷ not b ∷ []) bs) ≡ not (list_any (λ b. b) bs)
each_is_not [] = refl
each_is_not (true ∷ bs) = refl
each_is_not (false ∷ bs) = each_is_not bs

each_holds : (f : Bool → Bool) (bs : List Bool) → hold (map (λ b. true ∷ f b ∷ []) bs) ≡ true
each_holds f [] = refl
each_holds f (b ∷ bs) = each_holds f bs

some_is_not : (bs : List Bool) → list_any (λ b. b) (map not bs) ≡ not (list_all (λ b. b) bs)
some_is_not [] = refl
some_is_not (true ∷ bs) = some_is_not bs
some_is_not (false ∷ bs) = refl

pub all_rows_hold : (v : Bool) (bs : List Bool) → hold (all_rows v bs) ≡ same v (list_all (λ b. b) bs)
all_rows_hold true bs =
    list_all-append (list_any (λ b. b)) (map (λ b. false ∷ b ∷ []) bs) ((true ∷ map not bs) ∷ [])
    ∙ (and_true (hold (map (λ b. false ∷ b ∷ []) bs)) ∙ each_is bs)
all_rows_hold false bs =
    list_all-append (list_any (λ b. b)) (map (λ b. true ∷ b ∷ []) bs) ((false ∷ map not bs) ∷ [])
    ∙ (ap (λ b. b && (list_any (λ b. b) (map not bs) && true)) (each_holds (λ b. b) bs)
    ∙ (and_true (list_any (λ b. b) (map not bs)) ∙ some_is_not bs))

pub any_rows_hold : (v : Bool) (bs : List Bool) → hold (any_rows v bs) ≡ same v (list_any (λ b. b) bs)
any_rows_hold true bs =
    list_all-append (list_any (λ b. b)) (map (λ b. true ∷ not b ∷ []) bs) ((false ∷ bs) ∷ [])
    ∙ (ap (λ b. b && (list_any (λ b. b) bs && true)) (each_holds not bs) ∙ and_true (list_any (λ b. b) bs))
any_rows_hold false bs =
    list_all-append (list_any (λ b. b)) (map (λ b. false ∷ not b ∷ []) bs) ((true ∷ bs) ∷ [])
    ∙ (and_true (hold (map (λ b. false ∷ not b ∷ []) bs)) ∙ each_is_not bs)

pub iff_rows_hold : (v a b : Bool) → hold (iff_rows v a b) ≡ same v (if a then b else not b)
iff_rows_hold true true true = refl
iff_rows_hold true true false = refl
iff_rows_hold true false true = refl
iff_rows_hold true false false = refl
iff_rows_hold false true true = refl
iff_rows_hold false true false = refl
iff_rows_hold false false true = refl
iff_rows_hold false false false = refl

pub choice_rows_hold : (v c a b : Bool) → hold (choice_rows v c a b) ≡ same v (if c then a else b)
choice_rows_hold true true true b = refl
choice_rows_hold true true false true = refl
choice_rows_hold true true false false = refl
choice_rows_hold true false true true = refl
choice_rows_hold true false true false = refl
choice_rows_hold true false false true = refl
choice_rows_hold true false false false = refl
choice_rows_hold false true true true = refl
choice_rows_hold false true true false = refl
choice_rows_hold false true false true = refl
choice_rows_hold false true false false = refl
choice_rows_hold false false true true = refl
choice_rows_hold false false true false = refl
choice_rows_hold false false false true = refl
choice_rows_hold false false false false = refl

pub truth_row_holds : (v t : Bool) → hold (((if t then v else not v) ∷ []) ∷ []) ≡ same v t
truth_row_holds true true = refl
truth_row_holds true false = refl
truth_row_holds false true = refl
truth_row_holds false false = refl

module _ (table : List Formula) (truths : ℕ → Bool) where
  -- each literal of the formula has this truth
  abbrev pub HasTruth : Formula → Bool → Type 0
  HasTruth f b = (lit : Lit) → IsLitOf table lit f → lit_true truths lit ≡ b

  pub not_has : (f : Formula) (b : Bool) → HasTruth f b → HasTruth (formula.Not f) (not b)
  not_has f b has lit is =
      ap (lit_true truths) (sym (negated_twice lit))
      ∙ (true_negated truths (negated lit) ∙ ap not (has (negated lit) (lit_in_not table lit f is)))

  row_truth : (clause : List Lit) (row : List Formula) (bs : List Bool) → AllZip (IsLitOf table) clause row → AllZip HasTruth row bs
      → clause_true truths clause ≡ list_any (λ b. b) bs
  row_truth [] [] [] zip has = refl
  row_truth [] [] (b ∷ bs) zip has = absurd has
  row_truth [] (f ∷ fs) bs zip has = absurd zip
  row_truth (lit ∷ lits) [] bs zip has = absurd zip
  row_truth (lit ∷ lits) (f ∷ fs) [] zip has = absurd has
  row_truth (lit ∷ lits) (f ∷ fs) (b ∷ bs) zip has =
      let first = has.0 lit zip.0 in
      let rest = row_truth lits fs bs zip.1 has.1 in
      λ i. first i || rest i

  -- the clauses are true where their rows hold
  pub rows_truth : (clauses : List (List Lit)) (rows : List (List Formula)) (bss : List (List Bool)) → AreClausesOf table clauses rows
      → AllZip (AllZip HasTruth) rows bss → all_true truths clauses ≡ hold bss
  rows_truth [] [] [] zip has = refl
  rows_truth [] [] (bs ∷ bss) zip has = absurd has
  rows_truth [] (row ∷ rows) bss zip has = absurd zip
  rows_truth (clause ∷ clauses) [] bss zip has = absurd zip
  rows_truth (clause ∷ clauses) (row ∷ rows) [] zip has = absurd has
  rows_truth (clause ∷ clauses) (row ∷ rows) (bs ∷ bss) zip has =
      let first = row_truth clause row bs zip.0 has.0 in
      let rest = rows_truth clauses rows bss zip.1 has.1 in
      λ i. first i && rest i

  -- the rows of a definition have the truths of the formula and its parts
  module _ (f : Formula) (v : Bool) (own : HasTruth f v) where
    each_has : (parts : List Formula) (bs : List Bool) → AllZip HasTruth parts bs
        → AllZip (AllZip HasTruth) (map (λ part. formula.Not f ∷ part ∷ []) parts) (map (λ b. not v ∷ b ∷ []) bs)
    each_has [] [] zip = tt
    each_has [] (b ∷ bs) zip = absurd zip
    each_has (part ∷ parts) [] zip = absurd zip
    each_has (part ∷ parts) (b ∷ bs) zip = ((not_has f v own, (zip.0, tt)), each_has parts bs zip.1)

    each_has_not : (parts : List Formula) (bs : List Bool) → AllZip HasTruth parts bs
        → AllZip (AllZip HasTruth) (map (λ part. f ∷ formula.Not part ∷ []) parts) (map (λ b. v ∷ not b ∷ []) bs)
    each_has_not [] [] zip = tt
    each_has_not [] (b ∷ bs) zip = absurd zip
    each_has_not (part ∷ parts) [] zip = absurd zip
    each_has_not (part ∷ parts) (b ∷ bs) zip = ((own, (not_has part b zip.0, tt)), each_has_not parts bs zip.1)

    nots_have : (parts : List Formula) (bs : List Bool) → AllZip HasTruth parts bs → AllZip HasTruth (map formula.Not parts) (map not bs)
    nots_have [] [] zip = tt
    nots_have [] (b ∷ bs) zip = absurd zip
    nots_have (part ∷ parts) [] zip = absurd zip
    nots_have (part ∷ parts) (b ∷ bs) zip = (not_has part b zip.0, nots_have parts bs zip.1)

    pub truth_has : (b : Bool) → AllZip (AllZip HasTruth) (definition_layer f (Formula-F.Truth b)) (((if b then v else not v) ∷ []) ∷ [])
    truth_has true = ((own, tt), tt)
    truth_has false = ((not_has f v own, tt), tt)

    pub all_has : (parts : List Formula) (bs : List Bool) → AllZip HasTruth parts bs
        → AllZip (AllZip HasTruth) (definition_layer f (Formula-F.All parts)) (all_rows v bs)
    all_has parts bs zip =
        zip_append (AllZip HasTruth) (map (λ part. formula.Not f ∷ part ∷ []) parts) ((f ∷ map formula.Not parts) ∷ [])
        (map (λ b. not v ∷ b ∷ []) bs) ((v ∷ map not bs) ∷ []) (each_has parts bs zip) ((own, nots_have parts bs zip), tt)

    pub any_has : (parts : List Formula) (bs : List Bool) → AllZip HasTruth parts bs
        → AllZip (AllZip HasTruth) (definition_layer f (Formula-F.Any parts)) (any_rows v bs)
    any_has parts bs zip =
        zip_append (AllZip HasTruth) (map (λ part. f ∷ formula.Not part ∷ []) parts) ((formula.Not f ∷ parts) ∷ [])
        (map (λ b. v ∷ not b ∷ []) bs) ((not v ∷ bs) ∷ []) (each_has_not parts bs zip) ((not_has f v own, zip), tt)

    pub iff_has : (g h : Formula) (a b : Bool) → HasTruth g a → HasTruth h b
        → AllZip (AllZip HasTruth) (definition_layer f (Formula-F.Iff g h)) (iff_rows v a b)
    iff_has g h a b left right =
        let no = not_has f v own in
        let not_left = not_has g a left in
        let not_right = not_has h b right in
        ((no, (not_left, (right, tt))), ((no, (left, (not_right, tt))), ((own, (left, (right, tt))), ((own, (not_left, (not_right, tt))), tt))))

    pub choice_has : (c g h : Formula) (k a b : Bool) → HasTruth c k → HasTruth g a → HasTruth h b
        → AllZip (AllZip HasTruth) (definition_layer f (Formula-F.Choose c g h)) (choice_rows v k a b)
    choice_has c g h k a b condition left right =
        let no = not_has f v own in
        let not_condition = not_has c k condition in (
          (no, (not_condition, (left, tt))),
          (
            (no, (condition, (right, tt))),
            (
              (own, (not_condition, (not_has g a left, tt))),
              ((own, (condition, (not_has h b right, tt))), tt),
            ),
          ),
        )

-- where each atom has the truth of its formula, all definitions are true
module _ (m : Meanings) where
  pub truth_rolled : (f : Formula) (layer : Formula-F Formula) → roll-Formula layer ≡ f
      → truth_of m f ≡ truth_layer m (map-Formula Formula Bool (truth_of m) layer)
  truth_rolled f layer rolls = ap (truth_of m) (sym rolls) ∙ fold-roll-Formula Bool (truth_layer m) layer

  module _ (table : List Formula) where
    abbrev Says : Formula → Bool → Type 0
    Says = HasTruth table (truths_in m table)

    says : (f : Formula) → Says f (truth_of m f)
    says f = λ lit is. lit_truth table m f lit is

    says_each : (fs : List Formula) → AllZip Says fs (map (truth_of m) fs)
    says_each [] = tt
    says_each (f ∷ fs) = (says f, says_each fs)

    abbrev IsTrueList : List (List Formula) → Type 0
    IsTrueList rows = (bss : List (List Bool)) × AllZip (AllZip Says) rows bss × (hold bss ≡ true)

    by_same : (f : Formula) (layer : Formula-F Formula) (bss : List (List Bool)) → roll-Formula layer ≡ f
        → AllZip (AllZip Says) (definition_layer f layer) bss
        → hold bss ≡ same (truth_of m f) (truth_layer m (map-Formula Formula Bool (truth_of m) layer)) → IsTrueList (definition_layer f layer)
    by_same f layer bss rolls zip holds =
        (bss, zip, holds ∙ (ap (same (truth_of m f)) (sym (truth_rolled f layer rolls)) ∙ same_self (truth_of m f)))

    layer_true : (f : Formula) (layer : Formula-F Formula) → roll-Formula layer ≡ f → IsTrueList (definition_layer f layer)
    layer_true f (Formula-F.Truth b) rolls =
        by_same f (Formula-F.Truth b) (((if b then truth_of m f else not (truth_of m f)) ∷ []) ∷ []) rolls (truth_has table (truths_in m table) f (truth_of m f) (says f) b) (truth_row_holds (truth_of m f) b)
    layer_true f (Formula-F.Atom t) rolls = ([], tt, refl)
    layer_true f (Formula-F.Equal s t) rolls = ([], tt, refl)
    layer_true f (Formula-F.AtMost s t) rolls = ([], tt, refl)
    layer_true f (Formula-F.SameArray a b) rolls = ([], tt, refl)
    layer_true f (Formula-F.Not g) rolls = ([], tt, refl)
    layer_true f (Formula-F.All parts) rolls =
        by_same f (Formula-F.All parts) (all_rows (truth_of m f) (map (truth_of m) parts)) rolls
        (all_has table (truths_in m table) f (truth_of m f) (says f) parts (map (truth_of m) parts) (says_each parts))
        (all_rows_hold (truth_of m f) (map (truth_of m) parts))
    layer_true f (Formula-F.Any parts) rolls =
        by_same f (Formula-F.Any parts) (any_rows (truth_of m f) (map (truth_of m) parts)) rolls
        (any_has table (truths_in m table) f (truth_of m f) (says f) parts (map (truth_of m) parts) (says_each parts))
        (any_rows_hold (truth_of m f) (map (truth_of m) parts))
    layer_true f (Formula-F.Iff g h) rolls =
        by_same f (Formula-F.Iff g h) (iff_rows (truth_of m f) (truth_of m g) (truth_of m h)) rolls
        (iff_has table (truths_in m table) f (truth_of m f) (says f) g h (truth_of m g) (truth_of m h) (says g) (says h))
        (iff_rows_hold (truth_of m f) (truth_of m g) (truth_of m h))
    layer_true f (Formula-F.Choose c g h) rolls =
        by_same f (Formula-F.Choose c g h) (choice_rows (truth_of m f) (truth_of m c) (truth_of m g) (truth_of m h)) rolls
        (choice_has table (truths_in m table) f (truth_of m f) (says f) c g h (truth_of m c) (truth_of m g) (truth_of m h) (says c) (says g) (says h))
        (choice_rows_hold (truth_of m f) (truth_of m c) (truth_of m g) (truth_of m h))
    layer_true f (Formula-F.Forall bs g) rolls = ([], tt, refl)
    layer_true f (Formula-F.Exists bs g) rolls = ([], tt, refl)

    all_definitions_true : (fs : List Formula) → IsTrueList (flat_map definition_of fs)
    all_definitions_true [] = ([], tt, refl)
    all_definitions_true (f ∷ fs) =
        let first = layer_true f (out-Formula f) (roll-out-Formula f) in
        let rest = all_definitions_true fs in (
          first.0 ++ rest.0,
          zip_append (AllZip Says) (definition_of f) (flat_map definition_of fs) first.0 rest.0 first.1 rest.1,
          list_all-append (list_any (λ b. b)) first.0 rest.0 ∙ (ap (λ b. b && hold rest.0) first.2 ∙ rest.2),
        )

    -- the clauses of a formula have its truth
    pub formula_truth : (f : Formula) (clauses : List (List Lit)) → AreClausesOf table clauses ((f ∷ []) ∷ definitions_in f)
        → all_true (truths_in m table) clauses ≡ truth_of m f
    formula_truth f clauses are =
        let those = all_definitions_true (parts_in f) in
        rows_truth table (truths_in m table) clauses ((f ∷ []) ∷ definitions_in f) ((truth_of m f ∷ []) ∷ those.0) are ((says f, tt), those.1)
        ∙ (ap (λ b. (truth_of m f || false) && b) those.2 ∙ (and_true (truth_of m f || false) ∙ or_false (truth_of m f)))
