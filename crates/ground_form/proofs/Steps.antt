-- What the calls of one definition make of the table and of the clauses, over plain variables.
use Rattle.std.proofs.Common.{◌≡◌, ◌<◌, List, [], ◌∷◌, ◌++◌, length, sym, ap, subst, ◌∙◌}
use Rattle.std.specs.Prelude.{All}
use Rattle.std.specs.List.{AllZip, flat_map}
use Rattle.std.proofs.lemmas.List.Elements.{All-cons, All-nil}
use Rattle.mbqi_values.specs.Clauses.{AreBelow}
use Rattle.mbqi_values.specs.declared.lit.Lit.{Lit}
use Rattle.mbqi_terms.specs.declared.formula.Formula.{Formula}
use Rattle.mbqi_terms.specs.declared.formula.Formula.TheVariants as formula
use Rattle.ground_form.specs.Clauses.{AddsClauses, AreClausesOf, GrowsBy, IsLitOf, negated}
use Rattle.ground_form.specs.Definitions.{definitions_in, parts_in}
use Rattle.ground_form.specs.Rows.{choice_rows, conjunction_rows, disjunction_rows, equivalence_rows}
use Rattle.ground_form.proofs.Defining.{adds_all, adds_any, adds_choice, adds_iff}
use Rattle.ground_form.proofs.Growth.{adds_stay, grows_again, lit_stays, lits_stay}
use Rattle.ground_form.proofs.Literals.{lit_below, lit_in_not}
use Rattle.ground_form.proofs.Parts.{grows_below_choice, grows_below_condition, grows_below_iff, grows_below_left, grows_below_no, grows_below_right, grows_below_yes}

pub below_not : (table : List Formula) (f g : Formula) (lit other : Lit) → f ≡ formula.Not g → other ≡ negated lit → IsLitOf table lit f → IsLitOf table other g
below_not table f g lit other is same own =
    subst (λ l. IsLitOf table l g) (sym same) (lit_in_not table lit g (subst (IsLitOf table lit) is own))

module _ (f : Formula) (lit : Lit) (start first last : List Formula) (before mid after : List (List Lit)) (fs : List Formula) (lits : List Lit)
    (one : GrowsBy (flat_map parts_in fs) start first) (two : GrowsBy (flat_map parts_in fs) first last) (zip : AllZip (IsLitOf first) lits fs)
    (rest : AddsClauses last mid after (flat_map definitions_in fs)) (own : IsLitOf start lit f) where
  later : IsLitOf last lit f
  later = lit_stays (flat_map parts_in fs) first last two lit f (lit_stays (flat_map parts_in fs) start first one lit f own)

  pub all_step : f ≡ formula.All fs → mid ≡ before ++ conjunction_rows lit lits → AddsClauses last before after (definitions_in f)
  all_step is rows = adds_all last f lit later before mid after fs lits is (lits_stay (flat_map parts_in fs) first last two lits fs zip) rows rest

  pub any_step : f ≡ formula.Any fs → mid ≡ before ++ disjunction_rows lit lits → AddsClauses last before after (definitions_in f)
  any_step is rows = adds_any last f lit later before mid after fs lits is (lits_stay (flat_map parts_in fs) first last two lits fs zip) rows rest

module _ (f g h : Formula) (is : f ≡ formula.Iff g h) (start first second third : List Formula) (one : GrowsBy (parts_in g ++ parts_in h) start first)
    (two : GrowsBy (parts_in g) first second) where
  pub iff_grows_left : GrowsBy (parts_in f) start second
  iff_grows_left = grows_again (parts_in f) start first second (grows_below_iff f start first g h is one) (grows_below_left f first second g h is two)

  module _ (three : GrowsBy (parts_in h) second third) where
    pub iff_grows : GrowsBy (parts_in f) start third
    iff_grows = grows_again (parts_in f) start second third iff_grows_left (grows_below_right f second third g h is three)

    pub iff_step : (lit l r : Lit) (before mid next after : List (List Lit)) → IsLitOf first l g → IsLitOf first r h
        → mid ≡ before ++ equivalence_rows lit l r → AddsClauses second mid next (definitions_in g) → AddsClauses third next after (definitions_in h)
        → IsLitOf start lit f → AddsClauses third before after (definitions_in f)
    iff_step lit l r before mid next after left right rows left_rows right_rows own =
        let stays = λ (k : Lit) (e : Formula) (k_is : IsLitOf first k e).
        lit_stays (parts_in h) second third three k e (lit_stays (parts_in g) first second two k e k_is) in
        adds_iff third f lit (lit_stays (parts_in f) start third iff_grows lit f own) before mid after g h l r next is (stays l g left) (stays r h right) rows
        (adds_stay (parts_in h) second third three mid next (definitions_in g) left_rows) right_rows

module _ (f c g h : Formula) (is : f ≡ formula.Choose c g h) (start first second third last : List Formula)
    (one : GrowsBy (parts_in c ++ (parts_in g ++ parts_in h)) start first) (two : GrowsBy (parts_in c) first second) where
  pub choice_grows_condition : GrowsBy (parts_in f) start second
  choice_grows_condition =
      grows_again (parts_in f) start first second (grows_below_choice f start first c g h is one) (grows_below_condition f first second c g h is two)

  module _ (three : GrowsBy (parts_in g) second third) where
    pub choice_grows_yes : GrowsBy (parts_in f) start third
    choice_grows_yes = grows_again (parts_in f) start second third choice_grows_condition (grows_below_yes f second third c g h is three)

    module _ (four : GrowsBy (parts_in h) third last) where
      pub choice_grows : GrowsBy (parts_in f) start last
      choice_grows = grows_again (parts_in f) start third last choice_grows_yes (grows_below_no f third last c g h is four)

      pub choice_step : (lit k l r : Lit) (before mid next more after : List (List Lit)) → IsLitOf first k c → IsLitOf first l g → IsLitOf first r h
          → mid ≡ before ++ choice_rows lit k l r → AddsClauses second mid next (definitions_in c) → AddsClauses third next more (definitions_in g)
          → AddsClauses last more after (definitions_in h) → IsLitOf start lit f → AddsClauses last before after (definitions_in f)
      choice_step lit k l r before mid next more after condition left right rows condition_rows left_rows right_rows own =
          let stays = λ (j : Lit) (e : Formula) (j_is : IsLitOf first j e).
          lit_stays (parts_in h) third last four j e
          (lit_stays (parts_in g) second third three j e (lit_stays (parts_in c) first second two j e j_is)) in
          adds_choice last f lit (lit_stays (parts_in f) start last choice_grows lit f own) before mid after c g h k l r next more is
          (stays k c condition) (stays l g left) (stays r h right) rows
          (adds_stay (parts_in h) third last four mid next (definitions_in c)
          (adds_stay (parts_in g) second third three mid next (definitions_in c) condition_rows))
          (adds_stay (parts_in h) third last four next more (definitions_in g) left_rows) right_rows

-- the unit clause of a formula with those that define its parts
pub with_unit : (f : Formula) (lit : Lit) (start last : List Formula) (unit clauses : List (List Lit)) → GrowsBy (parts_in f) start last → IsLitOf start lit f
    → unit ≡ (lit ∷ []) ∷ [] → AddsClauses last unit clauses (definitions_in f) → AreClausesOf last clauses ((f ∷ []) ∷ definitions_in f)
with_unit f lit start last unit clauses grows own one adds =
    subst (λ all. AreClausesOf last all ((f ∷ []) ∷ definitions_in f)) (sym (adds.1 ∙ ap (λ first. first ++ adds.0) one))
    ((lit_stays (parts_in f) start last grows lit f own, tt), adds.2)

-- the atoms of clauses are those of the table
module _ (table : List Formula) where
  abbrev IsBelow : Lit → Type 0
  IsBelow lit = lit.atom < length table

  lits_below : (lits : List Lit) (fs : List Formula) → AllZip (IsLitOf table) lits fs → All IsBelow lits
  lits_below [] fs zip = All-nil IsBelow
  lits_below (lit ∷ lits) [] zip = absurd zip
  lits_below (lit ∷ lits) (f ∷ fs) zip = All-cons IsBelow lit lits (lit_below table f lit zip.0) (lits_below lits fs zip.1)

  pub clauses_below : (clauses : List (List Lit)) (rows : List (List Formula)) → AreClausesOf table clauses rows → AreBelow (length table) clauses
  clauses_below [] rows are = All-nil (All IsBelow)
  clauses_below (clause ∷ clauses) [] are = absurd are
  clauses_below (clause ∷ clauses) (row ∷ rows) are =
      All-cons (All IsBelow) clause clauses (lits_below clause row are.0) (clauses_below clauses rows are.1)
