-- A look-up gives the same in two lists of the same rows, where rows at the same places have the same value.
use Rattle.std.proofs.Common.{◌≡◌, suc, Bool, true, false, true≢false, List, [], ◌∷◌, All, Contains, ◌↔◌, ◌⊎◌, inl, inr, ⊎_elim, if◌then◌else◌, refl, ap, sym, ◌∙◌, arith}
use Rattle.std.proofs.lemmas.Bool.{and_parts}
use Rattle.std.proofs.lemmas.List.Elements.{All-nil, All-cons, All-contains}
use Rattle.mbqi_values.specs.declared.value.Value.{Value}
use Rattle.function_model.specs.declared.model.Row.{Row}
use Rattle.function_model.specs.Lookup.{projected, is_at, value_at}
use Rattle.function_model.specs.Rising.{AgreeAtSamePlaces}
use Rattle.function_model.proofs.PlaceRanks.{same_value}
use Rattle.mbqi_values.specs.Value.{is_same}

-- the arguments' knots
abbrev knots_of : List (List Value) → List Value → List Value
knots_of [] vs = []
knots_of (ks ∷ kss) [] = []
knots_of (ks ∷ kss) (v ∷ vs) = projected ks v ∷ knots_of kss vs

at_knots : (ps : List Value) (kss : List (List Value)) (vs : List Value) → is_at ps kss vs ≡ true → ps ≡ knots_of kss vs
at_knots [] [] vs e = refl
at_knots [] (ks ∷ kss) [] e = refl
at_knots [] (ks ∷ kss) (v ∷ vs) e = absurd (true≢false (sym e))
at_knots (p ∷ ps) [] [] e = absurd (true≢false (sym e))
at_knots (p ∷ ps) [] (v ∷ vs) e = absurd (true≢false (sym e))
at_knots (p ∷ ps) (ks ∷ kss) [] e = absurd (true≢false (sym e))
at_knots (p ∷ ps) (ks ∷ kss) (v ∷ vs) e =
    let both = and_parts (is_same p (projected ks v)) (is_at ps kss vs) e in
    λ i. same_value p (projected ks v) both.0 i ∷ at_knots ps kss vs both.1 i

module _ (knots : List (List Value)) (args : List Value) (default : Value) where
  -- a row that decides, or none
  abbrev Outcome : List Row → Type 0
  Outcome rows =
      ((row : Row) × Contains rows row × (is_at row.places knots args ≡ true) × (value_at rows knots args default ≡ row.value))
      ⊎ (All (λ row. is_at row.places knots args ≡ false) rows × (value_at rows knots args default ≡ default))

  step : (row : Row) (rows : List Row) (b : Bool) → is_at row.places knots args ≡ b → Outcome rows → Outcome (row ∷ rows)
  step row rows true e outcome = inl (row, (0, omega arith, refl), e, ap (λ b. if b then row.value else value_at rows knots args default) e)
  step row rows false e outcome =
      let rest = ap (λ b. if b then row.value else value_at rows knots args default) e in
      ⊎_elim
      (λ found. inl (found.0, (suc found.1.0, omega (arith, found.1.1), found.1.2), found.2, rest ∙ found.3))
      (λ none. inr (All-cons (λ row. is_at row.places knots args ≡ false) row rows e none.0, rest ∙ none.1))
      outcome

  outcome_of : (rows : List Row) → Outcome rows
  outcome_of [] = inr (All-nil (λ (row : Row). is_at row.places knots args ≡ false), refl)
  outcome_of (row ∷ rows) = step row rows (is_at row.places knots args) refl (outcome_of rows)

  pub same_values : (xs ys : List Row) → AgreeAtSamePlaces ys → ((row : Row) → Contains xs row ↔ Contains ys row) → value_at xs knots args default ≡ value_at ys knots args default
  same_values xs ys agree same =
      let none = λ (rows : List Row) (row : Row) (all : All (λ row. is_at row.places knots args ≡ false) rows) (c : Contains rows row). All-contains (λ row. is_at row.places knots args ≡ false) rows row all c in
      ⊎_elim
      (λ f. ⊎_elim
      (λ g. f.3 ∙ agree f.0 g.0 ((same f.0).0 f.1) g.1 (at_knots f.0.places knots args f.2 ∙ sym (at_knots g.0.places knots args g.2)) ∙ sym g.3)
      (λ n. absurd (true≢false (sym f.2 ∙ none ys f.0 n.0 ((same f.0).0 f.1))))
      (outcome_of ys))
      (λ m. ⊎_elim
      (λ g. absurd (true≢false (sym g.2 ∙ none xs g.0 m.0 ((same g.0).1 g.1))))
      (λ n. m.1 ∙ sym n.1)
      (outcome_of ys))
      (outcome_of xs)
