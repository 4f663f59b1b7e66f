-- The lines of a model text, one by one.
use Rattle.std.proofs.Common.{◌≡◌, ℕ, ◌+◌, ◌<◌, ◌≤◌, List, [], ◌∷◌, ◌++◌, length, get_or, drop, refl, arith, min, inl, inr, ap, ◌∙◌}
use Rattle.std.specs.Prelude.{◌⊎◌}
use Rattle.std.proofs.lemmas.List.{drop_all, drop_more}
use Rattle.mbqi_terms.specs.declared.script.Function.{Function}
use Rattle.function_model.specs.declared.model.Table.{Table}
use Rattle.mbqi_app.specs.ModelText.{sorts_text, sort_text, tables_text, table_text}

split : (a b i : ℕ) → min a b ≤ i → (a ≤ i) ⊎ (b ≤ i)
split a b i h = grind arith

no_sizes : (names : List (List ℕ)) → sorts_text names [] ≡ []
no_sizes [] = refl
no_sizes (name ∷ names) = refl

no_tables : (functions : List Function) → tables_text functions [] ≡ []
no_tables [] = refl
no_tables (function ∷ functions) = refl

-- nothing is left to write where either list ends
pub sorts_text_end : (names : List (List ℕ)) (sizes : List ℕ) (i : ℕ) → min (length names) (length sizes) ≤ i → sorts_text (drop i names) (drop i sizes) ≡ []
sorts_text_end names sizes i h = elim (split (length names) (length sizes) i h) [
  | inl short ↦ ap (λ ns. sorts_text ns (drop i sizes)) (drop_all i names short)
  | inr short ↦ ap (λ ss. sorts_text (drop i names) ss) (drop_all i sizes short) ∙ no_sizes (drop i names)
]

pub tables_text_end : (functions : List Function) (tables : List Table) (i : ℕ) → min (length functions) (length tables) ≤ i → tables_text (drop i functions) (drop i tables) ≡ []
tables_text_end functions tables i h = elim (split (length functions) (length tables) i h) [
  | inl short ↦ ap (λ fs. tables_text fs (drop i tables)) (drop_all i functions short)
  | inr short ↦ ap (λ ts. tables_text (drop i functions) ts) (drop_all i tables short) ∙ no_tables (drop i functions)
]

-- the next line
pub sorts_text_next : (names : List (List ℕ)) (sizes : List ℕ) (i : ℕ) → i < min (length names) (length sizes)
    → sorts_text (drop i names) (drop i sizes) ≡ sort_text (get_or names i []) (get_or sizes i 0) ++ sorts_text (drop (i + 1) names) (drop (i + 1) sizes)
sorts_text_next names sizes i h =
    ap (λ ns. sorts_text ns (drop i sizes)) (drop_more names i [] (omega arith))
    ∙ ap (λ ss. sorts_text (get_or names i [] ∷ drop (i + 1) names) ss) (drop_more sizes i 0 (omega arith))

pub tables_text_next : (functions : List Function) (tables : List Table) (i : ℕ) (f : Function) (t : Table) → i < min (length functions) (length tables)
    → tables_text (drop i functions) (drop i tables) ≡ table_text (get_or functions i f) (get_or tables i t) ++ tables_text (drop (i + 1) functions) (drop (i + 1) tables)
tables_text_next functions tables i f t h =
    ap (λ fs. tables_text fs (drop i tables)) (drop_more functions i f (omega arith))
    ∙ ap (λ ts. tables_text (get_or functions i f ∷ drop (i + 1) functions) ts) (drop_more tables i t (omega arith))
