-- The sort of a term from its node.
use Rattle.std.proofs.Common.{◌≡◌, zero, suc, ℤ, pos, negsuc, List, refl, ap, ◌∙◌}
use Rattle.mbqi_terms.specs.declared.store.lists.Lists.{Lists}
use Rattle.mbqi_terms.specs.declared.store.node.Head.{Head}
use Rattle.mbqi_terms.specs.declared.store.node.Head.TheVariants.{Zero, Var, Truth, Declared, Skolem, Seed, Far, Diff, Read, Default}
use Rattle.mbqi_terms.specs.declared.term.ArrayTerm.TheOpen.{Term-F}
use Rattle.mbqi_terms.specs.declared.term.ArrayTerm.TheViews.{out-roll-Term}
use Rattle.mbqi_terms.specs.declared.term.Term.{Term, roll-Term}
use Rattle.mbqi_terms.specs.Lists.{layer_sort, sum_sort, sort_of_term}
use Rattle.mbqi_terms.specs.Store.{head_layer, applied}
use Rattle.mbqi_terms.specs.Tree.{Layer, IsBase, sum_of}
use Rattle.mbqi_terms.proofs.Levels.{out-num, out-plus}

module _ (l : Lists) where
  pub base_sort : (x : Layer) → IsBase x → sum_sort l x ≡ layer_sort l x
  base_sort (Term-F.Num n) base = refl
  base_sort (Term-F.Plus t n) base = absurd base
  base_sort (Term-F.Var k) base = refl
  base_sort (Term-F.Truth b) base = refl
  base_sort (Term-F.Apply f ts) base = refl
  base_sort (Term-F.Read a i) base = refl
  base_sort (Term-F.Default a) base = refl

  sum_has : (x : Layer) → IsBase x → (n : ℤ) → sort_of_term l (sum_of (roll-Term x) n) ≡ layer_sort l x
  sum_has x base (pos zero) = ap (sum_sort l) (out-roll-Term x) ∙ base_sort x base
  sum_has x base (pos (suc n)) = ap (sum_sort l) (out-plus (roll-Term x) (pos (suc n))) ∙ ap (layer_sort l) (out-roll-Term x)
  sum_has x base (negsuc n) = ap (sum_sort l) (out-plus (roll-Term x) (negsuc n)) ∙ ap (layer_sort l) (out-roll-Term x)

  -- a term has the sort that its node has before its number is added
  pub sort-applied : (h : Head) (ts : List Term) (n : ℤ) → sort_of_term l (applied l h ts n) ≡ layer_sort l (head_layer l h ts)
  sort-applied Zero ts n = ap (sum_sort l) (out-num n)
  sort-applied (Var k) ts n = sum_has (head_layer l (Var k) ts) tt n
  sort-applied (Truth b) ts n = sum_has (head_layer l (Truth b) ts) tt n
  sort-applied (Declared f) ts n = sum_has (head_layer l (Declared f) ts) tt n
  sort-applied (Skolem a p) ts n = sum_has (head_layer l (Skolem a p) ts) tt n
  sort-applied (Seed s) ts n = sum_has (head_layer l (Seed s) ts) tt n
  sort-applied Far ts n = sum_has (head_layer l Far ts) tt n
  sort-applied (Diff k) ts n = sum_has (head_layer l (Diff k) ts) tt n
  sort-applied (Read k) ts n = sum_has (head_layer l (Read k) ts) tt n
  sort-applied (Default k) ts n = sum_has (head_layer l (Default k) ts) tt n
