-- Stores that grow while terms are put.
use Rattle.std.proofs.Common.{◌≡◌, ◌≢◌, ℕ, zero, suc, ◌+◌, ◌<◌, ◌≤◌, ◌⊎◌, inl, inr, ℤ, pos, negsuc, List, [], ◌∷◌, ◌++◌, length, map, take, Some, slice_get, refl, sym, ap, subst, ◌∙◌, arith, length-take}
use Rattle.std.specs.List.{All, AllZip, slice_index_or}
use Rattle.std.specs.Option.{IfSome}
use Rattle.std.proofs.lemmas.Option.{slice_get_within, slice_get-get_or, get_or_from_slice_get}
use Rattle.mbqi_terms.specs.declared.arrays.ArrayPair.{ArrayPair}
use Rattle.mbqi_terms.specs.declared.sort.Sort.TheVariants.{Int}
use Rattle.mbqi_terms.specs.declared.store.lists.Lists.{Lists}
use Rattle.mbqi_terms.specs.declared.store.node.Head.{Head}
use Rattle.mbqi_terms.specs.declared.store.node.Head.TheVariants as head
use Rattle.mbqi_terms.specs.declared.store.node.Node.{Node}
use Rattle.mbqi_terms.specs.declared.term.ArrayTerm.{ArrayTerm}
use Rattle.mbqi_terms.specs.declared.term.ArrayTerm.TheOpen.{Term-F, Symbol-F}
use Rattle.mbqi_terms.specs.declared.term.ArrayTerm.TheViews.{roll-out-Symbol, roll-out-Term}
use Rattle.mbqi_terms.specs.declared.term.Symbol.{Symbol, out-Symbol, roll-Symbol}
use Rattle.mbqi_terms.specs.declared.term.Symbol.TheVariants as symbol
use Rattle.mbqi_terms.specs.declared.term.Term.{Term, out-Term, roll-Term}
use Rattle.mbqi_terms.specs.declared.term.Term.TheVariants as term
use Rattle.mbqi_terms.specs.declared.term_id.TermId.{TermId}
use Rattle.mbqi_terms.specs.Form.{IsLayerInForm, IsTermInForm, IsPairListed}
use Rattle.mbqi_terms.specs.Store.{Store, IsSound, IsNode, Interns, HasTree, IsHeadOf, HasNoHead, Extends, Grows, MayAdd, args_of, head_layer, tree_at, trees_of, tree_of_node, with_node}
use Rattle.mbqi_terms.specs.Tree.{Layer, IsBase, IsPart, sum_of}
use Rattle.mbqi_terms.proofs.Finding.{zip_trees, zip_stored, shape_is, made, args-head_layer}
use Rattle.mbqi_terms.proofs.Levels.{out-plus}
use Rattle.mbqi_terms.proofs.Matching.{read_head, default_head, diff_head}
use Rattle.mbqi_terms.proofs.Trees.{length-trees, trees-take, trees-push, take-push, get_front, get_seam, get_take}
use Rattle.mbqi_terms.proofs.Zips.{zip_split, zip_take}
use Rattle.mbqi_terms.proofs.Growth.{place_in, take_of_take}
use Rattle.mbqi_terms.proofs.Sorted.{base_sort}
use Rattle.std.proofs.Math.Seq.{take-append_seam}

-- a tree keeps its number where the store grows
pub kept_tree : (old new : Store) → Extends old new → (id : TermId) (t : Term) → HasTree old id t → HasTree new id t
kept_tree old new grown id t e =
    let l = old.lists in
    let within = slice_get_within (trees_of l old.nodes) id.0 t e in
    let n = length old.nodes in
    let front : trees_of l (take n new.nodes) ≡ trees_of l old.nodes = ap (trees_of l) grown.1 in
    let inside : id.0 < length (take n new.nodes) = omega (arith, within, length-trees l old.nodes, ap length grown.1) in
    let whole : slice_get (trees_of l new.nodes) id.0 ≡ Some t = sym (trees-take l new.nodes n id.0 inside) ∙ (ap (λ ts. slice_get ts id.0) front ∙ e) in
    subst (λ m. slice_get (trees_of m new.nodes) id.0 ≡ Some t) (sym grown.0) whole

pub kept_zip : (old new : Store) → Extends old new → (ids : List TermId) (ts : List Term) → AllZip (HasTree old) ids ts → AllZip (HasTree new) ids ts
kept_zip old new grown [] [] zip = tt
kept_zip old new grown [] (t ∷ ts) zip = absurd zip
kept_zip old new grown (id ∷ ids) [] zip = absurd zip
kept_zip old new grown (id ∷ ids) (t ∷ ts) zip = (kept_tree old new grown id t zip.0, kept_zip old new grown ids ts zip.1)

-- a tree of the longer store at a number of the shorter one
pub former_tree : (old new : Store) → Extends old new → (id : TermId) (t : Term) → id.0 < length old.nodes → HasTree new id t → HasTree old id t
former_tree old new grown id t below e =
    let l = old.lists in
    let n = length old.nodes in
    let front : trees_of l (take n new.nodes) ≡ trees_of l old.nodes = ap (trees_of l) grown.1 in
    let inside : id.0 < length (take n new.nodes) = omega (arith, below, ap length grown.1) in
    let whole : slice_get (trees_of l new.nodes) id.0 ≡ Some t = subst (λ m. slice_get (trees_of m new.nodes) id.0 ≡ Some t) grown.0 e in
    ap (λ ts. slice_get ts id.0) (sym front) ∙ (trees-take l new.nodes n id.0 inside ∙ whole)

take_all : {X : Type 0} (xs : List X) → take (length xs) xs ≡ xs
take_all [] = refl
take_all (x ∷ xs) = ap (λ l. x ∷ l) (take_all xs)

extends_self : (s : Store) → Extends s s
extends_self s = (refl, take_all s.nodes)

extends_trans : (a b c : Store) → Extends a b → Extends b c → Extends a c
extends_trans a b c p q =
    let long : length a.nodes ≤ length b.nodes = omega (arith, ap length p.1, length-take (length a.nodes) b.nodes) in
    (q.0 ∙ p.0, sym (take_of_take c.nodes (length b.nodes) (length a.nodes) long) ∙ (ap (take (length a.nodes)) q.1 ∙ p.1))

-- a store that stays
pub grows_self : (s : Store) (ts : List Term) → Grows s ts s
grows_self s ts = record {
  extends = extends_self s;
  known = λ ids zip. refl;
  parts = λ id part above e.
      let within = slice_get_within (trees_of s.lists s.nodes) id.0 part e in
      absurd (omega (arith, within, above, length-trees s.lists s.nodes));
}

-- one more term
pub grows_step : (old mid new : Store) (ts : List Term) (t : Term) → Grows old ts mid → Grows mid (t ∷ []) new → Grows old (ts ++ t ∷ []) new
grows_step old mid new ts t first last = record {
  extends = extends_trans old mid new first.extends last.extends;
  known = λ ids zip.
      let parts = zip_split (HasTree old) ids ts t zip in
      let here = kept_tree old mid first.extends parts.1.0 t parts.1.1 in
      last.known (parts.1.0 ∷ []) (here, tt) ∙ first.known parts.0.0 parts.0.1;
  parts = λ id part above e.
      elim (below_or id.0 (length mid.nodes)) [
        | inl below ↦
            let found = first.parts id part above (former_tree mid new last.extends id part below e) in
            (found.0, found.1, get_front ts (t ∷ []) found.0 (slice_get_within ts found.0 found.1 found.2) ∙ found.2, found.3)
        | inr beyond ↦
            let found = last.parts id part beyond e in
            let whole : t ≡ found.1 = only t found.0 found.1 found.2 in
            (length ts, t, get_seam ts t [], subst (IsPart part) (sym whole) found.3)
      ];
}
  where
    below_or : (m n : ℕ) → (m < n) ⊎ (n ≤ m)
    below_or zero zero = inr (omega arith)
    below_or zero (suc n) = inl (omega arith)
    below_or (suc m) zero = inr (omega arith)
    below_or (suc m) (suc n) = elim (below_or m n) [ inl h ↦ inl (omega (arith, h)) | inr h ↦ inr (omega (arith, h)) ]

    only : (t : Term) (k : ℕ) (u : Term) → slice_get (t ∷ []) k ≡ Some u → t ≡ u
    only t zero u e = cc
    only t (suc k) u e = cc

pub grows_next : (old mid new : Store) (ts : List Term) (i : ℕ) (t : Term) → slice_get ts i ≡ Some t → Grows old (take i ts) mid → Grows mid (t ∷ []) new
    → Grows old (take (i + 1) ts) new
grows_next old mid new ts i t e first last = subst (λ us. Grows old us new) (sym (take-push ts i t e)) (grows_step old mid new (take i ts) t first last)

-- more terms than were put
pub grows_more : (old new : Store) (ts : List Term) (i : ℕ) → Grows old (take i ts) new → Grows old ts new
grows_more old new ts i grown = record {
  extends = grown.extends;
  known = λ ids zip. grown.known (take i ids) (zip_take (HasTree old) ids ts i zip);
  parts = λ id part above e.
      let found = grown.parts id part above e in
      (found.0, found.1, get_take ts i found.0 found.1 found.2, found.3);
}

-- the term of a node after its arguments
pub grows_put : (old mid new : Store) (us : List Term) (whole : Term) (node : Node) (id : TermId) → Grows old us mid → Interns mid node id new
    → tree_of_node mid node ≡ whole → ((known : TermId) → HasTree old known whole → (ids : List TermId) × AllZip (HasTree old) ids us)
    → ((k : ℕ) (u part : Term) → slice_get us k ≡ Some u → IsPart part u → IsPart part whole) → Grows old (whole ∷ []) new
grows_put old mid new us whole node id grown put is args parts =
    elim put [
      | inl p ↦ record {
        extends = subst (Extends old) (sym p.1) grown.extends;
        known = λ ids zip. p.1 ∙ stays ids zip;
        parts = λ other part above e. (0, whole, refl, old_part other part above (subst (λ s. HasTree s other part) p.1 e));
      }
      | inr p ↦ record {
        extends = extends_trans old mid new grown.extends (subst (Extends mid) (sym p.2) (refl, take-append_seam mid.nodes (node ∷ [])));
        known = λ ids zip.
            let same = stays ids zip in
            let at = first ids zip in
            absurd (p.0 at.0 (subst (λ s. HasTree s at.0 (tree_of_node mid node)) (sym same) (subst (HasTree old at.0) (sym is) at.1)));
        parts = λ other part above e. (0, whole, refl, new_part other part above (subst (λ s. HasTree s other part) p.2 e));
      }
    ]
  where
    first : (ids : List TermId) → AllZip (HasTree old) ids (whole ∷ []) → (i : TermId) × HasTree old i whole
    first [] zip = absurd zip
    first (i ∷ ids) zip = (i, zip.0)

    stays : (ids : List TermId) → AllZip (HasTree old) ids (whole ∷ []) → mid ≡ old
    stays ids zip = let known = args (first ids zip).0 (first ids zip).1 in grown.known known.0 known.1

    old_part : (other : TermId) (part : Term) → length old.nodes ≤ other.0 → HasTree mid other part → IsPart part whole
    old_part other part above e = let found = grown.parts other part above e in parts found.0 found.1 part found.2 found.3

    new_part : (other : TermId) (part : Term) → length old.nodes ≤ other.0 → HasTree (with_node mid node) other part → IsPart part whole
    new_part other part above e =
        let pushed : slice_get (trees_of mid.lists mid.nodes ++ tree_of_node mid node ∷ []) other.0 ≡ Some part =
        ap (λ ts. slice_get ts other.0) (sym (trees-push mid.lists mid.nodes node)) ∙ e in
        elim (place_in (trees_of mid.lists mid.nodes) (tree_of_node mid node) other.0 part pushed) [
          | inl p ↦ old_part other part above p.1
          | inr p ↦ subst (λ u. IsPart u whole) (sym is ∙ p.1) (IsPart.itself whole)
        ]

-- a part of an argument is a part of the term, and of its sums
arg_part : (t : Term) (x : Layer) → out-Term t ≡ x → (k : ℕ) (u p : Term) → slice_get (args_of x) k ≡ Some u → IsPart p u → IsPart p t
arg_part t (Term-F.Apply f us) e k u p at h =
    IsPart.of_argument p t u f us e (k, slice_get_within us k u at, get_or_from_slice_get us k u u at) h
arg_part t (Term-F.Read a i) e zero u p at h = let same : i ≡ u = cc in IsPart.of_index p t u a (e ∙ ap (λ y. Term-F.Read a y) same) h
arg_part t (Term-F.Read a i) e (suc k) u p at h = cc
arg_part t (Term-F.Num n) e k u p at h = cc
arg_part t (Term-F.Plus v n) e k u p at h = cc
arg_part t (Term-F.Var n) e k u p at h = cc
arg_part t (Term-F.Truth b) e k u p at h = cc
arg_part t (Term-F.Default a) e k u p at h = cc

sum_part : (t : Term) (n : ℤ) (p : Term) → IsPart p t → IsPart p (sum_of t n)
sum_part t (pos zero) p h = h
sum_part t (pos (suc n)) p h = IsPart.of_sum p (term.Plus t (pos (suc n))) t (pos (suc n)) (out-plus t (pos (suc n))) h
sum_part t (negsuc n) p h = IsPart.of_sum p (term.Plus t (negsuc n)) t (negsuc n) (out-plus t (negsuc n)) h

pub grows_base : (old mid new : Store) → IsSound old → (t : Term) (n : ℤ) (node : Node) (id : TermId) → IsBase (out-Term t)
    → Grows old (args_of (out-Term t)) mid → Interns mid node id new → tree_of_node mid node ≡ sum_of t n → Grows old (sum_of t n ∷ []) new
grows_base old mid new sound t n node id base grown put is =
    grows_put old mid new (args_of (out-Term t)) (sum_of t n) node id grown put is
    (λ known e.
    let m = made old sound known n t base e in
    let same : m.1 ≡ args_of (out-Term t) = sym (args-head_layer old.lists m.0 m.1 m.2) ∙ ap args_of m.3 in
    (m.4.0, subst (AllZip (HasTree old) m.4.0) same m.4.1))
    (λ k u p at h. sum_part t n p (arg_part t (out-Term t) refl k u p at h))

-- the same before the node is put
pub grows_below : (old mid : Store) → IsSound old → (t : Term) (n : ℤ) → IsBase (out-Term t) → Grows old (args_of (out-Term t)) mid → Grows old (sum_of t n ∷ []) mid
grows_below old mid sound t n base grown = record {
  extends = grown.extends;
  known = λ ids zip. stays ids zip;
  parts = λ id part above e.
      let found = grown.parts id part above e in
      (0, sum_of t n, refl, sum_part t n part (arg_part t (out-Term t) refl found.0 found.1 part found.2 found.3));
}
  where
    stays : (ids : List TermId) → AllZip (HasTree old) ids (sum_of t n ∷ []) → mid ≡ old
    stays [] zip = absurd zip
    stays (id ∷ ids) zip =
        let m = made old sound id n t base zip.0 in
        let same : m.1 ≡ args_of (out-Term t) = sym (args-head_layer old.lists m.0 m.1 m.2) ∙ ap args_of m.3 in
        grown.known m.4.0 (subst (AllZip (HasTree old) m.4.0) same m.4.1)

pub grows_numeral : (old new : Store) (t : Term) (node : Node) (id : TermId) → Interns old node id new → tree_of_node old node ≡ t → Grows old (t ∷ []) new
grows_numeral old new t node id put is = grows_put old old new [] t node id (grows_self old []) put is (λ known e. ([], tt)) (λ k u p at h. cc)

-- the node that is put has what it needs
pub put_node_form : (s : Store) (h : Head) (ids : List TermId) (n : ℤ) (t : Term) → IsHeadOf s.lists (out-Term t) h → AllZip (HasTree s) ids (args_of (out-Term t))
    → IsLayerInForm s.lists (out-Term t) → MayAdd s.lists (out-Term t) n → IsNode s (record { head = h; args = ids; plus = n })
put_node_form s h ids n t head zip form sum =
    let layers : head_layer s.lists h (map (tree_at (trees_of s.lists s.nodes)) ids) ≡ out-Term t =
    ap (head_layer s.lists h) (zip_trees s ids (args_of (out-Term t)) zip) ∙ head.1 in
    record {
      stored = zip_stored s ids (args_of (out-Term t)) zip;
      shape = shape_is s h ids t head zip;
      form = subst (IsLayerInForm s.lists) (sym layers) form;
      sum = subst (λ x. MayAdd s.lists x n) (sym layers) sum;
    }

module _ (l : Lists) where
  symbol_is : (f : Symbol) (x : Symbol-F _ _ _) → out-Symbol f ≡ x → f ≡ roll-Symbol x
  symbol_is f x e = sym (roll-out-Symbol f) ∙ ap roll-Symbol e

  symbol_head : (f : Symbol) (ts : List Term) (x : Symbol-F _ _ _) → out-Symbol f ≡ x → IsPairListed l x → HasNoHead l (Term-F.Apply f ts) → ⊥
  symbol_head f ts (Symbol-F.Declared k) e listed none =
      none (head.Declared k) ts tt (ap (λ g. Term-F.Apply g ts) (sym (symbol_is f _ e ∙ symbol.rolls-Declared k)))
  symbol_head f ts (Symbol-F.Skolem k p) e listed none =
      none (head.Skolem k p) ts tt (ap (λ g. Term-F.Apply g ts) (sym (symbol_is f _ e ∙ symbol.rolls-Skolem k p)))
  symbol_head f ts (Symbol-F.Seed k) e listed none =
      none (head.Seed k) ts tt (ap (λ g. Term-F.Apply g ts) (sym (symbol_is f _ e ∙ symbol.rolls-Seed k)))
  symbol_head f ts Symbol-F.Far e listed none =
      none head.Far ts tt (ap (λ g. Term-F.Apply g ts) (sym (symbol_is f _ e ∙ symbol.rolls-Far)))
  symbol_head f ts (Symbol-F.Diff a b) e listed none =
      let p : ArrayPair = record { left = a; right = b } in
      let found = diff_head l listed.0 p ts (slice_get-get_or l.arrays.atoms listed.0 p listed.1 ∙ ap Some listed.2) in
      none (head.Diff listed.0) ts found.0 (found.1 ∙ ap (λ g. Term-F.Apply g ts) (sym (symbol_is f _ e ∙ symbol.rolls-Diff a b)))

  -- a term in form has a head
  pub form_head : (x : Layer) → IsBase x → IsLayerInForm l x → HasNoHead l x → ⊥
  form_head (Term-F.Num n) base form none = base
  form_head (Term-F.Plus t n) base form none = base
  form_head (Term-F.Var k) base form none = none (head.Var k) [] refl refl
  form_head (Term-F.Truth b) base form none = none (head.Truth b) [] refl refl
  form_head (Term-F.Apply f ts) base form none = symbol_head f ts (out-Symbol f) refl form.1 none
  form_head (Term-F.Read a i) base form none =
      let found = read_head l form.0.0 a i (slice_get-get_or l.arrays.terms form.0.0 a form.0.1 ∙ ap Some form.0.2) in
      none (head.Read form.0.0) (i ∷ []) found.0 found.1
  form_head (Term-F.Default a) base form none =
      let found = default_head l form.0.0 a (slice_get-get_or l.arrays.terms form.0.0 a form.0.1 ∙ ap Some form.0.2) in
      none (head.Default form.0.0) [] found.0 found.1

  -- the arguments of a term in form are in form
  pub args_form : (t : Term) → IsTermInForm l t → All (IsTermInForm l) (args_of (out-Term t))
  args_form t form k d h p inside =
      form p (arg_part t (out-Term t) refl k (slice_index_or (args_of (out-Term t)) k d) p (slice_get-get_or (args_of (out-Term t)) k d h) inside)

  pub layer_form : (t : Term) → IsTermInForm l t → IsLayerInForm l (out-Term t)
  layer_form t form = form t (IsPart.itself t)

  -- the base of a sum in form
  pub base_form : (t u : Term) (n : ℤ) → t ≡ term.Plus u n → IsTermInForm l t → IsTermInForm l u
  base_form t u n e form p inside = form p (IsPart.of_sum p t u n (ap out-Term e ∙ out-plus u n) inside)

  pub sum_form : (t u : Term) (n : ℤ) → t ≡ term.Plus u n → IsTermInForm l t → IsLayerInForm l (Term-F.Plus u n)
  sum_form t u n e form = subst (IsLayerInForm l) (ap out-Term e ∙ out-plus u n) (layer_form t form)

  pub may_add : (u : Term) (n : ℤ) → IsLayerInForm l (Term-F.Plus u n) → MayAdd l (out-Term u) n
  may_add u n form other = subst (λ o. IfSome o (λ sort. sort ≡ Int)) (base_sort l (out-Term u) form.0) form.2

pub sum_is : (t : Term) (n : ℤ) → n ≢ pos 0 → term.Plus t n ≡ sum_of t n
sum_is t (pos zero) other = absurd (other refl)
sum_is t (pos (suc n)) other = refl
sum_is t (negsuc n) other = refl

-- a term that is no application and no read has no arguments
pub no_args : (t : Term) (x : Layer) → out-Term t ≡ x → ((f : Symbol) (ts : List Term) → t ≡ term.Apply f ts → ⊥) → ((a : ArrayTerm) (i : Term) → t ≡ term.Read a i → ⊥)
    → args_of x ≡ []
no_args t (Term-F.Apply f ts) e no_apply no_read = absurd (no_apply f ts (sym (roll-out-Term t) ∙ (ap roll-Term e ∙ term.rolls-Apply f ts)))
no_args t (Term-F.Read a i) e no_apply no_read = absurd (no_read a i (sym (roll-out-Term t) ∙ (ap roll-Term e ∙ term.rolls-Read a i)))
no_args t (Term-F.Num n) e no_apply no_read = refl
no_args t (Term-F.Plus u n) e no_apply no_read = refl
no_args t (Term-F.Var k) e no_apply no_read = refl
no_args t (Term-F.Truth b) e no_apply no_read = refl
no_args t (Term-F.Default a) e no_apply no_read = refl
