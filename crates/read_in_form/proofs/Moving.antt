-- What is in form stays so in a wider scope, and where its variables are moved.
use Rattle.std.proofs.Common.{◌≡◌, ℕ, Bool, true, false, ◌||◌, List, ◌∷◌, map, refl, ap, ◌∙◌, subst}
use Rattle.std.specs.List.{list_any}
use Rattle.mbqi_terms.specs.declared.script.Script.{Script}
use Rattle.mbqi_terms.specs.declared.sort.Binder.{Binder}
use Rattle.mbqi_terms.specs.declared.sort.Plain.{Plain}
use Rattle.mbqi_terms.specs.declared.sort.Plain.TheVariants as plain
use Rattle.mbqi_terms.specs.declared.sort.Sort.TheVariants as sort
use Rattle.mbqi_terms.specs.declared.term.ArrayTerm.{ArrayTerm}
use Rattle.mbqi_terms.specs.declared.term.ArrayTerm.TheVariants as array
use Rattle.mbqi_terms.specs.declared.term.Symbol.TheVariants as symbol
use Rattle.mbqi_terms.specs.declared.term.Term.{Term, out-Term}
use Rattle.mbqi_terms.specs.declared.term.Term.TheVariants as term
use Rattle.mbqi_terms.specs.Tree.{IsBase}
use Rattle.mbqi_terms.proofs.Levels.{out-apply, out-default, out-num, out-plus, out-read, out-truth, out-var}
use Rattle.smtlib_terms.specs.Meaning.{shifted_place, shifted_term}
use Rattle.mbqi_terms.specs.Depth.{depth_of_term}
use Rattle.measured_terms.proofs.ArrayLaws as array_measure
use Rattle.measured_terms.proofs.TermLaws as term_measure
use Rattle.moved_terms.specs.Moves.{shifted_array, shifted_symbol}
use Rattle.moved_terms.proofs.TermMoves as move
use Rattle.mbqi_terms.specs.HasSort.{AreArraysIn, HasSortIn, HaveSortsIn, IsArrayIn}
use Rattle.smtlib_terms.specs.InForm.{AreArrays, HasSort, HaveSorts, IsArray}
use Rattle.read_in_form.proofs.Placed.{Extends, Moves}
use Rattle.mbqi_terms.specs.Varies.{varies, varies_term}
use Rattle.mbqi_terms.specs.Sort.{plain_sort}

-- the parts of what has no variables have none
or_parts : (a b c : Bool) → c ≡ (a || b) → c ≡ false → (a ≡ false) × (b ≡ false)
or_parts true b c is none = cc
or_parts false b c is none = (refl, cc)

index_closed : (a : ArrayTerm) (t v : Term) → varies (array.Store a t v) ≡ false → varies_term t ≡ false
index_closed a t v none = (or_parts _ _ _ refl (or_parts _ _ _ (array_measure.varies-Store a t v) none).1).0

value_closed : (a : ArrayTerm) (t v : Term) → varies (array.Store a t v) ≡ false → varies_term v ≡ false
value_closed a t v none = (or_parts _ _ _ refl (or_parts _ _ _ (array_measure.varies-Store a t v) none).1).1

-- what has no variables, as an array term in form, is in form in every scope
module _ (script : Script) where
  mutual
    closed_term : (scope other : List Binder) (t : Term) (s : Plain) → HasSort script scope t s → varies_term t ≡ false → HasSort script other t s
    closed_term scope other t s (HasSortIn.number n within) none = HasSortIn.number n within
    closed_term scope other t s (HasSortIn.sum u n h base some within) none =
        HasSortIn.sum u n (closed_term scope other u plain.Int h (let same = term_measure.varies-Plus u n in cc)) base some within
    closed_term scope other t s (HasSortIn.variable place e index found) none = absurd (let some = term_measure.varies-Var place in cc)
    closed_term scope other t s (HasSortIn.application f ts args e d hs) none =
        HasSortIn.application f ts args e d (closed_terms scope other ts args hs (or_parts _ _ _ (term_measure.varies-Apply (symbol.Declared f) ts) none).1)
    closed_term scope other t s (HasSortIn.reading a u i e h index g) none =
        HasSortIn.reading a u i e (closed_array scope other a i e h) index (closed_term scope other u i g (or_parts _ _ _ (term_measure.varies-Read a u) none).1)
    closed_term scope other t s (HasSortIn.last a e h closed) none = HasSortIn.last a e (closed_array scope other a plain.Int e h) closed
    closed_term scope other t s (HasSortIn.truth b) none = HasSortIn.truth b
    closed_term scope other t s (HasSortIn.skolem assertion place ts args e hides d hs) none = absurd cc
    closed_term scope other t s (HasSortIn.seed k hides below) none = absurd cc
    closed_term scope other t s (HasSortIn.far hides) none = absurd cc
    closed_term scope other t s (HasSortIn.differing a b i e hides index ha hb) none = absurd cc

    closed_terms : (scope other : List Binder) (ts : List Term) (ss : List Plain) → HaveSorts script scope ts ss → list_any (λ v. v) (map varies_term ts) ≡ false → HaveSorts script other ts ss
    closed_terms scope other ts ss HaveSortsIn.no_terms none = HaveSortsIn.no_terms
    closed_terms scope other ts ss (HaveSortsIn.more_terms t us s rs index h hs) none =
        let parts = or_parts (varies_term t) (list_any (λ v. v) (map varies_term us)) _ refl none in
        HaveSortsIn.more_terms t us s rs index (closed_term scope other t s h parts.0) (closed_terms scope other us rs hs parts.1)

    pub closed_array : (scope other : List Binder) (a : ArrayTerm) (i e : Plain) → IsArray script scope a i e → IsArray script other a i e
    closed_array scope other a i e (IsArrayIn.name f j g d) = IsArrayIn.name f j g d
    closed_array scope other a i e (IsArrayIn.store b t v j g h index ht hv closed) =
        IsArrayIn.store b t v j g (closed_array scope other b j g h) index (closed_term scope other t j ht (index_closed b t v closed)) (closed_term scope other v g hv (value_closed b t v closed)) closed
    closed_array scope other a i e (IsArrayIn.constant v j g index element hv closed) =
        IsArrayIn.constant v j g index element (closed_term scope other v g hv (let same = array_measure.varies-Const (sort.Array j g) v in cc)) closed
    closed_array scope other a i e (IsArrayIn.pointwise f b arrays j g es p hs closed) =
        IsArrayIn.pointwise f b arrays j g es p (closed_arrays scope other (b ∷ arrays) j es hs) closed

    closed_arrays : (scope other : List Binder) (arrays : List ArrayTerm) (i : Plain) (es : List Plain) → AreArrays script scope arrays i es → AreArrays script other arrays i es
    closed_arrays scope other arrays i es (AreArraysIn.no_arrays j) = AreArraysIn.no_arrays j
    closed_arrays scope other arrays i es (AreArraysIn.more_arrays a more j e gs h hs) =
        AreArraysIn.more_arrays a more j e gs (closed_array scope other a j e h) (closed_arrays scope other more j gs hs)

-- and stays as it is where variables are moved
module _ (script : Script) where
  mutual
    own_term : (from by : ℕ) (scope : List Binder) (t : Term) (s : Plain) → HasSort script scope t s → varies_term t ≡ false → shifted_term from by t ≡ t
    own_term from by scope t s (HasSortIn.number n within) none = move.moved-Num from by n
    own_term from by scope t s (HasSortIn.sum u n h base some within) none =
        move.moved-Plus from by u n ∙ ap (λ (v : Term). term.Plus v n) (own_term from by scope u plain.Int h (let same = term_measure.varies-Plus u n in cc))
    own_term from by scope t s (HasSortIn.variable place e index found) none = absurd (let some = term_measure.varies-Var place in cc)
    own_term from by scope t s (HasSortIn.application f ts args e d hs) none =
        let terms : map (shifted_term from by) ts ≡ ts = own_terms from by scope ts args hs (or_parts _ _ _ (term_measure.varies-Apply (symbol.Declared f) ts) none).1 in
        rw (move.moved-Apply from by (symbol.Declared f) ts, move.moved-Declared from by f, terms) refl
    own_term from by scope t s (HasSortIn.reading a u i e h index g) none =
        let first : shifted_array from by a ≡ a = own_array from by scope a i e h in
        let second : shifted_term from by u ≡ u = own_term from by scope u i g (or_parts _ _ _ (term_measure.varies-Read a u) none).1 in
        rw (move.moved-Read from by a u, first, second) refl
    own_term from by scope t s (HasSortIn.last a e h closed) none =
        move.moved-Default from by a ∙ ap (λ (b : ArrayTerm). term.Default b) (own_array from by scope a plain.Int e h)
    own_term from by scope t s (HasSortIn.truth b) none = move.moved-Truth from by b
    own_term from by scope t s (HasSortIn.skolem assertion place ts args e hides d hs) none = absurd cc
    own_term from by scope t s (HasSortIn.seed k hides below) none = absurd cc
    own_term from by scope t s (HasSortIn.far hides) none = absurd cc
    own_term from by scope t s (HasSortIn.differing a b i e hides index ha hb) none = absurd cc

    own_terms : (from by : ℕ) (scope : List Binder) (ts : List Term) (ss : List Plain) → HaveSorts script scope ts ss → list_any (λ v. v) (map varies_term ts) ≡ false → map (shifted_term from by) ts ≡ ts
    own_terms from by scope ts ss HaveSortsIn.no_terms none = refl
    own_terms from by scope ts ss (HaveSortsIn.more_terms t us s rs index h hs) none =
        let parts = or_parts (varies_term t) (list_any (λ v. v) (map varies_term us)) _ refl none in
        rw (own_term from by scope t s h parts.0, own_terms from by scope us rs hs parts.1) refl

    own_array : (from by : ℕ) (scope : List Binder) (a : ArrayTerm) (i e : Plain) → IsArray script scope a i e → shifted_array from by a ≡ a
    own_array from by scope a i e (IsArrayIn.name f j g d) = move.moved-Name from by f
    own_array from by scope a i e (IsArrayIn.store b t v j g h index ht hv closed) =
        let first : shifted_array from by b ≡ b = own_array from by scope b j g h in
        let second : shifted_term from by t ≡ t = own_term from by scope t j ht (index_closed b t v closed) in
        let third : shifted_term from by v ≡ v = own_term from by scope v g hv (value_closed b t v closed) in
        rw (move.moved-Store from by b t v, first, second, third) refl
    own_array from by scope a i e (IsArrayIn.constant v j g index element hv closed) =
        let value : shifted_term from by v ≡ v = own_term from by scope v g hv (let same = array_measure.varies-Const (sort.Array j g) v in cc) in
        rw (move.moved-Const from by (sort.Array j g) v, value) refl
    own_array from by scope a i e (IsArrayIn.pointwise f b arrays j g es p hs closed) =
        let parts : map (shifted_array from by) (b ∷ arrays) ≡ b ∷ arrays = own_arrays from by scope (b ∷ arrays) j es hs in
        move.moved-Map from by f (b ∷ arrays) ∙ ap (λ (bs : List ArrayTerm). array.Map f bs) parts

    own_arrays : (from by : ℕ) (scope : List Binder) (arrays : List ArrayTerm) (i : Plain) (es : List Plain) → AreArrays script scope arrays i es → map (shifted_array from by) arrays ≡ arrays
    own_arrays from by scope arrays i es (AreArraysIn.no_arrays j) = refl
    own_arrays from by scope arrays i es (AreArraysIn.more_arrays a more j e gs h hs) =
        rw (own_array from by scope a j e h, own_arrays from by scope more j gs hs) refl

-- scopes that are wider
pub widened_array : (script : Script) (scope other : List Binder) → Extends scope other → (a : ArrayTerm) (i e : Plain) → IsArray script scope a i e → IsArray script other a i e
widened_array script scope other wider a i e h = closed_array script scope other a i e h

module _ (script : Script) where
  mutual
    pub widened_term : (scope other : List Binder) → Extends scope other → (t : Term) (s : Plain) → HasSort script scope t s → HasSort script other t s
    widened_term scope other wider t s (HasSortIn.number n within) = HasSortIn.number n within
    widened_term scope other wider t s (HasSortIn.sum u n h base some within) = HasSortIn.sum u n (widened_term scope other wider u plain.Int h) base some within
    widened_term scope other wider t s (HasSortIn.variable place e index found) = HasSortIn.variable place e index (wider place (plain_sort e) found)
    widened_term scope other wider t s (HasSortIn.application f ts args e d hs) = HasSortIn.application f ts args e d (widened_terms scope other wider ts args hs)
    widened_term scope other wider t s (HasSortIn.reading a u i e h index g) = HasSortIn.reading a u i e (widened_array script scope other wider a i e h) index (widened_term scope other wider u i g)
    widened_term scope other wider t s (HasSortIn.last a e h closed) = HasSortIn.last a e (widened_array script scope other wider a plain.Int e h) closed
    widened_term scope other wider t s (HasSortIn.truth b) = HasSortIn.truth b
    widened_term scope other wider t s (HasSortIn.skolem assertion place ts args e hides d hs) = absurd cc
    widened_term scope other wider t s (HasSortIn.seed k hides below) = absurd cc
    widened_term scope other wider t s (HasSortIn.far hides) = absurd cc
    widened_term scope other wider t s (HasSortIn.differing a b i e hides index ha hb) = absurd cc

    widened_terms : (scope other : List Binder) → Extends scope other → (ts : List Term) (ss : List Plain) → HaveSorts script scope ts ss → HaveSorts script other ts ss
    widened_terms scope other wider ts ss HaveSortsIn.no_terms = HaveSortsIn.no_terms
    widened_terms scope other wider ts ss (HaveSortsIn.more_terms t us s rs index h hs) =
        HaveSortsIn.more_terms t us s rs index (widened_term scope other wider t s h) (widened_terms scope other wider us rs hs)

-- a base of a sum stays one
moved_base : (script : Script) (from by : ℕ) (scope : List Binder) (t : Term) (s : Plain) → HasSort script scope t s → IsBase (out-Term t) → IsBase (out-Term (shifted_term from by t))
moved_base script from by scope t s (HasSortIn.number n within) base = absurd (subst IsBase (out-num n) base)
moved_base script from by scope t s (HasSortIn.sum u n h below some within) base = absurd (subst IsBase (out-plus u n) base)
moved_base script from by scope t s (HasSortIn.variable place e index found) base = rw (move.moved-Var from by place, out-var (shifted_place from by place)) tt
moved_base script from by scope t s (HasSortIn.application f ts args e d hs) base = rw (move.moved-Apply from by (symbol.Declared f) ts, out-apply (shifted_symbol from by (symbol.Declared f)) (map (shifted_term from by) ts)) tt
moved_base script from by scope t s (HasSortIn.reading a u i e h index g) base = rw (move.moved-Read from by a u, out-read (shifted_array from by a) (shifted_term from by u)) tt
moved_base script from by scope t s (HasSortIn.last a e h closed) base = rw (move.moved-Default from by a, out-default (shifted_array from by a)) tt
moved_base script from by scope t s (HasSortIn.truth b) base = rw (move.moved-Truth from by b, out-truth b) tt
moved_base script from by scope t s (HasSortIn.skolem assertion place ts args e hides d hs) base = absurd cc
moved_base script from by scope t s (HasSortIn.seed k hides below) base = absurd cc
moved_base script from by scope t s (HasSortIn.far hides) base = absurd cc
moved_base script from by scope t s (HasSortIn.differing a b i e hides index ha hb) base = absurd cc

-- terms with their variables moved
module _ (script : Script) where
  mutual
    pub moved_term : (from by : ℕ) (scope other : List Binder) → Moves from by scope other → (t : Term) (s : Plain) → HasSort script scope t s → HasSort script other (shifted_term from by t) s
    moved_term from by scope other moves t s (HasSortIn.number n within) = rw (move.moved-Num from by n) (HasSortIn.number n within)
    moved_term from by scope other moves t s (HasSortIn.sum u n h base some within) =
        rw (move.moved-Plus from by u n) (HasSortIn.sum (shifted_term from by u) n (moved_term from by scope other moves u plain.Int h) (moved_base script from by scope u plain.Int h base) some within)
    moved_term from by scope other moves t s (HasSortIn.variable place e index found) =
        rw (move.moved-Var from by place) (HasSortIn.variable (shifted_place from by place) e index (moves place (plain_sort e) found))
    moved_term from by scope other moves t s (HasSortIn.application f ts args e d hs) =
        rw (move.moved-Apply from by (symbol.Declared f) ts, move.moved-Declared from by f) (HasSortIn.application f (map (shifted_term from by) ts) args e d (moved_terms from by scope other moves ts args hs))
    moved_term from by scope other moves t s (HasSortIn.reading a u i e h index g) =
        rw (move.moved-Read from by a u, own_array script from by scope a i e h) (HasSortIn.reading a (shifted_term from by u) i e (closed_array script scope other a i e h) index (moved_term from by scope other moves u i g))
    moved_term from by scope other moves t s (HasSortIn.last a e h closed) =
        rw (move.moved-Default from by a, own_array script from by scope a plain.Int e h) (HasSortIn.last a e (closed_array script scope other a plain.Int e h) closed)
    moved_term from by scope other moves t s (HasSortIn.truth b) = rw (move.moved-Truth from by b) (HasSortIn.truth b)
    moved_term from by scope other moves t s (HasSortIn.skolem assertion place ts args e hides d hs) = absurd cc
    moved_term from by scope other moves t s (HasSortIn.seed k hides below) = absurd cc
    moved_term from by scope other moves t s (HasSortIn.far hides) = absurd cc
    moved_term from by scope other moves t s (HasSortIn.differing a b i e hides index ha hb) = absurd cc

    moved_terms : (from by : ℕ) (scope other : List Binder) → Moves from by scope other → (ts : List Term) (ss : List Plain) → HaveSorts script scope ts ss → HaveSorts script other (map (shifted_term from by) ts) ss
    moved_terms from by scope other moves ts ss HaveSortsIn.no_terms = HaveSortsIn.no_terms
    moved_terms from by scope other moves ts ss (HaveSortsIn.more_terms t us s rs index h hs) =
        HaveSortsIn.more_terms (shifted_term from by t) (map (shifted_term from by) us) s rs index (moved_term from by scope other moves t s h) (moved_terms from by scope other moves us rs hs)

-- they are as deep as before
module _ (script : Script) where
  mutual
    pub moved_term_depth : (from by : ℕ) (scope : List Binder) (t : Term) (s : Plain) → HasSort script scope t s → depth_of_term (shifted_term from by t) ≡ depth_of_term t
    moved_term_depth from by scope t s (HasSortIn.number n within) = ap depth_of_term (move.moved-Num from by n)
    moved_term_depth from by scope t s (HasSortIn.sum u n h base some within) =
        rw (move.moved-Plus from by u n, term_measure.depth-Plus (shifted_term from by u) n, term_measure.depth-Plus u n, moved_term_depth from by scope u plain.Int h) refl
    moved_term_depth from by scope t s (HasSortIn.variable place e index found) =
        rw (move.moved-Var from by place, term_measure.depth-Var (shifted_place from by place), term_measure.depth-Var place) refl
    moved_term_depth from by scope t s (HasSortIn.application f ts args e d hs) =
        rw (move.moved-Apply from by (symbol.Declared f) ts, move.moved-Declared from by f, term_measure.depth-Apply (symbol.Declared f) (map (shifted_term from by) ts), term_measure.depth-Apply (symbol.Declared f) ts, moved_term_depths from by scope ts args hs) refl
    moved_term_depth from by scope t s (HasSortIn.reading a u i e h index g) =
        rw (move.moved-Read from by a u, own_array script from by scope a i e h, term_measure.depth-Read a (shifted_term from by u), term_measure.depth-Read a u, moved_term_depth from by scope u i g) refl
    moved_term_depth from by scope t s (HasSortIn.last a e h closed) =
        rw (move.moved-Default from by a, own_array script from by scope a plain.Int e h) refl
    moved_term_depth from by scope t s (HasSortIn.truth b) = ap depth_of_term (move.moved-Truth from by b)
    moved_term_depth from by scope t s (HasSortIn.skolem assertion place ts args e hides d hs) = absurd cc
    moved_term_depth from by scope t s (HasSortIn.seed k hides below) = absurd cc
    moved_term_depth from by scope t s (HasSortIn.far hides) = absurd cc
    moved_term_depth from by scope t s (HasSortIn.differing a b i e hides index ha hb) = absurd cc

    moved_term_depths : (from by : ℕ) (scope : List Binder) (ts : List Term) (ss : List Plain) → HaveSorts script scope ts ss → map depth_of_term (map (shifted_term from by) ts) ≡ map depth_of_term ts
    moved_term_depths from by scope ts ss HaveSortsIn.no_terms = refl
    moved_term_depths from by scope ts ss (HaveSortsIn.more_terms t us s rs index h hs) =
        rw (moved_term_depth from by scope t s h, moved_term_depths from by scope us rs hs) refl
