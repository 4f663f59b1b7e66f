-- Tables that grow, and clauses that are added.
use Rattle.std.proofs.Common.{◌≡◌, ℕ, zero, suc, ◌+◌, List, [], ◌∷◌, ◌++◌, take, Some, slice_get, refl, sym, ap, subst, ◌∙◌, append_assoc, append-nil}
use Rattle.std.specs.Prelude.{Contains, slice_index_or, Result, Ok, Err, OnOk}
use Rattle.std.specs.List.{AllZip}
use Rattle.std.proofs.lemmas.List.Elements.{All-append, All-nil, All-weaker, Contains-append_left, Contains-append_right}
use Rattle.mbqi_values.specs.declared.lit.Lit.{Lit}
use Rattle.mbqi_terms.specs.declared.formula.Formula.{Formula}
use Rattle.mbqi_terms.proofs.Trees.{take-push}
use Rattle.mbqi_terms.proofs.Zips.{zip_push}
use Rattle.ground_form.specs.Clauses.{AddsClauses, AreClausesOf, GrowsBy, IsLitOf}
use Rattle.ground_form.proofs.Literals.{clauses_grow, lit_grows, lits_grow}

-- a table grows by nothing, step by step, and by more than it grows by
pub grows_not : (parts table : List Formula) → GrowsBy parts table table
grows_not parts table = ([], sym (append-nil table), All-nil (Contains parts))

pub grows_again : (parts old mid new : List Formula) → GrowsBy parts old mid → GrowsBy parts mid new → GrowsBy parts old new
grows_again parts old mid new first second = (
  first.0 ++ second.0,
  second.1 ∙ (ap (λ table. table ++ second.0) first.1 ∙ append_assoc old first.0 second.0),
  All-append (Contains parts) first.0 second.0 first.2 second.2,
)

pub grows_wider : (parts more old new : List Formula) → ((f : Formula) → Contains parts f → Contains more f) → GrowsBy parts old new → GrowsBy more old new
grows_wider parts more old new wider grows = (grows.0, grows.1, All-weaker (Contains parts) (Contains more) wider grows.0 grows.2)

-- literals and clauses stay those of their formulas
module _ (parts old new : List Formula) (grows : GrowsBy parts old new) where
  pub lit_stays : (lit : Lit) (f : Formula) → IsLitOf old lit f → IsLitOf new lit f
  lit_stays lit f is = subst (λ table. IsLitOf table lit f) (sym grows.1) (lit_grows old grows.0 f lit is)

  pub lits_stay : (lits : List Lit) (fs : List Formula) → AllZip (IsLitOf old) lits fs → AllZip (IsLitOf new) lits fs
  lits_stay lits fs zip = subst (λ table. AllZip (IsLitOf table) lits fs) (sym grows.1) (lits_grow old grows.0 lits fs zip)

  pub adds_stay : (before after : List (List Lit)) (rows : List (List Formula)) → AddsClauses old before after rows → AddsClauses new before after rows
  adds_stay before after rows adds =
      (adds.0, adds.1, subst (λ table. AreClausesOf table adds.0 rows) (sym grows.1) (clauses_grow old grows.0 adds.0 rows adds.2))

-- lists related element by element, one behind the other
module _ {A B : Type 0} (R : A → B → Type 0) where
  pub zip_append : (xs us : List A) (ys vs : List B) → AllZip R xs ys → AllZip R us vs → AllZip R (xs ++ us) (ys ++ vs)
  zip_append [] us [] vs first second = second
  zip_append [] us (y ∷ ys) vs first second = absurd first
  zip_append (x ∷ xs) us [] vs first second = absurd first
  zip_append (x ∷ xs) us (y ∷ ys) vs first second = (first.0, zip_append xs us ys vs first.1 second)

  pub zip_cut : (xs : List A) (ys vs : List B) → AllZip R xs (ys ++ vs)
      → (front back : List A) × (xs ≡ front ++ back) × AllZip R front ys × AllZip R back vs
  zip_cut xs [] vs zip = ([], xs, refl, tt, zip)
  zip_cut [] (y ∷ ys) vs zip = absurd zip
  zip_cut (x ∷ xs) (y ∷ ys) vs zip =
      let rest = zip_cut xs ys vs zip.1 in
      (x ∷ rest.0, rest.1, ap (λ l. x ∷ l) rest.2, (zip.0, rest.3), rest.4)

-- clauses are added by nothing, and step by step
module _ (table : List Formula) where
  pub adds_none : (clauses : List (List Lit)) → AddsClauses table clauses clauses []
  adds_none clauses = ([], sym (append-nil clauses), tt)

  pub adds_again : (before mid after : List (List Lit)) (first second : List (List Formula))
      → AddsClauses table before mid first → AddsClauses table mid after second → AddsClauses table before after (first ++ second)
  adds_again before mid after first second one two = (
    one.0 ++ two.0,
    two.1 ∙ (ap (λ clauses. clauses ++ two.0) one.1 ∙ append_assoc before one.0 two.0),
    zip_append (AllZip (IsLitOf table)) one.0 two.0 first second one.2 two.2,
  )

-- the next element of a list, and the one at a place
pub next_zip : {A B : Type 0} (R : A → B → Type 0) (xs : List A) (ys : List B) (i : ℕ) (x : A) (y : B) → slice_get ys i ≡ Some y
    → AllZip R xs (take i ys) → R x y → AllZip R (xs ++ x ∷ []) (take (i + 1) ys)
next_zip R xs ys i x y at zip r = subst (AllZip R (xs ++ x ∷ [])) (sym (take-push ys i y at)) (zip_push R xs (take i ys) x y zip r)

pub zip_index : {A B : Type 0} (R : A → B → Type 0) (xs : List A) (ys : List B) (i : ℕ) (d : A) (y : B) → slice_get ys i ≡ Some y
    → AllZip R xs ys → R (slice_index_or xs i d) y
zip_index R xs [] i d y at zip = cc
zip_index R [] (z ∷ zs) i d y at zip = absurd zip
zip_index R (x ∷ xs) (z ∷ zs) zero d y at zip = let same : z ≡ y = cc in subst (R x) same zip.0
zip_index R (x ∷ xs) (z ∷ zs) (suc i) d y at zip = zip_index R xs zs i d y at zip.1

-- a table that grows by some parts, and then by others
pub grows_first : (parts others old new : List Formula) → GrowsBy parts old new → GrowsBy (parts ++ others) old new
grows_first parts others old new = grows_wider parts (parts ++ others) old new (Contains-append_left parts others)

pub grows_both : (parts others old mid new : List Formula) → GrowsBy parts old mid → GrowsBy others mid new → GrowsBy (parts ++ others) old new
grows_both parts others old mid new first second =
    grows_again (parts ++ others) old mid new (grows_first parts others old mid first)
    (grows_wider others (parts ++ others) mid new (Contains-append_right parts others) second)

-- what follows from what holds after a call that succeeded
pub on_ok : {T E : Type 0} (r : Result T E) (P Q : Type 0) → (P → Q) → OnOk r P → OnOk r Q
on_ok (Ok x) P Q f p = f p
on_ok (Err e) P Q f p = tt
