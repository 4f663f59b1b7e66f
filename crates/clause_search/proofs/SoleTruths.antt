use Rattle.std.proofs.Common.{ℕ, zero, suc, ◌≡◌, ◌==◌, ◌&&◌, ◌||◌, ◌⊎◌, inl, inr, Bool, true, false, not, cond, List, [], ◌∷◌, ◌++◌, find}
use Rattle.std.proofs.Common.{take, Contains, None, Some, IfSome, refl, sym, ap, ◌∙◌, subst, ⊎_elim, eqb, eq-eqb, arith}
use Rattle.std.specs.List.{list_all, list_any}
use Rattle.std.proofs.lemmas.Bool.{and_from, and_parts, cases_Bool, eqb-true, false≢true, not-true, not_from_false, or_cases, or_left}
use Rattle.std.proofs.lemmas.Bool.{or_right}
use Rattle.std.proofs.lemmas.List.Elements.{All-cons, All-nil, Contains-append_left, Contains-push}
use Rattle.std.proofs.lemmas.List.Folds.{list_all-append}
use Rattle.mbqi_values.specs.Clauses.{lit_true}
use Rattle.mbqi_values.specs.declared.lit.Lit.{Lit}
use Rattle.mbqi_values.specs.declared.value.Value.{Value}
use Rattle.theory_trait.specs.Assumed.{clashed_by}
use Rattle.theory_trait.specs.Content.{AreAmong, IsFree}
use Rattle.theory_trait.specs.declared.theory.Assumed.{Assumed}
use Rattle.theory_trait.specs.declared.theory.Assumed.TheVariants.{Agree, Clash}
use Rattle.theory_trait.specs.Free.{IsFreelyLawful}
use Rattle.theory_trait.specs.Valuation.{lits_true, HasNone, HasValuation, Satisfies}
use Rattle.clause_search.specs.AtMostOne.{at_most_one, is_clash, keeps_clash, refused_by, IsLawful}
use Rattle.clause_search.specs.Resolvent.{contains_lit, same_lit}
use Rattle.clause_search.proofs.Resolution.{same_lit-equal}

-- Contents of which at most one literal takes its atom as true.

-- The truths that are true only where such a literal is.
abbrev trues_of : List Lit → ℕ → Bool
trues_of lits atom = list_any (λ lit. lit.yes && (lit.atom == atom)) lits

none_true : (lits : List Lit) (atom : ℕ) → list_all (λ other. not other.yes) lits ≡ true → trues_of lits atom ≡ false
none_true [] atom none = refl
none_true (lit ∷ lits) atom none =
    let parts = and_parts (not lit.yes) (list_all (λ (other : Lit). not other.yes) lits) none in
    rw (not-true lit.yes parts.0) (none_true lits atom parts.1)

only_here : (lits : List Lit) (lit : Lit) (a : ℕ) → list_all (λ other. not other.yes) lits ≡ true
    → (eqb lit.atom a || trues_of lits a) ≡ true → lit.atom ≡ a
only_here lits lit a none is =
    ⊎_elim
    (λ (here : eqb lit.atom a ≡ true). eqb-true lit.atom a here)
    (λ (there : trues_of lits a ≡ true). absurd (false≢true (sym (none_true lits a none) ∙ there)))
    (or_cases (eqb lit.atom a) (trues_of lits a) is)

-- Two atoms that are true are one.
sole_true : (lits : List Lit) (a b : ℕ) → at_most_one lits ≡ true → trues_of lits a ≡ true → trues_of lits b ≡ true → a ≡ b
sole_true [] a b one is_a is_b = absurd (false≢true is_a)
sole_true (lit ∷ lits) a b one is_a is_b =
    (elim lit.yes as (λ yes. cond yes (list_all (λ (other : Lit). not other.yes) lits) (at_most_one lits) ≡ true
    → ((yes && eqb lit.atom a) || trues_of lits a) ≡ true → ((yes && eqb lit.atom b) || trues_of lits b) ≡ true → a ≡ b) [
      | true ↦ λ none here_a here_b.
          let at_a = only_here lits lit a none here_a in
          let at_b = only_here lits lit b none here_b in
          sym at_a ∙ at_b
      | false ↦ λ rest here_a here_b. sole_true lits a b rest here_a here_b
    ]) one is_a is_b

-- What is true by the literals is true under truths that make them true.
true_by : (v : ℕ → Bool) (lits : List Lit) (atom : ℕ) → lits_true v lits ≡ true → trues_of lits atom ≡ true → v atom ≡ true
true_by v [] atom hold is = absurd (false≢true is)
true_by v (lit ∷ lits) atom hold is =
    let parts = and_parts (lit_true v lit) (lits_true v lits) hold in
    ⊎_elim
    (λ (here : (lit.yes && eqb lit.atom atom) ≡ true).
    (let both = and_parts lit.yes (eqb lit.atom atom) here in
    let truth : v lit.atom ≡ true = rw both.0 at parts.0 in
    ap v (sym (eqb-true lit.atom atom both.1)) ∙ truth))
    (λ (there : trues_of lits atom ≡ true). true_by v lits atom parts.1 there)
    (or_cases (lit.yes && eqb lit.atom atom) (trues_of lits atom) is)

-- Each of the literals is true under the truths that they give, where some truths make them true. `all` are all of them.
hold_by_trues : (v : ℕ → Bool) (all lits : List Lit) → lits_true v all ≡ true → lits_true v lits ≡ true
    → ((atom : ℕ) → trues_of lits atom ≡ true → trues_of all atom ≡ true) → lits_true (trues_of all) lits ≡ true
hold_by_trues v all [] hold_all hold among = refl
hold_by_trues v all (lit ∷ lits) hold_all hold among =
    let parts = and_parts (lit_true v lit) (lits_true v lits) hold in
    let here : lit_true (trues_of all) lit ≡ true =
    (elim lit.yes as (λ yes. lit.yes ≡ yes → cond yes (v lit.atom) (not (v lit.atom)) ≡ true
    → cond yes (trues_of all lit.atom) (not (trues_of all lit.atom)) ≡ true) [
      | true ↦ λ holds _. among lit.atom (or_left (lit.yes && eqb lit.atom lit.atom) (trues_of lits lit.atom)
          (and_from _ _ holds (eq-eqb lit.atom lit.atom refl)))
      | false ↦ λ _ false_. not_from_false (trues_of all lit.atom) (⊎_elim
          (λ (holds : trues_of all lit.atom ≡ true). absurd
          (false≢true (sym (not-true (v lit.atom) false_) ∙ true_by v all lit.atom hold_all holds)))
          (λ (fails : trues_of all lit.atom ≡ false). fails)
          (cases_Bool (trues_of all lit.atom)))
    ]) refl parts.0 in
    and_from _ _ here (hold_by_trues v all lits hold_all parts.1
    (λ atom is. among atom (or_right (lit.yes && eqb lit.atom atom) (trues_of lits atom) is)))

-- A content with a valuation, and at most one such literal, has one in which at most one atom is true.
pub has_sole : (atoms : ℕ) (lits : List Lit) → at_most_one lits ≡ true → HasValuation (IsFreelyLawful atoms) lits
    → HasValuation (IsLawful atoms) lits
has_sole atoms lits one has =
    ([], (trues_of lits, (refl, λ a b. sole_true lits a b one), hold_by_trues has.1.0 lits lits has.1.2 has.1.2 (λ atom is. is)))

pub sole_settled : (atoms : ℕ) (lits : List Lit) (values : List Value) → values ≡ [] → at_most_one lits ≡ true
    → HasValuation (IsFreelyLawful atoms) lits → Satisfies (IsLawful atoms) lits values
sole_settled atoms lits values none one has =
    (trues_of lits, (none, λ a b. sole_true lits a b one), hold_by_trues has.1.0 lits lits has.1.2 has.1.2 (λ atom is. is))

-- One more literal keeps that, if it takes its atom as false, or none took it as true.
one_more_false : (lits : List Lit) (lit : Lit) → lit.yes ≡ false → at_most_one lits ≡ true → at_most_one (lits ++ lit ∷ []) ≡ true
one_more_false [] lit fails one = rw fails refl
one_more_false (l ∷ lits) lit fails one =
    (elim l.yes as (λ yes. cond yes (list_all (λ (other : Lit). not other.yes) lits) (at_most_one lits) ≡ true
    → cond yes (list_all (λ (other : Lit). not other.yes) (lits ++ lit ∷ [])) (at_most_one (lits ++ lit ∷ [])) ≡ true) [
      | true ↦ λ none. list_all-append (λ (other : Lit). not other.yes) lits (lit ∷ [])
          ∙ and_from _ _ none (and_from _ _ (not_from_false lit.yes fails) refl)
      | false ↦ λ rest. one_more_false lits lit fails rest
    ]) one

first_true : (lits : List Lit) (lit : Lit) → find (λ l. l.yes) lits ≡ None → at_most_one (lits ++ lit ∷ []) ≡ true
first_true [] lit none = elim lit.yes as (λ yes. cond yes true true ≡ true) [ true ↦ refl | false ↦ refl ]
first_true (l ∷ lits) lit none =
    (elim l.yes as (λ yes. cond yes (Some l) (find (λ (x : Lit). x.yes) lits) ≡ None
    → cond yes (list_all (λ (other : Lit). not other.yes) (lits ++ lit ∷ [])) (at_most_one (lits ++ lit ∷ [])) ≡ true)
    [ true ↦ λ h. cc | false ↦ λ h. first_true lits lit h ]) none

-- One more literal where none is taken as true, or it isn't.
pub one_more : (content : List Lit) (lit : Lit) → (find (λ l. l.yes) content ≡ None) ⊎ (lit.yes ≡ false) → at_most_one content ≡ true
    → at_most_one (content ++ lit ∷ []) ≡ true
one_more content lit (inl none) one = first_true content lit none
one_more content lit (inr fails) one = one_more_false content lit fails one

all-take : (p : Lit → Bool) (n : ℕ) (lits : List Lit) → list_all p lits ≡ true → list_all p (take n lits) ≡ true
all-take p zero lits is = refl
all-take p (suc n) [] is = refl
all-take p (suc n) (lit ∷ lits) is =
    let parts = and_parts (p lit) (list_all p lits) is in
    and_from _ _ parts.0 (all-take p n lits parts.1)

pub at_most_one-take : (n : ℕ) (lits : List Lit) → at_most_one lits ≡ true → at_most_one (take n lits) ≡ true
at_most_one-take zero lits one = refl
at_most_one-take (suc n) [] one = refl
at_most_one-take (suc n) (lit ∷ lits) one =
    (elim lit.yes as (λ yes. cond yes (list_all (λ (other : Lit). not other.yes) lits) (at_most_one lits) ≡ true
    → cond yes (list_all (λ (other : Lit). not other.yes) (take n lits)) (at_most_one (take n lits)) ≡ true) [
      | true ↦ λ none. all-take (λ (other : Lit). not other.yes) n lits none
      | false ↦ λ rest. at_most_one-take n lits rest
    ]) one

-- What is found is among them, and is taken as true.
same_lit-same : (lit : Lit) → same_lit lit lit ≡ true
same_lit-same lit = and_from _ _ (eq-eqb lit.atom lit.atom refl) (elim lit.yes as (λ yes. cond yes yes (not yes) ≡ true)
    [ true ↦ refl | false ↦ refl ])

pub found_among : (lits : List Lit) (found : Lit) → find (λ l. l.yes) lits ≡ Some found
    → (contains_lit lits found ≡ true) × (found.yes ≡ true)
found_among [] found is = absurd (cc)
found_among (lit ∷ lits) found is =
    (elim lit.yes as (λ yes. lit.yes ≡ yes → cond yes (Some lit) (find (λ (x : Lit). x.yes) lits) ≡ Some found
    → (contains_lit (lit ∷ lits) found ≡ true) × (found.yes ≡ true)) [
      | true ↦ λ holds h.
          (let same : lit ≡ found = cc in (
            or_left (same_lit lit found) (contains_lit lits found)
                (subst (λ (x : Lit). same_lit lit x ≡ true) same (same_lit-same lit)),
            subst (λ (x : Lit). x.yes ≡ true) same holds,
          ))
      | false ↦ λ _ h. (let rest = found_among lits found h in (or_right (same_lit lit found) (contains_lit lits found) rest.0, rest.1))
    ]) refl is

-- Two such literals of different atoms have no lawful valuation.
both_true : (v : ℕ → Bool) (one other : Lit) → ((a b : ℕ) → v a ≡ true → v b ≡ true → a ≡ b) → one.yes ≡ true → other.yes ≡ true
    → eqb one.atom other.atom ≡ false → lit_true v one ≡ true → lit_true v other ≡ true → ⊥
both_true v one other sole yes_one yes_other differ is_one is_other =
    let here : v one.atom ≡ true = rw yes_one at is_one in
    let there : v other.atom ≡ true = rw yes_other at is_other in
    false≢true (sym differ ∙ eq-eqb one.atom other.atom (sole one.atom other.atom here there))

contains_true : (v : ℕ → Bool) (lits : List Lit) (lit : Lit) → contains_lit lits lit ≡ true → lits_true v lits ≡ true
    → lit_true v lit ≡ true
contains_true v [] lit member hold = absurd (false≢true member)
contains_true v (l ∷ lits) lit member hold =
    let parts = and_parts (lit_true v l) (lits_true v lits) hold in
    ⊎_elim
    (λ (here : same_lit l lit ≡ true). subst (λ (x : Lit). lit_true v x ≡ true) (same_lit-equal l lit here) parts.0)
    (λ (there : contains_lit lits lit ≡ true). contains_true v lits lit there parts.1)
    (or_cases (same_lit l lit) (contains_lit lits lit) member)

-- A test that can't be true is false.
refuted : (b : Bool) → (b ≡ true → ⊥) → b ≡ false
refuted true never = absurd (never refl)
refuted false never = refl

pub content_has_none : (atoms : ℕ) (lits : List Lit) (one other : Lit) → contains_lit lits one ≡ true → one.yes ≡ true → other.yes ≡ true
    → eqb one.atom other.atom ≡ false → HasNone (IsLawful atoms) (lits ++ other ∷ [])
content_has_none atoms lits one other member yes_one yes_other differ values v law =
    refuted (lits_true v (lits ++ other ∷ [])) (λ hold.
    let parts = and_parts (lits_true v lits) (lits_true v (other ∷ [])) (sym (list_all-append (lit_true v) lits (other ∷ [])) ∙ hold) in
    let rest = and_parts (lit_true v other) true parts.1 in
    both_true v one other law.1 yes_one yes_other differ (contains_true v lits one member parts.0) rest.0)

-- What a clash keeps: the literal that is found is among them, and of another atom than the free one.
free_differs : (lits : List Lit) (lit : Lit) (atom : ℕ) → contains_lit lits lit ≡ true → IsFree lits atom → eqb lit.atom atom ≡ false
free_differs [] lit atom member free = absurd (false≢true member)
free_differs (l ∷ lits) lit atom member free =
    let parts = and_parts (not (eqb l.atom atom)) (list_all (λ (x : Lit). not (eqb x.atom atom)) lits) free in
    ⊎_elim
    (λ (here : same_lit l lit ≡ true). subst (λ (x : Lit). eqb x.atom atom ≡ false) (same_lit-equal l lit here)
    (not-true (eqb l.atom atom) parts.0))
    (λ (there : contains_lit lits lit ≡ true). free_differs lits lit atom there parts.1)
    (or_cases (same_lit l lit) (contains_lit lits lit) member)

pub clash_kept : (content : List Lit) (other lit : Lit) → find (λ l. l.yes) content ≡ Some other → lit.yes ≡ true → IsFree content lit.atom
    → is_clash content (other ∷ lit ∷ []) ≡ true
clash_kept content other lit found holds free =
    let among = found_among content other found in
    let differ = not_from_false (eqb other.atom lit.atom) (free_differs content other lit.atom among.0 free) in
    and_from _ _ (and_from _ _ (and_from _ _ among.0 among.1) holds) differ

pub clash_has_none : (atoms : ℕ) (content : List Lit) (other lit : Lit) → find (λ l. l.yes) content ≡ Some other → lit.yes ≡ true
    → IsFree content lit.atom → HasNone (IsLawful atoms) (content ++ lit ∷ [])
clash_has_none atoms content other lit found holds free =
    let among = found_among content other found in
    content_has_none atoms content other lit among.0 among.1 holds (free_differs content other lit.atom among.0 free)

-- What is lent is of the content, or the literal that clashed.
contains_from : (lits : List Lit) (lit : Lit) → contains_lit lits lit ≡ true → Contains lits lit
contains_from [] lit is = absurd (false≢true is)
contains_from (l ∷ lits) lit is =
    ⊎_elim
    (λ (here : same_lit l lit ≡ true). (0, omega arith, same_lit-equal l lit here))
    (λ (there : contains_lit lits lit ≡ true).
    (let rest = contains_from lits lit there in
    (suc rest.0, omega (arith, rest.1), rest.2)))
    (or_cases (same_lit l lit) (contains_lit lits lit) is)

lent_among : (content pair : List Lit) → is_clash content pair ≡ true
    → IfSome (refused_by true pair) (λ lit. AreAmong (content ++ lit ∷ []) pair)
lent_among content [] kept = tt
lent_among content (one ∷ []) kept = tt
lent_among content (one ∷ other ∷ []) kept =
    let all = and_parts (contains_lit content one && one.yes && other.yes) (not (eqb one.atom other.atom)) kept in
    let both = and_parts (contains_lit content one && one.yes) other.yes all.0 in
    let parts = and_parts (contains_lit content one) one.yes both.0 in
    let those : List Lit = content ++ other ∷ [] in
    All-cons (Contains those) one (other ∷ []) (Contains-append_left content (other ∷ []) one (contains_from content one parts.0))
    (All-cons (Contains those) other [] (Contains-push content other) (All-nil _))
lent_among content (one ∷ other ∷ more ∷ rest) kept = absurd (false≢true kept)

pub lent : (clashed : Bool) (content pair : List Lit) → clashed ≡ true → keeps_clash clashed content pair ≡ true
    → IfSome (refused_by clashed pair) (λ lit. AreAmong (content ++ lit ∷ []) pair)
lent true content pair is kept = lent_among content pair kept
lent false content pair is kept = absurd (false≢true is)

-- The free theory never clashes.
pub agreed : (assumed : Assumed) (lit : Lit) → None ≡ clashed_by assumed lit → assumed ≡ Agree
agreed Agree lit none = refl
agreed Clash lit none = cc
