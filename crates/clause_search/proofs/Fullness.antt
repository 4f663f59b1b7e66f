use Rattle.std.proofs.Common.{ℕ, zero, suc, ◌≡◌, Bool, true, false, not, if◌then◌else◌, List, [], ◌∷◌, All, Any, Contains, Option, None}
use Rattle.std.proofs.Common.{Some, is_some, refl, sym, ap, ◌∙◌, subst, ⊎_elim, arith, get_or-set_same, get_or-set_other}
use Rattle.std.specs.List.{list_all}
use Rattle.std.specs.Option.{option_map}
use Rattle.std.proofs.lemmas.Bool.{and_from, and_parts, cases_eq, or_cases, or_left, or_right}
use Rattle.std.proofs.lemmas.List.Elements.{All-cons, All-nil}
use Rattle.mbqi_values.specs.declared.lit.Lit.{Lit}
use Rattle.clause_search.specs.Course.{lits_of, no_truths, truths_after, truths_of, with_lit, AreFresh, Course, Extends}
use Rattle.clause_search.specs.Found.{GivesAtoms, MakesTrue}
use Rattle.clause_search.specs.Truths.{atom_on, lit_on, is_true, decided_on, true_on}
use Rattle.clause_search.specs.declared.step.Step.{Step}
use Rattle.clause_search.proofs.FreshSteps.{atom_on-after, truths_after-append, AreFresh-rest}
use Rattle.clause_search.proofs.TruthsAt.{atom_on-some, some-from_true}

-- Clauses that are true, and literals that have truths, keep them as the trail grows.

lit_on-after : (truths : List (Option Bool)) (steps : List Step) (lit : Lit) → AreFresh truths steps → is_some (lit_on truths lit) ≡ true
    → lit_on (truths_after truths steps) lit ≡ lit_on truths lit
lit_on-after truths steps lit fresh some =
    ap (λ (t : Option Bool). option_map (λ (u : Bool). if lit.yes then u else not u) t)
    (atom_on-after truths steps lit.atom fresh (atom_on-some truths lit some))

true_on-after : (truths : List (Option Bool)) (steps : List Step) (clause : List Lit) → AreFresh truths steps → true_on truths clause ≡ true
    → true_on (truths_after truths steps) clause ≡ true
true_on-after truths steps [] fresh is = is
true_on-after truths steps (lit ∷ clause) fresh is =
    ⊎_elim
    (λ (here : is_true (lit_on truths lit) ≡ true). or_left _ _
    (ap is_true (lit_on-after truths steps lit fresh (some-from_true (lit_on truths lit) here)) ∙ here))
    (λ (there : true_on truths clause ≡ true). or_right _ _ (true_on-after truths steps clause fresh there))
    (or_cases (is_true (lit_on truths lit)) (true_on truths clause) is)

decided_on-after : (truths : List (Option Bool)) (steps : List Step) (clause : List Lit) → AreFresh truths steps
    → decided_on truths clause ≡ true → decided_on (truths_after truths steps) clause ≡ true
decided_on-after truths steps [] fresh is = refl
decided_on-after truths steps (lit ∷ clause) fresh is =
    let parts = and_parts (is_some (lit_on truths lit)) (decided_on truths clause) is in
    and_from _ _ (ap is_some (lit_on-after truths steps lit fresh parts.0) ∙ parts.0) (decided_on-after truths steps clause fresh parts.1)

-- What each element has by one test, it has by another that follows.
all_weaker : {X : Type 0} (p q : X → Bool) → ((x : X) → p x ≡ true → q x ≡ true) → (xs : List X) → list_all p xs ≡ true
    → list_all q xs ≡ true
all_weaker p q follows [] is = refl
all_weaker p q follows (x ∷ xs) is =
    let parts = and_parts (p x) (list_all p xs) is in
    and_from _ _ (follows x parts.0) (all_weaker p q follows xs parts.1)

-- The truths of a trail that extends another one.
truths_of-extends : (old new : Course) (extends : Extends old new) → truths_of new ≡ truths_after (truths_of old) extends.0
truths_of-extends old new extends =
    ap truths_of extends.1 ∙ truths_after-append (no_truths old.atoms) old.steps extends.0

fresh-extends : (old new : Course) (extends : Extends old new) → AreFresh (no_truths new.atoms) new.steps
    → AreFresh (truths_of old) extends.0
fresh-extends old new extends fresh =
    AreFresh-rest (no_truths old.atoms) old.steps extends.0 (subst (λ (trail : Course). AreFresh (no_truths trail.atoms) trail.steps)
    extends.1 fresh)

pub decided-extends : (old new : Course) (clause : List Lit) → Extends old new → AreFresh (no_truths new.atoms) new.steps
    → decided_on (truths_of old) clause ≡ true → decided_on (truths_of new) clause ≡ true
decided-extends old new clause extends fresh is =
    rw (truths_of-extends old new extends) (decided_on-after (truths_of old) extends.0 clause (fresh-extends old new extends fresh) is)

pub all_decided-extends : (old new : Course) (clauses : List (List Lit)) → Extends old new → AreFresh (no_truths new.atoms) new.steps
    → list_all (decided_on (truths_of old)) clauses ≡ true → list_all (decided_on (truths_of new)) clauses ≡ true
all_decided-extends old new clauses extends fresh is =
    all_weaker (decided_on (truths_of old)) (decided_on (truths_of new)) (λ clause. decided-extends old new clause extends fresh) clauses is

pub all_true-extends : (old new : Course) (clauses : List (List Lit)) → Extends old new → AreFresh (no_truths new.atoms) new.steps
    → list_all (true_on (truths_of old)) clauses ≡ true → list_all (true_on (truths_of new)) clauses ≡ true
all_true-extends old new clauses extends fresh is =
    all_weaker (true_on (truths_of old)) (true_on (truths_of new))
    (λ clause holds. rw (truths_of-extends old new extends) (true_on-after (truths_of old) extends.0 clause
    (fresh-extends old new extends fresh) holds)) clauses is

-- What a full trail gives.

-- An atom that got a truth stands on the trail with it.
on_trail : (truths : List (Option Bool)) (steps : List Step) (lit : Lit) → AreFresh truths steps → atom_on truths lit.atom ≡ None
    → atom_on (truths_after truths steps) lit.atom ≡ Some lit.yes → Contains (lits_of steps) lit
on_trail truths [] lit fresh free is = absurd (cc)
on_trail truths (s ∷ steps) lit fresh free is =
    ⊎_elim
    (λ (same : s.lit.atom ≡ lit.atom).
    (let here : atom_on (with_lit truths s.lit) s.lit.atom ≡ Some s.lit.yes =
    get_or-set_same truths s.lit.atom (Some s.lit.yes) None fresh.0 in
    let after = atom_on-after (with_lit truths s.lit) steps s.lit.atom fresh.2 (ap is_some here) ∙ here in
    let moved : atom_on (truths_after (with_lit truths s.lit) steps) s.lit.atom ≡ Some lit.yes =
    ap (λ (a : ℕ). atom_on (truths_after (with_lit truths s.lit) steps) a) same ∙ is in
    let signs : s.lit.yes ≡ lit.yes = cc in
    let equal : s.lit ≡ lit = λ i. record { atom = same i; yes = signs i } in
    (0, omega arith, equal)))
    (λ (other : s.lit.atom ≡ lit.atom → ⊥).
    (let still : atom_on (with_lit truths s.lit) lit.atom ≡ None =
    get_or-set_other truths s.lit.atom lit.atom (Some s.lit.yes) None (λ (e : lit.atom ≡ s.lit.atom). other (sym e)) ∙ free in
    let rest = on_trail (with_lit truths s.lit) steps lit fresh.2 still is in
    (suc rest.0, omega (arith, rest.1), rest.2)))
    (cases_eq s.lit.atom lit.atom)

none_at : (atoms atom : ℕ) → atom_on (no_truths atoms) atom ≡ None
none_at zero atom = refl
none_at (suc atoms) zero = refl
none_at (suc atoms) (suc atom) = none_at atoms atom

true-is : (yes : Bool) (truth : Option Bool) → is_true (option_map (λ u. if yes then u else not u) truth) ≡ true → truth ≡ Some yes
true-is sign None is = cc
true-is true (Some true) is = refl
true-is true (Some false) is = cc
true-is false (Some true) is = cc
true-is false (Some false) is = refl

MakesTrue-trail : (trail : Course) (clause : List Lit) → AreFresh (no_truths trail.atoms) trail.steps
    → true_on (truths_of trail) clause ≡ true → MakesTrue (lits_of trail.steps) clause
MakesTrue-trail trail [] fresh is = absurd (cc)
MakesTrue-trail trail (lit ∷ clause) fresh is =
    ⊎_elim
    (λ (here : is_true (lit_on (truths_of trail) lit) ≡ true).
    (let member = on_trail (no_truths trail.atoms) trail.steps lit fresh (none_at trail.atoms lit.atom)
    (true-is lit.yes (atom_on (truths_of trail) lit.atom) here) in
    (0, lit, omega arith, refl, member)))
    (λ (there : true_on (truths_of trail) clause ≡ true).
    (let rest = MakesTrue-trail trail clause fresh there in
    (suc rest.0, rest.1, omega (arith, rest.2), rest.3, rest.4)))
    (or_cases (is_true (lit_on (truths_of trail) lit)) (true_on (truths_of trail) clause) is)

-- The literal that gives an atom its truth.
given_literal : (trail : Course) (atom : ℕ) (truth : Option Bool) → AreFresh (no_truths trail.atoms) trail.steps
    → atom_on (truths_of trail) atom ≡ truth → is_some truth ≡ true → Any (λ given. given.atom ≡ atom) (lits_of trail.steps)
given_literal trail atom None fresh is some = absurd (cc)
given_literal trail atom (Some truth) fresh is some =
    let lit : Lit = record { atom = atom; yes = truth } in
    let member = on_trail (no_truths trail.atoms) trail.steps lit fresh (none_at trail.atoms atom) is in
    (member.0, lit, member.1, member.2, refl)

GivesAtoms-trail : (trail : Course) (clause : List Lit) → AreFresh (no_truths trail.atoms) trail.steps
    → decided_on (truths_of trail) clause ≡ true → GivesAtoms (lits_of trail.steps) clause
GivesAtoms-trail trail [] fresh is = All-nil _
GivesAtoms-trail trail (lit ∷ clause) fresh is =
    let parts = and_parts (is_some (lit_on (truths_of trail) lit)) (decided_on (truths_of trail) clause) is in
    let IsGiven : Lit → Type 0 = λ l. Any (λ given. given.atom ≡ l.atom) (lits_of trail.steps) in
    All-cons IsGiven lit clause (given_literal trail lit.atom (atom_on (truths_of trail) lit.atom) fresh refl
    (atom_on-some (truths_of trail) lit parts.0)) (GivesAtoms-trail trail clause fresh parts.1)

pub all_model : (trail : Course) (clauses : List (List Lit)) → AreFresh (no_truths trail.atoms) trail.steps
    → list_all (true_on (truths_of trail)) clauses ≡ true → All (MakesTrue (lits_of trail.steps)) clauses
all_model trail [] fresh is = All-nil _
all_model trail (clause ∷ clauses) fresh is =
    let parts = and_parts (true_on (truths_of trail) clause) (list_all (true_on (truths_of trail)) clauses) is in
    All-cons (MakesTrue (lits_of trail.steps)) clause clauses (MakesTrue-trail trail clause fresh parts.0)
    (all_model trail clauses fresh parts.1)

pub all_given : (trail : Course) (clauses : List (List Lit)) → AreFresh (no_truths trail.atoms) trail.steps
    → list_all (decided_on (truths_of trail)) clauses ≡ true → All (GivesAtoms (lits_of trail.steps)) clauses
all_given trail [] fresh is = All-nil _
all_given trail (clause ∷ clauses) fresh is =
    let parts = and_parts (decided_on (truths_of trail) clause) (list_all (decided_on (truths_of trail)) clauses) is in
    All-cons (GivesAtoms (lits_of trail.steps)) clause clauses (GivesAtoms-trail trail clause fresh parts.0)
    (all_given trail clauses fresh parts.1)
