use Rattle.std.proofs.Common.{◌≡◌, ◌<◌, ℕ, Bool, true, false, not, ◌&&◌, ◌||◌, if◌then◌else◌, List, [], ◌∷◌, All, Any, Contains, refl, sym, subst, ◌∙◌, eqb, eq-eqb, ne_eqb}
use Rattle.std.specs.List.{list_all}
use Rattle.std.proofs.lemmas.Bool.{and_from, and_parts, false≢true, not-true}
use Rattle.std.proofs.lemmas.List.Elements.{All-cons, All-contains, All-head, All-nil, All-tail}
use Rattle.std.proofs.lemmas.List.Folds.{list_any-from_Any}
use Rattle.mbqi_values.specs.Clauses.{all_true, clause_true, lit_true, AreBelow}
use Rattle.mbqi_values.specs.declared.lit.Lit.{Lit}
use Rattle.theory_trait.specs.Content.{AtomsDiffer, IsFree}
use Rattle.mbqi_loop.specs.Assigned.{is_made_true}

-- Truths that literals give, no two of which have one atom.

none_made : (lits : List Lit) (atom : ℕ) → IsFree lits atom → is_made_true lits atom ≡ false
none_made [] atom free = refl
none_made (lit ∷ lits) atom free =
    let parts = and_parts (not (eqb lit.atom atom)) (list_all (λ (other : Lit). not (eqb other.atom atom)) lits) free in
    rw (not-true (eqb lit.atom atom) parts.0) (none_made lits atom parts.1)

-- A literal leaves what others say of their atoms.
others_made : (lit : Lit) (all rest : List Lit) → IsFree rest lit.atom → All (λ other. is_made_true all other.atom ≡ other.yes) rest
    → All (λ other. is_made_true (lit ∷ all) other.atom ≡ other.yes) rest
others_made lit all [] free each = All-nil _
others_made lit all (other ∷ rest) free each =
    let Is : Lit → Type 0 = λ o. is_made_true all o.atom ≡ o.yes in
    let IsToo : Lit → Type 0 = λ o. is_made_true (lit ∷ all) o.atom ≡ o.yes in
    let parts = and_parts (not (eqb other.atom lit.atom)) (list_all (λ (o : Lit). not (eqb o.atom lit.atom)) rest) free in
    let differs : eqb lit.atom other.atom ≡ false = ne_eqb lit.atom other.atom
    (λ (e : lit.atom ≡ other.atom). false≢true (sym (not-true (eqb other.atom lit.atom) parts.0) ∙ eq-eqb other.atom lit.atom (sym e))) in
    let here : ((eqb lit.atom other.atom && lit.yes) || is_made_true all other.atom) ≡ other.yes = rw differs (All-head Is other rest each) in
    All-cons IsToo other rest here (others_made lit all rest parts.1 (All-tail Is other rest each))

or_none : (truth : Bool) → (truth || false) ≡ truth
or_none true = refl
or_none false = refl

-- Each literal says what truth its atom has.
made_each : (lits : List Lit) → AtomsDiffer lits → All (λ lit. is_made_true lits lit.atom ≡ lit.yes) lits
made_each [] differ = All-nil _
made_each (lit ∷ lits) differ =
    let Is : Lit → Type 0 = λ o. is_made_true (lit ∷ lits) o.atom ≡ o.yes in
    let here : ((eqb lit.atom lit.atom && lit.yes) || is_made_true lits lit.atom) ≡ lit.yes =
    rw (eq-eqb lit.atom lit.atom refl, none_made lits lit.atom differ.0) (or_none lit.yes) in
    All-cons Is lit lits here (others_made lit lits lits differ.0 (made_each lits differ.1))

own_true : (yes : Bool) → (if yes then yes else not yes) ≡ true
own_true true = refl
own_true false = refl

lit_made : (v : ℕ → Bool) (lits : List Lit) (lit : Lit) → AtomsDiffer lits → v lit.atom ≡ is_made_true lits lit.atom → Contains lits lit → lit_true v lit ≡ true
lit_made v lits lit differ is member =
    let Is : Lit → Type 0 = λ o. is_made_true lits o.atom ≡ o.yes in
    let truth : v lit.atom ≡ lit.yes = is ∙ All-contains Is lits lit (made_each lits differ) member in
    rw truth (own_true lit.yes)

-- A clause with such a literal is true.
clause_made : (v : ℕ → Bool) (atoms : ℕ) (lits clause : List Lit) → AtomsDiffer lits → ((atom : ℕ) → atom < atoms → v atom ≡ is_made_true lits atom)
    → All (λ lit. lit.atom < atoms) clause → Any (Contains lits) clause → clause_true v clause ≡ true
clause_made v atoms lits clause differ is below made =
    let within : made.1.atom < atoms = subst (λ (l : Lit). l.atom < atoms) made.3 (below made.0 made.1 made.2) in
    list_any-from_Any (lit_true v) clause (made.0, made.1, made.2, made.3, lit_made v lits made.1 differ (is made.1.atom within) made.4)

-- So clauses are true that each have such a literal.
pub clauses_made : (v : ℕ → Bool) (atoms : ℕ) (lits : List Lit) (clauses : List (List Lit)) → AtomsDiffer lits
    → ((atom : ℕ) → atom < atoms → v atom ≡ is_made_true lits atom) → AreBelow atoms clauses → All (Any (Contains lits)) clauses → all_true v clauses ≡ true
clauses_made v atoms lits [] differ is below made = refl
clauses_made v atoms lits (clause ∷ clauses) differ is below made =
    let IsBelow : List Lit → Type 0 = λ c. All (λ (lit : Lit). lit.atom < atoms) c in
    and_from _ _ (clause_made v atoms lits clause differ is (All-head IsBelow clause clauses below) (All-head (Any (Contains lits)) clause clauses made))
    (clauses_made v atoms lits clauses differ is (All-tail IsBelow clause clauses below) (All-tail (Any (Contains lits)) clause clauses made))
