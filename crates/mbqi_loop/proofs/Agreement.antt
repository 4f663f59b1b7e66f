-- Valuations that agree on the atoms of clauses make the same of them true.
use Rattle.std.proofs.Common.{◌≡◌, ℕ, ◌<◌, Bool, not, List, [], ◌∷◌, refl, ap, ◌∙◌, cond, ◌||◌, ◌&&◌}
use Rattle.std.specs.Prelude.{All}
use Rattle.std.proofs.lemmas.List.Elements.{All-head, All-tail}
use Rattle.mbqi_values.specs.declared.lit.Lit.{Lit}
use Rattle.mbqi_values.specs.Clauses.{lit_true, clause_true, all_true, AreBelow}

abbrev pub Agree : ℕ → (ℕ → Bool) → (ℕ → Bool) → Type 0
Agree n v w = (i : ℕ) → i < n → v i ≡ w i

lit_agrees : (n : ℕ) (v w : ℕ → Bool) (l : Lit) → Agree n v w → l.atom < n → lit_true v l ≡ lit_true w l
lit_agrees n v w l same below = ap (λ b. cond l.yes b (not b)) (same l.atom below)

clause_agrees : (n : ℕ) (v w : ℕ → Bool) (lits : List Lit) → Agree n v w → All (λ (l : Lit). l.atom < n) lits → clause_true v lits ≡ clause_true w lits
clause_agrees n v w [] same below = refl
clause_agrees n v w (l ∷ lits) same below =
    ap (λ b. b || clause_true v lits) (lit_agrees n v w l same (All-head (λ (m : Lit). m.atom < n) l lits below))
    ∙ ap (λ b. lit_true w l || b) (clause_agrees n v w lits same (All-tail (λ (m : Lit). m.atom < n) l lits below))

pub clauses_agree : (n : ℕ) (v w : ℕ → Bool) (clauses : List (List Lit)) → Agree n v w → AreBelow n clauses → all_true v clauses ≡ all_true w clauses
clauses_agree n v w [] same below = refl
clauses_agree n v w (c ∷ clauses) same below =
    ap (λ b. b && all_true v clauses) (clause_agrees n v w c same (All-head (All (λ (m : Lit). m.atom < n)) c clauses below))
    ∙ ap (λ b. clause_true w c && b) (clauses_agree n v w clauses same (All-tail (All (λ (m : Lit). m.atom < n)) c clauses below))
