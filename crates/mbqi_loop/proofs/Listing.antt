-- A list with more instances behind it.
use Rattle.std.proofs.Common.{◌≡◌, ℕ, ◌<◌, ◌≤◌, Bool, List, [], ◌++◌, ◌&&◌, length, take, get_or, sym, ap, subst, ◌∙◌, arith}
use Rattle.std.specs.Prelude.{All}
use Rattle.std.specs.List.{list_all}
use Rattle.std.proofs.lemmas.List.{get_or-take, length-take, map-append}
use Rattle.std.proofs.lemmas.List.Elements.{All-append, All-weaker}
use Rattle.std.proofs.lemmas.List.Folds.{list_all-append}
use Rattle.mbqi_values.specs.declared.lit.Lit.{Lit}
use Rattle.mbqi_values.specs.Clauses.{all_true, clause_true, AreBelow}
use Rattle.mbqi_terms.specs.declared.instance.InstanceLine.{InstanceLine}
use Rattle.mbqi_terms.specs.declared.script.Function.{Function}
use Rattle.mbqi_terms.specs.declared.term.Term.{Term}
use Rattle.mbqi_terms.specs.Meanings.{Meanings, truth_of}
use Rattle.mbqi_values.specs.Value.{is_true}
use Rattle.element_atoms.specs.Atoms.{IsOver, atom_tree, formulas_in, truths_by}
use Rattle.element_atoms.specs.Numbering.{Extends}
use Rattle.element_atoms.specs.declared.atoms.GroundAtom.{GroundAtom}
use Rattle.mbqi_loop.specs.Listed.{IsListed}
use Rattle.mbqi_loop.specs.declared.listed.Listed.{Listed}
use Rattle.mbqi_loop.proofs.Agreement.{Agree, clauses_agree}

-- the clauses of lines over a table
abbrev Say : List Term → List GroundAtom → List (List Lit) → List InstanceLine → Type 0
Say terms table clauses lines = (m : Meanings) → all_true (truths_by m terms table) clauses ≡ list_all (truth_of m) (formulas_in lines)

within : (old new : List GroundAtom) → Extends old new → length old ≤ length new
within old new extends = omega (arith, ap length extends.front, length-take (length old) new)

below_more : (old new : List GroundAtom) (clauses : List (List Lit)) → Extends old new → AreBelow (length old) clauses → AreBelow (length new) clauses
below_more old new clauses extends below =
    let w : length old ≤ length new = within old new extends in
    All-weaker (All (λ (lit : Lit). lit.atom < length old)) (All (λ (lit : Lit). lit.atom < length new))
    (λ clause h. All-weaker (λ (lit : Lit). lit.atom < length old) (λ (lit : Lit). lit.atom < length new) (λ lit l. omega (arith, w, l)) clause h) clauses below

truths_agree : (m : Meanings) (terms : List Term) (old new : List GroundAtom) → Extends old new
    → Agree (length old) (truths_by m terms new) (truths_by m terms old)
truths_agree m terms old new extends i h =
    let none : GroundAtom = record { predicate = 0; args = [] } in
    let front : get_or (take (length old) new) i none ≡ get_or old i none = ap (λ (atoms : List GroundAtom). get_or atoms i none) extends.front in
    let same : get_or new i none ≡ get_or old i none = sym (get_or-take (length old) new i none h) ∙ front in
    ap (λ (atom : GroundAtom). is_true (m.value (atom_tree terms atom))) same

pub listed_append : (functions : List Function) (terms : List Term) (before after : Listed) (more : List (List Lit)) (lines : List InstanceLine)
    → IsListed functions terms before → Extends before.table after.table → All (IsOver functions terms) after.table → AreBelow (length after.table) more
    → Say terms after.table more lines → after.clauses ≡ before.clauses ++ more → after.lines ≡ before.lines ++ lines → IsListed functions terms after
listed_append functions terms before after more lines is extends over below say clauses_are lines_are =
    record {
      over = over;
      below = subst (AreBelow (length after.table)) (sym clauses_are)
          (All-append (All (λ (lit : Lit). lit.atom < length after.table)) before.clauses more (below_more before.table after.table before.clauses extends is.below) below);
      truth = λ m.
          let v : ℕ → Bool = truths_by m terms after.table in
          let earlier : all_true v before.clauses ≡ list_all (truth_of m) (formulas_in before.lines) =
          clauses_agree (length before.table) v (truths_by m terms before.table) before.clauses (truths_agree m terms before.table after.table extends) is.below
          ∙ is.truth m in
          let parts : list_all (clause_true v) (before.clauses ++ more) ≡ (list_all (truth_of m) (formulas_in before.lines) && list_all (truth_of m) (formulas_in lines)) =
          list_all-append (clause_true v) before.clauses more
          ∙ (ap (λ b. b && all_true v more) earlier ∙ ap (λ b. list_all (truth_of m) (formulas_in before.lines) && b) (say m)) in
          let joined : list_all (truth_of m) (formulas_in before.lines ++ formulas_in lines)
          ≡ (list_all (truth_of m) (formulas_in before.lines) && list_all (truth_of m) (formulas_in lines)) =
          list_all-append (truth_of m) (formulas_in before.lines) (formulas_in lines) in
          ap (all_true v) clauses_are ∙ (parts ∙ (sym joined
          ∙ ap (list_all (truth_of m)) (sym (map-append (λ (line : InstanceLine). line.formula) before.lines lines) ∙ ap formulas_in (sym lines_are))));
    }

pub empty_listed : (functions : List Function) (terms : List Term) (none : Listed) → none.lines ≡ [] → none.table ≡ [] → none.clauses ≡ [] → IsListed functions terms none
empty_listed functions terms none lines table clauses =
    record {
      over = subst (All (IsOver functions terms)) (sym table) (λ k d h. absurd (omega (arith, h)));
      below = subst (AreBelow (length none.table)) (sym clauses) (λ k d h. absurd (omega (arith, h)));
      truth = λ m. ap (all_true (truths_by m terms none.table)) clauses ∙ ap (λ (ls : List InstanceLine). list_all (truth_of m) (formulas_in ls)) (sym lines);
    }
