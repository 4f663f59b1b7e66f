-- The texts of formulas by their kinds, as the pieces that are written one behind the other.
use Rattle.std.proofs.Common.{◌≡◌, ℕ, List, ◌++◌, map, codes, sym, ap, ◌∙◌}
use Rattle.mbqi_terms.specs.declared.formula.Formula.{Formula}
use Rattle.mbqi_terms.specs.declared.formula.Formula.TheFolds.{fold-roll-Formula}
use Rattle.mbqi_terms.specs.declared.formula.Formula.TheOpen.{Formula-F}
use Rattle.mbqi_terms.specs.declared.formula.Formula.TheVariants as formula
use Rattle.mbqi_terms.specs.declared.script.Script.{Script}
use Rattle.mbqi_terms.specs.declared.sort.Binder.{Binder}
use Rattle.smtlib_printer.specs.Text.{binders_text, formula_layer, formula_text_with, spaced_rest}
use Rattle.smtlib_printer.proofs.Pieces.{one_part, parts, three_parts, two_parts}

pub not_text : (script : Script) (marks : ℕ) (f : Formula) → formula_text_with script marks (formula.Not f) ≡ codes "(not " ++ (formula_text_with script marks f ++ codes ")")
not_text script marks f =
    ap (formula_text_with script marks) (sym (formula.rolls-Not f))
    ∙ (fold-roll-Formula (List ℕ) (formula_layer script marks) (Formula-F.Not f)
    ∙ one_part (codes "not") (formula_text_with script marks f))

pub all_text : (script : Script) (marks : ℕ) (fs : List Formula) → formula_text_with script marks (formula.All fs) ≡ codes "(and" ++ (spaced_rest (map (formula_text_with script marks) fs) ++ codes ")")
all_text script marks fs =
    ap (formula_text_with script marks) (sym (formula.rolls-All fs))
    ∙ (fold-roll-Formula (List ℕ) (formula_layer script marks) (Formula-F.All fs)
    ∙ parts (codes "and") (map (formula_text_with script marks) fs))

pub any_text : (script : Script) (marks : ℕ) (fs : List Formula) → formula_text_with script marks (formula.Any fs) ≡ codes "(or" ++ (spaced_rest (map (formula_text_with script marks) fs) ++ codes ")")
any_text script marks fs =
    ap (formula_text_with script marks) (sym (formula.rolls-Any fs))
    ∙ (fold-roll-Formula (List ℕ) (formula_layer script marks) (Formula-F.Any fs)
    ∙ parts (codes "or") (map (formula_text_with script marks) fs))

pub iff_text : (script : Script) (marks : ℕ) (f g : Formula) → formula_text_with script marks (formula.Iff f g) ≡ codes "(= " ++ (formula_text_with script marks f ++ (codes " " ++ (formula_text_with script marks g ++ codes ")")))
iff_text script marks f g =
    ap (formula_text_with script marks) (sym (formula.rolls-Iff f g))
    ∙ (fold-roll-Formula (List ℕ) (formula_layer script marks) (Formula-F.Iff f g)
    ∙ two_parts (codes "=") (formula_text_with script marks f) (formula_text_with script marks g))

pub choose_text : (script : Script) (marks : ℕ) (c f g : Formula) → formula_text_with script marks (formula.Choose c f g) ≡ codes "(ite " ++ (formula_text_with script marks c ++ (codes " " ++ (formula_text_with script marks f ++ (codes " " ++ (formula_text_with script marks g ++ codes ")")))))
choose_text script marks c f g =
    ap (formula_text_with script marks) (sym (formula.rolls-Choose c f g))
    ∙ (fold-roll-Formula (List ℕ) (formula_layer script marks) (Formula-F.Choose c f g)
    ∙ three_parts (codes "ite") (formula_text_with script marks c) (formula_text_with script marks f) (formula_text_with script marks g))

pub forall_text : (script : Script) (marks : ℕ) (binders : List Binder) (f : Formula) → formula_text_with script marks (formula.Forall binders f) ≡ codes "(forall " ++ (binders_text script marks binders ++ (codes " " ++ (formula_text_with script marks f ++ codes ")")))
forall_text script marks binders f =
    ap (formula_text_with script marks) (sym (formula.rolls-Forall binders f))
    ∙ (fold-roll-Formula (List ℕ) (formula_layer script marks) (Formula-F.Forall binders f)
    ∙ two_parts (codes "forall") (binders_text script marks binders) (formula_text_with script marks f))

pub exists_text : (script : Script) (marks : ℕ) (binders : List Binder) (f : Formula) → formula_text_with script marks (formula.Exists binders f) ≡ codes "(exists " ++ (binders_text script marks binders ++ (codes " " ++ (formula_text_with script marks f ++ codes ")")))
exists_text script marks binders f =
    ap (formula_text_with script marks) (sym (formula.rolls-Exists binders f))
    ∙ (fold-roll-Formula (List ℕ) (formula_layer script marks) (Formula-F.Exists binders f)
    ∙ two_parts (codes "exists") (binders_text script marks binders) (formula_text_with script marks f))
