-- The three pieces are the text, with the question marks that were counted.
use Rattle.std.proofs.Common.{◌≡◌, ℕ, List, ◌++◌, codes, ap, ◌∙◌, append_assoc}
use Rattle.smtlib_printer.specs.Names.{marks_of}
use Rattle.smtlib_printer.proofs.Pieces.{written}
use Rattle.refutation_text.specs.RefutationText.{instances_text, refutation_text}
use Rattle.refutation_text.proofs.write_refutation.Goals as goal

three : (old a b c : List ℕ) → ((old ++ a) ++ b) ++ c ≡ old ++ (a ++ (b ++ c))
three old a b c = simp append_assoc

three_pieces : (old v w a b c : List ℕ) → v ≡ old ++ a → w ≡ v ++ b → w ++ c ≡ old ++ (a ++ (b ++ c))
three_pieces old v w a b c p q = cc (three old a b c)

pub returns-clause-ok : goal.returns-clause-ok
unfolding refutation_text
returns-clause-ok c =
    let before = c.extend_from_slice.new.self.items in
    written c.extend_from_slice-2.result _ _ _ _ c.extend_from_slice-2.ensures.items
    (three_pieces c.args.into.now.items before c.write_instances.new.into.items
    (codes "unsat\n(refutation 1\n") (instances_text c.args.script.now (marks_of c.args.script.now) c.args.lines.now) (codes ")\n")
    c.in_ok-extend_from_slice.ensures.items
    (c.in_ok-write_instances.ensures.ok ∙ ap (λ marks. before ++ instances_text c.args.script.now marks c.args.lines.now) c.question_marks.ensures.value))
