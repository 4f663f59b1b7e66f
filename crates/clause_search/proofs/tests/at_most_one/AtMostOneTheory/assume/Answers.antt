use Rattle.std.proofs.Common.{◌≡◌, ◌⊎◌, inl, inr, false, true, ◌++◌, ◌∷◌, [], find, None, Some, refl, sym, ◌∙◌}
use Rattle.theory_trait.proofs.Contents.{freely_true}
use Rattle.clause_search.specs.AtMostOne.{at_most_one}
use Rattle.clause_search.proofs.SoleTruths.{agreed, clash_has_none, clash_kept, has_sole, one_more}
use Rattle.clause_search.proofs.tests.at_most_one.AtMostOneTheory.assume.Goals as goal
use Rattle.clause_search.proofs.tests.at_most_one.AtMostOneTheory.assume.Goals.{in_default-via-in-Some+else-lit, in_default-via-in_default}

pub invariant_of-self : goal.invariant_of-self
invariant_of-self c =
    let content = c.args.self.now.literals.content in
    let found : find (λ l. l.yes) content ≡ Some c.in-Some.other =
    rw c.content.ensures.content at (sym c.true_literal.ensures ∙ c.in-Some.is) in
    record { one = c.args.self.now.one; kept = clash_kept content c.in-Some.other c.args.lit found c.if-lit.true c.requires.free }

pub invariant_of-self-in_default : goal.invariant_of-self-in_default
invariant_of-self-in_default c =
    let content = c.args.self.now.literals.content in
    let may : (c.true_literal.result ≡ None) ⊎ (c.args.lit.yes ≡ false) = elim c.in_default.branch
    [ in_default-via-in-Some+else-lit w ↦ inr w.if-lit.false | in_default-via-in_default w ↦ inl w.in_default.is ] in
    let may_be : (find (λ l. l.yes) content ≡ None) ⊎ (c.args.lit.yes ≡ false) =
    rw (c.true_literal.ensures, c.content.ensures.content) at may in
    let added : c.assume.new.self.content ≡ content ++ c.args.lit ∷ [] =
    rw (agreed c.assume.result c.args.lit c.assume.ensures.clashed) at c.assume.ensures.agree in
    record { one = rw added (one_more content c.args.lit may_be c.args.self.now.one); kept = refl }

pub returns-in-Some-clause-has : goal.returns-in-Some-clause-has
returns-in-Some-clause-has c =
    let theory = c.args.self.now in
    has_sole theory.literals.atoms theory.literals.content theory.one
    (freely_true theory.literals.atoms theory.literals.content c.content.ensures.differ)

pub returns-in-Some-clause-none : goal.returns-in-Some-clause-none
returns-in-Some-clause-none c =
    let content = c.args.self.now.literals.content in
    let found : find (λ l. l.yes) content ≡ Some c.in-Some.other =
    rw c.content.ensures.content at (sym c.true_literal.ensures ∙ c.in-Some.is) in
    clash_has_none c.args.self.now.literals.atoms content c.in-Some.other c.args.lit found c.if-lit.true c.requires.free

pub returns-in_default-clause-has : goal.returns-in_default-clause-has
returns-in_default-clause-has c =
    let content = c.args.self.now.literals.content in
    let may : (c.true_literal.result ≡ None) ⊎ (c.args.lit.yes ≡ false) = elim c.in_default.branch
    [ in_default-via-in-Some+else-lit w ↦ inr w.if-lit.false | in_default-via-in_default w ↦ inl w.in_default.is ] in
    let may_be : (find (λ l. l.yes) content ≡ None) ⊎ (c.args.lit.yes ≡ false) =
    rw (c.true_literal.ensures, c.content.ensures.content) at may in
    let added : c.assume.new.self.content ≡ content ++ c.args.lit ∷ [] =
    rw (agreed c.assume.result c.args.lit c.assume.ensures.clashed) at c.assume.ensures.agree in
    let one : at_most_one c.assume.new.self.content ≡ true = rw added (one_more content c.args.lit may_be c.args.self.now.one) in
    has_sole c.assume.new.self.atoms c.assume.new.self.content one c.assume.ensures.has
