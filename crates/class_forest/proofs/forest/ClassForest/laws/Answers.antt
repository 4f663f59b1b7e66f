use Rattle.std.proofs.Common.{◌∙◌, sym}
use Rattle.std.proofs.lemmas.Bool.{eq-eqb, eqb-true}
use Rattle.class_forest.proofs.Joining.{class_of-joined, IsJoined-same_class}
use Rattle.class_forest.proofs.Members.{has-members}
use Rattle.class_forest.proofs.Rooms.{length-log}
use Rattle.class_forest.proofs.forest.ClassForest.laws.Goals as goal

pub returns-clause-valid : goal.returns-clause-valid
returns-clause-valid c = rw (← c.self.view_is) c.self.invariant.0.valid

pub returns-clause-fewer : goal.returns-clause-fewer
returns-clause-fewer c = rw (← c.self.view_is) (length-log _ _ c.self.invariant.0.valid)

pub returns-clause-joined : goal.returns-clause-joined
returns-clause-joined c = rw (← c.self.view_is) (λ x y. (IsJoined-same_class _ _ c.self.invariant.0.valid x y, class_of-joined _ _ c.self.invariant.0.valid x y))

pub returns-clause-members : goal.returns-clause-members
returns-clause-members c =
    let has_is = has-members _ _ c.self.invariant.0.valid in
    rw (← c.self.view_is) (λ class node. (λ is. sym (eqb-true class _ (sym (has_is class node) ∙ is)), λ is. has_is class node ∙ eq-eqb class _ (sym is)))
