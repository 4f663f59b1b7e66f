use Rattle.std.proofs.Common.{List, ℕ, length, subst, arith}
use Rattle.std.proofs.lemmas.List.{length-take-le}
use Rattle.theory_trait.specs.Frames.{RiseFrom}
use Rattle.theory_trait.proofs.Contents.{AtomsDiffer-take}
use Rattle.theory_trait.proofs.Opened.{RiseFrom-pop}
use Rattle.theory_trait.proofs.free.FreeTheoryTheory.pop.Goals as goal

pub overflow_sub-self : goal.overflow_sub-self
overflow_sub-self c =
    let content = c.self.inside.content in
    let items = rw c.unwrap-len.ensures at c.pop.ensures.items in
    let parts = RiseFrom-pop 0 c.pop.new.self.items c.unwrap-len.result (length content.items) (subst (λ (frames : List ℕ). RiseFrom 0 frames (length content.items)) items c.self.invariant.0.rise) in
    omega (arith, parts.1, c.len.ensures, content.ok.0)

pub invariant_of-self : goal.invariant_of-self
invariant_of-self c =
    let content = c.self.inside.content in
    let items = rw c.unwrap-len.ensures at c.pop.ensures.items in
    let len = rw c.unwrap-len.ensures at c.pop.ensures.len in
    let parts = RiseFrom-pop 0 c.pop.new.self.items c.unwrap-len.result (length content.items) (subst (λ (frames : List ℕ). RiseFrom 0 frames (length content.items)) items c.self.invariant.0.rise) in (
      record { differ = rw c.truncate.ensures.items (AtomsDiffer-take c.unwrap-len.result content.items c.self.invariant.0.differ); rise = rw (c.truncate.ensures.items, length-take-le c.unwrap-len.result content.items parts.1) parts.0 },
      omega (arith, parts.1, c.len.ensures, content.ok.0, c.truncate.ensures.len, c.truncate.ensures.capacity, c.self.invariant.1),
      omega (arith, len, c.pop.ensures.capacity, c.self.invariant.2),
    )
