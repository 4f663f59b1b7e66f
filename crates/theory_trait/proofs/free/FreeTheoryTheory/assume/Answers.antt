use Rattle.std.proofs.Common.{◌+◌, length, arith}
use Rattle.std.proofs.lemmas.List.{length_push}
use Rattle.theory_trait.proofs.Contents.{freely_true, AtomsDiffer-push}
use Rattle.theory_trait.proofs.Opened.{RiseFrom-higher}
use Rattle.theory_trait.proofs.free.FreeTheoryTheory.assume.Goals as goal

pub returns-clause-has : goal.returns-clause-has
returns-clause-has c =
    let items = rw c.unwrap.ensures at c.push.ensures.items in
    let free = rw (← c.self.view_is) at c.requires.free in
    rw items (freely_true c.self.inside.atoms _ (AtomsDiffer-push c.self.inside.content.items c.args.lit c.self.invariant.0.differ free))

pub invariant_of-self : goal.invariant_of-self
invariant_of-self c =
    let content = c.self.inside.content in
    let items = rw c.unwrap.ensures at c.push.ensures.items in
    let len = rw c.unwrap.ensures at c.push.ensures.len in
    let free = rw (← c.self.view_is) at c.requires.free in
    let spare = rw (← c.self.view_is) at c.requires.spare in
    let rise = RiseFrom-higher 0 c.self.inside.frames.items (length content.items) (length content.items + 1) c.self.invariant.0.rise (omega arith) in (
      record { differ = rw items (AtomsDiffer-push content.items c.args.lit c.self.invariant.0.differ free); rise = rw (items, length_push content.items c.args.lit) rise },
      omega (arith, len, spare, c.push.ensures.capacity, c.self.invariant.1),
      c.self.invariant.2,
    )
