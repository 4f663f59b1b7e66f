use Rattle.std.proofs.Common.{◌≡◌, length, arith}
use Rattle.theory_trait.proofs.Opened.{RiseFrom-push}
use Rattle.theory_trait.proofs.free.FreeTheoryTheory.push.Goals as goal

pub invariant_of-self : goal.invariant_of-self
invariant_of-self c =
    let items = rw c.unwrap.ensures at c.push.ensures.items in
    let len = rw c.unwrap.ensures at c.push.ensures.len in
    let spare = rw (← c.self.view_is) at c.requires in
    let high : c.len.result ≡ length c.self.inside.content.items = omega (arith, c.len.ensures, c.self.inside.content.ok.0) in (
      record { differ = c.self.invariant.0.differ; rise = rw (items, high) (RiseFrom-push 0 c.self.inside.frames.items (length c.self.inside.content.items) c.self.invariant.0.rise) },
      c.self.invariant.1,
      omega (arith, len, spare, c.push.ensures.capacity, c.self.invariant.2),
    )
