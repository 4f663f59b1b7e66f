use Rattle.mbqi_edge.proofs.memory_shelf.MemoryShelfShelf.fetch.Goals as goal

pub returns-in-Err-Failed-clause-failed : goal.returns-in-Err-Failed-clause-failed
returns-in-Err-Failed-clause-failed c is_failed =
    rw (← c.self.view_is, ← c.as_bytes-2.ensures.value) (c.read-fetched.ensures.failed is_failed)
