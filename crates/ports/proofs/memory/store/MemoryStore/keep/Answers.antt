use Rattle.ports.proofs.Lookups.{files_of-update}
use Rattle.ports.proofs.memory.store.MemoryStore.keep.Goals as goal

pub returns-clause-ok : goal.returns-clause-ok
returns-clause-ok c =
    rw (
      files_of-update c.self.inside.files c.insert.new.self _ _ c.in_ok-insert.ensures.updates,
      ← c.self.view_is,
      c.in_ok-name.ensures.ok,
    )
