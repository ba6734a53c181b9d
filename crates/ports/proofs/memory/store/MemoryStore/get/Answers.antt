use Rattle.std.proofs.Common.{ℕ, Some, Vec, Global, ap, sym, ◌∙◌}
use Rattle.std.specs.Option.{option_map}
use Rattle.ports.specs.Files.{file_at}
use Rattle.ports.specs.States.{StoreState}
use Rattle.ports.proofs.Lookups.{file_at-files_of}
use Rattle.ports.proofs.memory.store.MemoryStore.get.Goals as goal

pub returns-in-Some : goal.returns-in-Some
returns-in-Some c =
    ap Some c.as_slice.ensures.value ∙ ap (option_map (λ (v : Vec ℕ Global). v.items)) c.in-Some.ensures.value
    ∙ sym (file_at-files_of c.self.inside.files c.args.name.now)
    ∙ ap (λ (s : StoreState). file_at s.files c.args.name.now) c.self.view_is

pub returns-in-None : goal.returns-in-None
returns-in-None c =
    ap (option_map (λ (v : Vec ℕ Global). v.items)) c.in-None.ensures.value
    ∙ sym (file_at-files_of c.self.inside.files c.args.name.now)
    ∙ ap (λ (s : StoreState). file_at s.files c.args.name.now) c.self.view_is
