-- What a thread does, read off from its looks and stores: the one place where addresses of blocks are told.
use Rattle.std.specs.Prelude.{◌-◌, ◌&&◌, ℕ, Bool, List, [], ◌∷◌, length, map, nat_le, nat_lt, is_some, if◌then◌else◌}
use Rattle.std.specs.List.{filter}
use Rattle.guest_machine.specs.Access.{Accesses}
use Rattle.loaded_modules.specs.declared.instance.Instance.{Instance}
use Rattle.module_table.specs.declared.events.Event.{Event}
use Rattle.thread_blocks.specs.Instances.{Loads, block_start, instances}
use Rattle.thread_blocks.specs.Spaces.{Space}
use Rattle.tls_map_laws.specs.Map.{Act, Looked, Wrote, has_storage}

abbrev pub numbers : List Instance → List ℕ
numbers xs = map (λ (x : Instance). x.number) xs

-- a look at these live instances
abbrev pub look_of : {B : Type 0} → List Instance → Act B
look_of live = Looked (numbers live) (numbers (filter (λ (x : Instance). is_some x.offset) live))

module _ {B : Type 0} (l : Loads B) (thread : ℕ) where
  -- whether a place lies where the thread's block of an instance does
  abbrev pub is_in : Instance → ℕ → Bool
  is_in x place =
      nat_le (block_start thread x) place && nat_lt (place - block_start thread x) (length (l.block x))

  -- a store: a write to the storage that the thread has there, if it has any there
  abbrev pub stored_in : List Instance → ℕ → B → List (Act B) → List (Act B)
  stored_in [] place byte acts = acts
  stored_in (x ∷ xs) place byte acts =
      if has_storage x.number acts && is_in x place
      then Wrote x.number (place - block_start thread x) byte ∷ acts
      else stored_in xs place byte acts

  -- a memory, and what its thread did so far, the newest first
  pub record Noted : Type 0 where
    pub space : Space Event B
    pub acts : List (Act B)

  -- a memory that does what another does, and notes its stores
  abbrev pub noting : Accesses (Space Event B) B → Accesses Noted B
  noting acc = record {
    byte = λ noted place. acc.byte noted.space place;
    writes = λ noted place. acc.writes noted.space place;
    put = λ noted place byte. record {
      space = acc.put noted.space place byte;
      acts = stored_in (instances l noted.space.seen) place byte noted.acts;
    };
    code = λ noted place. acc.code noted.space place;
  }
