-- The conditions on an instance of a job, and on the numbers that its run gave to instances.
use Rattle.std.specs.Prelude.{◌≡◌, ◌≢◌, ◌<◌, ◌≤◌, ◌^◌, ℕ, true, false, List, Some, IsSome, IfSome}
use Rattle.link_faults.specs.declared.symbol_ref.SymbolRef.{SymbolRef}
use Rattle.link_faults.specs.ImageKinds.{is_module}
use Rattle.link_needs.specs.Linking.{Linking, block_offset, offset}
use Rattle.link_needs.specs.Values.{counts_from_thread_pointer}
use Rattle.loaded_bytes.specs.Laws.{images_of}
use Rattle.loaded_modules.specs.declared.instance.Instance.{Instance}
use Rattle.loaded_modules.specs.Images.{static_offset}
use Rattle.loaded_modules.specs.Loader.{export_of}
use Rattle.module_table.specs.Past.{startup_count}
use Rattle.thread_blocks.specs.JobLoads.{job_loads}
use Rattle.thread_blocks.specs.Turns.{at_number}
use Rattle.tied_meaning.specs.Numbers.{Setting}
use Rattle.tls_symbols.specs.Definitions.{definition_of}
use Rattle.whole_meaning.specs.Loads.{wants_surplus}

-- the numbers of an instance of link l: the program is instance 1, its blocks begin right below the thread pointer,
-- and the id of a startup instance is its number
pub record IsCounted (ls : List Linking) (l : Linking) (x : Instance) : Type 0 where
  pub some : 0 < x.number
  pub few : x.number < 2 ^ 12
  pub low : x.id < 2 ^ 32
  pub near : IfSome x.offset (λ (o : ℕ). o < 2 ^ 28)
  pub startup : x.number ≤ startup_count (job_loads (images_of ls)).infos → x.id ≡ x.number
  pub program : is_module l.kind ≡ false → (x.number ≡ 1) × (x.offset ≡ Some (block_offset l))
  pub early : is_module l.kind ≡ false → x.number ≤ startup_count (job_loads (images_of ls)).infos
  pub later : is_module l.kind ≡ true → x.number ≢ 1
  -- a module whose code finds a variable at a fixed distance from the thread pointer has its blocks below it
  pub surplus : wants_surplus l ≡ true → IsSome x.offset

-- the name that startup image k exports is that of a variable of its objects, and the first export of that name
pub record IsShared (ls : List Linking) (name : List ℕ) (k : ℕ) : Type 0 where
  pub link : Linking
  pub found : SymbolRef
  pub at : at_number ls k ≡ Some link
  pub defined : definition_of link.objects name ≡ Some found
  pub export : export_of (images_of ls) name ≡ Some (record { image = k; offset = offset link found })
  pub some : 0 < k
  pub early : k ≤ startup_count (job_loads (images_of ls)).infos
  pub low : k < 2 ^ 12
  pub small : offset link found < 2 ^ 30

-- the setting knows the instance, and the startup ones, whose blocks begin where their images' sizes say; and whether
-- the program's Local Dynamic code is rewritten
pub record Knows (g : Setting) (ls : List Linking) (l : Linking) (x : Instance) : Type 0 where
  pub own : g.known x.number ≡ Some x
  pub startup : (k : ℕ) → 0 < k → k ≤ startup_count (job_loads (images_of ls)).infos
      → (y : Instance) × ((g.known k ≡ Some y) × (y.offset ≡ Some (static_offset (images_of ls) k)))
  pub near : (k : ℕ) → 0 < k → k ≤ startup_count (job_loads (images_of ls)).infos
      → static_offset (images_of ls) k < 2 ^ 28
  pub counts : x.number ≡ 1 → g.counts_from_pointer ≡ counts_from_thread_pointer l
