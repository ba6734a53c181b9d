-- What the machine's steps and its looks in the middle of a line do. An answer of the run time stores nothing.
use Rattle.std.specs.Prelude.{ℕ, Bool, List, Option, Some, None, is_none, if◌then◌else◌}
use Rattle.guest_arithmetic.specs.Plain.{plain_operations}
use Rattle.guest_machine.specs.Run.{Next, Goes, Ends, Looks, machine}
use Rattle.guest_machine.specs.Use.{After, left}
use Rattle.loaded_modules.specs.declared.instance.Instance.{Instance}
use Rattle.module_table.specs.declared.events.Event.{Event}
use Rattle.thread_blocks.specs.declared.asked.Asked.{Asked}
use Rattle.thread_blocks.specs.Instances.{Loads, instance_with_id, numbered_instance}
use Rattle.thread_blocks.specs.RunTime.{Runs, thread_accesses}
use Rattle.thread_blocks.specs.Spaces.{no_field}
use Rattle.tls_map_laws.specs.Map.{Act}
use Rattle.tls_map_laws.specs.Acts.{Noted, noting}

module _ (l : Loads ℕ) (thread : ℕ) where
  -- ** a step: the machine's own, over a memory that notes its stores

  -- a step that is refused does nothing
  abbrev pub noted_acts : List (Act ℕ) → Next (After ℕ Bool (Noted l thread)) → List (Act ℕ)
  noted_acts acts (Goes at) = at.memory.acts
  noted_acts acts (Ends stop) = acts
  noted_acts acts (Looks at) = at.memory.acts

  abbrev pub noted_start : List (Act ℕ) → Runs → After ℕ Bool (Noted l thread)
  noted_start acts h = left h.after.state (record { space = h.after.memory; acts = acts })

  abbrev pub noted_step : List (Act ℕ) → Runs → Next (After ℕ Bool (Noted l thread))
  noted_step acts h =
      (machine plain_operations (noting l thread (thread_accesses l thread)) no_field).step (noted_start acts h)

  abbrev pub machine_acts : List (Act ℕ) → Runs → List (Act ℕ)
  machine_acts acts h = noted_acts acts (noted_step acts h)

  -- ** a look in the middle of a line

  -- the live instance with the module id that is asked for, if the instance that asks is still live
  abbrev pub asks_in : List Event → Option Asked → Option Instance
  asks_in seen None = None
  asks_in seen (Some asked) = if is_none (numbered_instance l seen asked.asking)
      then None
      else instance_with_id l seen asked.id

  abbrev pub machine_asks : List Event → Runs → Option Instance
  machine_asks seen h = asks_in seen h.asked
