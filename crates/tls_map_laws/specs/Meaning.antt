-- What the meaning's steps and its looks in the middle of a line do. A sequence stores nothing.
use Rattle.std.specs.Prelude.{ℕ, List, Option, Some, None, Result, Ok, Err}
use Rattle.guest_operands.specs.declared.stop.Stop.{Stop}
use Rattle.guest_machine.specs.Use.{After}
use Rattle.job_meaning.specs.declared.values.Byte.{Byte}
use Rattle.job_meaning.specs.declared.values.Flag.{Flag}
use Rattle.job_meaning.specs.declared.values.Word.{Word}
use Rattle.loaded_modules.specs.declared.instance.Instance.{Instance}
use Rattle.module_table.specs.declared.events.Event.{Event}
use Rattle.thread_blocks.specs.Instances.{numbered_instance}
use Rattle.whole_meaning.specs.declared.sequences.Sequence.{Sequence}
use Rattle.whole_meaning.specs.Meanings.{Meaning}
use Rattle.whole_meaning.specs.Reading.{plain_step}
use Rattle.whole_meaning.specs.Threads.{Meant, code_owner, meant_accesses, meant_mark, ops, sequence_at}
use Rattle.tls_map_laws.specs.Map.{Act}
use Rattle.tls_map_laws.specs.Acts.{Noted, noting}

module _ (m : Meaning) (thread : ℕ) where
  -- ** a step: the meaning's own, over a memory that notes its stores

  -- a step that is refused or unclean does nothing
  abbrev pub result_acts : List (Act Byte) → Result (After Word Flag (Noted m.loads thread)) Stop → List (Act Byte)
  result_acts acts (Ok at) = at.memory.acts
  result_acts acts (Err stop) = acts

  abbrev pub noted_plain : List (Act Byte) → Meant → Result (After Word Flag (Noted m.loads thread)) Stop
  noted_plain acts h = plain_step ops (noting m.loads thread (meant_accesses m thread))
      (meant_mark m thread h.after.memory) h.after.state (record { space = h.after.memory; acts = acts })

  abbrev pub acts_at : Option Sequence → List (Act Byte) → Meant → List (Act Byte)
  acts_at (Some s) acts h = acts
  acts_at None acts h = result_acts acts (noted_plain acts h)

  abbrev pub meant_acts : List (Act Byte) → Meant → List (Act Byte)
  meant_acts acts h = acts_at (sequence_at m thread h.after.memory.seen h.after.state.place) acts h

  -- ** a look in the middle of a line

  -- the live instance whose variable the sequence asks for, if the instance in whose code it stands is still live
  abbrev pub asks_for : List Event → Option Sequence → Option Instance
  asks_for seen None = None
  asks_for seen (Some s) = numbered_instance m.loads seen s.target

  abbrev pub asks_from : List Event → ℕ → Option Instance → Option Instance
  asks_from seen place None = None
  asks_from seen place (Some x) = asks_for seen (sequence_at m thread seen place)

  abbrev pub meant_asks : List Event → Meant → Option Instance
  meant_asks seen h = asks_from seen h.after.state.place (code_owner m thread seen h.after.state.place)
