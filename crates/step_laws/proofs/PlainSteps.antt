-- A step of the meaning that reads numbers alone is the machine's.
use Rattle.std.proofs.Common.{◌≡◌, ◌⊎◌, inl, inr, ℕ, zero, suc, ◌<◌, ◌≤◌, Bool, true, false, List, length, take, Option}
use Rattle.std.proofs.Common.{Some, None, Result, Ok, Err, refl, sym, ap, subst, ◌∙◌, arith}
use Rattle.std.specs.Prelude.{IfSome}
use Rattle.std.specs.List.{list_any}
use Rattle.std.proofs.lemmas.Bool.{cases_lt}
use Rattle.amd64_subset.specs.declared.instr.Decoded.{Decoded}
use Rattle.amd64_subset.specs.Beginning.{begins_of}
use Rattle.amd64_subset.specs.Decoding.{decoded}
use Rattle.amd64_subset.specs.Spelling.{HasField}
use Rattle.address_map.specs.Map.{owner_at}
use Rattle.guest_arithmetic.specs.Plain.{plain_operations}
use Rattle.guest_operands.specs.declared.state.State.{State}
use Rattle.guest_operands.specs.declared.stop.Stop.{Stop}
use Rattle.guest_operands.specs.declared.stop.Stop.TheVariants.{Code}
use Rattle.guest_operands.specs.Access.{Accesses, code_at, code_then, fetch_of, next_place}
use Rattle.guest_operands.specs.Frame.{field_at, frame_of}
use Rattle.guest_operands.specs.Use.{After, plus}
use Rattle.guest_machine.specs.Run.{Next, next_of}
use Rattle.guest_machine.specs.Step.{act, act_if, step_of}
use Rattle.guest_machine.specs.Touch.{touched}
use Rattle.job_meaning.specs.declared.values.Byte.{Byte}
use Rattle.job_meaning.specs.declared.values.Flag.{Flag}
use Rattle.job_meaning.specs.declared.values.Word.{Word}
use Rattle.job_meaning.specs.Reading.{place_at}
use Rattle.job_meaning.proofs.Reading.{front-begins, length_of, placed_of}
use Rattle.thread_blocks.specs.Spaces.{no_field}
use Rattle.whole_meaning.specs.declared.marks.Mark.{Mark}
use Rattle.whole_meaning.specs.declared.marks.Mark.TheVariants.{Usual}
use Rattle.whole_meaning.specs.Fields.{address_at, marked_frame, number_in, starts_offset}
use Rattle.whole_meaning.specs.Meanings.{Meaning}
use Rattle.whole_meaning.specs.Reading.{acted, done, hindered, hindrance, marked_step, own_touches, plain_step}
use Rattle.whole_meaning.specs.Reading.{reaches_linker}
use Rattle.whole_meaning.specs.Threads.{Meant, Memory, held_next, meant_accesses, meant_mark, meant_shut, ops}
use Rattle.step_laws.specs.Laws.{PlainStepsAreTheMachines}
use Rattle.step_laws.specs.Plain.{DoesRead, HasNumbers, IsAfter, IsReadWhole, IsTheMachines, bytes_touched, numbered}
use Rattle.step_laws.specs.Plain.{undefined_by}
use Rattle.step_laws.specs.Steps.{fetched}
use Rattle.step_laws.proofs.After.{Same}
use Rattle.step_laws.proofs.Hindrances.{place-behind, stays-none, unhindered, unread-free, usual-free}
use Rattle.step_laws.proofs.Machine.{act-same, bare}
use Rattle.step_laws.proofs.MeantSteps.{meant-open, own-step, step-is}
use Rattle.step_laws.proofs.NeededSteps.{OpenTo}
use Rattle.step_laws.proofs.Reach.{touches-free}

module _ (mark : ℕ → Mark) (here : ℕ) (bytes : List ℕ) (whole : IsReadWhole mark here bytes) where
  -- each byte of the instruction is a usual one
  usual : (d : Decoded) → decoded bytes ≡ Some d → (k : ℕ) → k < d.len → mark (place_at here k) ≡ Usual
  usual d e k low = whole.usual k (within (whole.decides) (cases_lt k whole.size))
    where
      within : (begins_of (take whole.size bytes) ≡ false) ⊎ (length bytes < whole.size)
          → (k < whole.size) ⊎ (whole.size ≤ k) → k < whole.size
      within decides (inl below) = below
      within (inl none) (inr above) =
          let begun : begins_of (take whole.size bytes) ≡ true = front-begins bytes d whole.size e (omega arith) in
          absurd cc
      within (inr short) (inr above) = let long : d.len ≤ length bytes = length_of bytes d e in absurd (omega arith)

  -- no field begins in a part of the instruction
  part-bare : (d : Decoded) → decoded bytes ≡ Some d → (o : Option ℕ) (n : ℕ) → IfSome o (HasField d.len)
      → (field_at (λ place. starts_offset (mark place)) here o ≡ None) × (number_in mark here o n ≡ n)
      × (address_at mark here o ≡ None)
  part-bare d e None n h = (refl, refl, refl)
  part-bare d e (Some at) n h =
      let is : mark (plus here at) ≡ Usual = ap mark (sym (place-behind at here h.0))
      ∙ usual d e at (omega (arith, h.0, h.1)) in
      (rw is refl, rw is refl, rw is refl)

no-field-at : (here : ℕ) (o : Option ℕ) → field_at (λ place. false) here o ≡ None
no-field-at here None = refl
no-field-at here (Some at) = refl

module _ {M : Type 0} (acc : Accesses M Byte) (m : M) (opened : OpenTo acc m) (mark : ℕ → Mark) (shut : ℕ → Bool)
    (s : State Word Flag) (s' : State ℕ Bool)
    (same : HasNumbers s s') (whole : IsReadWhole mark s.place (fetch_of acc m s.place)) where
  abbrev bytes : List ℕ
  bytes = fetch_of acc m s.place

  code-same : (size place : ℕ) → code_at (numbered acc) m place size ≡ code_at acc m place size
  code-same zero place = refl
  code-same (suc size) place = ap (code_then (acc.code m place)) (code-same size (next_place place))

  fetch-same : fetch_of (numbered acc) m s'.place ≡ bytes
  unfolding fetch_of
  fetch-same = code-same 15 s'.place ∙ ap (λ (p : ℕ). code_at acc m p 15) same.place

  free : hindrance ops mark s bytes ≡ None
  free = unhindered ops mark s bytes (λ j low. each j low whole.decides (cases_lt j whole.size))
    where
      each : (j : ℕ) → j ≤ length bytes → (begins_of (take whole.size bytes) ≡ false) ⊎ (length bytes < whole.size)
          → (j < whole.size) ⊎ (whole.size ≤ j)
          → hindered ops mark s bytes j ≡ None
      each j low decides (inl below) = usual-free ops mark s bytes j (whole.usual j below)
      each j low (inl none) (inr above) = unread-free ops mark s bytes j (stays-none bytes whole.size j above none)
      each j low (inr short) (inr above) = absurd (omega arith)

  frame-is : (d : Decoded) → decoded bytes ≡ Some d → marked_frame mark s.place d
      ≡ bare owner_at acc m opened d s s' same
  unfolding marked_frame frame_of
  frame-is d e =
      let disp = part-bare mark s.place bytes whole d e d.disp d.instr.displacement (placed_of bytes d e).disp in
      let imm = part-bare mark s.place bytes whole d e d.imm d.instr.immediate (placed_of bytes d e).imm in
      rw (disp.0, disp.1, imm.0, imm.1, same.place) refl

  own-frame : (d : Decoded) → frame_of (λ place. false) s'.place d ≡ bare owner_at acc m opened d s s' same
  unfolding frame_of
  own-frame d = rw (no-field-at s'.place d.disp, no-field-at s'.place d.imm) refl

  no-address : (d : Decoded) → decoded bytes ≡ Some d → address_at mark s.place d.disp ≡ None
  no-address d e = (part-bare mark s.place bytes whole d e d.disp d.instr.displacement (placed_of bytes d e).disp).2

  abbrev Both : Option Decoded → Result (After Word Flag M) Stop → Result (After ℕ Bool M) Stop → Type 0
  Both o r r' = Same (λ a a'. IsAfter (undefined_by o) s s' a.state a'.state
      × (a.memory ≡ a'.memory)) r r'

  acts : (d : Decoded) → decoded bytes ≡ Some d → DoesRead acc m s s' (Some d)
      → Both (Some d) (acted ops acc mark (marked_frame mark s.place d) d s m)
      (act plain_operations (numbered acc) (frame_of (λ place. false) s'.place d) d.instr.operation s' m)
  acts d e reads =
      rw (no-address d e, frame-is d e, own-frame d)
      (act-same owner_at acc m opened d s s' same d.instr.operation reads.registers reads.flags reads.bytes)

  does : (o : Option Decoded) → decoded bytes ≡ o → DoesRead acc m s s' o
      → Both o (done ops acc mark None o s m) (act_if plain_operations (numbered acc) (λ place. false) o s' m)
  does None e reads = (tt, ap Code same.place)
  does (Some d) e reads = acts d e reads

  apart : (o : Option Decoded) → decoded bytes ≡ o → DoesRead acc m s s' o
      → list_any shut (bytes_touched acc m s' o) ≡ false
      → list_any shut (touched acc m (own_touches ops mark s o)) ≡ false
  unfolding touched
  apart None e reads h = refl
  apart (Some d) e reads h =
      rw (no-address d e, frame-is d e) (touches-free acc m shut owner_at opened d s s' same d.instr.operation
      reads.registers h)

  reaches-none : shut s.place ≡ false → DoesRead acc m s s' (decoded bytes)
      → list_any shut (bytes_touched acc m s' (decoded bytes)) ≡ false
      → reaches_linker ops acc mark shut s m ≡ false
  unfolding reaches_linker
  reaches-none outside reads h = rw outside (apart (decoded bytes) refl reads h)

  pub step-same : shut s.place ≡ false → DoesRead acc m s s' (decoded bytes)
      → list_any shut (bytes_touched acc m s' (decoded bytes)) ≡ false
      → Both (decoded bytes) (marked_step ops acc mark shut s m)
      (step_of plain_operations (numbered acc) (λ place. false) s' m)
  unfolding marked_step plain_step step_of
  step-same outside reads h = rw (reaches-none outside reads h, free, fetch-same) (does (decoded bytes) refl reads)

module _ (m : Meaning) (thread : ℕ) (h : Meant) (s' : State ℕ Bool) where
  goes-on : (o : Option Decoded) (r : Result (After Word Flag Memory) Stop) (r' : Result (After ℕ Bool Memory) Stop)
      → Same (λ a a'. IsAfter (undefined_by o) h.after.state s' a.state a'.state
      × (a.memory ≡ a'.memory)) r r'
      → IsTheMachines o h s' (held_next m thread h (next_of r)) r'
  goes-on o (Ok a) (Ok a') k = (k.0, k.1, refl, refl)
  goes-on o (Ok a) (Err stop) k = k
  goes-on o (Err stop) (Ok a') k = k
  goes-on o (Err stop) (Err stop') k = k

pub the_machines : PlainStepsAreTheMachines
the_machines m thread h s' same plain =
    let acc = meant_accesses m thread in
    let own = sym (own-step m thread h) ∙ step-is m thread acc h plain.starts in
    subst (λ (n : Next Meant). IsTheMachines (decoded (fetched m thread h)) h s' n
    (step_of plain_operations (numbered acc) (no_field h.after.memory) s' h.after.memory))
    (sym own)
    (goes-on m thread h s' (decoded (fetched m thread h)) _ _
    (step-same acc h.after.memory (meant-open m thread h.after.memory) (meant_mark m thread h.after.memory)
    (meant_shut m thread h.after.memory) h.after.state s' same plain.whole
    plain.outside plain.reads plain.apart))
