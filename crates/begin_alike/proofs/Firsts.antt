-- The first states of threads, and the data before the first turn, are related.
use Rattle.std.proofs.Common.{◌≡◌, ◌≤◌, ℕ, zero, suc, ◌+◌, true, false, List, [], ◌∷◌, ◌++◌, All, length, Option, Some}
use Rattle.std.proofs.Common.{None, refl, sym, ap, subst, inr, arith}
use Rattle.std.specs.Prelude.{Bool, slice_get}
use Rattle.std.specs.List.{flat_map}
use Rattle.std.specs.Option.{option_or}
use Rattle.std.proofs.lemmas.List.Elements.{All-append, All-cons, All-nil}
use Rattle.std.proofs.lemmas.Option.{slice_get_within}
use Rattle.guest_arithmetic.specs.Plain.{plain_operations}
use Rattle.guest_machine.specs.Ranges.{Range}
use Rattle.guest_machine.specs.State.{start_of}
use Rattle.guest_machine.specs.Use.{left}
use Rattle.job_meaning.specs.declared.values.Byte.{Byte}
use Rattle.job_text.specs.declared.thread_lines.ThreadLine.{ThreadLine}
use Rattle.loaded_modules.specs.declared.instance.Instance.{Instance}
use Rattle.module_table.specs.declared.events.Event.{Event}
use Rattle.thread_blocks.specs.Held.{Owned, block_after, data_after, data_bytes, data_with, fresh_data, held_of}
use Rattle.thread_blocks.specs.Held.{is_block}
use Rattle.thread_blocks.specs.Instances.{Loads, instances}
use Rattle.thread_blocks.specs.JobWorlds.{numbered_lines, thread_ready, ready_from, first_data, job_start}
use Rattle.thread_blocks.specs.Lines.{Line}
use Rattle.thread_blocks.specs.RunTime.{Runs}
use Rattle.thread_blocks.specs.SpaceLaws.{FoundAlike}
use Rattle.thread_blocks.specs.Turns.{Thread, ready}
use Rattle.thread_blocks.specs.Turns.{IsFront}
use Rattle.whole_meaning.specs.Meanings.{Meaning}
use Rattle.whole_meaning.specs.Threads.{Meant, ops}
use Rattle.order_laws.specs.Alike.{SameOne}
use Rattle.tied_meaning.specs.Numbers.{Setting}
use Rattle.tied_meaning.specs.Ties.{AreTied}
use Rattle.tied_meaning.specs.Threads.{AtRest, IsPlaced, SameData, Waiting}
use Rattle.held_alike.specs.Held.{SameHeld}
use Rattle.held_alike.proofs.Looks.{held_of_alike, live_same}
use Rattle.begin_alike.specs.Laws.{JobsStartAlike, SameJob}
use Rattle.begin_alike.proofs.Rests.{look_rests}

-- ** what is loaded first is data, and no block

module _ {B : Type 0} (l : Loads B) where
  no_blocks : (thread : ℕ) (live : List Instance) → flat_map (block_after l thread (λ x. false) []) live ≡ []
  no_blocks thread [] = refl
  no_blocks thread (x ∷ live) = no_blocks thread live

  abbrev IsData : Owned B → Type 0
  IsData o = is_block o.owner.kind ≡ false

  with_data : (x : Instance) (r : Option (Range B)) (bs : Option (List B)) → All IsData (data_with x r bs)
  with_data x None bs = All-nil IsData
  with_data x (Some r) None = All-nil IsData
  with_data x (Some r) (Some bs) = All-cons IsData _ [] refl (All-nil IsData)

  all_data : (loads : Instance → Bool) (xs : List (Owned B)) (live : List Instance)
      → All IsData (flat_map (data_after l loads xs) live)
  all_data loads xs [] = All-nil IsData
  all_data loads xs (x ∷ live) =
      All-append IsData (data_after l loads xs x) (flat_map (data_after l loads xs) live)
      (with_data x (l.shared x) (option_or (fresh_data (l.shared x) (loads x)) (data_bytes x.number xs)))
      (all_data loads xs live)

module _ (g : Setting) (m : Meaning) (q : Loads ℕ) (history : List Event) (tied : AreTied g m q history) where
  abbrev Rest : ℕ → Meant → Runs → Type 0
  Rest i = AtRest g m q history i

  none_seen : IsFront [] history
  none_seen = (history, refl)

  -- ** threads

  pub ready_rests : (thread : ℕ)
      → Rest thread (thread_ready ops m.loads thread) (thread_ready plain_operations q thread)
  ready_rests thread =
      look_rests g m q history thread tied [] none_seen
      (record {
        after = left (start_of ops 0 0 (ops.word 0) (ops.word 0) (ops.word 0))
            (record { seen = []; stack = []; own = [] });
        owners = [];
        asked = None;
      })
      (record {
        after = left (start_of plain_operations 0 0 (plain_operations.word 0) (plain_operations.word 0)
            (plain_operations.word 0)) (record { seen = []; stack = []; own = [] });
        owners = [];
        asked = None;
      })
      (record {
        owners = refl;
        own = tt;
        placed = All-nil (IsPlaced g q thread);
        paired = refl;
        seen = refl;
        front = none_seen;
        asked = refl;
      })

  -- ** data: what a load of all would leave of nothing

  abbrev Same : List (Owned Byte) → List (Owned ℕ) → Type 0
  Same = SameHeld g q 1

  first_held : Same (flat_map (data_after m.loads (λ x. true) []) (instances q [])) (first_data q)
  first_held =
      let live : List Instance = instances q [] in
      let ours : List (Owned Byte) = flat_map (data_after m.loads (λ x. true) []) live in
      let held : Same (held_of m.loads 1 (λ x. false) (λ x. true) live [])
      (held_of q 1 (λ x. false) (λ x. true) live []) =
      held_of_alike g m q 1 (λ x. false) (λ x. true) live (tied.each [] none_seen) [] []
      (tt, All-nil (IsPlaced g q 1)) in
      subst (λ (ys : List (Owned ℕ)). Same ours (ys ++ first_data q)) (no_blocks q 1 live)
      (subst (λ (xs : List (Owned Byte)). Same (xs ++ ours)
      (flat_map (block_after q 1 (λ x. false) []) live ++ first_data q)) (no_blocks m.loads 1 live) held)

  first_same : SameData g q (first_data m.loads) (first_data q)
  first_same =
      let both = subst (λ (live : List Instance).
      Same (flat_map (data_after m.loads (λ x. true) []) live) (first_data q))
      (sym (live_same g m q 1 history tied [])) first_held in
      record { all = both.0; placed = both.1; are = all_data q (λ x. true) [] (instances q []) }

  -- ** all threads

  abbrev One : ℕ → Thread Meant Line Event → Thread Runs Line Event → Type 0
  One i = SameOne (Waiting g m q history i) (Rest i)

  threads_alike : (from : ℕ) (lines : List (List ThreadLine)) (i : ℕ)
      → FoundAlike (One (from + i)) (slice_get (ready_from ops m.loads from lines) i)
      (slice_get (ready_from plain_operations q from lines) i)
  threads_alike from [] zero = tt
  threads_alike from [] (suc i) = tt
  threads_alike from (own ∷ lines) zero =
      let same : from ≡ from + 0 = omega arith in
      subst (λ (n : ℕ). One n (ready (thread_ready ops m.loads from) (numbered_lines 1 own))
      (ready (thread_ready plain_operations q from) (numbered_lines 1 own))) same
      (inr (record { todo = refl; said = refl; seen = refl; phase = ready_rests from }))
  threads_alike from (own ∷ lines) (suc i) =
      let same : suc from + i ≡ from + suc i = omega arith in
      subst (λ (n : ℕ). FoundAlike (One n) (slice_get (ready_from ops m.loads (suc from) lines) i)
      (slice_get (ready_from plain_operations q (suc from) lines) i)) same (threads_alike (suc from) lines i)

  as_many_threads : (from : ℕ) (lines : List (List ThreadLine))
      → length (ready_from ops m.loads from lines) ≡ length lines
  as_many_threads from [] = refl
  as_many_threads from (own ∷ lines) = ap suc (as_many_threads (suc from) lines)

  pub start_alike : (lines : List (List ThreadLine)) → length lines ≤ 64
      → SameJob g m q history (job_start ops m.loads lines) (job_start plain_operations q lines)
  start_alike lines few = record {
    events = refl;
    shared = first_same;
    each = λ i. let same : 1 + i ≡ suc i = omega arith in
        subst (λ (n : ℕ). FoundAlike (One n) (slice_get (ready_from ops m.loads 1 lines) i)
        (slice_get (ready_from plain_operations q 1 lines) i)) same (threads_alike 1 lines i);
    within = λ i t e. omega
        (arith, slice_get_within (ready_from ops m.loads 1 lines) i t e, as_many_threads 1 lines, few);
  }

-- the law
pub jobs_start : JobsStartAlike
jobs_start g m q history tied lines few = start_alike g m q history tied lines few
