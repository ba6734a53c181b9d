-- What follows a look in the middle of a call is what is meant.
use Rattle.std.proofs.Common.{◌≡◌, ℕ, ◌==◌, ◌++◌, false, List, [], Option, Some, None, Result, Ok, Err, append-nil}
use Rattle.std.proofs.Common.{refl, sym, ap, ◌∙◌}
use Rattle.std.specs.List.{find}
use Rattle.address_map.specs.Map.{owner_at}
use Rattle.guest_operands.specs.declared.state.State.{State}
use Rattle.guest_operands.specs.declared.stop.Stop.{Stop}
use Rattle.guest_operands.specs.Use.{After, left}
use Rattle.job_meaning.specs.declared.values.Byte.{Byte}
use Rattle.job_meaning.specs.declared.values.Flag.{Flag}
use Rattle.job_meaning.specs.declared.values.Word.{Word}
use Rattle.loaded_modules.specs.declared.instance.Instance.{Instance}
use Rattle.module_table.specs.declared.events.Event.{Event}
use Rattle.thread_blocks.specs.Held.{Owned, held_of, owned, owners_of, ranges_in, reached, reached_at}
use Rattle.thread_blocks.specs.Instances.{numbered_instance}
use Rattle.whole_meaning.specs.declared.sequences.Sequence.{Sequence}
use Rattle.whole_meaning.specs.Loads.{loads_of, meaning_of}
use Rattle.whole_meaning.specs.Threads.{Meant, Memory, code_owner, resumed_at, resumed_by, resumed_for, sequence_does}
use Rattle.thread_turns.specs.declared.parts.Resumed.{Resumed}
use Rattle.thread_turns.specs.declared.parts.Resumed.TheVariants.{Goes, Unloaded}
use Rattle.marked_memory.specs.declared.space.Wanted.TheVariants.{BlockOf}
use Rattle.marked_memory.specs.Kept.{HasSeen, Kept, held_at, owner_in, sequence_in}
use Rattle.job_check.specs.Running.{KeepsJob, Resumes, resumed_as}
use Rattle.marked_memory.specs.Spaces.{with_held}
use Rattle.job_check.specs.Stepping.{Makes, ResumesAs, StaysIf, made, resumed_of, sequence_made, sequence_resumed}
use Rattle.job_check.specs.Stepping.{space_of}
use Rattle.job_check.proofs.Memories.{owned_again, same_owners}
use Rattle.job_check.proofs.RunsMade.{keeps_same, keeps_then}
use Rattle.job_check.proofs.StepsMade.{keeps_job, sequence_begins}
use Rattle.thread_blocks.specs.RunTime.{resumed}

-- ** the block is reached

reached-own : (k : Kept) (seen : List Event) (x : Instance) → HasSeen k seen
    → reached_at (loads_of k.images) k.thread seen x (owned (owners_of k.own) (ranges_in k.own))
    ≡ held_of (loads_of k.images) k.thread (λ (y : Instance). y.number == x.number) (λ (y : Instance). false) k.live
    (k.own ++ [])
unfolding reached_at
reached-own k seen x has = rw (owned_again k.own, append-nil k.own)
    (ap (λ (live : List Instance). held_of (loads_of k.images) k.thread (λ (y : Instance). y.number == x.number)
    (λ (y : Instance). false) live k.own) has)

pub reached_is : (k k' : Kept) (seen : List Event) (state : State Word Flag) (x : Instance) → HasSeen k seen
    → k' ≡ with_held k.live [] (BlockOf x.number) k
    → reached (meaning_of k.images).loads k.thread x (held_at seen state k) ≡ held_at seen state k'
unfolding with_held meaning_of
reached_is k k' seen state x has e = rw e (ap (λ (own : List (Owned Byte)). record {
  after = left state (record { seen = seen; stack = k.stack; own = ranges_in own });
  owners = owners_of own;
  asked = None;
}) (reached-own k seen x has))

keeps-reached : (k k' : Kept) (number : ℕ) → k' ≡ with_held k.live [] (BlockOf number) k → KeepsJob k k'
unfolding with_held
keeps-reached k k' number e = rw e (record { thread = refl; images = refl; live = refl; lent = refl })

-- ** behind it

resumed-made : (thread : ℕ) (k k' : Kept) (seen : List Event) (state state' : State Word Flag)
    (result : Result (Unit {0}) Stop) → owners_of k'.own ≡ owners_of k.own → StaysIf result state k state' k'
    → resumed (held_at seen state k) (made result (left state' (space_of seen k')))
    ≡ resumed_as (resumed_of result) (held_at seen state' k')
resumed-made thread k k' seen state state' (Ok done) owners stays = rw owners refl
resumed-made thread k k' seen state state' (Err stop) owners stays = rw (stays.0, stays.1) refl

module _ (s : Sequence) (state : State Word Flag) (k : Kept) where
  target-is : (seen : List Event) (x : Option Instance) → HasSeen k seen
      → x ≡ find (λ (x : Instance). x.number == s.target) k.live
      → numbered_instance (meaning_of k.images).loads seen s.target ≡ x
  unfolding meaning_of
  target-is seen x has is = ap (λ (live : List Instance). find (λ (x : Instance). x.number == s.target) live) has
      ∙ sym is

  pub none_reached : None ≡ find (λ (x : Instance). x.number == s.target) k.live
      → ResumesAs state k Goes state k (sequence_resumed s state k)
  none_reached is = record {
    keeps = keeps_same k;
    resumes = λ seen has. ap (resumed_by (meaning_of k.images) k.thread (held_at seen state k) s)
        (target-is seen None has is);
  }

  resume-between : (state' : State Word Flag) (k' : Kept) (x : Instance) (result : Result (Unit {0}) Stop)
      → let between = with_held k.live [] (BlockOf x.number) k in
      Makes result state between state' k' (sequence_made s state between) → (seen : List Event) → HasSeen k seen
      → resumed_by (meaning_of k.images) k.thread (held_at seen state k) s (Some x)
      ≡ resumed_as (resumed_of result) (held_at seen state' k')
  unfolding with_held
  resume-between state' k' x result makes seen has =
      let between = with_held k.live [] (BlockOf x.number) k in
      ap (λ (h : Meant). resumed h (sequence_does (meaning_of k.images) k.thread s h.after))
      (reached_is k between seen state x has refl)
      ∙ ap (λ (r : Result (After Word Flag Memory) Stop). resumed (held_at seen state between) r) (makes.makes seen has)
      ∙ resumed-made k.thread between k' seen state state' result (same_owners between k' makes.shape) makes.stays

  pub resumes_at : (state' : State Word Flag) (between k' : Kept) (x : Instance) (result : Result (Unit {0}) Stop)
      (it : Resumed)
      → Some x ≡ find (λ (x : Instance). x.number == s.target) k.live
      → between ≡ with_held k.live [] (BlockOf x.number) k
      → Makes result state between state' k' (sequence_made s state between) → it ≡ resumed_of result
      → ResumesAs state k it state' k' (sequence_resumed s state k)
  resumes_at state' between k' x result it is reaches makes e = rw e (record {
    keeps = keeps_then k between k' (keeps-reached k between x.number reaches) (keeps_job between k' makes.shape);
    resumes = λ seen has.
        ap (resumed_by (meaning_of k.images) k.thread (held_at seen state k) s) (target-is seen (Some x) has is)
        ∙ resume-between state' k' x result (rw reaches at makes) seen has;
  })

-- ** the look

module _ (state : State Word Flag) (k : Kept) where
  owner-is : (seen : List Event) (x : Option Instance) → HasSeen k seen → x ≡ owner_in k state.place
      → code_owner (meaning_of k.images) k.thread seen state.place ≡ x
  unfolding meaning_of
  owner-is seen x has is =
      ap (λ (live : List Instance). find (λ (x : Instance). x.number == owner_at state.place) live) has ∙ sym is

  pub resume_unloaded : None ≡ owner_in k state.place → Resumes state k Unloaded state k
  resume_unloaded is = record {
    keeps = keeps_same k;
    resumes = λ seen has. ap (resumed_for (meaning_of k.images) k.thread (held_at seen state k))
        (owner-is seen None has is);
  }

  -- where the instance of the code is there still
  behind : (seen : List Event) (x : Instance) (s : Option Sequence) → HasSeen k seen → Some x ≡ owner_in k state.place
      → s ≡ sequence_in k state.place
      → resumed_for (meaning_of k.images) k.thread (held_at seen state k)
      (code_owner (meaning_of k.images) k.thread seen state.place)
      ≡ resumed_at (meaning_of k.images) k.thread (held_at seen state k) s
  behind seen x s has is begins =
      ap (resumed_for (meaning_of k.images) k.thread (held_at seen state k)) (owner-is seen (Some x) has is)
      ∙ ap (resumed_at (meaning_of k.images) k.thread (held_at seen state k))
      (sequence_begins k seen state.place s has begins)

  pub resume_goes : (x : Instance) → Some x ≡ owner_in k state.place → None ≡ sequence_in k state.place
      → Resumes state k Goes state k
  resume_goes x is begins = record { keeps = keeps_same k; resumes = λ seen has. behind seen x None has is begins }

  pub resume_sequence : (x : Instance) (s : Sequence) (it : Resumed) (state' : State Word Flag) (k' : Kept)
      → Some x ≡ owner_in k state.place → Some s ≡ sequence_in k state.place
      → ResumesAs state k it state' k' (sequence_resumed s state k) → Resumes state k it state' k'
  resume_sequence x s it state' k' is begins resumes = record {
    keeps = resumes.keeps;
    resumes = λ seen has. behind seen x (Some s) has is begins ∙ resumes.resumes seen has;
  }
