-- A look in the middle of a line comes to the same on both sides.
use Rattle.std.proofs.Common.{if◌then◌else◌, ◌≡◌, ◌∙◌, ◌⊎◌, ◌-◌, ◌<◌, ◌≤◌, ℕ, true, List, All, length, Option, Some}
use Rattle.std.proofs.Common.{None, Ok, refl, sym, ap, subst, inl, inr, arith}
use Rattle.std.specs.Prelude.{nat_lt, is_none, option_and_then}
use Rattle.std.proofs.lemmas.Bool.{and_parts, ltb-true}
use Rattle.address_map.specs.Map.{owner_at, stack_start}
use Rattle.guest_machine.specs.Use.{left}
use Rattle.job_meaning.specs.declared.values.Word.{Word}
use Rattle.loaded_modules.specs.declared.instance.Instance.{Instance}
use Rattle.module_table.specs.declared.events.Event.{Event}
use Rattle.module_table.specs.Past.{startup_count}
use Rattle.relax_sites.specs.declared.choices.Choice.{Choice}
use Rattle.thread_blocks.specs.Held.{Owned, Owner, looked, looked_at, owned, owned_by, owners_of, ranges_in, reached}
use Rattle.thread_blocks.specs.Held.{reached_at}
use Rattle.thread_blocks.specs.Instances.{Loads, block_start, instance_with_id, numbered_instance}
use Rattle.thread_blocks.specs.RunTime.{Runs, answer_word, answered as answered_by, resume_line}
use Rattle.thread_blocks.specs.RunTime.{resumed_by as run_resumed_by, resumed_in as run_resumed_in, resumed}
use Rattle.thread_blocks.specs.Turns.{Answered, Calls, Says}
use Rattle.thread_blocks.specs.TurnsAlike.{SameBegun}
use Rattle.thread_blocks.specs.Turns.{IsFront}
use Rattle.transcript_text.specs.declared.outcomes.LineFault.TheVariants.{Unloaded}
use Rattle.transcript_text.specs.declared.outcomes.Outcome.TheVariants.{Fault}
use Rattle.whole_meaning.specs.declared.sequences.Sequence.{Sequence}
use Rattle.whole_meaning.specs.Meanings.{Meaning}
use Rattle.whole_meaning.specs.Sequences.{asks, sequence_result}
use Rattle.whole_meaning.specs.Threads.{Meant, came_late, code_owner, hidden_below, meant_stack, resume_meant}
use Rattle.whole_meaning.specs.Threads.{resumed_at, resumed_by, resumed_for, sequence_at, sequence_does}
use Rattle.held_alike.proofs.Lent.{as_many, both_again, held_alike, owners_alike, ranges_alike}
use Rattle.held_alike.proofs.Looks.{looked_alike, reached_alike}
use Rattle.tied_meaning.specs.Numbers.{Setting, SameWord}
use Rattle.tied_meaning.specs.Sites.{IsIdFor, IsWritten, KeptAs, WrittenAs}
use Rattle.tied_meaning.specs.Ties.{AreTied}
use Rattle.tied_meaning.specs.Threads.{AtRest, InCall, IsPlaced, Waiting, called_state}
use Rattle.tied_memory.proofs.Live.{tied_at}
use Rattle.site_steps.proofs.Answers.{AsksFromStart, answer_for, answered_state, does_answer, kept_from_start}
use Rattle.site_steps.proofs.Answers.{pointer_stays, popped, with_rax, word_alike}
use Rattle.site_steps.specs.Laws.{ResumesAreAlike}
use Rattle.site_steps.proofs.Owners.{HasOwner, numbered_same, owner_is}
use Rattle.site_steps.proofs.Steps.{lengths_alike}

module _ {g : Setting} {m : Meaning} {q : Loads ℕ} {history : List Event} {thread : ℕ} (tied : AreTied g m q history)
    (seen : List Event) (front : IsFront seen history) (h : Meant) (h' : Runs)
    (wait : Waiting g m q history thread h h') where
  abbrev s : Sequence
  s = wait.s

  abbrev meant_now : Meant
  meant_now = looked m.loads thread seen h

  abbrev runs_now : Runs
  runs_now = looked q thread seen (record h' { asked = None })

  looks : AtRest g m q history thread meant_now runs_now
  looks =
      let now = looked_alike g m q thread history tied seen front (owned_by h) (owned_by h')
      (held_alike g m q history thread h h' wait.owners wait.own, wait.placed) in
      record {
        owners = owners_alike g (looked_at m.loads thread seen (owned_by h))
            (looked_at q thread seen (owned_by h')) now.0;
        own = ranges_alike g (looked_at m.loads thread seen (owned_by h)) (looked_at q thread seen (owned_by h')) now.0;
        placed =
            subst (λ (zs : List (Owned ℕ)). All (IsPlaced g q thread) zs)
            (sym (both_again g (looked_at q thread seen (owned_by h')))) now.1;
        paired = as_many g (looked_at q thread seen (owned_by h'));
        seen = refl;
        front = front;
        asked = refl;
      }

  module _ (x : Instance) where
    abbrev meant_there : Meant
    meant_there = reached m.loads thread x meant_now

    abbrev runs_there : Runs
    runs_there = reached q thread x runs_now

    abbrev meant_after : Word → Meant
    meant_after a = record meant_there {
      after =
          left (with_rax (called_state s.form h.after.state s.next) a)
          ((meant_stack m thread).forget meant_there.after.memory wait.stack);
    }

    abbrev runs_after : ℕ → Runs
    runs_after w = record runs_there {
      after = left (record h'.after.state {
        registers = record h'.after.state.registers { rax = w; rsp = wait.stack };
        place = s.next;
      }) runs_there.after.memory;
    }

    goes_on : (a : Word) (w : ℕ) → SameWord g a w → InCall g m q history thread (meant_after a) (runs_after w)
    goes_on a w same =
        let xs = reached_at m.loads thread seen x (owned_by meant_now) in
        let ys = reached_at q thread seen x (owned_by runs_now) in
        let now = reached_alike g m q thread history tied seen front x (owned_by meant_now) (owned_by runs_now)
        (held_alike g m q history thread meant_now runs_now looks.owners looks.own, looks.placed) in
        let owners = owners_alike g xs ys now.0 in
        let again : owned (owners_of xs) (ranges_in ys) ≡ ys =
        ap (λ (os : List Owner). owned os (ranges_in ys)) (sym owners) ∙ both_again g ys in
        record {
          state = answered_state g (called_state s.form h.after.state s.next) _ a w wait.called.state same;
          pointer = pointer_stays s.form h.after.state s.next ∙ wait.called.pointer;
          memory = record {
            space = record { seen = refl; stack = wait.called.bytes; own = ranges_alike g xs ys now.0 };
            events = refl;
            placed = subst (λ (zs : List (Owned ℕ)). All (IsPlaced g q thread) zs) (sym again) now.1;
            paired = ap length (sym owners) ∙ as_many g ys;
            deep = lengths_alike g (hidden_below (wait.stack - stack_start thread) h.after.memory.stack)
                h'.after.memory.stack wait.called.bytes ∙ wait.called.deep;
          };
          owners = owners;
          front = front;
          asked = refl;
        }

    meant_result : numbered_instance m.loads seen s.target ≡ Some x → asks s.form ≡ true
        → sequence_does m thread s meant_there.after
        ≡ Ok (meant_after (answer_for m thread s (block_start thread x) s.form)).after
    unfolding sequence_result
    meant_result e a =
        rw e (does_answer m thread s (block_start thread x) wait.stack h.after.state meant_there.after.memory
        wait.called.pointer wait.called.room s.form wait.called.descriptor a)

    runs_result : answered_by q thread wait.asked x runs_there
        ≡ Ok (runs_after (answer_word q thread wait.asked x)).after
    runs_result =
        popped wait.called runs_there.after.memory refl (answer_word q thread wait.asked x)

  owner : HasOwner g m q h s
  owner = owner_is tied thread h s wait.front wait.begins

  abbrev place : ℕ
  place = h.after.state.place

  -- ** only a sequence of an instance that came late waits: it asks for its own instance

  not_early : s.target ≤ startup_count q.infos → ⊥
  not_early early =
      let parts = and_parts (asks s.form) (came_late m thread s.target) wait.late in
      let late : nat_lt (startup_count q.infos) s.target ≡ true =
      subst (λ infos. nat_lt (startup_count infos) s.target ≡ true) (sym tied.infos) parts.1 in
      absurd (omega (arith, ltb-true (startup_count q.infos) s.target late, early))

  own_target : s.target ≡ owner.x.number
  own_target = of_either owner.stands.asked
    where
      of_either : (s.target ≡ owner.x.number) ⊎ ((0 < s.target) × (s.target ≤ startup_count q.infos))
          → s.target ≡ owner.x.number
      of_either (inl own) = own
      of_either (inr early) = absurd (not_early early.1)

  own_id : wait.asked.id ≡ owner.x.id
  own_id = of_either (wait.asks_for.id owner.x (ap g.known owner.stands.own ∙ owner.it.known))
    where
      of_either : IsIdFor q owner.x s wait.asked.id → wait.asked.id ≡ owner.x.id
      of_either (inl early) = absurd (not_early early.1.0)
      of_either (inr own) = own.1.0

  is_asked : wait.asked.asking ≡ owner_at place
  is_asked = wait.asks_for.asking ∙ (owner.stands.own ∙ owner.number)

  -- nor is it rewritten
  from_start : (x : Instance) → g.known s.instance ≡ Some x → AsksFromStart g s x s.form
  from_start x known = of_either owner.stands.stands
    where
      of_either : KeptAs g q owner.x place s s.form
          ⊎ ((choice : Choice) × ((reg : ℕ) × ((number : ℕ) × (IsWritten g q owner.x place s choice reg number
          × WrittenAs g q owner.x place s s.form choice reg number)))) → AsksFromStart g s x s.form
      of_either (inl kept) =
          kept_from_start g q owner.x x place s owner.stands.own (λ own. known) s.form owner.stands.base kept
      of_either (inr written) = absurd (not_early written.1.1.1.0.early)

  -- ** the look

  abbrev Begun : Type 0
  Begun = SameBegun (λ (e : List Event). InCall g m q history thread) (λ (e : List Event). AtRest g m q history thread)
      seen (resume_meant m thread seen h) (resume_line q thread seen h')

  pub resume_alike : Begun
  unfolding resume_meant resume_line
  resume_alike = of_owner (numbered_instance q seen (owner_at place)) refl
    where
      of_owner : (o : Option Instance) → numbered_instance q seen (owner_at place) ≡ o
          → SameBegun (λ (e : List Event). InCall g m q history thread)
          (λ (e : List Event). AtRest g m q history thread) seen
          (resumed_for m thread meant_now (code_owner m thread seen place))
          (run_resumed_by q thread seen runs_now h'.asked)
      -- the asking instance was closed meanwhile
      of_owner None e =
          let gone : code_owner m thread seen place ≡ None = numbered_same tied seen (owner_at place) ∙ e in
          rw (gone, wait.is, is_asked, e) (inr (refl, looks))
      of_owner (Some x) e =
          let there = tied_at tied seen front (owner_at place) x e in
          let same : x ≡ owner.x =
          let a = there.0.known in let b = there.1 in let c = owner.it.known in let d = owner.number in cc in
          let found : code_owner m thread seen place ≡ Some x = numbered_same tied seen (owner_at place) ∙ e in
          let sequence : m.sequence x place ≡ Some s =
          subst (λ (y : Instance). m.sequence y place ≡ Some s) (sym same) owner.sequence in
          let target : numbered_instance m.loads seen s.target ≡ Some x =
          ap (λ (n : ℕ). numbered_instance m.loads seen n) (own_target ∙ owner.number) ∙ found in
          let mine : numbered_instance q seen x.number ≡ Some x =
          ap (λ (n : ℕ). numbered_instance q seen n) there.1 ∙ e in
          let id : instance_with_id q seen wait.asked.id ≡ Some x =
          ap (λ (n : ℕ). instance_with_id q seen n) (own_id ∙ ap (λ (y : Instance). y.id) (sym same))
          ∙ tied.ids seen x front mine in
          let parts = and_parts (asks s.form) (came_late m thread s.target) wait.late in
          let known : g.known s.instance ≡ Some x =
          ap g.known owner.stands.own ∙ (owner.it.known ∙ ap (λ (y : Instance). Some y) (sym same)) in
          let sequence_now : sequence_at m thread seen place ≡ Some s =
          ap (option_and_then (λ (y : Instance). m.sequence y place)) found ∙ sequence in
          let meant_side : resumed_for m thread meant_now (code_owner m thread seen place)
          ≡ Calls (meant_after x (answer_for m thread s (block_start thread x) s.form)) =
          ap (resumed_for m thread meant_now) found ∙ (ap (resumed_at m thread meant_now) sequence_now
          ∙ (ap (resumed_by m thread meant_now s) target
          ∙ ap (resumed (meant_there x)) (meant_result x target parts.0))) in
          let runs_side : run_resumed_by q thread seen runs_now h'.asked
          ≡ Calls (runs_after x (answer_word q thread wait.asked x)) =
          ap (run_resumed_by q thread seen runs_now) wait.is
          ∙ (ap (λ (o : Option Instance). if is_none o then Says (Answered (Fault Unloaded)) runs_now
          else run_resumed_in q thread wait.asked runs_now (instance_with_id q seen wait.asked.id))
          (ap (λ (n : ℕ). numbered_instance q seen n) is_asked ∙ e)
          ∙ (ap (run_resumed_in q thread wait.asked runs_now) id
          ∙ ap (resumed (runs_there x)) (runs_result x))) in
          rw (meant_side, runs_side)
          (goes_on x (answer_for m thread s (block_start thread x) s.form) (answer_word q thread wait.asked x)
          (word_alike g m q thread s x wait.asked wait.asks_for.offset s.form wait.asks_for.kind parts.0
          (from_start x known)))

pub resumed_alike : ResumesAreAlike
resumed_alike g m q history thread tied seen front h h' wait = resume_alike tied seen front h h' wait
