-- Whose code it is that stands before a sequence, on both sides.
use Rattle.std.proofs.Common.{◌≡◌, ◌∙◌, ◌⊎◌, ◌<◌, ◌≤◌, ◌==◌, ℕ, List, Option, Some, None, refl, sym, ap, subst, inl}
use Rattle.std.proofs.Common.{inr}
use Rattle.std.specs.Prelude.{option_and_then}
use Rattle.std.specs.List.{find}
use Rattle.address_map.specs.Map.{owner_at}
use Rattle.loaded_modules.specs.declared.instance.Instance.{Instance}
use Rattle.module_table.specs.declared.events.Event.{Event}
use Rattle.module_table.specs.Past.{startup_count}
use Rattle.thread_blocks.specs.Instances.{Loads, numbered_instance}
use Rattle.thread_blocks.specs.RunTime.{Runs}
use Rattle.thread_blocks.specs.Turns.{IsFront}
use Rattle.whole_meaning.specs.declared.sequences.Sequence.{Sequence}
use Rattle.whole_meaning.specs.Meanings.{Meaning}
use Rattle.whole_meaning.specs.Threads.{Meant, code_owner, sequence_at}
use Rattle.held_alike.proofs.Looks.{live_same}
use Rattle.tied_meaning.specs.Numbers.{Setting}
use Rattle.tied_meaning.specs.Sites.{Stands}
use Rattle.tied_meaning.specs.Ties.{AreTied, IsTied}
use Rattle.tied_meaning.specs.Threads.{InCall}
use Rattle.tied_memory.proofs.Live.{tied_at}

-- the instance whose code the meaning has before a sequence
pub record HasOwner (g : Setting) (m : Meaning) (q : Loads ℕ) (h : Meant) (s : Sequence) : Type 0 where
  pub x : Instance
  pub it : IsTied g m q x
  pub number : x.number ≡ owner_at h.after.state.place
  pub live : numbered_instance q h.after.memory.seen x.number ≡ Some x
  pub sequence : m.sequence x h.after.state.place ≡ Some s
  pub stands : Stands g q x h.after.state.place s

-- the machine at the same place, with all that it finds there
pub record Begins (g : Setting) (m : Meaning) (q : Loads ℕ) (h : Meant) (h' : Runs) (s : Sequence) : Type 0 where
  -- whose code it is
  pub x : Instance
  pub it : IsTied g m q x
  pub live : numbered_instance q h'.after.memory.seen x.number ≡ Some x
  pub stands : Stands g q x h'.after.state.place s
  -- whose variable is asked for: that of its own code, or of one that started with the program
  pub y : Instance
  pub meant_target : numbered_instance m.loads h.after.memory.seen s.target ≡ Some y
  pub target : numbered_instance q h'.after.memory.seen s.target ≡ Some y
  pub known_target : g.known s.target ≡ Some y

module _ {g : Setting} {m : Meaning} {q : Loads ℕ} {history : List Event} (tied : AreTied g m q history) where
  pub numbered_same : (seen : List Event) (n : ℕ) → numbered_instance m.loads seen n ≡ numbered_instance q seen n
  numbered_same seen n = ap (find (λ (x : Instance). x.number == n)) (live_same g m q 1 history tied seen)

  pub owner_is : (thread : ℕ) (h : Meant) (s : Sequence) → IsFront h.after.memory.seen history
      → sequence_at m thread h.after.memory.seen h.after.state.place ≡ Some s → HasOwner g m q h s
  owner_is thread h s front e = of_owner (code_owner m thread h.after.memory.seen h.after.state.place) refl e
    where
      of_owner : (o : Option Instance) → code_owner m thread h.after.memory.seen h.after.state.place ≡ o
          → option_and_then (λ (x : Instance). m.sequence x h.after.state.place) o ≡ Some s → HasOwner g m q h s
      of_owner None f e = absurd cc
      of_owner (Some x) f e =
          let there : numbered_instance q h.after.memory.seen (owner_at h.after.state.place) ≡ Some x =
          sym (numbered_same h.after.memory.seen (owner_at h.after.state.place)) ∙ f in
          let t = tied_at tied h.after.memory.seen front (owner_at h.after.state.place) x there in
          record {
            x = x;
            it = t.0;
            number = t.1;
            live = ap (numbered_instance q h.after.memory.seen) t.1 ∙ there;
            sequence = e;
            stands = t.0.sites h.after.state.place s e;
          }

  pub begins : {thread : ℕ} {h : Meant} {h' : Runs} {s : Sequence} → InCall g m q history thread h h'
      → sequence_at m thread h.after.memory.seen h.after.state.place ≡ Some s → Begins g m q h h' s
  begins {thread} {h} {h'} {s} call e = of_owner (owner_is thread h s call.front e)
    where
      seen_same : (n : ℕ)
          → numbered_instance m.loads h.after.memory.seen n ≡ numbered_instance q h'.after.memory.seen n
      seen_same n =
          numbered_same h.after.memory.seen n ∙ ap (λ seen. numbered_instance q seen n) (sym call.memory.space.seen)

      of_owner : HasOwner g m q h s → Begins g m q h h' s
      of_owner owner = of_asked owner.stands.asked
        where
          live : numbered_instance q h'.after.memory.seen owner.x.number ≡ Some owner.x
          live = ap (λ seen. numbered_instance q seen owner.x.number) call.memory.space.seen ∙ owner.live

          stands : Stands g q owner.x h'.after.state.place s
          stands = subst (λ place. Stands g q owner.x place s) call.state.place owner.stands

          of_asked : (s.target ≡ owner.x.number) ⊎ ((0 < s.target) × (s.target ≤ startup_count q.infos))
              → Begins g m q h h' s
          of_asked (inl own) =
              let target : numbered_instance q h'.after.memory.seen s.target ≡ Some owner.x =
              ap (numbered_instance q h'.after.memory.seen) own ∙ live in
              record {
                x = owner.x;
                it = owner.it;
                live = live;
                stands = stands;
                y = owner.x;
                meant_target = seen_same s.target ∙ target;
                target = target;
                known_target = ap g.known own ∙ owner.it.known;
              }
          of_asked (inr early) =
              let front : IsFront h'.after.memory.seen history =
              subst (λ seen. IsFront seen history) (sym call.memory.space.seen) call.front in
              let there = tied.startup h'.after.memory.seen s.target front early.0 early.1 in
              let t = tied_at tied h'.after.memory.seen front s.target there.0 there.1.0 in
              record {
                x = owner.x;
                it = owner.it;
                live = live;
                stands = stands;
                y = there.0;
                meant_target = seen_same s.target ∙ there.1.0;
                target = there.1.0;
                known_target = ap g.known (sym t.1) ∙ t.0.known;
              }
