-- What a turn comes to behind its look, from what its parts do.
use Rattle.std.proofs.Common.{◌≡◌, ◌∙◌, ◌-◌, ℕ, List, [], ◌∷◌, Option, length, sym, ap, subst}
use Rattle.guest_operands.specs.declared.state.State.{State}
use Rattle.job_meaning.specs.declared.values.Flag.{Flag}
use Rattle.job_meaning.specs.declared.values.Word.{Word}
use Rattle.link_needs.specs.Linking.{Linking}
use Rattle.module_table.specs.declared.events.Event.{Event}
use Rattle.module_table.specs.Past.{Past}
use Rattle.thread_blocks.specs.Instances.{instances, left_by}
use Rattle.thread_blocks.specs.Lines.{Line}
use Rattle.thread_blocks.specs.Turns.{Begun, Calls as CallsOn, Says as SaysSo, Said, after_look, over_with}
use Rattle.whole_meaning.specs.declared.unclean.UncleanStep.{UncleanStep}
use Rattle.whole_meaning.specs.Loads.{loads_of, meaning_of}
use Rattle.whole_meaning.specs.Threads.{Meant, code_owner, meant_turns, resumed_for}
use Rattle.job_check.specs.Lines.{BegunAs, HasLeft, KeepsThread, Started, Starts}
use Rattle.thread_turns.specs.declared.parts.Started.TheVariants.{Says, Calls}
use Rattle.thread_turns.specs.declared.parts.Resumed.TheVariants as resumed
use Rattle.job_check.specs.Taking.{BeginsTo, IsOver, ResumesTo, RunsTo, Taken, TookAs}
use Rattle.thread_turns.specs.declared.parts.Ended.TheVariants.{Over}
use Rattle.job_check.specs.declared.thread.Waiting.{Waiting}
use Rattle.marked_memory.specs.Kept.{HasSeen, Kept, held_at}
use Rattle.job_check.specs.Running.{KeepsJob, Resumes}

-- ** runs

-- ** lines that begin

keeps_both : (k k1 k2 : Kept) → KeepsThread k k1 → KeepsJob k1 k2 → KeepsThread k k2
keeps_both k k1 k2 first next = record {
  thread = next.thread ∙ first.thread;
  images = next.images ∙ first.images;
  lent = next.lent ∙ first.lent;
}

starts_keep : (line : Line) (p p' : Past) (k k1 : Kept) (started : Started) → Starts line p k started p' k1
    → KeepsThread k k1
starts_keep line p p' k k1 started starts =
    record { thread = starts.thread; images = starts.images; lent = starts.lent }

-- of the same images
left_same : (k k' : Kept) (seen : List Event) (p : Past) → k'.images ≡ k.images → HasLeft k seen p → HasLeft k' seen p
left_same k k' seen p same left = subst (λ ls. left_by (loads_of ls) seen ≡ p) (sym same) left

module _ (ls : List Linking) (thread fuel steps line : ℕ) (points : List ℕ) (now : List Event) (state : State Word Flag)
    (todo : List Line)
    (said : List Said) (seen : List Event) where
  begun_over : (k : Kept) (found : Option UncleanStep) (begun : Begun Meant)
      → BegunAs line now state k (Says found) begun
      → IsOver line k found points now todo said seen
      (after_look (meant_turns (meaning_of ls) thread fuel) steps todo said seen points begun)
  begun_over k found (SaysSo ending h) is = record {
    ending = ending;
    state = state;
    is = ap (over_with todo said seen points ending) is.1;
    unclean_is = is.0;
  }
  begun_over k found (CallsOn h) is = absurd is

  begun_runs : (k k' : Kept) (first : State Word Flag) (taken : Taken) (begun : Begun Meant) → k.images ≡ ls
      → k.thread ≡ thread
      → BegunAs line now state k (Calls first) begun → HasSeen k now → RunsTo line steps first k taken k'
      → TookAs line k' taken points now todo said seen
      (after_look (meant_turns (meaning_of ls) thread fuel) steps todo said seen points begun)
  unfolding meant_turns
  begun_runs k k' first taken (SaysSo ending h) images threads is has_seen runs = absurd is
  begun_runs k k' first taken (CallsOn h) images threads is has_seen runs =
      rw (is, ← images, ← threads) (runs.runs now seen points todo said has_seen)

pub begins_over : (fuel : ℕ) (line : Line) (p p' : Past) (k k1 : Kept) (found : Option UncleanStep)
    → Starts line p k (Says found) p' k1
    → BeginsTo fuel line p k (Over found) p' k1
begins_over fuel line p p' k k1 found starts = record {
  keeps = starts_keep line p p' k k1 (Says found) starts;
  begins = λ seen state todo said left has_seen.
      let facts = starts.starts seen state left has_seen in (
        facts.0,
        begun_over k.images k.thread fuel fuel line.number (length seen ∷ []) _ state todo said seen k1 found _ facts.2,
      );
}

pub begins_runs : (fuel : ℕ) (line : Line) (p p' : Past) (k k1 k2 : Kept) (first : State Word Flag) (taken : Taken)
    → Starts line p k (Calls first) p' k1 → RunsTo line.number fuel first k1 taken k2
    → BeginsTo fuel line p k taken p' k2
begins_runs fuel line p p' k k1 k2 first taken starts runs = record {
  keeps = keeps_both k k1 k2 (starts_keep line p p' k k1 (Calls first) starts) runs.keeps;
  begins = λ seen state todo said left has_seen.
      let facts = starts.starts seen state left has_seen in (
        left_same k1 k2 _ p' runs.keeps.images facts.0,
        begun_runs k.images k.thread fuel fuel line.number
            (length seen ∷ []) _ state todo said seen k1 k2 first taken _ starts.images
            starts.thread facts.2 facts.1 runs,
      );
}

-- ** calls that go on

-- what is seen stays
seen_same : (k k' : Kept) (seen : List Event) → KeepsJob k k' → HasSeen k seen → HasSeen k' seen
seen_same k k' seen keeps has_seen =
    ap (λ ls. instances (loads_of ls) seen) keeps.images ∙ has_seen ∙ sym keeps.live

keeps_again : (k k1 k2 : Kept) → KeepsJob k k1 → KeepsJob k1 k2 → KeepsJob k k2
keeps_again k k1 k2 first next = record {
  thread = next.thread ∙ first.thread;
  images = next.images ∙ first.images;
  live = next.live ∙ first.live;
  lent = next.lent ∙ first.lent;
}

module _ (fuel line : ℕ) (c : Waiting) (k k1 : Kept) (state : State Word Flag) where
  pub resumes_runs : (k2 : Kept) (taken : Taken) → Resumes c.state k resumed.Goes state k1
      → RunsTo line (c.steps - 1) state k1 taken k2 → ResumesTo fuel line c k taken k2
  unfolding meant_turns
  resumes_runs k2 taken resumes runs = record {
    keeps = keeps_again k k1 k2 resumes.keeps runs.keeps;
    resumes = λ seen points todo said has_seen.
        let at : resumed_for (meaning_of k.images) k.thread (held_at seen c.state k)
        (code_owner (meaning_of k.images) k.thread seen c.state.place)
        ≡ CallsOn (held_at seen state k1) = resumes.resumes seen has_seen in
        rw (at, ← resumes.keeps.images, ← resumes.keeps.thread)
        (runs.runs seen seen points todo said (seen_same k k1 seen resumes.keeps has_seen));
  }
