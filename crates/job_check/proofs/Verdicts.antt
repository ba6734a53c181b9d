-- After the last turn.
use Rattle.std.proofs.Common.{◌≡◌, ◌∙◌, ◌++◌, ◌*◌, ◌+◌, ℕ, zero, suc, List, [], ◌∷◌, Some, length, map, refl, sym}
use Rattle.std.proofs.Common.{subst, arith}
use Rattle.std.specs.Prelude.{slice_get}
use Rattle.job_meaning.specs.declared.values.Flag.{Flag}
use Rattle.job_meaning.specs.declared.values.Byte.{Byte}
use Rattle.job_meaning.specs.declared.values.Word.{Word}
use Rattle.job_text.specs.Jobs.{JobParts}
use Rattle.link_needs.specs.Linking.{Linking}
use Rattle.module_table.specs.declared.events.Event.{Event}
use Rattle.thread_blocks.specs.JobWorlds.{Shared, job_start}
use Rattle.thread_blocks.specs.Lines.{Line}
use Rattle.thread_blocks.specs.Turns.{Thread, finishing}
use Rattle.whole_meaning.specs.Jobs.{first_from, first_in, lines_of, meant_world, verdict_of}
use Rattle.whole_meaning.specs.Loads.{meaning_of}
use Rattle.whole_meaning.specs.Threads.{Meant, ops}
use Rattle.thread_turns.specs.Orders.{TakesTurns}
use Rattle.thread_turns.proofs.Orders.{takes_both}
use Rattle.job_check.specs.Progress.{IsFirst, MeantThreads, Stands, Turned, first_unclean}
use Rattle.job_check.specs.Standing.{Run, is_done}
use Rattle.job_check.proofs.FirstTurn.{first_stands}
use Rattle.job_check.proofs.Orders.{turns_stand}

verdict_from : (n : ℕ) (runs : List Run) (threads : List (Thread Meant Line Event)) → length runs ≡ length threads
    → ((k : ℕ) (r : Run) (t : Thread Meant Line Event) → slice_get runs k ≡ Some r → slice_get threads k ≡ Some t
    → first_in (n + k) 1 t.said ≡ r.unclean)
    → first_from n (map (λ t. t.said) threads) ≡ first_unclean runs
verdict_from n [] [] long each = refl
verdict_from n [] (t ∷ threads) long each = absurd (omega (arith, long))
verdict_from n (r ∷ runs) [] long each = absurd (omega (arith, long))
verdict_from n (r ∷ runs) (t ∷ threads) long each =
    let here : n + 0 ≡ n = omega arith in
    let first : first_in n 1 t.said ≡ r.unclean =
    subst (λ i. first_in i 1 t.said ≡ r.unclean) here (each zero r t refl refl) in
    let rest = verdict_from (n + 1) runs threads (omega (arith, long)) (λ k a b at_a at_b.
    (let sum : n + suc k ≡ n + 1 + k = omega arith in
    subst (λ i. first_in i 1 b.said ≡ a.unclean) sum (each (suc k) a b at_a at_b))) in
    rw (first, rest) refl

pub stands_verdict : (ls : List Linking) (fuel : ℕ) (w : Shared Word Flag Byte Line) (x : MeantThreads)
    → Stands ls fuel w x
    → first_unclean x.runs ≡ verdict_of (lines_of w)
unfolding verdict_of
stands_verdict ls fuel w x stands = sym (verdict_from 1 x.runs w.threads stands.count (λ k r t at_r at_t.
    (let is = stands.each k r t at_r at_t in
    let number : suc k ≡ 1 + k = omega arith in
    subst (λ thread. first_in thread 1 t.said ≡ r.unclean) (is.thread_is ∙ number) is.stands.unclean)))

-- ** all of it

module _ (ls : List Linking) (job : JobParts) (x y z : MeantThreads) (first : IsFirst ls job x)
    (takes : TakesTurns is_done Turned x job.order y)
    (finishes : TakesTurns is_done Turned y (finishing (4 * job.fuel) 1 job.lines) z) where
  whole_world : Stands ls job.fuel (meant_world (meaning_of ls) job.fuel job.lines job.order) z
  unfolding meant_world
  whole_world =
      turns_stand ls job.fuel (job.order ++ finishing (4 * job.fuel) 1 job.lines)
      (job_start ops (meaning_of ls).loads job.lines) x z
      (first_stands ls job x first)
      (takes_both is_done Turned x y z job.order (finishing (4 * job.fuel) 1 job.lines) takes finishes)

  pub whole_verdict : first_unclean z.runs
      ≡ verdict_of (lines_of (meant_world (meaning_of ls) job.fuel job.lines job.order))
  whole_verdict = stands_verdict ls job.fuel (meant_world (meaning_of ls) job.fuel job.lines job.order) z whole_world
