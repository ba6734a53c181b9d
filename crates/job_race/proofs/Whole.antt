-- Rows of all threads.
use Rattle.std.proofs.Common.{◌≡◌, ◌+◌, ◌≤◌, ℕ, zero, suc, List, [], ◌∷◌, length, map, Some, sym, subst, arith}
use Rattle.std.specs.Prelude.{All, IfOk, Result, Ok, Err, slice_get}
use Rattle.job_text.specs.declared.thread_lines.ThreadLine.{ThreadLine}
use Rattle.job_text.specs.Images.{IsImageNumber}
use Rattle.job_text.specs.Jobs.{JobParts}
use Rattle.job_text.specs.Threads.{IsThread, of_thread}
use Rattle.loaded_modules.specs.Images.{JobImages, infos, last_offset}
use Rattle.module_table.specs.declared.events.Event.{Event}
use Rattle.module_table.specs.Past.{IsLegal}
use Rattle.transcript_text.specs.declared.outcomes.Line.{Line as ShownLine}
use Rattle.transcript_text.specs.Texts.{Shown}
use Rattle.thread_blocks.specs.JobLoads.{job_loads}
use Rattle.thread_blocks.specs.Turns.{at_number}
use Rattle.thread_turns.proofs.Ready.{lines_at}
use Rattle.lawful_points.specs.Raced.{IsRaced, IsRacer}
use Rattle.shared_modules.specs.Passes.{PassView}
use Rattle.job_turns.proofs.LastTurn.{named_images}
use Rattle.job_race.specs.Rows.{AllRaced, HasRow}
use Rattle.job_race.proofs.Named.{all_named}

module _ (m : JobImages) (job : JobParts) (history : List Event) where
  abbrev Racer : ℕ → List ThreadLine → List ShownLine → Type 0
  Racer thread own said = IsRacer (job_loads m) job.fuel thread own history said

  racer_at : (first k : ℕ) (lines : List (List ShownLine)) (said : List ShownLine) → AllRaced m job history first lines
      → slice_get lines k ≡ Some said → Racer (first + k) (of_thread job.lines (first + k)) said
  racer_at first k [] said raced at = absurd cc
  racer_at first zero (x ∷ lines) said raced at =
      let same : x ≡ said = cc in
      let here : first ≡ first + 0 = omega arith in
      subst (λ (n : ℕ). Racer n (of_thread job.lines n) said) here
      (subst (Racer first (of_thread job.lines first)) same raced.0)
  racer_at first (suc k) (x ∷ lines) said raced at =
      let next : first + 1 + k ≡ first + suc k = omega arith in
      subst (λ (n : ℕ). Racer n (of_thread job.lines n) said) next (racer_at (first + 1) k lines said raced.1 at)

  racer_of : (thread : ℕ) (lines : List (List ShownLine)) (own : List ThreadLine) (said : List ShownLine)
      → AllRaced m job history 1 lines → at_number job.lines thread ≡ Some own → at_number lines thread ≡ Some said
      → Racer thread own said
  racer_of zero lines own said raced at shown = absurd cc
  racer_of (suc k) lines own said raced at shown =
      let number : 1 + k ≡ suc k = omega arith in
      subst (λ (xs : List ThreadLine). Racer (suc k) xs said) (lines_at job.lines k own at)
      (subst (λ (n : ℕ). Racer n (of_thread job.lines n) said) number (racer_at 1 k lines said raced shown))

all_raced : (m : JobImages) (job : JobParts) (old new : PassView) (shown : Shown) → length job.lines ≤ 64
    → HasRow m job 1 64 old new shown → IsRaced (job_loads m) job.fuel job.lines shown
all_raced m job old new shown few row = record {
  count = omega (arith, row.long, few);
  each = λ thread own said at there.
      subst (λ (events : List Event). IsRacer (job_loads m) job.fuel thread own events said) (sym row.events)
      (racer_of m job new.seen thread shown.threads own said row.each at there);
  named = subst (λ (events : List Event). All (λ (event : Event). IsThread (length job.lines) event.thread) events)
      (sym row.events) (all_named (length job.lines) new.seen row.named);
}

-- what is known of a row is known of its transcript
told_row : {X Y : Type 0} (P Q : Shown → Type 0) (row : Result Shown X) (result : Result Shown Y)
    → ((shown : Shown) → P shown → Q shown) → IfOk row P → IfOk result (λ shown. row ≡ Ok shown) → IfOk result Q
told_row P Q row (Ok shown) known all is = known shown (subst (λ r. IfOk r P) is all)
told_row P Q row (Err why) known all is = tt

module _ {X Y : Type 0} (m : JobImages) (job : JobParts) (old new : PassView) (row : Result Shown X)
    (result : Result Shown Y) (all : IfOk row (HasRow m job 1 64 old new))
    (is : IfOk result (λ shown. row ≡ Ok shown)) where
  pub told_raced : length job.lines ≤ 64 → IfOk result (IsRaced (job_loads m) job.fuel job.lines)
  told_raced few = told_row (HasRow m job 1 64 old new) (IsRaced (job_loads m) job.fuel job.lines) row result
      (λ shown known. all_raced m job old new shown few known) all is

  pub told_named : m.kinds ≡ map (λ image. image.kind) job.images → IsLegal (infos m) (last_offset m) new.seen
      → IfOk result (λ shown. All (λ event. IsImageNumber job.images event.image) shown.events)
  told_named are legal = told_row (HasRow m job 1 64 old new)
      (λ shown. All (λ event. IsImageNumber job.images event.image) shown.events) row result
      (λ shown known. subst (λ (events : List Event). All (λ event. IsImageNumber job.images event.image) events)
      (sym known.events) (named_images m job.images are new.seen legal)) all is

pub few_threads : {X : Type 0} (m : JobImages) (job : JobParts) (old new : PassView) (row : Result Shown X)
    → IfOk row (HasRow m job 1 64 old new) → IfOk row (λ row. length row.threads ≤ 64)
few_threads m job old new (Ok row) all = omega (arith, all.long)
few_threads m job old new (Err why) all = tt
