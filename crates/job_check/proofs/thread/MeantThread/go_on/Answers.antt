use Rattle.std.proofs.Common.{◌≡◌, ◌<◌, ◌+◌, false, get_or, length, refl, sym, subst}
use Rattle.std.proofs.lemmas.Option.{slice_get-get_or}
use Rattle.std.proofs.lemmas.Result.{IfOk-weaker}
use Rattle.job_check.specs.Standing.{GoesOn, Run, is_done, is_done_with}
use Rattle.job_check.specs.Threads.{run_of}
use Rattle.job_check.proofs.WholeTurns.{going_within}
use Rattle.job_check.proofs.thread.MeantThread.go_on.Goals as goal

pub returns-in-Some : goal.returns-in-Some
returns-in-Some c =
    let p = c.args.table.now in
    let r : Run = run_of c.self.inside in
    let new : Run = record r { kept = c.take_resume.new.space } in
    IfOk-weaker c.take_resume.result _ _
    (λ taken resumes. subst (λ (x : Run). GoesOn x.call x p taken new p) c.self.view_is
    (subst (λ call. GoesOn call r p taken new p) (sym c.in-Some.is)
    (record { resumes = resumes r.fuel; is = refl; past = refl })))
    c.take_resume.ensures

pub returns-in-None : goal.returns-in-None
returns-in-None c =
    let r : Run = run_of c.self.inside in
    let going : is_done r ≡ false = subst (λ (x : Run). is_done x ≡ false) (sym c.self.view_is) c.requires.going in
    let within : r.begun < length r.lines =
    going_within r.lines r.begun (subst (λ call. is_done_with r.lines r.begun call ≡ false) c.in-None.is going) in
    let new : Run = record r { begun = r.begun + 1; kept = c.take_begin.new.space } in
    IfOk-weaker c.take_begin.result _ _
    (λ taken begins. subst (λ
    (x : Run). GoesOn x.call x c.args.table.now taken new c.take_begin.new.table) c.self.view_is
    (subst (λ call. GoesOn call r c.args.table.now taken new c.take_begin.new.table) (sym c.in-None.is)
    (record {
      line = get_or r.lines r.begun c.index-self-self.result;
      there = slice_get-get_or r.lines r.begun c.index-self-self.result within;
      begins = begins;
      is = refl;
    })))
    c.take_begin.ensures
