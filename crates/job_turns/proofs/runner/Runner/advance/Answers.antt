use Rattle.std.proofs.Common.{◌≡◌, ◌+◌, ◌<◌, length, Option, Some, None, ap, refl, sym, subst, ◌∙◌}
use Rattle.std.specs.Prelude.{slice_get}
use Rattle.std.proofs.lemmas.Option.{slice_get_read}
use Rattle.std.proofs.lemmas.Result.{on_ok_weaker}
use Rattle.module_table.specs.Past.{after}
use Rattle.thread_space.specs.Steps.{HasData}
use Rattle.job_turns.specs.Asking.{answer_to}
use Rattle.job_turns.specs.Standing.{IsGoing, Run, TakesTurn, Waiting, ask_now, ask_of}
use Rattle.job_turns.proofs.WholeTurns.{begins_line, going_within, images_is, looked_answer, looked_ready}
use Rattle.job_turns.proofs.WholeTurns.{looked_startups, resumes_line}
use Rattle.job_turns.proofs.runner.Runner.advance.Goals as goal

pub invariant_of-self-in-Some : goal.invariant_of-self-in-Some
invariant_of-self-in-Some c =
    let given : HasData c.self.inside.space c.args.pieces.now c.put_data.new.self =
    record {
      vector = c.put_data.ensures.vector;
      data_is = c.put_data.ensures.data_is ∙ c.replace-shared.ensures.value;
      stack = c.put_data.ensures.stack;
    } in
    record {
      names = c.self.invariant.names
          ∙ sym (images_is c.self.inside.space c.put_data.new.self c.look.new.self c.args.events.now c.args.pieces.now given
          c.in_ok-look.ensures.ok c.history_is_lawful.ensures c.self.invariant.startups);
      startups = looked_startups c.self.inside.space c.put_data.new.self c.look.new.self c.args.events.now c.args.pieces.now given
          c.in_ok-look.ensures.ok c.history_is_lawful.ensures c.self.invariant.startups;
      fuel = c.self.invariant.fuel;
      lines = c.self.invariant.lines;
      begun = c.self.invariant.begun;
      steps = rw c.take.ensures.after tt;
    }

pub invariant_of-self-in-None : goal.invariant_of-self-in-None
invariant_of-self-in-None c =
    let given : HasData c.self.inside.space c.args.pieces.now c.put_data.new.self =
    record {
      vector = c.put_data.ensures.vector;
      data_is = c.put_data.ensures.data_is ∙ c.replace-shared.ensures.value;
      stack = c.put_data.ensures.stack;
    } in
    record {
      names = c.self.invariant.names
          ∙ sym (images_is c.self.inside.space c.put_data.new.self c.look.new.self c.args.events.now c.args.pieces.now given
          c.in_ok-look.ensures.ok c.history_is_lawful.ensures c.self.invariant.startups);
      startups = looked_startups c.self.inside.space c.put_data.new.self c.look.new.self c.args.events.now c.args.pieces.now given
          c.in_ok-look.ensures.ok c.history_is_lawful.ensures c.self.invariant.startups;
      fuel = c.self.invariant.fuel;
      lines = c.self.invariant.lines;
      begun = c.self.invariant.begun;
      steps = rw c.take.ensures.after tt;
    }

pub bounds-lines-self-inside : goal.bounds-lines-self-inside
bounds-lines-self-inside c =
    going_within (c.self.inside.script.begun + 1) c.self.inside.script.begun c.self.inside.script.lines.now
    (subst (λ (call : Option Waiting). IsGoing (ask_now c.self.inside.script.begun c.self.inside.script.lines.now call))
    (sym c.take.ensures.value ∙ c.in-None.is)
    (subst (λ (r : Run). IsGoing (ask_of r)) (sym c.self.view_is) c.requires.going))

pub begin_line-requires-clause-begun : goal.begin_line-requires-clause-begun
begin_line-requires-clause-begun c =
    going_within (c.self.inside.script.begun + 1) c.self.inside.script.begun c.self.inside.script.lines.now
    (subst (λ (call : Option Waiting). IsGoing (ask_now c.self.inside.script.begun c.self.inside.script.lines.now call))
    (sym c.take.ensures.value ∙ c.in-None.is)
    (subst (λ (r : Run). IsGoing (ask_of r)) (sym c.self.view_is) c.requires.going))

pub begin_line-requires-clause-ready : goal.begin_line-requires-clause-ready
begin_line-requires-clause-ready c =
    looked_ready c.self.inside.space c.put_data.new.self c.look.new.self c.args.events.now c.args.pieces.now
    (record {
      vector = c.put_data.ensures.vector;
      data_is = c.put_data.ensures.data_is ∙ c.replace-shared.ensures.value;
      stack = c.put_data.ensures.stack;
    })
    c.in_ok-look.ensures.ok c.history_is_lawful.ensures c.self.invariant.startups
    (subst (λ (r : Run). r.kept.vector.past.seen + length c.args.events.now + 1 < 4611686018427387904)
    (sym c.self.view_is) c.requires.room)
    (subst (λ (r : Run). length c.args.pieces.now ≡ length r.kept.vector.images.images + 1)
    (sym c.self.view_is) c.requires.pieces)

pub begin_line-requires-clause-answer : goal.begin_line-requires-clause-answer
begin_line-requires-clause-answer c =
    let none : c.self.inside.call ≡ None = sym c.take.ensures.value ∙ c.in-None.is in
    let within : c.self.inside.script.begun < length c.self.inside.script.lines.now =
    going_within (c.self.inside.script.begun + 1) c.self.inside.script.begun c.self.inside.script.lines.now
    (subst (λ (call : Option Waiting). IsGoing
    (ask_now c.self.inside.script.begun c.self.inside.script.lines.now call)) none
    (subst (λ (r : Run). IsGoing (ask_of r)) (sym c.self.view_is) c.requires.going)) in
    looked_answer c.self.inside.space c.put_data.new.self c.look.new.self c.args.events.now c.args.pieces.now
    (record {
      vector = c.put_data.ensures.vector;
      data_is = c.put_data.ensures.data_is ∙ c.replace-shared.ensures.value;
      stack = c.put_data.ensures.stack;
    })
    c.in_ok-look.ensures.ok c.history_is_lawful.ensures c.self.invariant.startups c.args.answer
    (c.self.inside.script.begun + 1)
    c.index-lines-self.result
    (slice_get c.self.inside.script.lines.now c.self.inside.script.begun)
    (slice_get_read c.self.inside.script.lines.now
    (length c.self.inside.script.lines.now) c.self.inside.script.begun c.index-lines-self.result refl within c.index-lines-self.is)
    (subst (λ (call : Option Waiting). c.args.answer
    ≡ answer_to (after c.self.inside.space.vector.past c.args.events.now)
    (ask_now c.self.inside.script.begun c.self.inside.script.lines.now call)) none
    (subst (λ (r : Run). c.args.answer ≡ answer_to (after r.kept.vector.past c.args.events.now) (ask_of r))
    (sym c.self.view_is) c.requires.answer))

pub returns-in-Some-clause-taken : goal.returns-in-Some-clause-taken
returns-in-Some-clause-taken c =
    let run_with : Option Waiting → Run = λ call. record {
      lines = c.self.inside.script.lines.now;
      begun = c.self.inside.script.begun;
      fuel = c.self.inside.script.fuel;
      kept = c.self.inside.space;
      call = call;
      said = c.self.inside.script.said.items;
    } in
    let whole : run_with (Some c.in-Some.call) ≡ c.args.self.now = ap run_with (sym c.in-Some.is ∙ c.take.ensures.value)
    ∙ c.self.view_is in
    on_ok_weaker c.resume_line.result
    (λ is. subst (λ (old : Run). TakesTurn old c.args.events.now c.args.pieces.now c.resume_line.new.self c.resume_line.new.pieces) whole
    (resumes_line c.self.inside.space c.put_data.new.self c.look.new.self c.args.events.now c.args.pieces.now
    (record {
      vector = c.put_data.ensures.vector;
      data_is = c.put_data.ensures.data_is ∙ c.replace-shared.ensures.value;
      stack = c.put_data.ensures.stack;
    })
    c.in_ok-look.ensures.ok c.history_is_lawful.ensures c.self.invariant.startups c.self.inside.script.lines.now c.self.inside.script.begun c.self.inside.script.fuel
    c.self.inside.script.said.items c.in-Some.call c.resume_line.new.self c.resume_line.new.pieces is))
    c.resume_line.ensures

pub returns-in-None-clause-taken : goal.returns-in-None-clause-taken
returns-in-None-clause-taken c =
    let run_with : Option Waiting → Run = λ call. record {
      lines = c.self.inside.script.lines.now;
      begun = c.self.inside.script.begun;
      fuel = c.self.inside.script.fuel;
      kept = c.self.inside.space;
      call = call;
      said = c.self.inside.script.said.items;
    } in
    let none : c.self.inside.call ≡ None = sym c.take.ensures.value ∙ c.in-None.is in
    let whole : run_with None ≡ c.args.self.now = ap run_with (sym none) ∙ c.self.view_is in
    let within : c.self.inside.script.begun < length c.self.inside.script.lines.now =
    going_within (c.self.inside.script.begun + 1) c.self.inside.script.begun c.self.inside.script.lines.now
    (subst (λ (call : Option Waiting). IsGoing
    (ask_now c.self.inside.script.begun c.self.inside.script.lines.now call)) none
    (subst (λ (r : Run). IsGoing (ask_of r)) (sym c.self.view_is) c.requires.going)) in
    on_ok_weaker c.begin_line.result
    (λ is. subst (λ (old : Run). TakesTurn old c.args.events.now c.args.pieces.now c.begin_line.new.self c.begin_line.new.pieces) whole
    (begins_line c.self.inside.space c.put_data.new.self c.look.new.self c.args.events.now c.args.pieces.now
    (record {
      vector = c.put_data.ensures.vector;
      data_is = c.put_data.ensures.data_is ∙ c.replace-shared.ensures.value;
      stack = c.put_data.ensures.stack;
    })
    c.in_ok-look.ensures.ok c.history_is_lawful.ensures c.self.invariant.startups c.self.inside.script.lines.now c.self.inside.script.begun c.self.inside.script.fuel
    c.self.inside.script.said.items
    c.index-lines-self.result c.begin_line.new.self c.begin_line.new.pieces
    (slice_get_read c.self.inside.script.lines.now
    (length c.self.inside.script.lines.now) c.self.inside.script.begun c.index-lines-self.result refl within c.index-lines-self.is) is))
    c.begin_line.ensures
