use Rattle.std.proofs.Common.{◌-◌, ◌<◌, ◌≤◌, ◌∙◌, ap, refl, sym, subst, map, length, arith}
use Rattle.std.proofs.lemmas.List.{length-map}
use Rattle.std.proofs.lemmas.List.Elements.{All-push}
use Rattle.job_text.specs.Drafts.{Declared}
use Rattle.job_text.specs.DraftLaws.{IsPlan}
use Rattle.job_text.specs.LineEffects.{with_line}
use Rattle.job_text.proofs.DraftLemmas.{draft_with_line, line_added, plans_of_thread}
use Rattle.job_text.proofs.draft.Draft.add_line.Goals as goal

pub invariant_of-self : goal.invariant_of-self
invariant_of-self c =
    let declared : c.args.thread ≤ length (map (λ lines. lines.items) c.self.inside.lines.items) =
    subst (λ (d : Declared). c.args.thread ≤ length d.lines) (sym c.self.view_is) c.requires.declared in
    let inside : c.index_of.result < length c.self.inside.lines.items =
    omega (arith, c.index_of.ensures, length-map c.self.inside.lines.items (λ lines. lines.items)) in
    let plans = plans_of_thread (λ lines. lines.items)
    (IsPlan c.self.inside.program c.self.inside.starts.items c.self.inside.lates.items) c.self.inside.lines.items c.index_of.result
    c.index_mut-lines.result.now inside c.index_mut-lines.ensures.value c.self.invariant.plans in
    draft_with_line (λ lines. lines.items) c.self.inside.names _ c.self.inside.lines.items c.index_of.result c.push.new.self refl c.self.invariant
    (rw c.in_err-push.ensures.items plans)

pub invariant_of-self-2 : goal.invariant_of-self-2
invariant_of-self-2 c =
    let declared : c.args.thread ≤ length (map (λ lines. lines.items) c.self.inside.lines.items) =
    subst (λ (d : Declared). c.args.thread ≤ length d.lines) (sym c.self.view_is) c.requires.declared in
    let inside : c.index_of.result < length c.self.inside.lines.items =
    omega (arith, c.index_of.ensures, length-map c.self.inside.lines.items (λ lines. lines.items)) in
    let plans = plans_of_thread (λ lines. lines.items)
    (IsPlan c.self.inside.program c.self.inside.starts.items c.self.inside.lates.items) c.self.inside.lines.items c.index_of.result
    c.index_mut-lines.result.now inside c.index_mut-lines.ensures.value c.self.invariant.plans in
    let plan = subst (λ (d : Declared). IsPlan d.program d.starts d.lates c.args.plan)
    (sym c.self.view_is) c.requires.plan in
    draft_with_line (λ lines. lines.items) c.self.inside.names _ c.self.inside.lines.items c.index_of.result c.push.new.self refl c.self.invariant
    (rw c.in_ok-push.ensures.items
    (All-push (IsPlan c.self.inside.program c.self.inside.starts.items c.self.inside.lates.items) _ _ plans plan))

pub returns : goal.returns
returns c =
    let declared : c.args.thread ≤ length (map (λ lines. lines.items) c.self.inside.lines.items) =
    subst (λ (d : Declared). c.args.thread ≤ length d.lines) (sym c.self.view_is) c.requires.declared in
    let inside : c.args.thread - 1 < length c.self.inside.lines.items =
    omega (arith, length-map c.self.inside.lines.items (λ lines. lines.items)) in
    rw c.index_of.ensures
    (line_added (λ lines. lines.items) _ c.self.inside.lines.items c.args.thread c.index_mut-lines.result.now c.push.new.self c.args.plan refl inside
    (rw c.index_of.ensures at c.index_mut-lines.ensures.value) c.in_ok-push.ensures.items
    ∙ ap (with_line c.args.thread c.args.plan) c.self.view_is)
