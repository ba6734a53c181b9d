-- The registry is at home, and its history is what the pass has seen.
use Rattle.std.proofs.Common.{◌≡◌, Some, None, sym, ap, ◌∙◌, length}
use Rattle.module_table.specs.History.{History}
use Rattle.shared_modules.specs.Views.{images_of}
use Rattle.shared_modules.specs.Passes.{PassView, SharedView}
use Rattle.shared_modules.proofs.Calls.{finished}
use Rattle.shared_modules.proofs.Ends.{ends}
use Rattle.shared_modules.proofs.shared.Shared.finish.Goals as goal

pub unreachable-requires : goal.unreachable-requires
unreachable-requires c =
    let f = c.close_with-closed.ensures.values.2 in
    let e = ends _ f.0 f.1.0 _ _ f.1.1 c.pass.invariant.idle
    (ap (λ (p : PassView). length p.threads) c.pass.view_is ∙ c.requires.all) in
    let y = finished _ _ _ _ _ e f.4 c.take-slot.ensures.value in
    let none : None ≡ Some e.registry = sym c.in-None.is ∙ y in
    cc

pub returns-clause-images : goal.returns-clause-images
returns-clause-images c =
    let f = c.close_with-closed.ensures.values.2 in
    let e = ends _ f.0 f.1.0 _ _ f.1.1 c.pass.invariant.idle
    (ap (λ (p : PassView). length p.threads) c.pass.view_is ∙ c.requires.all) in
    let y = finished _ _ _ _ _ e f.4 c.take-slot.ensures.value in
    let some_is : Some c.in-Some.registry ≡ Some e.registry = sym c.in-Some.is ∙ y in
    let same : c.in-Some.registry ≡ e.registry = cc in
    ap images_of same ∙ e.images_are ∙ ap (λ (s : SharedView). s.images) c.self.view_is

pub returns-clause-events : goal.returns-clause-events
returns-clause-events c =
    let f = c.close_with-closed.ensures.values.2 in
    let e = ends _ f.0 f.1.0 _ _ f.1.1 c.pass.invariant.idle
    (ap (λ (p : PassView). length p.threads) c.pass.view_is ∙ c.requires.all) in
    let y = finished _ _ _ _ _ e f.4 c.take-slot.ensures.value in
    let some_is : Some c.in-Some.registry ≡ Some e.registry = sym c.in-Some.is ∙ y in
    let same : c.in-Some.registry ≡ e.registry = cc in
    ap (λ (h : History). h.events) same ∙ e.events_are ∙ ap (λ (p : PassView). p.seen) c.pass.view_is
