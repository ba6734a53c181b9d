use Rattle.std.proofs.Common.{ℕ, Vec, Global, ap, ◌∙◌}
use Rattle.generated_job.specs.Drafts.{shape_held}
use Rattle.generated_job.proofs.Parts.{names_calling, names_plain}
use Rattle.generated_job.proofs.shape.ObjectShape.names.Goals as goal
use Rattle.generated_job.proofs.shape.ObjectShape.names.Goals.{then-self+in_ok-extend_from_slice-3, else-self}

pub returns : goal.returns
returns c = elim c.if-self.branch [
  | then-self+in_ok-extend_from_slice-3 w ↦ ap (λ (v : Vec ℕ Global). v.items) w.names-is
      ∙ names_calling (shape_held c.args.self.now) _ _ _ _ _ _ c.in_ok-names.ensures.items c.in_ok-extend_from_slice.ensures.items
      c.in_ok-push.ensures.items c.in_ok-extend_from_slice-2.ensures.items c.in_ok-push-2.ensures.items
      w.in_ok-extend_from_slice-3.ensures.items w.if-self.true
  | else-self w ↦ ap (λ (v : Vec ℕ Global). v.items) w.names-is
      ∙ names_plain (shape_held c.args.self.now) _ _ _ _ _ c.in_ok-names.ensures.items c.in_ok-extend_from_slice.ensures.items
      c.in_ok-push.ensures.items c.in_ok-extend_from_slice-2.ensures.items c.in_ok-push-2.ensures.items w.if-self.false
]
