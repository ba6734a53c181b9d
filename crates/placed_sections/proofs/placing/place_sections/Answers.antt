use Rattle.std.proofs.Common.{◌++◌, ◌∙◌, true, false, sym, ap, subst}
use Rattle.std.specs.List.{All}
use Rattle.object_faults.specs.declared.class.SectionClass.TheVariants.{Executable, ReadOnly, Tls, Writable}
use Rattle.placed_sections.specs.Files.{placed_class}
use Rattle.placed_sections.specs.Laws.{IsNear}
use Rattle.placed_sections.proofs.Laid.{classes_placed}
use Rattle.placed_sections.proofs.Near.{all_near}
use Rattle.placed_sections.proofs.placing.place_sections.Goals as goal

pub returns : goal.returns
returns c =
    let p = c.args.placement.now in
    let objects = c.args.objects.now in
    let all =
    c.in_ok-push_class-5.ensures.class
    ∙ ap (λ parts. parts ++ placed_class (λ part. part) p objects (Writable false)) (c.in_ok-push_class-4.ensures.class
    ∙ ap (λ parts. parts ++ placed_class (λ part. part) p objects (Writable true)) (c.in_ok-push_class-3.ensures.class
    ∙ ap (λ parts. parts ++ placed_class (λ part. part) p objects (Tls true)) (c.in_ok-push_class-2.ensures.class
    ∙ ap (λ parts. parts ++ placed_class (λ part. part) p objects ReadOnly) (c.in_ok-push_class.ensures.class
    ∙ ap (λ parts. parts ++ placed_class (λ part. part) p objects Executable) c.new-parts.ensures.items))))
    ∙ classes_placed (λ part. part) p objects in
    record {
      parts = all;
      near =
          subst (All (IsNear objects)) (sym all) (all_near objects p c.in_ok-push_class.ensures.lawful);
    }
