use Rattle.std.proofs.Common.{◌≡◌, ◌∙◌, None, Some, ap, arith, subst, sym}
use Rattle.job_text.specs.Numbering.{at_number}
use Rattle.link_needs.specs.Given.{IsGiven}
use Rattle.link_needs.specs.Linking.{Linking}
use Rattle.tls_symbols.specs.Definitions.{IsWithin, definition_of}
use Rattle.meant_images.proofs.Numbered.{has_number, image_found, shared_none}
use Rattle.meant_images.proofs.targets.shared_target.Goals as goal

pub returns-in-Some-definition-clause-numbered : goal.returns-in-Some-definition-clause-numbered
returns-in-Some-definition-clause-numbered c =
    let l = c.in-Some.shared.now in
    let at : at_number c.args.images.now c.args.image ≡ Some l = sym (rw c.in-Some.is at c.at_number.ensures) in
    let image = image_found c.args.images.now c.args.image l c.requires.small at in
    let given : IsGiven l = subst IsGiven c.shared.view_is c.shared.invariant.given in
    let objects = c.shared.invariant.objects_are ∙ ap (λ (x : Linking). x.objects) c.shared.view_is in
    let within = subst (λ os. IsWithin os c.in-Some-definition.found) objects c.in-Some-definition.ensures.within in
    (omega (arith, image.0, c.requires.few), has_number l c.in-Some-definition.found image.1 given within)

pub returns-in-None-clause-target : goal.returns-in-None-clause-target
returns-in-None-clause-target c =
    let l = c.in-Some.shared.now in
    let at : at_number c.args.images.now c.args.image ≡ Some l = sym (rw c.in-Some.is at c.at_number.ensures) in
    let objects = c.shared.invariant.objects_are ∙ ap (λ (x : Linking). x.objects) c.shared.view_is in
    let none : definition_of l.objects c.args.name.now ≡ None =
    sym (subst (λ os. None ≡ definition_of os c.args.name.now) objects c.in-None.ensures.definition) in
    λ image number. shared_none c.args.images.now c.args.image l c.args.name.now at none
