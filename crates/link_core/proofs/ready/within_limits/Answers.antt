use Rattle.std.proofs.Common.{◌∙◌, refl, ap, subst}
use Rattle.std.proofs.lemmas.Result.{err_from_is_err_and}
use Rattle.link_needs.specs.Refusals.{FitsStorage}
use Rattle.tls_layout.specs.Places.{tls_alignment, tls_size, IsLawful}
use Rattle.tls_layout.specs.Rounding.{round_up}
use Rattle.tls_layout.specs.Sections.{Layout}
use Rattle.link_needs.specs.Linking.{link_of, block_offset, layout}
use Rattle.link_core.proofs.StepFaults.{same_storage, storage_fault}
use Rattle.link_core.proofs.ready.within_limits.Goals as goal

pub named-requires-clause-lawful : goal.named-requires-clause-lawful
named-requires-clause-lawful g c = subst IsLawful c.in_ok-placement.ensures.places c.in_ok-placement.ensures.lawful

pub returns-in_err-block_offset-clause-fault : goal.returns-in_err-block_offset-clause-fault
returns-in_err-block_offset-clause-fault g c =
    let l = link_of c.args.asked.objects.now c.args.asked.sites.now c.args.asked.kind c.args.bindings.startup c.args.asked.relax in
    let residual = c.from_residual-in_err-block_offset in
    let p = err_from_is_err_and residual.result residual.ensures.1 in
    rw (p.1, p.2)
    (storage_fault l c.requires.resolved c.requires.kind c.in_ok-names.ensures.prepared.limits _
    (same_storage l c.args.bindings.objects c.args.bindings.startup _ c.requires.objects refl
    (ap (λ (p : Layout). tls_size p.sections) c.in_ok-placement.ensures.places) _ c.in_err-block_offset.ensures.fault))

pub invariant_of-inputs : goal.invariant_of-inputs
unfolding block_offset
invariant_of-inputs g c = record {
  given = c.in_ok-names.ensures.prepared.given;
  objects_are = c.requires.objects;
  placed = c.in_ok-placement.ensures.places;
  lawful = c.in_ok-placement.ensures.lawful;
  distance_is =
      c.in_ok-block_offset.ensures.offset
      ∙ ap (λ (p : Layout). round_up (tls_size p.sections) (tls_alignment p.sections)) c.in_ok-placement.ensures.places;
}

pub returns-clause-sound : goal.returns-clause-sound
returns-clause-sound g c = record {
  resolved = c.requires.resolved;
  kind = c.requires.kind;
  limits = c.in_ok-names.ensures.prepared.limits;
  storage =
      subst (λ xs. FitsStorage xs c.args.bindings.startup c.args.asked.kind (tls_size
      (layout (link_of c.args.asked.objects.now c.args.asked.sites.now c.args.asked.kind c.args.bindings.startup c.args.asked.relax)).sections))
      c.requires.objects
      (subst (λ n. FitsStorage c.args.bindings.objects c.args.bindings.startup c.args.asked.kind n)
      (ap (λ (p : Layout). tls_size p.sections) c.in_ok-placement.ensures.places) c.in_ok-block_offset.ensures.fits);
}

pub planned-requires-clause-sound : goal.planned-requires-clause-sound
planned-requires-clause-sound g c κs within = record {
  resolved = c.requires.resolved;
  kind = c.requires.kind;
  limits = c.in_ok-names.ensures.prepared.limits;
  storage =
      subst (λ xs. FitsStorage xs c.args.bindings.startup c.args.asked.kind (tls_size
      (layout (link_of c.args.asked.objects.now c.args.asked.sites.now c.args.asked.kind c.args.bindings.startup c.args.asked.relax)).sections))
      c.requires.objects
      (subst (λ n. FitsStorage c.args.bindings.objects c.args.bindings.startup c.args.asked.kind n)
      (ap (λ (p : Layout). tls_size p.sections) c.in_ok-placement.ensures.places) c.in_ok-block_offset.ensures.fits);
}

pub planned-requires-clause-prepared : goal.planned-requires-clause-prepared
planned-requires-clause-prepared g c κs within = c.in_ok-names.ensures.prepared
