use Rattle.std.proofs.Common.{◌≡◌, ◌∙◌, ap, arith, subst}
use Rattle.tls_layout.specs.Places.{room}
use Rattle.tls_layout.specs.Rounding.{page_up}
use Rattle.tls_layout.specs.Sections.{Layout}
use Rattle.link_needs.specs.Given.{IsGiven}
use Rattle.link_needs.specs.Linking.{block_offset, layout}
use Rattle.link_needs.specs.Needs.{got_start, needs}
use Rattle.link_needs.specs.NeedLaws.{table}
use Rattle.link_needs.proofs.PlanLemmas.{ends_at, plan_is, table_small}
use Rattle.link_needs.proofs.plan.plan_of.Goals as goal

pub page_up-stub_start-requires : goal.page_up-stub_start-requires
page_up-stub_start-requires g c =
    let l = c.args.inputs in
    let found = c.as_slice.result.now in
    let needs_are : found ≡ needs l = c.as_slice.ensures.value ∙ c.in_ok-wanted.ensures.needs in
    let got = c.in_ok-got.got in
    let start = c.room-got_start.result in
    let begins : start ≡ got_start l =
    c.room-got_start.ensures.room ∙ ap (λ (p : Layout). room p.kind p.sections)
    (c.inputs.invariant.placed ∙ ap layout c.inputs.view_is) in
    let is : got ≡ table l =
    plan_is l found got start needs_are c.inputs.inside.kind c.inputs.inside.block_offset
    (ap (λ m. m.kind) c.inputs.view_is) (c.inputs.invariant.distance_is ∙ ap block_offset c.inputs.view_is)
    c.in_ok-got.ensures.plan in
    omega (
      arith,
      table_small l (subst IsGiven c.inputs.view_is c.inputs.invariant.given) c.requires,
      ends_at l found got start needs_are c.size.result is begins c.size.ensures,
    )

pub invariant_of-result : goal.invariant_of-result
invariant_of-result g c =
    let l = c.args.inputs in
    let found = c.as_slice.result.now in
    let needs_are : found ≡ needs l = c.as_slice.ensures.value ∙ c.in_ok-wanted.ensures.needs in
    let got = c.in_ok-got.got in
    let start = c.room-got_start.result in
    let begins : start ≡ got_start l =
    c.room-got_start.ensures.room ∙ ap (λ (p : Layout). room p.kind p.sections)
    (c.inputs.invariant.placed ∙ ap layout c.inputs.view_is) in
    let is : got ≡ table l =
    plan_is l found got start needs_are c.inputs.inside.kind c.inputs.inside.block_offset
    (ap (λ m. m.kind) c.inputs.view_is) (c.inputs.invariant.distance_is ∙ ap block_offset c.inputs.view_is)
    c.in_ok-got.ensures.plan in
    record {
      given = subst IsGiven c.inputs.view_is c.inputs.invariant.given;
      limits = c.requires;
      values_are = c.in_ok-values.ensures;
      choices_are = c.in_ok-wanted.ensures.choices;
      absolutes_are = c.in_ok-wanted.ensures.absolutes;
      got_is = is;
      start_is = begins;
      stub_is = c.page_up-stub_start.ensures.page
          ∙ ap page_up (ends_at l found got start needs_are c.size.result is begins c.size.ensures);
      stubbed_is = c.has_stub-has_stub.ensures;
      rewriting_is = c.is_rewriting-is_rewriting.ensures;
      counting_is = c.counts_from_thread_pointer-counts_from_thread_pointer.ensures;
    }
