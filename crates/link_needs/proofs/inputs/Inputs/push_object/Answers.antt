use Rattle.std.proofs.Common.{◌≡◌, ◌<◌, ◌≤◌, ◌∙◌, ◌+◌, ◌-◌, ◌++◌, ap, arith}
use Rattle.std.specs.List.{flat_map, range_with_len}
use Rattle.elf_object.specs.Object.{section_count}
use Rattle.tls_symbols.specs.Bindings.{object_at}
use Rattle.link_needs.specs.Needs.{object_needs, section_needs}
use Rattle.link_needs.specs.NeedLaws.{object_absolutes, section_absolutes}
use Rattle.link_needs.proofs.NeedsLemmas.{counted, counted_all}
use Rattle.link_needs.proofs.inputs.Inputs.push_object.Goals as goal

pub loop-section-init : goal.loop-section-init
unfolding object_absolutes object_needs
loop-section-init c =
    let l = c.args.self.now in
    let o = c.args.object in
    let b = object_at l.objects o in
    let n = section_count b in
    let all : n - 0 ≡ n = omega arith in (
      ap (λ m. c.args.needs.now.items ++ flat_map (section_needs l o b) (range_with_len 0 m)) all,
      ap (λ m. c.args.absolutes.now.items ++ flat_map (section_absolutes l o b) (range_with_len 0 m)) all,
    )

pub loop-section-preserved : goal.loop-section-preserved
loop-section-preserved c =
    let l = c.args.self.now in
    let o = c.args.object in
    let b = object_at l.objects o in
    let t = c.loop-section.section in
    let n = section_count b in
    let end : c.section_count-section-end.result ≡ n =
    c.section_count-section-end.ensures.count ∙ ap section_count c.object.ensures in
    let below : t < n = omega (arith, end, c.loop-section-test.true) in
    let added = c.in_ok-push_section.ensures in
    let kept = c.loop-section.invariant in (
      ap (λ xs. xs ++ flat_map (section_needs l o b) (range_with_len (t + 1) (n - (t + 1)))) added.needs
          ∙ counted (section_needs l o b) c.loop-section.needs.items t n below
          ∙ kept.0,
      ap (λ xs. xs ++ flat_map (section_absolutes l o b) (range_with_len (t + 1) (n - (t + 1)))) added.absolutes
          ∙ counted (section_absolutes l o b) c.loop-section.absolutes.items t n below
          ∙ kept.1,
    )

pub returns-clause-needs : goal.returns-clause-needs
returns-clause-needs c =
    let l = c.args.self.now in
    let o = c.args.object in
    let b = object_at l.objects o in
    let t = c.loop-section.section in
    let n = section_count b in
    let end : c.section_count-section-end.result ≡ n =
    c.section_count-section-end.ensures.count ∙ ap section_count c.object.ensures in
    let past : n ≤ t = omega (arith, end, c.loop-section-test.false) in
    let kept = c.loop-section.invariant in
    counted_all (section_needs l o b) c.loop-section.needs.items t n past ∙ kept.0

pub returns-clause-absolutes : goal.returns-clause-absolutes
returns-clause-absolutes c =
    let l = c.args.self.now in
    let o = c.args.object in
    let b = object_at l.objects o in
    let t = c.loop-section.section in
    let n = section_count b in
    let end : c.section_count-section-end.result ≡ n =
    c.section_count-section-end.ensures.count ∙ ap section_count c.object.ensures in
    let past : n ≤ t = omega (arith, end, c.loop-section-test.false) in
    let kept = c.loop-section.invariant in
    counted_all (section_absolutes l o b) c.loop-section.absolutes.items t n past ∙ kept.1
