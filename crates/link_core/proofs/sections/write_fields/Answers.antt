use Rattle.std.proofs.Common.{◌≡◌, ◌∙◌, fold, refl, sym, ap}
use Rattle.std.specs.List.{Contains}
use Rattle.elf_object.specs.Lent.{relocations}
use Rattle.tls_symbols.proofs.Search.{rest_all_of}
use Rattle.link_needs.specs.Linking.{object}
use Rattle.link_core.specs.Bytes.{with_field}
use Rattle.link_tables.proofs.ListedFields.{all_contained}
use Rattle.link_core.proofs.sections.write_fields.Goals as goal

pub loop-relocation-init : goal.loop-relocation-init
loop-relocation-init c =
    let l = c.args.plan.now in
    let t = c.args.own.section in
    let all = relocations (object l c.args.own.object) t in
    let same : c.into_iter-relocation-iterator.result ≡ all = cc in (
      tt,
      tt,
      ap (fold (with_field l c.args.own.object t) c.args.bytes.now) same,
      refl,
      all_contained c.into_iter-relocation-iterator.result all same,
    )

pub loop-relocation-preserved : goal.loop-relocation-preserved
loop-relocation-preserved c =
    let l = c.args.plan.now in
    let o = c.args.own.object in
    let t = c.args.own.section in
    let rest = c.next.new.self in
    let kept = c.loop-relocation.invariant in
    let first = c.in-Some.ensures.steps in (
      tt,
      tt,
      ap (λ bytes. fold (with_field l o t) bytes rest) c.write_field.ensures.written
          ∙ ap (fold (with_field l o t) c.loop-relocation.bytes) (sym first)
          ∙ kept.2,
      c.write_field.ensures.filled ∙ kept.3,
      rest_all_of (Contains (relocations (object l o) t)) c.in-Some.relocation rest
          c.loop-relocation.relocation-iterator first kept.4,
    )
