use Rattle.std.proofs.Common.{arith, ◌∙◌, ◌+◌, ap, ◌≡◌, length}
use Rattle.loaded_modules.specs.Ends.{ends_behind}
use Rattle.loaded_modules.specs.Holding.{images_of}
use Rattle.loaded_modules.specs.Images.{infos, static_offset}
use Rattle.loaded_modules.proofs.Kept.{length-ends, length-infos, offset_is}
use Rattle.loaded_modules.proofs.modules.Modules.static_offset.Goals as goal

pub index-requires : goal.index-requires
index-requires c =
    let m = images_of c.self.inside in
    let count = length-infos m c.self.invariant.each in
    let ends = length-ends (infos m) 0 in
    let offsets : length c.self.inside.static_offsets.items ≡ 1 + length (ends_behind (infos m) 0) =
    ap length c.self.invariant.offsets ∙ omega arith in
    let images : length c.as_slice.result.now ≡ length m.images = ap length c.as_slice.ensures.value in
    let at = c.min-at.ensures in
    omega (arith, count, ends, offsets, images, at)

pub returns : goal.returns
returns c =
    let m = images_of c.self.inside in
    let count = length-infos m c.self.invariant.each in
    let images : length c.as_slice.result.now ≡ length m.images = ap length c.as_slice.ensures.value in
    let at = c.min-at.ensures in
    offset_is m c.self.inside.static_offsets.items c.args.image c.min-at.result c.index.result.now c.self.invariant.offsets
    (λ within. omega (arith, count, images, at, within))
    (λ past. omega (arith, count, images, at, past)) c.index.ensures
    ∙ ap (λ m. static_offset m c.args.image) c.self.view_is
