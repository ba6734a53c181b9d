use Rattle.std.proofs.Common.{◌≡◌, ◌∙◌, length, sym, subst, ap, arith, rules}
use Rattle.std.proofs.lemmas.List.{length-map}
use Rattle.std.specs.List.{All}
use Rattle.module_table.specs.Modules.{AreInfos, IsInfo}
use Rattle.loaded_modules.specs.Images.{infos, infos_of}
use Rattle.loaded_modules.specs.Loader.{export_of}
use Rattle.loaded_modules.proofs.Kept.{infos_are}
use Rattle.loaded_modules.proofs.modules.Modules.new.Goals as goal

pub static_offsets-requires : goal.static_offsets-requires
static_offsets-requires c =
    let kinds = c.in_ok-kinds.kinds.items in
    let images = c.args.images.items in
    let told : c.in_ok-infos.infos.items ≡ infos_of kinds images = search rules in
    subst AreInfos (sym (c.as_slice-3.ensures.value ∙ told))
    (infos_are c.args.job.now images kinds c.in_ok-kinds.ensures.values c.requires c.in_ok-kinds.ensures.some c.in_ok-kinds.ensures.few
    (subst (All IsInfo) told c.in_ok-infos.ensures.kept))

pub invariant_of-result : goal.invariant_of-result
unfolding infos export_of
invariant_of-result c =
    let kinds = c.in_ok-kinds.kinds.items in
    let images = c.args.images.items in
    let job = c.args.job.now in
    let long : length kinds ≡ length job.images = ap length c.in_ok-kinds.ensures.values
    ∙ length-map job.images (λ image. image.kind) in
    let some = c.in_ok-kinds.ensures.some in
    let few = c.in_ok-kinds.ensures.few in
    let each = c.requires.each in
    let told : c.in_ok-infos.infos.items ≡ infos_of kinds images = search rules in
    record {
      each = omega (arith, long, each);
      some = omega (arith, long, some);
      few = omega (arith, long, few);
      told = told;
      are_infos = infos_are job images kinds c.in_ok-kinds.ensures.values c.requires some few
          (subst (All IsInfo) told c.in_ok-infos.ensures.kept);
      offsets = search rules;
      imported = search rules;
    }
