use Rattle.std.proofs.Common.{All, sym, subst}
use Rattle.module_table.specs.Modules.{AreInfos, IsInfo}
use Rattle.meant_images.proofs.Known.{are_infos}
use Rattle.meant_images.proofs.images.MeantImages.new.Goals as goal

pub invariant_of-result : goal.invariant_of-result
invariant_of-result c =
    let known = c.in_ok-infos.ensures.infos in
    record {
      sound = c.requires.sound;
      infos_are = known;
      kept = subst AreInfos (sym known)
          (are_infos c.args.inputs.now c.requires.some c.requires.few c.requires.late
          (subst (All IsInfo) known c.in_ok-infos.ensures.each));
      count = c.in_ok-tables.ensures.count;
      each = c.in_ok-tables.ensures.each;
    }
