-- The images so far fit, and once one is late, all later ones are.
use Rattle.std.proofs.Common.{◌≡◌, true, take}
use Rattle.std.specs.Prelude.{All, AllPairs}
use Rattle.module_table.specs.declared.modules.ImageInfo.{ImageInfo}
use Rattle.module_table.specs.Modules.{IsInfo}
use Rattle.history_tests.proofs.histories.are_images.Given as goal

abbrev pub invariant-loop-info : goal.invariant-loop-info
invariant-loop-info l = record {
  each : All IsInfo (take l.info-index l.infos);
  late_last : AllPairs (λ (a b : ImageInfo). a.late ≡ true → b.late ≡ true) (take l.info-index l.infos);
  seen : All (λ (a : ImageInfo). a.late ≡ true → l.late ≡ true) (take l.info-index l.infos);
}
