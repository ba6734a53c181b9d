-- The conditions on the links of a job.
use Rattle.std.specs.Prelude.{◌<◌, ◌≤◌, ◌^◌, List, length, map}
use Rattle.std.specs.List.{All}
use Rattle.job_text.specs.LateImages.{LateLast}
use Rattle.link_core.specs.Laws.{HasNoStray}
use Rattle.link_needs.specs.Linking.{Linking}
use Rattle.linked_modules.specs.Together.{AreTogether}
use Rattle.elf_records.specs.FieldLaws.{AreBytes}
use Rattle.job_text.specs.ProgramFirst.{ProgramFirst}

-- each image links, together with the startup images; files are bytes, and no object has a loose relocation or a stray
-- call; an image has few enough objects that no two symbols have the same number; the program comes first, and images
-- that an open loads come last
pub record AreReady (ls : List Linking) : Type 0 where
  pub together : AreTogether ls
  pub bytes : All (λ (l : Linking). All AreBytes l.objects) ls
  pub stray : All HasNoStray ls
  pub few : All (λ (l : Linking). length l.objects < 2 ^ 32) ls
  pub program : ProgramFirst (map (λ l. l.kind) ls)
  pub late : LateLast (map (λ l. l.kind) ls)

-- links of a job that are ready, 64 images at most
pub record AreJob (ls : List Linking) : Type 0 where
  pub ready : AreReady ls
  pub few : length ls ≤ 64
