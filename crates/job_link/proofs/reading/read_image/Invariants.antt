use Rattle.std.proofs.Common.{◌≡◌, length, map, take}
use Rattle.std.specs.List.{All}
use Rattle.job_link.specs.Given.{IsGivenImage, IsTaken}
use Rattle.job_link.specs.Mentions.{bytes_in}
use Rattle.job_link.proofs.reading.read_image.Given as goal

abbrev pub invariant-loop-reading : goal.invariant-loop-reading
invariant-loop-reading g l = record {
  kind : l.read.kind ≡ l.image.kind;
  objects : l.read.objects ≡ map (bytes_in l.files) (take (length l.yielded) l.image.objects);
  given : IsGivenImage l.read;
  taken : All (λ name. IsTaken l.fn.writable (bytes_in l.files name)) (take (length l.yielded) l.image.objects);
}
