use Rattle.std.proofs.Common.{◌≡◌, [], map, take}
use Rattle.std.specs.List.{All}
use Rattle.job_text.specs.declared.images.Image.{Image}
use Rattle.job_link.specs.Given.{Given, IsGivenImage}
use Rattle.job_link.specs.Reads.{kinds_of}
use Rattle.job_link.proofs.reading.empty_images.Given as goal

abbrev pub invariant-loop-image : goal.invariant-loop-image
invariant-loop-image l = record {
  items : l.image-items ≡ l.job.images;
  kinds : kinds_of l.images.items ≡ map (λ (image : Image). image.kind) (take l.image-index l.image-items);
  given : All IsGivenImage l.images.items;
  empty : All (λ (g : Given). g.objects ≡ []) l.images.items;
}
