use Rattle.std.proofs.Common.{◌≡◌, take}
use Rattle.std.specs.List.{All}
use Rattle.job_link.specs.Given.{Allows, Given, IsTaken}
use Rattle.job_link.specs.Mentions.{bytes_in}
use Rattle.job_link.specs.Reads.{IsReadIn}
use Rattle.job_link.specs.Walks.{names_in}
use Rattle.job_link.proofs.reading.read_objects.Given as goal

abbrev pub invariant-loop-number : goal.invariant-loop-number
invariant-loop-number g l = record {
  items : l.number-items ≡ l.job.mentions;
  read : IsReadIn (bytes_in l.files) l.job (take l.number-index l.number-items) l.images.items;
  allowed : All (λ (g : Given). All (Allows l.fn.writable) g.objects) l.images.items;
  taken : All (λ name. IsTaken l.fn.writable (bytes_in l.files name))
      (names_in l.job (take l.number-index l.number-items));
}
