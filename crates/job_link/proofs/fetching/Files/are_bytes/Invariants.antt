use Rattle.std.proofs.Common.{ℕ, take, Vec, Global}
use Rattle.std.specs.List.{All}
use Rattle.elf_records.specs.FieldLaws.{AreBytes}
use Rattle.job_link.proofs.fetching.Files.are_bytes.Given as goal

abbrev pub invariant-loop-file : goal.invariant-loop-file
invariant-loop-file l = All (λ (file : Vec ℕ Global). AreBytes file.items) (take l.file-index l.file-items)
