use Rattle.std.proofs.Common.{◌∙◌, subst, take_all, Vec, Global, ℕ}
use Rattle.std.specs.List.{All}
use Rattle.job_link.specs.Mentions.{bytes_in}
use Rattle.elf_records.specs.FieldLaws.{AreBytes}
use Rattle.job_link.proofs.Held.{small_files}
use Rattle.job_link.proofs.fetching.Files.are_bytes.Goals as goal

pub returns : goal.returns
returns c =
    let files = c.as_slice-file-items.result.now in
    let all = take_all c.loop-file.file-index files c.loop-file-test.false ∙ c.as_slice-file-items.ensures.value in
    λ name. subst (λ held. AreBytes (bytes_in held name)) c.self.view_is
    (small_files name c.self.inside.names.keys c.self.inside.files.items
    (subst (λ fs. All (λ (file : Vec ℕ Global). AreBytes file.items) fs) all c.loop-file.invariant))
