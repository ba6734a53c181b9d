-- Generated objects link: their names, their places and their fields together.
use Rattle.std.proofs.Common.{◌≤◌, ℕ, arith}
use Rattle.generated_job.specs.Generated.{general_shape, initial_executable_shape, local_shape, module_shape}
use Rattle.generated_job.specs.Shapes.{object_bytes}
use Rattle.generated_laws.specs.Reading.{ReadsAs}
use Rattle.generated_laws.specs.Linked.{GeneratedObjectsLink}
use Rattle.generated_laws.proofs.FieldLinks.{module_links, program_links}
use Rattle.generated_laws.proofs.NameGenerated.{ModuleReads, ProgramReads, program_bound}
use Rattle.generated_laws.proofs.NameLinked.{module_has_names, program_has_names, sound}
use Rattle.generated_laws.proofs.ObjectReads.{object_reads}
use Rattle.generated_laws.proofs.ObjectShapes.{general_small, initial_small, local_small, module_small, of_shape}
use Rattle.generated_laws.proofs.PlaceShapes.{module_lawful, program_lawful}

program_reads : (n : ℕ) → n ≤ 1000 → ProgramReads n
program_reads n few i first last = of_shape (λ s. ReadsAs (object_bytes s) s) n i
    (object_reads (general_shape n i) (general_small n i (omega arith)))
    (object_reads (initial_executable_shape n i) (initial_small n i (omega arith)))
    (object_reads (local_shape n i) (local_small n i (omega arith)))

module_reads : ModuleReads
module_reads = object_reads module_shape module_small

pub objects_link : GeneratedObjectsLink
objects_link = record {
  program = λ n some few l given relax program are.
      let own = program_reads n few in
      program_links n few l relax program are own (program_bound n few own)
      (sound l (program_has_names n some few own l given are) (program_lawful l n few own are));
  late = λ l given relax late are.
      module_links l given are module_reads
      (sound l (module_has_names module_reads l given are) (module_lawful l module_reads are));
}
