-- The code of an object, by the sequence that reaches its variable.
use Rattle.std.specs.Prelude.{ℕ, ◌%◌, ◌==◌, Bool, true, false, List, if◌then◌else◌}
use Rattle.elf_records.specs.declared.relocation.Rela.{Rela}
use Rattle.generated_job.specs.declared.access.Access.{Access}
use Rattle.generated_job.specs.declared.access.Access.TheVariants as access
use Rattle.generated_job.specs.Generated.{shape_by}
use Rattle.generated_job.specs.Generated.{general_code, general_entries, initial_executable_code}
use Rattle.generated_job.specs.Generated.{initial_executable_entries}
use Rattle.generated_job.specs.Generated.{local_code, local_entries, module_code, module_entries}
use Rattle.generated_job.specs.Shapes.{Shape}

abbrev pub access_of : ℕ → Access
access_of i =
    if i % 3 == 1 then access.GeneralDynamic
    else if i % 3 == 2 then access.InitialExecutable
    else access.LocalDynamic

abbrev pub code_of : Access → List ℕ
code_of access.GeneralDynamic = general_code
code_of access.InitialExecutable = initial_executable_code
code_of access.LocalDynamic = local_code
code_of access.GeneralDynamicWrite = module_code

abbrev pub entries_of : Access → List Rela
entries_of access.GeneralDynamic = general_entries
entries_of access.InitialExecutable = initial_executable_entries
entries_of access.LocalDynamic = local_entries
entries_of access.GeneralDynamicWrite = module_entries

abbrev pub calls_of : Access → Bool
calls_of access.InitialExecutable = false
calls_of _ = true

-- object i of a program, whose variable has the initial value v
abbrev pub shape_with : ℕ → ℕ → Shape
shape_with i v = shape_by (code_of (access_of i)) (entries_of (access_of i)) (calls_of (access_of i)) i v
