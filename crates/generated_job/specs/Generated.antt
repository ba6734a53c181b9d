-- The job that `gen N` makes, and its objects.
use Rattle.std.specs.Prelude.{ℕ, ℤ, zero, suc, negsuc, pos, ◌+◌, ◌*◌, ◌%◌, ◌^◌, ◌==◌, List, [], ◌∷◌, ◌++◌, codes, map}
use Rattle.std.specs.Prelude.{Bool, true, false, if◌then◌else◌}
use Rattle.std.specs.Fmt.{decimal}
use Rattle.std.specs.List.{flat_map, range_with_len}
use Rattle.elf_records.specs.Fields.{bytes_of}
use Rattle.elf_records.specs.declared.relocation.Rela.{Rela}
use Rattle.generated_job.specs.Shapes.{Shape, object_bytes}

-- ** names

unfoldable pub object_name : ℕ → List ℕ
object_name i = codes "g" ++ (decimal i ++ codes ".o")

unfoldable pub function_name : ℕ → List ℕ
function_name i = codes "f" ++ decimal i

unfoldable pub variable_name : ℕ → List ℕ
variable_name i = codes "x" ++ decimal i

-- ** the initial values of the variables: each follows from the one before it

unfoldable pub value_of : ℕ → ℕ → ℕ
value_of n zero = n
value_of n (suc i) = (5 * value_of n i + 3) % 2 ^ 32

-- ** code

-- the relocation of a field: of a type, for a symbol; the addend -4 is that of a field at the end of its instruction
abbrev pub entry : ℕ → ℕ → ℕ → ℤ → Rela
entry offset kind symbol addend = record { offset = offset; info = 2 ^ 32 * symbol + kind; addend = addend }

abbrev pub entry_to_end : ℕ → ℕ → ℕ → Rela
entry_to_end offset kind symbol = entry offset kind symbol (negsuc 3)

-- lea x@tlsgd(%rip), %rdi; call __tls_get_addr@plt; and then the rest
abbrev pub general : List ℕ → List ℕ
general rest =
    0x66 ∷ 0x48 ∷ 0x8d ∷ 0x3d ∷ 0 ∷ 0 ∷ 0 ∷ 0 ∷ 0x66 ∷ 0x66 ∷ 0x48 ∷ 0xe8 ∷ 0 ∷ 0 ∷ 0 ∷ 0 ∷ rest

-- mov (%rax), %eax; ret: after General Dynamic
abbrev pub general_code : List ℕ
general_code = general (0x8b ∷ 0x00 ∷ 0xc3 ∷ [])

-- TLSGD (19) of the variable, PLT32 (4) of `__tls_get_addr`
abbrev pub general_entries : List Rela
general_entries = entry_to_end 4 19 2 ∷ entry_to_end 12 4 3 ∷ []

-- mov x@gottpoff(%rip), %rax; mov %fs:(%rax), %eax; ret
abbrev pub initial_executable_code : List ℕ
initial_executable_code = 0x48 ∷ 0x8b ∷ 0x05 ∷ 0 ∷ 0 ∷ 0 ∷ 0 ∷ 0x64 ∷ 0x8b ∷ 0x00 ∷ 0xc3 ∷ []

-- GOTTPOFF (22)
abbrev pub initial_executable_entries : List Rela
initial_executable_entries = entry_to_end 3 22 2 ∷ []

-- lea x@tlsld(%rip), %rdi; call __tls_get_addr@plt; mov x@dtpoff(%rax), %eax; ret
abbrev pub local_code : List ℕ
local_code =
    0x48 ∷ 0x8d ∷ 0x3d ∷ 0 ∷ 0 ∷ 0 ∷ 0 ∷ 0xe8 ∷ 0 ∷ 0 ∷ 0 ∷ 0 ∷ 0x8b ∷ 0x80 ∷ 0 ∷ 0 ∷ 0 ∷ 0 ∷ 0xc3 ∷ []

-- TLSLD (20), PLT32 (4), DTPOFF32 (21)
abbrev pub local_entries : List Rela
local_entries = entry_to_end 3 20 2 ∷ entry_to_end 8 4 3 ∷ entry 14 21 2 (pos 0) ∷ []

-- push %rdi; lea v@tlsgd(%rip), %rdi; call __tls_get_addr@plt; pop %rcx; mov %ecx, (%rax); ret
abbrev pub module_code : List ℕ
module_code = 0x57 ∷ general (0x59 ∷ 0x89 ∷ 0x08 ∷ 0xc3 ∷ [])

abbrev pub module_entries : List Rela
module_entries = entry_to_end 5 19 2 ∷ entry_to_end 13 4 3 ∷ []

-- ** objects

-- object i of a program, by its code, the relocations of this, whether it calls, and its variable's initial value
abbrev pub shape_by : List ℕ → List Rela → Bool → ℕ → ℕ → Shape
shape_by code relocations calls i value = record {
  function = function_name i;
  variable = variable_name i;
  code = code;
  relocations = relocations;
  initial = bytes_of 4 value;
  zeros = 0;
  calls = calls;
}

abbrev pub general_shape : ℕ → ℕ → Shape
general_shape n i = shape_by general_code general_entries true i (value_of n i)

abbrev pub initial_executable_shape : ℕ → ℕ → Shape
initial_executable_shape n i =
    shape_by initial_executable_code initial_executable_entries false i (value_of n i)

abbrev pub local_shape : ℕ → ℕ → Shape
local_shape n i = shape_by local_code local_entries true i (value_of n i)

-- object i of n reads its variable by a General Dynamic, an Initial Exec or a Local Dynamic sequence, in turns
unfoldable pub shape_of : ℕ → ℕ → Shape
shape_of n i =
    if i % 3 == 1 then general_shape n i else if i % 3 == 2 then initial_executable_shape n i else local_shape n i

-- the module's object writes its argument to its variable, whose initial value is 5, and returns the address
unfoldable pub module_shape : Shape
module_shape = record {
  function = codes "f";
  variable = codes "v";
  code = module_code;
  relocations = module_entries;
  initial = 5 ∷ 0 ∷ 0 ∷ 0 ∷ [];
  zeros = 4;
  calls = true;
}

-- the files of the objects, each with its name
unfoldable pub generated_files : ℕ → List (List ℕ × List ℕ)
generated_files n =
    map (λ i. (object_name i, object_bytes (shape_of n i))) (range_with_len 1 n)
    ++ (codes "p.o", object_bytes module_shape) ∷ []

-- ** the job: a program of n objects, a late module, and two threads. The first opens the module and calls each
-- function of the program; the second calls the module's function with each number, and peeks at its variable

abbrev pub object_word : ℕ → List ℕ
object_word i = codes " " ++ object_name i

unfoldable pub program_line : ℕ → List ℕ
program_line n = codes "image app exe" ++ flat_map object_word (range_with_len 1 n)

unfoldable pub program_call : ℕ → List ℕ
program_call i = codes "1 call app " ++ (function_name i ++ codes " 0 0 0\n")

unfoldable pub module_call : ℕ → List ℕ
module_call i = codes "2 call plug f " ++ (decimal i ++ codes " 0 0\n")

unfoldable pub generated_text : ℕ → List ℕ
generated_text n =
    program_line n ++ (codes "\nimage plug late p.o\nthreads 2\n1 open plug\n"
    ++ (flat_map program_call (range_with_len 1 n)
    ++ (flat_map module_call (range_with_len 1 n) ++ codes "2 peek plug v 4\n2 close plug\n")))
