-- What a read keeps of an image: numbers that are computed once, so that later look-ups are quick.
use Rattle.std.specs.Prelude.{◌-◌, ◌==◌, ℕ, Bool, List, Option, Some, None}
use Rattle.std.specs.Prelude.{◌&&◌, nat_lt, if◌then◌else◌}
use Rattle.elf_records.specs.declared.file_header.TheConstants.{ET_DYN}
use Rattle.elf_records.specs.declared.dynamic.TheConstants.{DT_FLAGS, DT_FLAGS_1}
use Rattle.image_rules.specs.declared.places.FileKind.{FileKind}
use Rattle.image_rules.specs.declared.places.FileKind.TheVariants.{Exe, Pie, Module}
use Rattle.image_faults.specs.Parts.{header, has_relro, behind_last_writable}
use Rattle.image_faults.specs.Array.{has_tag, flags_entry}

-- what kind of image the file is: by its type, and by whether it has FLAGS_1
abbrev pub file_kind : List ℕ → FileKind
file_kind b =
    if (header b).e_type == ET_DYN then (if has_tag b (flags_entry b) DT_FLAGS_1 then Pie else Module) else Exe

-- whether it has FLAGS
abbrev pub is_flagged : List ℕ → Bool
is_flagged b = has_tag b (flags_entry b) DT_FLAGS

-- the LOAD that GNU_RELRO names: the last one that is written
abbrev pub got : List ℕ → Option ℕ
got b =
    if has_relro b && nat_lt 0 (behind_last_writable b) then Some (behind_last_writable b - 1) else None
