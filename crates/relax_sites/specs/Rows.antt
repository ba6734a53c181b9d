-- The bytes that replace a site, a row for each form and choice ("ELF Handling For Thread-Local Storage", section 5;
-- psABI, "Thread-Local Storage"), and the field in them.
use Rattle.std.specs.Prelude.{ℕ, pos, negsuc, ◌+◌, ◌*◌, ◌%◌, ◌==◌, List, [], ◌∷◌, length, Option, Some, None, nat_lt}
use Rattle.std.specs.Prelude.{if◌then◌else◌}
use Rattle.elf_records.specs.declared.relocation.RelocationKind.TheVariants.{GotTpOff, TpOff32}
use Rattle.sequence_forms.specs.declared.forms.Form.{Form}
use Rattle.sequence_forms.specs.declared.forms.Form.TheVariants.{Gd, Ld, IeMov, IeAdd, GdInd, LdInd, DescLea, DescCall}
use Rattle.sequence_forms.specs.Forms.{row}
use Rattle.relax_sites.specs.declared.choices.Choice.{Choice}
use Rattle.relax_sites.specs.declared.choices.Choice.TheVariants.{GdLe, GdIe, LdLe, IeLe, DescLe, DescIe}
use Rattle.relax_sites.specs.declared.rows.NewField.{NewField}

-- how many bytes a sequence of a form has; its replacement has as many
abbrev pub form_length : Form → ℕ
form_length form = length ((row form).cells)

-- the four bytes of a field, zero until it is written
abbrev pub field_of_zeros : List ℕ
field_of_zeros = 0 ∷ 0 ∷ 0 ∷ 0 ∷ []

-- mov %fs:0, %rax
abbrev pub thread_pointer : List ℕ → List ℕ
thread_pointer rest = 0x64 ∷ 0x48 ∷ 0x8b ∷ 0x04 ∷ 0x25 ∷ 0 ∷ 0 ∷ 0 ∷ 0 ∷ rest

-- REX.W with the high bit of a register in ModRM's rm
abbrev pub rex_rm : ℕ → ℕ
rex_rm reg = if nat_lt reg 8 then 0x48 else 0x49

-- mov $x@tpoff, %r
abbrev pub mov_bytes : ℕ → List ℕ
mov_bytes reg = rex_rm reg ∷ 0xc7 ∷ (0xc0 + reg % 8) ∷ field_of_zeros

-- lea x@tpoff(%r), %r, with the high bit in both rm and reg; with %rsp or %r12 as its base lea would need one byte
-- more, so for these add $x@tpoff, %r
abbrev pub add_bytes : ℕ → List ℕ
add_bytes reg =
    if reg % 8 == 4
    then rex_rm reg ∷ 0x81 ∷ 0xc4 ∷ field_of_zeros
    else (if nat_lt reg 8 then 0x48 else 0x4d) ∷ 0x8d ∷ (0x80 + 9 * (reg % 8)) ∷ field_of_zeros

-- the table
abbrev pub new_bytes : Form → Choice → ℕ → List ℕ
-- lea x@tlsgd(%rip), %rdi; call __tls_get_addr becomes mov %fs:0, %rax; lea x@tpoff(%rax), %rax
new_bytes Gd GdLe reg = thread_pointer (0x48 ∷ 0x8d ∷ 0x80 ∷ field_of_zeros)
new_bytes GdInd GdLe reg = thread_pointer (0x48 ∷ 0x8d ∷ 0x80 ∷ field_of_zeros)
-- the same becomes mov %fs:0, %rax; add x@gottpoff(%rip), %rax
new_bytes Gd GdIe reg = thread_pointer (0x48 ∷ 0x03 ∷ 0x05 ∷ field_of_zeros)
new_bytes GdInd GdIe reg = thread_pointer (0x48 ∷ 0x03 ∷ 0x05 ∷ field_of_zeros)
-- lea x@tlsld(%rip), %rdi; call __tls_get_addr becomes mov %fs:0, %rax, with prefixes to 12 or 13 bytes
new_bytes Ld LdLe reg = 0x66 ∷ 0x66 ∷ 0x66 ∷ thread_pointer []
new_bytes LdInd LdLe reg = 0x66 ∷ 0x66 ∷ 0x66 ∷ 0x66 ∷ thread_pointer []
-- mov x@gottpoff(%rip), %r becomes mov $x@tpoff, %r
new_bytes IeMov IeLe reg = mov_bytes reg
-- add x@gottpoff(%rip), %r becomes lea x@tpoff(%r), %r, or add $x@tpoff, %r
new_bytes IeAdd IeLe reg = add_bytes reg
-- lea x@tlsdesc(%rip), %rax becomes mov $x@tpoff, %rax
new_bytes DescLea DescLe reg = 0x48 ∷ 0xc7 ∷ 0xc0 ∷ field_of_zeros
-- the same becomes mov x@gottpoff(%rip), %rax
new_bytes DescLea DescIe reg = 0x48 ∷ 0x8b ∷ 0x05 ∷ field_of_zeros
-- call *x@tlscall(%rax) becomes xchg %ax, %ax, a nop of two bytes
new_bytes DescCall DescLe reg = 0x66 ∷ 0x90 ∷ []
new_bytes DescCall DescIe reg = 0x66 ∷ 0x90 ∷ []
-- a kept site has no new bytes
new_bytes form choice reg = []

-- TPOFF32 of the site's symbol at that offset: its offset from the thread pointer
abbrev pub tpoff : ℕ → Option NewField
tpoff at = Some (record { at = at; kind = TpOff32; addend = pos 0 })

-- GOTTPOFF of the symbol: the distance from the field's end to the GOT's word for it
abbrev pub gottpoff : ℕ → Option NewField
gottpoff at = Some (record { at = at; kind = GotTpOff; addend = negsuc 3 })

-- the field in these bytes
abbrev pub new_field : Form → Choice → Option NewField
new_field Gd GdLe = tpoff 12
new_field GdInd GdLe = tpoff 12
new_field Gd GdIe = gottpoff 12
new_field GdInd GdIe = gottpoff 12
new_field IeMov IeLe = tpoff 3
new_field IeAdd IeLe = tpoff 3
new_field DescLea DescLe = tpoff 3
new_field DescLea DescIe = gottpoff 3
new_field form choice = None
