-- A program of one object, linked with rewriting and without, beside a module that starts with it and has y. The
-- object, as assembled:
--
--   f: data16 lea x@tlsgd(%rip), %rdi                          .section .tdata
--      data16 data16 rex64 call __tls_get_addr@PLT                  .long 7
--      data16 lea y@tlsgd(%rip), %rdi                          x:   .long 5
--      data16 data16 rex64 call __tls_get_addr@PLT
--      mov y@gottpoff(%rip), %rax
--      ret
--
-- x is the program's own and lies at offset -4 from the thread pointer, so the program's code can hold the offset. y is
-- not, so its offset stands in a word of the GOT, which the last sequence reads already.
use Rattle.std.specs.Prelude.{◌≡◌, ◌+◌, ℕ, Bool, true, false, List, [], ◌∷◌, Some, codes, length, map}
use Rattle.std.specs.List.{flat_map, range_with_len}
use Rattle.elf_records.specs.Digits.{bytes_of_digits}
use Rattle.link_core.specs.Images.{image_of}
use Rattle.link_faults.specs.declared.image_kind.ImageKind.TheVariants.{Exe}
use Rattle.link_needs.specs.Linking.{Linking}
use Rattle.relax_sites.specs.declared.choices.Choice.{Choice}
use Rattle.relax_sites.specs.declared.choices.Choice.TheVariants.{GdLe, GdIe}
use Rattle.sequence_forms.specs.declared.forms.Form.TheVariants.{Gd, IeMov}
use Rattle.sequence_forms.specs.declared.places.Site.{Site}
use Rattle.standing_sequences.specs.Bytes.{byte_at}
use Rattle.standing_sequences.specs.Table.{Matches}

-- ** the object's file, as hexadecimal digits

unfoldable pub object : List ℕ
object = flat_map bytes_of_digits (
    codes "7f454c4602010100000000000000000001003e000100000000000000000000000000000000000000d801000000000000"
    ∷ codes "0000000040000000000040000700060066488d3d00000000666648e80000000066488d3d00000000666648e800000000"
    ∷ codes "488b0500000000c307000000050000000000000000000000000000000000000000000000000000000100000006000300"
    ∷ codes "040000000000000000000000000000000300000010000100000000000000000000000000000000000500000010000000"
    ∷ codes "000000000000000000000000000000001b00000010000000000000000000000000000000000000002a00000016000000"
    ∷ codes "0000000000000000000000000000000000780066005f474c4f42414c5f4f46465345545f5441424c455f005f5f746c73"
    ∷ codes "5f6765745f616464720079000000000004000000000000001300000001000000fcffffffffffffff0c00000000000000"
    ∷ codes "0400000004000000fcffffffffffffff14000000000000001300000005000000fcffffffffffffff1c00000000000000"
    ∷ codes "0400000004000000fcffffffffffffff23000000000000001600000005000000fcffffffffffffff002e73796d746162"
    ∷ codes "002e737472746162002e7368737472746162002e72656c612e74657874002e7464617461000000000000000000000000"
    ∷ codes "000000000000000000000000000000000000000000000000000000000000000000000000000000000000000000000000"
    ∷ codes "000000000000000020000000010000000600000000000000000000000000000040000000000000002800000000000000"
    ∷ codes "0000000000000000010000000000000000000000000000001b0000000400000040000000000000000000000000000000"
    ∷ codes "300100000000000078000000000000000400000001000000080000000000000018000000000000002600000001000000"
    ∷ codes "030400000000000000000000000000006800000000000000080000000000000000000000000000000100000000000000"
    ∷ codes "000000000000000001000000020000000000000000000000000000000000000070000000000000009000000000000000"
    ∷ codes "050000000200000008000000000000001800000000000000090000000300000000000000000000000000000000000000"
    ∷ codes "00010000000000002c000000000000000000000000000000010000000000000000000000000000001100000003000000"
    ∷ codes "00000000000000000000000000000000a8010000000000002d0000000000000000000000000000000100000000000000"
    ∷ codes "0000000000000000" ∷ [])

-- ** the program

abbrev pub asks_for_x : Site
asks_for_x = record { section = 1; start = 0; len = 16; form = Gd; symbol = 1; reg = 0 }

abbrev pub asks_for_y : Site
asks_for_y = record { section = 1; start = 16; len = 16; form = Gd; symbol = 5; reg = 0 }

abbrev pub loads_y : Site
loads_y = record { section = 1; start = 32; len = 7; form = IeMov; symbol = 5; reg = 0 }

unfoldable pub program : Bool → Linking
unfolding object
program relax = record {
  kind = Exe;
  objects = object ∷ [];
  startup = [] ∷ (codes "y" ∷ []) ∷ [];
  sites = (asks_for_x ∷ asks_for_y ∷ loads_y ∷ []) ∷ [];
  relax = relax;
}

-- ** its code

abbrev pub rewritten_code : List ℕ
rewritten_code =
    -- mov %fs:0, %rax; lea -4(%rax), %rax
    0x64 ∷ 0x48 ∷ 0x8b ∷ 0x04 ∷ 0x25 ∷ 0 ∷ 0 ∷ 0 ∷ 0 ∷ 0x48 ∷ 0x8d ∷ 0x80 ∷ 0xfc ∷ 0xff ∷ 0xff ∷ 0xff
    -- mov %fs:0, %rax; add 0x402000(%rip), %rax
    ∷ 0x64 ∷ 0x48 ∷ 0x8b ∷ 0x04 ∷ 0x25 ∷ 0 ∷ 0 ∷ 0 ∷ 0 ∷ 0x48 ∷ 0x03 ∷ 0x05 ∷ 0xe0 ∷ 0x1f ∷ 0x00 ∷ 0x00
    -- mov 0x402000(%rip), %rax; ret
    ∷ 0x48 ∷ 0x8b ∷ 0x05 ∷ 0xd9 ∷ 0x1f ∷ 0x00 ∷ 0x00 ∷ 0xc3 ∷ []

abbrev pub kept_code : List ℕ
kept_code =
    -- data16 lea 0x402000(%rip), %rdi; data16 data16 rex64 call 0x403000
    0x66 ∷ 0x48 ∷ 0x8d ∷ 0x3d ∷ 0xf8 ∷ 0x1f ∷ 0x00 ∷ 0x00 ∷ 0x66 ∷ 0x66 ∷ 0x48 ∷ 0xe8 ∷ 0xf0 ∷ 0x2f ∷ 0x00 ∷ 0x00
    -- data16 lea 0x402010(%rip), %rdi; data16 data16 rex64 call 0x403000
    ∷ 0x66 ∷ 0x48 ∷ 0x8d ∷ 0x3d ∷ 0xf8 ∷ 0x1f ∷ 0x00 ∷ 0x00 ∷ 0x66 ∷ 0x66 ∷ 0x48 ∷ 0xe8 ∷ 0xe0 ∷ 0x2f ∷ 0x00 ∷ 0x00
    -- mov 0x402020(%rip), %rax; ret
    ∷ 0x48 ∷ 0x8b ∷ 0x05 ∷ 0xf9 ∷ 0x1f ∷ 0x00 ∷ 0x00 ∷ 0xc3 ∷ []

-- the code of an image is these bytes, from 0x400000 on
abbrev pub HasCode : Linking → List ℕ → Type 0
HasCode l bytes =
    map (λ k. byte_at (image_of l) (0x400000 + k)) (range_with_len 0 (length bytes)) ≡ map Some bytes

-- linked with rewriting, two of the sequences match the table, and the third does not; without, none does; the
-- code is as the table says
pub record ExampleStands : Type 0 where
  pub own : Matches (program true) 0 asks_for_x GdLe
  pub theirs : Matches (program true) 0 asks_for_y GdIe
  pub reads_already : (choice : Choice) → Matches (program true) 0 loads_y choice → ⊥
  pub rewritten : HasCode (program true) rewritten_code
  pub not_asked : (site : Site) (choice : Choice) → Matches (program false) 0 site choice → ⊥
  pub kept : HasCode (program false) kept_code
