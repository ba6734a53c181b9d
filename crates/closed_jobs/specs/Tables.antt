-- A program, a startup module and a late one, whose code reaches variables by every kind of entry of the global offset
-- table. No sequence is rewritten. Their objects, as assembled:
--
--   program f: gd a, gd y, desc a, desc y, ie a, ie y, mov f@gotpcrel(%rip), %rax
--              .tdata .long 7; a: .long 5
--   started g: ld y, gd y, desc y, ie y, mov g@gotpcrel(%rip), %rax
--              .tdata .long 1, 2; y: .long 3
--   late    h: ld z, gd z, gd y, desc z, desc y, ie z, ie y, mov h@gotpcrel(%rip), %rax
--              .tdata .quad 1; z: .quad 2
--
--   gd x: data16 lea x@tlsgd(%rip), %rdi                    ld x: lea x@tlsld(%rip), %rdi
--         data16 data16 rex64 call __tls_get_addr@PLT             call __tls_get_addr@PLT
--   ie x: mov x@gottpoff(%rip), %rax                        desc x: lea x@tlsdesc(%rip), %rax
--                                                                   call *x@tlscall(%rax)
--
-- The program, which can be moved, is instance 1; the startup module is instance 2. Thread 1 opens the late module,
-- closes it and opens it again: then it is instance 4, with the id 3 again, and its block is the second one of 16
-- bytes that the surplus gives after the 20 bytes of the first two.
use Rattle.std.specs.Prelude.{◌≡◌, ◌+◌, ◌*◌, ◌-◌, ◌^◌, ℕ, true, false, List, [], ◌∷◌, Some, codes, length, map}
use Rattle.std.specs.List.{flat_map, range_with_len}
use Rattle.elf_records.specs.Fields.{bytes_of}
use Rattle.guest_machine.specs.Ranges.{byte_in}
use Rattle.guest_operands.specs.declared.space.Access.TheVariants.{Read}
use Rattle.link_faults.specs.declared.image_kind.ImageKind.TheVariants.{Pie, Start, Late}
use Rattle.link_needs.specs.Linking.{Linking}
use Rattle.link_needs.specs.Needs.{entries, got_start}
use Rattle.loaded_modules.specs.declared.instance.Instance.{Instance}
use Rattle.loaded_words.specs.Words.{loaded_words}
use Rattle.module_table.specs.declared.events.Event.{Event}
use Rattle.sequence_forms.specs.declared.forms.Form.TheVariants.{Gd, Ld, IeMov, DescLea, DescCall}
use Rattle.thread_blocks.specs.Instances.{numbered_instance}
use Rattle.whole_meaning.specs.Spots.{bias_of}
use Rattle.closed_jobs.specs.Worlds.{file, images_of, link_of_object, loads_of_links}

unfoldable pub app_object : List ℕ
unfolding file
app_object = file (
    codes "7f454c4602010100000000000000000001003e0001000000000000000000000000000000000000008802000000000000"
    ∷ codes "0000000040000000000040000700060066488d3d00000000666648e80000000066488d3d00000000666648e800000000"
    ∷ codes "488d0500000000ff10488d0500000000ff10488b0500000000488b0500000000488b0500000000c30700000005000000"
    ∷ codes "000000000000000000000000000000000000000000000000010000001200010000000000000000004800000000000000"
    ∷ codes "030000001000000000000000000000000000000000000000190000001600030004000000000000000400000000000000"
    ∷ codes "1b00000010000000000000000000000000000000000000002a0000001600000000000000000000000000000000000000"
    ∷ codes "0066005f474c4f42414c5f4f46465345545f5441424c455f0061005f5f746c735f6765745f6164647200790000000000"
    ∷ codes "04000000000000001300000003000000fcffffffffffffff0c000000000000000400000004000000fcffffffffffffff"
    ∷ codes "14000000000000001300000005000000fcffffffffffffff1c000000000000000400000004000000fcffffffffffffff"
    ∷ codes "23000000000000002200000003000000fcffffffffffffff270000000000000023000000030000000000000000000000"
    ∷ codes "2c000000000000002200000005000000fcffffffffffffff300000000000000023000000050000000000000000000000"
    ∷ codes "35000000000000001600000003000000fcffffffffffffff3c000000000000001600000005000000fcffffffffffffff"
    ∷ codes "43000000000000002a00000001000000fcffffffffffffff002e73796d746162002e737472746162002e736873747274"
    ∷ codes "6162002e72656c612e74657874002e746461746100000000000000000000000000000000000000000000000000000000"
    ∷ codes "000000000000000000000000000000000000000000000000000000000000000000000000000000002000000001000000"
    ∷ codes "060000000000000000000000000000004000000000000000480000000000000000000000000000000100000000000000"
    ∷ codes "00000000000000001b000000040000004000000000000000000000000000000050010000000000000801000000000000"
    ∷ codes "040000000100000008000000000000001800000000000000260000000100000003040000000000000000000000000000"
    ∷ codes "880000000000000008000000000000000000000000000000010000000000000000000000000000000100000002000000"
    ∷ codes "000000000000000000000000000000009000000000000000900000000000000005000000010000000800000000000000"
    ∷ codes "180000000000000009000000030000000000000000000000000000000000000020010000000000002c00000000000000"
    ∷ codes "000000000000000001000000000000000000000000000000110000000300000000000000000000000000000000000000"
    ∷ codes "58020000000000002d00000000000000000000000000000001000000000000000000000000000000" ∷ [])

unfoldable pub lib_object : List ℕ
unfolding file
lib_object = file (
    codes "7f454c4602010100000000000000000001003e0001000000000000000000000000000000000000001802000000000000"
    ∷ codes "00000000400000000000400007000600488d3d00000000e80000000066488d3d00000000666648e800000000488d0500"
    ∷ codes "000000ff10488b0500000000488b0500000000c301000000020000000300000000000000000000000000000000000000"
    ∷ codes "000000000000000001000000120001000000000000000000340000000000000003000000100000000000000000000000"
    ∷ codes "00000000000000001900000016000300080000000000000004000000000000001b000000100000000000000000000000"
    ∷ codes "00000000000000000067005f474c4f42414c5f4f46465345545f5441424c455f0079005f5f746c735f6765745f616464"
    ∷ codes "720000000000000003000000000000001400000003000000fcffffffffffffff08000000000000000400000004000000"
    ∷ codes "fcffffffffffffff10000000000000001300000003000000fcffffffffffffff18000000000000000400000004000000"
    ∷ codes "fcffffffffffffff1f000000000000002200000003000000fcffffffffffffff23000000000000002300000003000000"
    ∷ codes "000000000000000028000000000000001600000003000000fcffffffffffffff2f000000000000002a00000001000000"
    ∷ codes "fcffffffffffffff002e73796d746162002e737472746162002e7368737472746162002e72656c612e74657874002e74"
    ∷ codes "646174610000000000000000000000000000000000000000000000000000000000000000000000000000000000000000"
    ∷ codes "000000000000000000000000000000000000000000000000200000000100000006000000000000000000000000000000"
    ∷ codes "400000000000000034000000000000000000000000000000010000000000000000000000000000001b00000004000000"
    ∷ codes "400000000000000000000000000000002801000000000000c00000000000000004000000010000000800000000000000"
    ∷ codes "180000000000000026000000010000000304000000000000000000000000000074000000000000000c00000000000000"
    ∷ codes "000000000000000001000000000000000000000000000000010000000200000000000000000000000000000000000000"
    ∷ codes "800000000000000078000000000000000500000001000000080000000000000018000000000000000900000003000000"
    ∷ codes "00000000000000000000000000000000f8000000000000002a0000000000000000000000000000000100000000000000"
    ∷ codes "0000000000000000110000000300000000000000000000000000000000000000e8010000000000002d00000000000000"
    ∷ codes "000000000000000001000000000000000000000000000000" ∷ [])

unfoldable pub plug_object : List ℕ
unfolding file
plug_object = file (
    codes "7f454c4602010100000000000000000001003e000100000000000000000000000000000000000000d002000000000000"
    ∷ codes "00000000400000000000400007000600488d3d00000000e80000000066488d3d00000000666648e80000000066488d3d"
    ∷ codes "00000000666648e800000000488d0500000000ff10488d0500000000ff10488b0500000000488b0500000000488b0500"
    ∷ codes "000000c30100000000000000020000000000000000000000000000000000000000000000000000000000000000000000"
    ∷ codes "010000001200010000000000000000005400000000000000030000001000000000000000000000000000000000000000"
    ∷ codes "1900000016000300080000000000000008000000000000001b0000001000000000000000000000000000000000000000"
    ∷ codes "2a00000016000000000000000000000000000000000000000068005f474c4f42414c5f4f46465345545f5441424c455f"
    ∷ codes "007a005f5f746c735f6765745f616464720079000000000003000000000000001400000003000000fcffffffffffffff"
    ∷ codes "08000000000000000400000004000000fcffffffffffffff10000000000000001300000003000000fcffffffffffffff"
    ∷ codes "18000000000000000400000004000000fcffffffffffffff20000000000000001300000005000000fcffffffffffffff"
    ∷ codes "28000000000000000400000004000000fcffffffffffffff2f000000000000002200000003000000fcffffffffffffff"
    ∷ codes "33000000000000002300000003000000000000000000000038000000000000002200000005000000fcffffffffffffff"
    ∷ codes "3c000000000000002300000005000000000000000000000041000000000000001600000003000000fcffffffffffffff"
    ∷ codes "48000000000000001600000005000000fcffffffffffffff4f000000000000002a00000001000000fcffffffffffffff"
    ∷ codes "002e73796d746162002e737472746162002e7368737472746162002e72656c612e74657874002e746461746100000000"
    ∷ codes "000000000000000000000000000000000000000000000000000000000000000000000000000000000000000000000000"
    ∷ codes "000000000000000000000000000000002000000001000000060000000000000000000000000000004000000000000000"
    ∷ codes "54000000000000000000000000000000010000000000000000000000000000001b000000040000004000000000000000"
    ∷ codes "000000000000000068010000000000003801000000000000040000000100000008000000000000001800000000000000"
    ∷ codes "260000000100000003040000000000000000000000000000940000000000000010000000000000000000000000000000"
    ∷ codes "01000000000000000000000000000000010000000200000000000000000000000000000000000000a800000000000000"
    ∷ codes "900000000000000005000000010000000800000000000000180000000000000009000000030000000000000000000000"
    ∷ codes "000000000000000038010000000000002c00000000000000000000000000000001000000000000000000000000000000"
    ∷ codes "110000000300000000000000000000000000000000000000a0020000000000002d000000000000000000000000000000"
    ∷ codes "01000000000000000000000000000000" ∷ [])

-- the exports of the two startup images
abbrev pub startup : List (List (List ℕ))
startup = (codes "a" ∷ []) ∷ (codes "y" ∷ []) ∷ []

unfoldable pub app : Linking
unfolding app_object
app = link_of_object Pie app_object startup false
    (record { section = 1; start = 0; len = 16; form = Gd; symbol = 3; reg = 0 }
    ∷ record { section = 1; start = 16; len = 16; form = Gd; symbol = 5; reg = 0 }
    ∷ record { section = 1; start = 32; len = 7; form = DescLea; symbol = 3; reg = 0 }
    ∷ record { section = 1; start = 39; len = 2; form = DescCall; symbol = 3; reg = 0 }
    ∷ record { section = 1; start = 41; len = 7; form = DescLea; symbol = 5; reg = 0 }
    ∷ record { section = 1; start = 48; len = 2; form = DescCall; symbol = 5; reg = 0 }
    ∷ record { section = 1; start = 50; len = 7; form = IeMov; symbol = 3; reg = 0 }
    ∷ record { section = 1; start = 57; len = 7; form = IeMov; symbol = 5; reg = 0 } ∷ [])

unfoldable pub lib : Linking
unfolding lib_object
lib = link_of_object Start lib_object startup false
    (record { section = 1; start = 0; len = 12; form = Ld; symbol = 3; reg = 0 }
    ∷ record { section = 1; start = 12; len = 16; form = Gd; symbol = 3; reg = 0 }
    ∷ record { section = 1; start = 28; len = 7; form = DescLea; symbol = 3; reg = 0 }
    ∷ record { section = 1; start = 35; len = 2; form = DescCall; symbol = 3; reg = 0 }
    ∷ record { section = 1; start = 37; len = 7; form = IeMov; symbol = 3; reg = 0 } ∷ [])

unfoldable pub plug : Linking
unfolding plug_object
plug = link_of_object Late plug_object startup false
    (record { section = 1; start = 0; len = 12; form = Ld; symbol = 3; reg = 0 }
    ∷ record { section = 1; start = 12; len = 16; form = Gd; symbol = 3; reg = 0 }
    ∷ record { section = 1; start = 28; len = 16; form = Gd; symbol = 5; reg = 0 }
    ∷ record { section = 1; start = 44; len = 7; form = DescLea; symbol = 3; reg = 0 }
    ∷ record { section = 1; start = 51; len = 2; form = DescCall; symbol = 3; reg = 0 }
    ∷ record { section = 1; start = 53; len = 7; form = DescLea; symbol = 5; reg = 0 }
    ∷ record { section = 1; start = 60; len = 2; form = DescCall; symbol = 5; reg = 0 }
    ∷ record { section = 1; start = 62; len = 7; form = IeMov; symbol = 3; reg = 0 }
    ∷ record { section = 1; start = 69; len = 7; form = IeMov; symbol = 5; reg = 0 } ∷ [])

abbrev pub links : List Linking
links = app ∷ lib ∷ plug ∷ []

abbrev pub history : List Event
history = record { thread = 1; line = 1; opens = true; image = 3 }
    ∷ record { thread = 1; line = 2; opens = false; image = 3 }
    ∷ record { thread = 1; line = 3; opens = true; image = 3 } ∷ []

-- ** a table

-- from this address on the table of a live instance holds these words, and they are those that its entries define
pub record HasTable (l : Linking) (x : Instance) (address : ℕ) (words : List ℕ) : Type 0 where
  pub live : numbered_instance (loads_of_links links) history x.number ≡ Some x
  pub begins : got_start l + bias_of l.kind x.number ≡ address
  pub meant : flat_map (loaded_words (images_of links) l.kind x) (entries l) ≡ words
  pub there : map (λ k. byte_in Read ((loads_of_links links).fixed x) (address + k))
      (range_with_len 0 (8 * length words)) ≡ map Some (flat_map (bytes_of 8) words)

abbrev pub of_app : Instance
of_app = record { image = 1; number = 1; id = 1; offset = Some 8 }

abbrev pub of_lib : Instance
of_lib = record { image = 2; number = 2; id = 2; offset = Some 20 }

abbrev pub of_plug : Instance
of_plug = record { image = 3; number = 4; id = 3; offset = Some 52 }

-- pairs of a and y, descriptors of both, distances of both, the address of f, the run time
abbrev pub app_words : List ℕ
app_words =
    1 ∷ 4 ∷ 2 ∷ 8
    ∷ 0x1800 ∷ 0x1_0000_0004 ∷ 0x1800 ∷ 0x2_0000_0008
    ∷ (2 ^ 64 - 4) ∷ (2 ^ 64 - 12)
    ∷ 0x1_0400_0000
    ∷ 0x1000 ∷ []

-- the whole block, a pair, a descriptor and the distance of y, the address of g, the run time
abbrev pub lib_words : List ℕ
lib_words =
    2 ∷ 0 ∷ 2 ∷ 8
    ∷ 0x1800 ∷ 0x2_0000_0008
    ∷ (2 ^ 64 - 12)
    ∷ 0x1_0800_0000
    ∷ 0x1000 ∷ []

-- the whole block, pairs of z and y, descriptors of both, distances of both, the address of h, the run time
abbrev pub plug_words : List ℕ
plug_words =
    3 ∷ 0 ∷ 3 ∷ 8 ∷ 2 ∷ 8
    ∷ 0x1800 ∷ 0x3_0000_0008 ∷ 0x1800 ∷ 0x2_0000_0008
    ∷ (2 ^ 64 - 44) ∷ (2 ^ 64 - 12)
    ∷ 0x1_1000_0000
    ∷ 0x1000 ∷ []
