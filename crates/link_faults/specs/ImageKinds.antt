-- The kinds of image (gABI, "Program Loading": a program at a fixed address, or position-independent code).
use Rattle.std.specs.Prelude.{ℕ, Bool, true, false}
use Rattle.link_faults.specs.declared.image_kind.ImageKind.{ImageKind}
use Rattle.link_faults.specs.declared.image_kind.ImageKind.TheVariants.{Exe, Pie, Start, Late}

-- a module is loaded by a program or opened by a thread
abbrev pub IsModule : ImageKind → Type 0
IsModule Exe = ⊥
IsModule Pie = ⊥
IsModule Start = Unit {0}
IsModule Late = Unit {0}

-- whether the image is a module, which a program loads or a thread opens
abbrev pub is_module : ImageKind → Bool
is_module Exe = false
is_module Pie = false
is_module Start = true
is_module Late = true

-- whether it may be loaded at any address, even at 2^32 and above
abbrev pub is_moved : ImageKind → Bool
is_moved Exe = false
is_moved Pie = true
is_moved Start = true
is_moved Late = true

-- whether a thread opens it; the others are loaded with the program
abbrev pub is_late : ImageKind → Bool
is_late Exe = false
is_late Pie = false
is_late Start = false
is_late Late = true

-- where an image begins, before the loader moves it
abbrev pub base_of : ImageKind → ℕ
base_of Exe = 0x400000
base_of Pie = 0
base_of Start = 0
base_of Late = 0
