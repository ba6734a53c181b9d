-- The table of entries: what each holds, and what the loader writes to it (Drepper, "ELF Handling For Thread-Local
-- Storage", sections 3 and 4; psABI, "Relocation Types").
use Rattle.std.specs.Prelude.{◌+◌, ◌-◌, ◌%◌, ◌^◌, ℕ, List, [], ◌∷◌, Some, None, if◌then◌else◌}
use Rattle.link_faults.specs.declared.image_kind.ImageKind.{ImageKind}
use Rattle.link_faults.specs.ImageKinds.{is_module, is_moved}
use Rattle.got_pairs.specs.declared.entry.DynamicKind.{DynamicKind}
use Rattle.got_pairs.specs.declared.entry.DynamicKind.TheVariants.{JumpSlot, Relative}
use Rattle.got_pairs.specs.declared.entry.DynamicKind.TheVariants.{DtpMod64, DtpOff64, TpOff64, TlsDesc}
use Rattle.got_pairs.specs.declared.entry.DynamicSymbol.{DynamicSymbol}
use Rattle.got_pairs.specs.declared.entry.DynamicSymbol.TheVariants.{Image, Imported, Runtime}
use Rattle.got_pairs.specs.declared.entry.Entry.{Entry}
use Rattle.got_pairs.specs.declared.entry.Entry.TheVariants.{One, Two}
use Rattle.got_pairs.specs.declared.entry.Word.{Word}
use Rattle.got_pairs.specs.declared.need.Need.{Need}
use Rattle.got_pairs.specs.declared.need.Need.TheVariants.{ModulePair, SymbolPair, Descriptor, SymbolWord}
use Rattle.got_pairs.specs.declared.need.Need.TheVariants.{AddressWord, RuntimeWord}
use Rattle.got_pairs.specs.declared.need.Target.TheVariants.{Here, Import}

-- a number that the linker knows
abbrev pub held : ℕ → Word
held n = record { number = n; relocation = None }

-- a number in the file that the loader overwrites
abbrev pub loaded : ℕ → DynamicKind → DynamicSymbol → ℕ → Word
loaded n kind symbol addend =
    record { number = n; relocation = Some (record { kind = kind; symbol = symbol; addend = addend }) }

-- a number minus another, modulo 2^64
abbrev pub less : ℕ → ℕ → ℕ
less n m = (n + (2 ^ 64 - m)) % 2 ^ 64

-- The table of entries. A program knows its own module id and where its block lies: `block` bytes below the thread
-- pointer. A module learns both from the loader, and each image that may be moved learns where it is.
abbrev pub entry_of : ImageKind → ℕ → Need → Entry
entry_of kind block ModulePair = Two (if is_module kind then loaded 0 DtpMod64 Image 0 else held 1) (held 0)
entry_of kind block (SymbolPair (Here s o)) =
    Two (if is_module kind then loaded 0 DtpMod64 Image 0 else held 1) (held o)
entry_of kind block (SymbolPair (Import n)) = Two (loaded 0 DtpMod64 (Imported n) 0) (loaded 0 DtpOff64 (Imported n) 0)
entry_of kind block (Descriptor (Here s o)) = Two (loaded 0 TlsDesc Image o) (held 0)
entry_of kind block (Descriptor (Import n)) = Two (loaded 0 TlsDesc (Imported n) 0) (held 0)
entry_of kind block (SymbolWord (Here s o)) =
    One (if is_module kind then loaded 0 TpOff64 Image o else held (less o block))
entry_of kind block (SymbolWord (Import n)) = One (loaded 0 TpOff64 (Imported n) 0)
entry_of kind block (AddressWord s p) = One (if is_moved kind then loaded p Relative Image p else held p)
entry_of kind block RuntimeWord = One (loaded 0 JumpSlot Runtime 0)

-- the words of an entry, one after another
abbrev pub words : Entry → List Word
words (One v) = v ∷ []
words (Two v w) = v ∷ w ∷ []
