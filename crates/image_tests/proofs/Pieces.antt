-- Symbols, their names, and parts of a file.
use Rattle.std.proofs.Common.{◌≡◌, ◌≢◌, ℕ, ◌+◌, ◌≤◌, Bool, true, false, List, [], ◌∷◌, length, zero, suc, arith, All}
use Rattle.std.specs.Prelude.{drop}
use Rattle.std.proofs.lemmas.List.{length-take-le, length-drop}
use Rattle.std.proofs.lemmas.List.Elements.{All-cons}
use Rattle.elf_records.specs.Fields.{part_at}
use Rattle.image_file.specs.declared.part.PartClass.{PartClass}
use Rattle.image_file.specs.declared.symbol.ImageSymbol.{ImageSymbol}
use Rattle.elf_records.specs.declared.symbol.SymbolBinding.TheVariants.{Global}
use Rattle.elf_records.specs.declared.symbol.SymbolType.{SymbolType}
use Rattle.elf_records.specs.declared.symbol.Visibility.TheVariants.{Default}
use Rattle.image_file.specs.Spelled.{Part}
use Rattle.image_writer.specs.declared.outline.PartPlace.{PartPlace}

-- a symbol that is shared
abbrev pub symbol_of : SymbolType → Bool → ℕ → ℕ → ImageSymbol
symbol_of kind defined value size =
    record { binding = Global; kind = kind; visibility = Default; is_defined = defined; value = value; size = size }

-- a part, and where it lies
abbrev pub part_of : PartClass → ℕ → List ℕ → Part
part_of class address bytes = record { class = class; address = address; bytes = bytes }

abbrev pub place : PartClass → ℕ → ℕ → PartPlace
place class address size = record { class = class; address = address; size = size }

-- no byte is zero
abbrev pub is_name : List ℕ → Bool
is_name [] = true
is_name (zero ∷ bytes) = false
is_name (suc byte ∷ bytes) = is_name bytes

-- so it is a name
pub named : (bytes : List ℕ) → is_name bytes ≡ true → All (λ byte. byte ≢ 0) bytes
named [] e = λ k d h. absurd (omega (arith, h))
named (zero ∷ bytes) e = absurd cc
named (suc byte ∷ bytes) e = All-cons (λ b. b ≢ 0) (suc byte) bytes (λ z. omega (arith, z)) (named bytes e)

-- as many bytes as a file has there
pub has : (n at : ℕ) (file : List ℕ) → at + n ≤ length file → length (part_at n at file) ≡ n
unfolding part_at
has n at file h = length-take-le n (drop at file) (omega (arith, length-drop at file, h))
