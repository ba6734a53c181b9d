-- Generated objects link, where they are sound.
use Rattle.std.proofs.Common.{◌≡◌, ◌<◌, ◌≤◌, ℕ, true, List, length, Some, sym, subst, arith}
use Rattle.elf_object.specs.declared.relocation.Relocation.{Relocation}
use Rattle.link_faults.specs.declared.binding.Binding.TheVariants.{Here}
use Rattle.link_faults.specs.declared.image_kind.ImageKind.TheVariants.{Exe}
use Rattle.tls_symbols.specs.Bindings.{binding_of}
use Rattle.link_needs.specs.Given.{IsGiven}
use Rattle.link_needs.specs.Linking.{Linking}
use Rattle.link_core.specs.Faults.{IsSound, Links}
use Rattle.link_core.proofs.Few.{table_fits}
use Rattle.generated_laws.proofs.FieldOverflows.{module_no_overflow, program_no_overflow}
use Rattle.generated_laws.proofs.FieldShapes.{BindsOwn}
use Rattle.generated_laws.proofs.PlaceShapes.{ModuleIsRead, ProgramIsRead, module_bytes, program_bytes, program_length}

-- whatever startup images export, and whatever the type of relocation: the variable that an object of the program
-- names is its own
abbrev pub ProgramBinds : ℕ → Type 0
ProgramBinds n = (startup : List (List (List ℕ))) (o : ℕ) (r : Relocation) → o < length (program_bytes n)
    → r.symbol ≡ 2 → binding_of (program_bytes n) startup o r ≡ Some (Here (record { object = o; symbol = 2 }))

binds_own : (n : ℕ) (l : Linking) → l.objects ≡ program_bytes n → ProgramBinds n → (o : ℕ) → o < n → BindsOwn l o
binds_own n l are binds o there r is =
    let P : List (List ℕ) → Type 0 =
    λ objects. binding_of objects l.startup o r ≡ Some (Here (record { object = o; symbol = 2 })) in
    subst P (sym are) (binds l.startup o r (omega (arith, program_length n)) is)

pub program_links : (n : ℕ) → n ≤ 1000 → (l : Linking) → l.relax ≡ true → l.kind ≡ Exe
    → l.objects ≡ program_bytes n → ProgramIsRead n → ProgramBinds n → IsSound l → Links l
program_links n few l relax program are read binds sound = record {
  sound = sound;
  fits = program_no_overflow n few l relax program are read (binds_own n l are binds);
}

pub module_links : (l : Linking) → IsGiven l → l.objects ≡ module_bytes → ModuleIsRead → IsSound l → Links l
module_links l given are read sound =
    record { sound = sound; fits = module_no_overflow l given (table_fits l given sound.limits) are read }
