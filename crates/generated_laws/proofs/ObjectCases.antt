-- The sequences of the generated objects: each has one, and no relocation is left over.
use Rattle.std.proofs.Common.{◌≡◌, ◌≤◌, ℕ, true, List, [], ◌∷◌, map, pos, refl, arith}
use Rattle.elf_object.specs.declared.relocation.Relocation.{Relocation}
use Rattle.elf_records.specs.declared.relocation_row.SequencePart.TheVariants as part
use Rattle.object_rules.specs.declared.fault.FaultKind.TheVariants.{Sequence, StrayCall}
use Rattle.sequence_forms.specs.declared.forms.Form.{Form}
use Rattle.sequence_forms.specs.declared.forms.Form.TheVariants.{Gd, IeMov, Ld}
use Rattle.sequence_forms.specs.declared.places.Site.{Site}
use Rattle.sequence_forms.specs.Forms.{row, register}
use Rattle.sequence_match.specs.Sites.{IsSecond, IsSiteOf}
use Rattle.sequence_match.specs.Faults.{IsGetter, IsLoose, IsStray}
use Rattle.generated_job.specs.Generated.{general_code, general_entries, initial_executable_code}
use Rattle.generated_job.specs.Generated.{initial_executable_entries, local_code, local_entries, general_shape}
use Rattle.generated_job.specs.Generated.{initial_executable_shape, local_shape, module_shape, entry_to_end, entry}
use Rattle.generated_job.specs.Shapes.{Shape, object_bytes}
use Rattle.generated_laws.specs.Reading.{IsSmall, ReadsAs, relocation_of}
use Rattle.generated_laws.specs.Sound.{IsFaultless, GeneratedObjectsAreFaultless}
use Rattle.generated_laws.proofs.ObjectLaid.{object_laid}
use Rattle.generated_laws.proofs.ObjectReads.{object_reads}
use Rattle.generated_laws.proofs.ObjectRelocs.{AreInOrder, is_object}
use Rattle.generated_laws.proofs.ObjectShapes.{general_small, initial_small, local_small, module_small, of_shape}
use Rattle.generated_laws.proofs.ObjectShapes.{general_in_order, initial_in_order, local_in_order, module_in_order}
use Rattle.generated_laws.proofs.ObjectSites.{spelled_of, loose_not, stray_none, stray_not, variable_not, getter_named}
use Rattle.generated_laws.proofs.ObjectSites.{nowhere_of}

-- a site of the code that names the variable
abbrev pub site_of : Form → ℕ → ℕ → Site
site_of form start len =
    record { section = 1; start = start; len = len; form = form; symbol = 2; reg = 0 }

-- what is no first part of a sequence
second_part : part.Second ≡ part.First → ⊥
second_part e = cc

no_part : part.NoPart ≡ part.First → ⊥
no_part e = cc

-- ** general dynamic

abbrev pub gd_first : Relocation
gd_first = relocation_of (entry_to_end 4 19 2)

abbrev pub gd_second : Relocation
gd_second = relocation_of (entry_to_end 12 4 3)

pub general_site : (getter : ℕ → Type 0) → getter 3
    → IsSiteOf general_code (map relocation_of general_entries) getter 0 (site_of Gd 0 16)
unfolding row register
general_site getter named = record {
  spelled = spelled_of general_code (map relocation_of general_entries) (row Gd).cells 0 (omega arith) refl;
  first = (gd_first, refl, record { kind_is = refl; offset_is = refl; addend_is = refl }, refl);
  earliest = λ f x below. absurd (omega arith);
  second = (1, (gd_second, refl, record { kind_is = refl; offset_is = refl; addend_is = refl; names = named }));
  len_is = refl;
  reg_is = refl;
}

general_second : (getter : ℕ → Type 0) → getter 3
    → IsSecond (row Gd).second getter (map relocation_of general_entries) 0 1
unfolding row
general_second getter named =
    (gd_second, refl, record { kind_is = refl; offset_is = refl; addend_is = refl; names = named })

general_loose : (getter : ℕ → Type 0) → getter 3 → (e : ℕ)
    → IsLoose general_code (map relocation_of general_entries) getter e → ⊥
general_loose getter named = loose_not general_code getter (site_of Gd 0 16) gd_first (gd_second ∷ [])
    (general_site getter named) (second_part, tt)

general_stray : (getter : ℕ → Type 0) → getter 3 → (getter 2 → ⊥) → (e : ℕ)
    → IsStray general_code (map relocation_of general_entries) getter e → ⊥
general_stray getter named other = stray_not general_code getter (site_of Gd 0 16) gd_first gd_second []
    (general_site getter named) (general_second getter named) other tt

-- ** initial executable

abbrev pub ie_first : Relocation
ie_first = relocation_of (entry_to_end 3 22 2)

pub initial_site : (getter : ℕ → Type 0)
    → IsSiteOf initial_executable_code (map relocation_of initial_executable_entries) getter 0 (site_of IeMov 0 7)
unfolding row register
initial_site getter = record {
  spelled = spelled_of initial_executable_code (map relocation_of initial_executable_entries) (row IeMov).cells 0
      (omega arith) refl;
  first = (ie_first, refl, record { kind_is = refl; offset_is = refl; addend_is = refl }, refl);
  earliest = λ f x below. absurd (omega arith);
  second = tt;
  len_is = refl;
  reg_is = refl;
}

initial_loose : (getter : ℕ → Type 0) (e : ℕ)
    → IsLoose initial_executable_code (map relocation_of initial_executable_entries) getter e → ⊥
initial_loose getter = loose_not initial_executable_code getter (site_of IeMov 0 7) ie_first []
    (initial_site getter) tt

initial_stray : (getter : ℕ → Type 0) → (getter 2 → ⊥) → (e : ℕ)
    → IsStray initial_executable_code (map relocation_of initial_executable_entries) getter e → ⊥
initial_stray getter other = stray_none initial_executable_code getter (ie_first ∷ []) (other, tt)

-- ** local dynamic

abbrev pub ld_first : Relocation
ld_first = relocation_of (entry_to_end 3 20 2)

abbrev pub ld_second : Relocation
ld_second = relocation_of (entry_to_end 8 4 3)

abbrev pub ld_offset : Relocation
ld_offset = relocation_of (entry 14 21 2 (pos 0))

pub local_site : (getter : ℕ → Type 0) → getter 3
    → IsSiteOf local_code (map relocation_of local_entries) getter 0 (site_of Ld 0 12)
unfolding row register
local_site getter named = record {
  spelled = spelled_of local_code (map relocation_of local_entries) (row Ld).cells 0 (omega arith) refl;
  first = (ld_first, refl, record { kind_is = refl; offset_is = refl; addend_is = refl }, refl);
  earliest = λ f x below. absurd (omega arith);
  second = (1, (ld_second, refl, record { kind_is = refl; offset_is = refl; addend_is = refl; names = named }));
  len_is = refl;
  reg_is = refl;
}

local_second : (getter : ℕ → Type 0) → getter 3
    → IsSecond (row Ld).second getter (map relocation_of local_entries) 0 1
unfolding row
local_second getter named =
    (ld_second, refl, record { kind_is = refl; offset_is = refl; addend_is = refl; names = named })

local_loose : (getter : ℕ → Type 0) → getter 3 → (e : ℕ)
    → IsLoose local_code (map relocation_of local_entries) getter e → ⊥
local_loose getter named = loose_not local_code getter (site_of Ld 0 12) ld_first (ld_second ∷ ld_offset ∷ [])
    (local_site getter named) (second_part, (no_part, tt))

local_stray : (getter : ℕ → Type 0) → getter 3 → (getter 2 → ⊥) → (e : ℕ)
    → IsStray local_code (map relocation_of local_entries) getter e → ⊥
local_stray getter named other = stray_not local_code getter (site_of Ld 0 12) ld_first ld_second (ld_offset ∷ [])
    (local_site getter named) (local_second getter named) other (other, tt)

-- ** the module's code, general dynamic behind a push

abbrev pub late_first : Relocation
late_first = relocation_of (entry_to_end 5 19 2)

abbrev pub late_second : Relocation
late_second = relocation_of (entry_to_end 13 4 3)

pub late_site : (getter : ℕ → Type 0) → getter 3
    → IsSiteOf module_shape.code (map relocation_of module_shape.relocations) getter 0 (site_of Gd 1 16)
unfolding row register module_shape
late_site getter named = record {
  spelled = spelled_of module_shape.code (map relocation_of module_shape.relocations) (row Gd).cells 1
      (omega arith) refl;
  first = (late_first, refl, record { kind_is = refl; offset_is = refl; addend_is = refl }, refl);
  earliest = λ f x below. absurd (omega arith);
  second = (1, (late_second, refl, record { kind_is = refl; offset_is = refl; addend_is = refl; names = named }));
  len_is = refl;
  reg_is = refl;
}

late_second_is : (getter : ℕ → Type 0) → getter 3
    → IsSecond (row Gd).second getter (map relocation_of module_shape.relocations) 1 1
unfolding row module_shape
late_second_is getter named =
    (late_second, refl, record { kind_is = refl; offset_is = refl; addend_is = refl; names = named })

late_loose : (getter : ℕ → Type 0) → getter 3 → (e : ℕ)
    → IsLoose module_shape.code (map relocation_of module_shape.relocations) getter e → ⊥
unfolding module_shape
late_loose getter named = loose_not module_shape.code getter (site_of Gd 1 16) late_first (late_second ∷ [])
    (late_site getter named) (second_part, tt)

late_stray : (getter : ℕ → Type 0) → getter 3 → (getter 2 → ⊥) → (e : ℕ)
    → IsStray module_shape.code (map relocation_of module_shape.relocations) getter e → ⊥
unfolding module_shape
late_stray getter named other = stray_not module_shape.code getter (site_of Gd 1 16) late_first late_second []
    (late_site getter named) (late_second_is getter named) other tt

-- ** faultless

-- all kinds of fault at once
faultless_of : (s : Shape) → IsSmall s → AreInOrder s
    → ((b : List ℕ) → ReadsAs b s → (e : ℕ) → IsLoose s.code (map relocation_of s.relocations) (IsGetter b) e → ⊥)
    → ((b : List ℕ) → ReadsAs b s → (e : ℕ) → IsStray s.code (map relocation_of s.relocations) (IsGetter b) e → ⊥)
    → IsFaultless (object_bytes s)
faultless_of s small order loose stray =
    let reads = object_reads s small in
    record {
      object = is_object (object_bytes s) s (object_laid s small) small order;
      no_loose = nowhere_of Sequence (object_bytes s) s reads (loose (object_bytes s) reads);
      no_stray = nowhere_of StrayCall (object_bytes s) s reads (stray (object_bytes s) reads);
    }

general_faultless : (n i : ℕ) → i ≤ 1000 → IsFaultless (object_bytes (general_shape n i))
general_faultless n i few =
    let s : Shape = general_shape n i in
    faultless_of s (general_small n i few) (general_in_order n i)
    (λ b reads. general_loose (IsGetter b) (getter_named b s reads refl))
    (λ b reads. general_stray (IsGetter b) (getter_named b s reads refl) (variable_not b s reads))

initial_faultless : (n i : ℕ) → i ≤ 1000 → IsFaultless (object_bytes (initial_executable_shape n i))
initial_faultless n i few =
    let s : Shape = initial_executable_shape n i in
    faultless_of s (initial_small n i few) (initial_in_order n i)
    (λ b reads. initial_loose (IsGetter b))
    (λ b reads. initial_stray (IsGetter b) (variable_not b s reads))

local_faultless : (n i : ℕ) → i ≤ 1000 → IsFaultless (object_bytes (local_shape n i))
local_faultless n i few =
    let s : Shape = local_shape n i in
    faultless_of s (local_small n i few) (local_in_order n i)
    (λ b reads. local_loose (IsGetter b) (getter_named b s reads refl))
    (λ b reads. local_stray (IsGetter b) (getter_named b s reads refl) (variable_not b s reads))

pub late_calls : module_shape.calls ≡ true
unfolding module_shape
late_calls = refl

late_faultless : IsFaultless (object_bytes module_shape)
late_faultless = faultless_of module_shape module_small module_in_order
    (λ b reads. late_loose (IsGetter b) (getter_named b module_shape reads late_calls))
    (λ b reads. late_stray (IsGetter b) (getter_named b module_shape reads late_calls)
    (variable_not b module_shape reads))

pub generated_faultless : GeneratedObjectsAreFaultless
generated_faultless = record {
  program = λ n i few first last. of_shape (λ s. IsFaultless (object_bytes s)) n i
      (general_faultless n i (omega arith)) (initial_faultless n i (omega arith)) (local_faultless n i (omega arith));
  late = late_faultless;
}
