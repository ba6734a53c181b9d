-- Each relocation of a generated object goes with its sequence, or its field holds its value.
use Rattle.std.proofs.Common.{◌≡◌, ◌<◌, ◌≤◌, ◌^◌, ◌∙◌, ℕ, ℤ, Bool, true, false, List, length, map}
use Rattle.std.proofs.Common.{Some, refl, arith}
use Rattle.std.specs.Prelude.{pos, negsuc, IsNone}
use Rattle.std.specs.List.{AllByRecursion}
use Rattle.std.specs.Prelude.{codes, if◌then◌else◌}
use Rattle.elf_records.specs.declared.relocation.RelocationKind.{RelocationKind}
use Rattle.elf_records.specs.declared.relocation.RelocationKind.TheVariants.{Plt32, TlsGd, TlsLd, DtpOff32, GotTpOff}
use Rattle.elf_object.specs.declared.relocation.Relocation.{Relocation}
use Rattle.elf_records.specs.declared.symbol.SymbolBinding.TheVariants.{Global}
use Rattle.elf_object.specs.declared.symbol.SymbolPlace.TheVariants.{InSection}
use Rattle.generated_job.specs.Generated.{general_shape, initial_executable_shape, local_shape, module_shape, shape_of}
use Rattle.generated_job.specs.Shapes.{Shape}
use Rattle.link_faults.specs.declared.binding.Binding.TheVariants.{Here, Runtime}
use Rattle.link_faults.specs.declared.image_kind.ImageKind.TheVariants.{Exe}
use Rattle.link_faults.specs.declared.symbol_ref.SymbolRef.{SymbolRef}
use Rattle.tls_layout.specs.Places.{IsLawful}
use Rattle.tls_symbols.specs.Bindings.{bound_to, binding_of}
use Rattle.link_needs.specs.Given.{FitsTable, IsGiven}
use Rattle.link_needs.specs.Linking.{Linking, binding, block_offset, layout, object, offset, place}
use Rattle.link_needs.specs.Needs.{need_address, relocation_need, stub_start}
use Rattle.link_needs.specs.Values.{counts_from_thread_pointer, field, goes, is_replaced}
use Rattle.generated_laws.specs.Reading.{ReadsAs, known_at, known_of, relocation_of}
use Rattle.generated_laws.proofs.FieldNumbers.{block_small, difference_fits, need_small, not_none, offset_small}
use Rattle.generated_laws.proofs.FieldNumbers.{place_small, stub_small}
use Rattle.generated_laws.proofs.PlaceShapes.{by_form}

-- what is asked of each relocation of section t of object o: where it has a field, the field holds its value
abbrev pub Fits : Linking → ℕ → ℕ → Relocation → Type 0
Fits l o t r = is_replaced l o r ≡ false → IsNone (field l o t r) → ⊥

abbrev pub AllFit : Linking → ℕ → List Relocation → Type 0
AllFit l o xs = AllByRecursion (Fits l o 1) xs

abbrev pub relocation : ℕ → RelocationKind → ℕ → ℤ → Relocation
relocation at kind symbol addend = record { offset = at; kind = kind; symbol = symbol; addend = addend }

-- the variable that an object names is its own: symbol 2, whatever the type of relocation
abbrev pub BindsOwn : Linking → ℕ → Type 0
BindsOwn l o = (r : Relocation) → r.symbol ≡ 2 → binding l o r ≡ Some (Here (record { object = o; symbol = 2 }))

-- ** symbols

-- what is known of symbol 2, and of symbol 3 of an object that calls the run time's function
known_second : (s : Shape) → (2 < length (known_of s)) × ((known_at s 2).place ≡ InSection 3)
unfolding known_of
known_second s = (omega arith, refl)

known_third : (s : Shape) → s.calls ≡ true
    → (3 < length (known_of s)) × ((known_at s 3).name ≡ codes "__tls_get_addr") × ((known_at s 3).binding ≡ Global)
unfolding known_of
known_third s calls = rw calls (omega arith, refl, refl)

module _ (l : Linking) (o : ℕ) where
  module _ (s : Shape) (reads : ReadsAs (object l o) s) where
    -- symbol 3 is the run time's function
    pub calls_runtime : s.calls ≡ true → (r : Relocation) → r.symbol ≡ 3 → binding l o r ≡ Some Runtime
    unfolding bound_to
    calls_runtime calls r is =
        let known = known_third s calls in
        let name = reads.names 3 known.0 ∙ known.1 in
        let bound = reads.bindings 3 known.0 ∙ known.2 in
        rw (is, bound, name) refl

    -- symbol 2 begins its section
    pub variable_small : IsLawful (layout l) → offset l (record { object = o; symbol = 2 }) ≤ 2 ^ 20
    variable_small lawful =
        let known = known_second s in
        offset_small l (record { object = o; symbol = 2 }) 3 lawful (reads.placed 2 known.0 ∙ known.1)
        (reads.values 2 known.0)

  -- ** sequences that are rewritten

  -- a relocation that goes with its sequence has no field
  goes_with : (r : Relocation) → l.kind ≡ Exe → l.relax ≡ true → goes (binding l o r) r.kind ≡ true → Fits l o 1 r
  unfolding is_replaced
  goes_with r program relax goes kept none = impossible (rw (program, relax, goes) at kept)
    where
      impossible : true ≡ false → ⊥
      impossible h = cc

  -- ** fields

  module _ (k e : ℕ) (few : k ≤ 2 ^ 20) (lawful : IsLawful (layout l)) where
    -- of an offset, from the thread pointer or from the block's start
    offset_fits : (found : SymbolRef) → binding l o (relocation k DtpOff32 e (pos 0)) ≡ Some (Here found)
        → offset l found ≤ 2 ^ 20 → Fits l o 1 (relocation k DtpOff32 e (pos 0))
    unfolding field
    offset_fits found bound small kept none =
        let from = if counts_from_thread_pointer l then block_offset l else 0 in
        not_none _ (difference_fits (offset l found) from (pos 0) (omega arith)
        (omega (arith, start_small (counts_from_thread_pointer l))) (omega arith)) (rw bound at none)
      where
        start_small : (t : Bool) → (if t then block_offset l else 0) ≤ 2 ^ 21
        start_small true = block_small l lawful
        start_small false = omega arith

    module _ (given : IsGiven l) (limits : FitsTable l) where
      -- of an entry of the table
      entry_fits : Fits l o 1 (relocation k TlsGd e (negsuc 3))
      unfolding field
      entry_fits kept none =
          let need = relocation_need l o (relocation k TlsGd e (negsuc 3)) in
          let at = place_small l o 1 k lawful in
          not_none _ (difference_fits (need_address l need) (place l o 1 k) (negsuc 3)
          (omega (arith, need_small l need given limits)) (omega arith) (omega arith)) none

      -- of a call
      call_fits : binding l o (relocation k Plt32 e (negsuc 3)) ≡ Some Runtime
          → Fits l o 1 (relocation k Plt32 e (negsuc 3))
      unfolding field
      call_fits bound kept none =
          let at = place_small l o 1 k lawful in
          not_none _ (difference_fits (stub_start l) (place l o 1 k) (negsuc 3)
          (omega (arith, stub_small l given limits)) (omega arith) (omega arith)) (rw bound at none)

-- ** shapes

-- an object that reads as the shape has fields that hold their values
abbrev pub ShapeFits : Linking → ℕ → Shape → Type 0
ShapeFits l o s = ReadsAs (object l o) s → AllFit l o (map relocation_of s.relocations)

-- in a program that is rewritten
module _ (l : Linking) (o : ℕ) (program : l.kind ≡ Exe) (relax : l.relax ≡ true) (lawful : IsLawful (layout l))
    (own : BindsOwn l o) where
  call_goes : (s : Shape) → ReadsAs (object l o) s → s.calls ≡ true → (k : ℕ)
      → Fits l o 1 (relocation k Plt32 3 (negsuc 3))
  call_goes s reads calls k =
      let r = relocation k Plt32 3 (negsuc 3) in
      goes_with l o r program relax (rw (calls_runtime l o s reads calls r refl) refl)

  general_fits : (n i : ℕ) → ShapeFits l o (general_shape n i)
  general_fits n i reads =
      let first : Fits l o 1 (relocation 4 TlsGd 2 (negsuc 3)) = goes_with l o _ program relax refl in
      (first, (call_goes (general_shape n i) reads refl 12, tt))

  initial_fits : (n i : ℕ) → ShapeFits l o (initial_executable_shape n i)
  initial_fits n i reads =
      let r = relocation 3 GotTpOff 2 (negsuc 3) in
      let first : Fits l o 1 r = goes_with l o r program relax (rw (own r refl) refl) in
      (first, tt)

  local_fits : (n i : ℕ) → ShapeFits l o (local_shape n i)
  local_fits n i reads =
      let r = relocation 14 DtpOff32 2 (pos 0) in
      let first : Fits l o 1 (relocation 3 TlsLd 2 (negsuc 3)) = goes_with l o _ program relax refl in
      let last : Fits l o 1 r =
      offset_fits l o 14 2 (omega arith) lawful (record { object = o; symbol = 2 }) (own r refl)
      (variable_small l o (local_shape n i) reads lawful) in
      (first, (call_goes (local_shape n i) reads refl 8, (last, tt)))

  pub program_fits : (n i : ℕ) → ShapeFits l o (shape_of n i)
  program_fits n i = by_form n i (ShapeFits l o) (general_fits n i) (initial_fits n i) (local_fits n i)

-- in the module
module _ (l : Linking) (o : ℕ) (given : IsGiven l) (limits : FitsTable l) where
  pub module_fits : ShapeFits l o module_shape
  unfolding module_shape
  module_fits reads =
      let r = relocation 13 Plt32 3 (negsuc 3) in
      let entry : Fits l o 1 (relocation 5 TlsGd 2 (negsuc 3)) =
      entry_fits l o 5 2 (omega arith) limits.lawful given limits in
      let call : Fits l o 1 r =
      call_fits l o 13 3 (omega arith) limits.lawful given limits (calls_runtime l o module_shape reads refl r refl) in
      (entry, (call, tt))
