-- An offset field moves the base of each thread's block to the address that the meaning has.
use Rattle.std.proofs.Common.{◌≡◌, ◌∙◌, ◌+◌, ◌-◌, ◌%◌, ◌^◌, ◌==◌, ◌&&◌, ℕ, ℤ, pos, Bool, true, false, List, Option}
use Rattle.std.proofs.Common.{Some, None, refl, sym, ap, arith, if◌then◌else◌}
use Rattle.std.specs.Prelude.{◌+ℤ◌, ◌-ℤ◌}
use Rattle.std.specs.List.{list_any}
use Rattle.std.specs.Str.{bytes_eq}
use Rattle.std.proofs.lemmas.Bool.Decides.{nat_tests}
use Rattle.std.proofs.lemmas.Option.{same_Some}
use Rattle.address_map.specs.Map.{pointer_of}
use Rattle.amd64_subset.specs.Spelling.{field_of}
use Rattle.elf_object.specs.declared.relocation.Relocation.{Relocation}
use Rattle.elf_object.specs.Lent.{relocations, symbol_binding, symbol_name}
use Rattle.elf_records.specs.declared.symbol.SymbolBinding.TheVariants.{Local}
use Rattle.elf_object.specs.Relocations.{field_width}
use Rattle.elf_records.specs.declared.relocation.RelocationKind.TheVariants.{DtpOff32}
use Rattle.known_instances.specs.Known.{known_in}
use Rattle.job_meaning.specs.declared.values.Block.{Block}
use Rattle.job_meaning.specs.declared.values.Token.TheVariants.{Base}
use Rattle.link_faults.specs.declared.binding.Binding.{Binding}
use Rattle.link_faults.specs.declared.binding.Binding.TheVariants.{Here, Startup, Runtime}
use Rattle.link_faults.specs.declared.symbol_ref.SymbolRef.{SymbolRef}
use Rattle.link_faults.specs.ImageKinds.{is_module}
use Rattle.link_needs.specs.Linking.{Linking, binding, block_offset, object, offset, place}
use Rattle.link_needs.specs.Values.{counts_from_thread_pointer, field, is_local, other_number, own_number}
use Rattle.loaded_bytes.proofs.Finds.{IsFound, found_is}
use Rattle.loaded_bytes.proofs.Spots.{Standing, standing}
use Rattle.loaded_bytes.proofs.Values.{IsBound}
use Rattle.loaded_bytes.specs.Bytes.{loaded_field}
use Rattle.loaded_bytes.specs.Laws.{IsInstanceOf, images_of}
use Rattle.loaded_modules.specs.declared.instance.Instance.{Instance}
use Rattle.module_table.specs.declared.events.Event.{Event}
use Rattle.object_faults.specs.declared.class.SectionClass.TheVariants.{Executable}
use Rattle.sequence_forms.specs.declared.places.Site.{Site}
use Rattle.sequence_match.specs.Sites.{Covers}
use Rattle.thread_blocks.specs.Instances.{block_start}
use Rattle.thread_blocks.specs.JobLoads.{job_loads}
use Rattle.thread_blocks.specs.Turns.{at_number}
use Rattle.tied_meaning.specs.Numbers.{IsMade, base_number}
use Rattle.tied_meaning.specs.Ties.{HasFourBytes}
use Rattle.tls_relocs.specs.declared.fields.Field.{Field}
use Rattle.tls_relocs.specs.Fields.{field_bytes}
use Rattle.tls_relocs.specs.Values.{signed_field, stored_field}
use Rattle.tls_symbols.specs.Bindings.{binding_of, bound_to, first_export, here_or, may_import, object_at}
use Rattle.elf_records.specs.Symbols.{get_address}
use Rattle.tls_symbols.specs.Bindings.{of_startup}
use Rattle.tls_symbols.specs.Definitions.{definition_of, same_binding}
use Rattle.whole_meaning.specs.declared.marks.Mark.TheVariants.{Offset}
use Rattle.whole_meaning.specs.Bytes.{covers}
use Rattle.whole_meaning.specs.Code.{mark_of, offset_number}
use Rattle.whole_meaning.specs.Spots.{bias_of}
use Rattle.loaded_words.specs.Laws.{IsKnown}
use Rattle.tied_fields.specs.Laws.{OffsetFieldsAreTied}
use Rattle.tied_fields.specs.Settings.{counts, setting_of}
use Rattle.tied_fields.proofs.Fields.{bound, covers_so, four_loaded, value}
use Rattle.tied_fields.proofs.Marks.{AtField, IsOffset, at_field, is_offset, mark_is}
use Rattle.tied_fields.proofs.Numbers.{field_is, field_long, moved}
use Rattle.tied_fields.proofs.Program.{IsProgram, linked_program, numbered_one}

-- ** what an offset field names

-- no other image's variable: only types that a loader fills in may name one
not_startup : (objects : List (List ℕ)) (startup : List (List (List ℕ))) (o : ℕ) (r : Relocation) (k : ℕ)
    → may_import r.kind ≡ false → binding_of objects startup o r ≡ Some (Startup k) → ⊥
unfolding bound_to
not_startup objects startup o r k alone e =
    of_local (same_binding Local (symbol_binding (object_at objects o) r.symbol))
    (bytes_eq (symbol_name (object_at objects o) r.symbol) get_address)
    (definition_of objects (symbol_name (object_at objects o) r.symbol)) (may_import r.kind) alone e
  where
    of_local : (local named : Bool) (found : Option SymbolRef) (may : Bool) → may ≡ false
        → (if local then Some (Here (record { object = o; symbol = r.symbol }))
        else if named then Some Runtime
        else here_or found (if may
        then of_startup (first_export (symbol_name (object_at objects o) r.symbol) 1 startup) else None))
        ≡ Some (Startup k) → ⊥
    of_local true named found may none e = cc
    of_local false true found may none e = cc
    of_local false false (Some here) may none e = cc
    of_local false false None true none e = cc
    of_local false false None false none e = cc

-- ** numbers

-- the meaning's number and what the field holds, of a variable at offset n: b is what the field's type subtracts
tied : (l : Linking) (bias : ℕ) (r : Relocation) (found : SymbolRef) (number b start base : ℕ) (f : Field)
    → number ≡ offset_number l bias r (Some (Here found))
    → signed_field ((pos (offset l found) +ℤ r.addend) -ℤ pos b) ≡ Some f → start + b ≡ base
    → (start + number) % 2 ^ 64 ≡ (base + field_of (field_bytes f)) % 2 ^ 64
tied l bias r found number b start base f is holds far =
    let z : ℤ = pos (offset l found) +ℤ r.addend in
    ap (λ n. (start + n) % 2 ^ 64) is
    ∙ moved start base b (pos (offset l found) +ℤ r.addend) far
    ∙ ap (λ n. (base + n) % 2 ^ 64)
    (sym (field_is ((pos (offset l found) +ℤ r.addend) -ℤ pos b) f holds))

-- what an offset field subtracts
abbrev below : Linking → ℕ
below l = if counts_from_thread_pointer l then block_offset l else 0

-- only a program's code counts from the thread pointer
counting_program : (l : Linking) → counts_from_thread_pointer l ≡ true → is_module l.kind ≡ false
unfolding counts_from_thread_pointer
counting_program l e =
    of_test (is_module l.kind) (list_any (λ own. list_any (λ (site : Site). is_local site.form) own) l.sites) refl e
  where
    of_test : (t any : Bool) → is_module l.kind ≡ t → ((if t then false else l.relax) && any) ≡ true
        → is_module l.kind ≡ false
    of_test true any h e = absurd (cc)
    of_test false any h e = h

-- what it holds, of a variable of the image
field_by : (l : Linking) (o t : ℕ) (r : Relocation) (v : SymbolRef) → r.kind ≡ DtpOff32 → binding l o r ≡ Some (Here v)
    → field l o t r ≡ signed_field ((pos (offset l v) +ℤ r.addend) -ℤ pos (below l))
unfolding field
field_by l o t r v kind e =
    ap (λ k. stored_field k (own_number l k (binding l o r)) r.addend (place l o t r.offset)
    (other_number l o r k)) kind
    ∙ ap (λ b. signed_field ((pos (own_number l DtpOff32 b) +ℤ r.addend) -ℤ pos (below l))) e

module _ (ls : List Linking) (history : List Event) (l : Linking) (x : Instance) (known : IsKnown ls history x)
    (is : IsInstanceOf ls l x) where
  -- ** a block of the instance

  module _ (block : Block) (made : IsMade (setting_of ls history) (Base block)) (own : block.instance ≡ x.number) where
    start_is : block.start ≡ block_start block.thread x
    start_is =
        let same : Some made.0 ≡ Some x =
        sym made.1.0 ∙ ap (known_in (job_loads (images_of ls)) history) own ∙ known.known in
        made.1.1 ∙ ap (block_start block.thread) (same_Some made.0 x same)

    -- rewritten code of the program finds the thread pointer, so far above where the block begins
    of_pointer : IsProgram l x → counts_from_thread_pointer l ≡ true
        → block.start + block_offset l ≡ base_number (setting_of ls history) block
    of_pointer program counting =
        let few = program.low in
        let begins : block.start ≡ pointer_of block.thread - block_offset l =
        start_is ∙ rw program.offset refl in
        let first : at_number ls 1 ≡ Some l = ap (at_number ls) (sym program.image) ∙ is.image in
        let one : block.instance ≡ 1 = own ∙ program.number in
        rw (first, counting, one) (omega (arith, begins, few))

    -- all other code finds where the block begins
    of_start : counts_from_thread_pointer l ≡ false → block.start + 0 ≡ base_number (setting_of ls history) block
    of_start counting = of_test (block.instance == 1) refl
      where
        one : (n : ℕ) → (n == 1) ≡ true → n ≡ 1
        one n e = grind (arith, nat_tests)

        none : (t : Bool) → (t && false) ≡ false
        none true = refl
        none false = refl

        of_test : (t : Bool) → (block.instance == 1) ≡ t
            → block.start + 0 ≡ (if counts (at_number ls 1) && t then pointer_of block.thread else block.start)
        of_test true e =
            let program = numbered_one ls history l x known is (sym own ∙ one block.instance e) in
            let first : at_number ls 1 ≡ Some l = ap (at_number ls) (sym program.image) ∙ is.image in
            rw (first, counting) (omega arith)
        of_test false e = rw (none (counts (at_number ls 1))) (omega arith)

    base_is : block.start + below l ≡ base_number (setting_of ls history) block
    base_is = of_test (counts_from_thread_pointer l) refl
      where
        of_test : (t : Bool) → counts_from_thread_pointer l ≡ t
            → block.start + (if t then block_offset l else 0) ≡ base_number (setting_of ls history) block
        of_test true e = of_pointer (linked_program ls history l x known is (counting_program l e)) e
        of_test false e = of_start e

  -- ** the field

  module _ (place' number : ℕ) (four : List ℕ)
      (mark : mark_of l (bias_of l.kind x.number) place' ≡ Offset number 0)
      (bytes : HasFourBytes (job_loads (images_of ls)) x place' four) where
    at : AtField l (bias_of l.kind x.number) place' (Offset number 0)
    at = at_field l (bias_of l.kind x.number) place' (Offset number 0) mark (λ e. cc) (λ e. cc)

    pub moves : (block : Block) → IsMade (setting_of ls history) (Base block) → block.instance ≡ x.number
        → (block.start + number) % 2 ^ 64 ≡ (base_number (setting_of ls history) block + field_of four) % 2 ^ 64
    moves block made own = of_bound (binding l at.spot.object at.field) refl
      where
        bias : ℕ
        bias = bias_of l.kind x.number

        stands : Standing l Executable (place' - bias_of l.kind x.number) at.spot
        stands = standing l Executable (place' - bias_of l.kind x.number) at.spot at.at.stands

        found : IsFound (covers at.spot.within) (relocations (object l at.spot.object) at.spot.section) at.field
        found = found_is (covers at.spot.within)
            (relocations (object l at.spot.object) at.spot.section) at.field at.found

        inside : Covers at.field at.spot.within
        inside = covers_so at.spot.within at.field found.passes

        kind : IsOffset l (bias_of l.kind x.number) at.spot.within at.field (binding l at.spot.object at.field)
            at.field.kind number 0
        kind = is_offset l (bias_of l.kind x.number) at.spot.within at.field (binding l at.spot.object at.field)
            at.field.kind number 0 at.is

        is_bound : IsBound l at.field.kind (binding l at.spot.object at.field)
        is_bound = bound l is.given is.links is.stray at.spot.object at.spot.section at.spot.within stands.there
            at.field found.among inside at.outside

        held : (f : Field) × (field l at.spot.object at.spot.section at.field ≡ Some f)
        held = value l is.given is.links is.stray at.spot.object at.spot.section at.spot.within stands.there
            at.field found.among inside at.outside

        of_variable : (v : SymbolRef) → binding l at.spot.object at.field ≡ Some (Here v)
            → (block.start + number) % 2 ^ 64 ≡ (base_number (setting_of ls history) block + field_of four) % 2 ^ 64
        of_variable v e =
            let z : ℤ = (pos (offset l v) +ℤ at.field.addend) -ℤ pos (below l) in
            let holds : signed_field ((pos (offset l v) +ℤ at.field.addend) -ℤ pos (below l)) ≡ Some held.0 =
            sym (field_by l at.spot.object at.spot.section at.field v kind.kind_is e) ∙ held.1 in
            let long = field_long ((pos (offset l v) +ℤ at.field.addend) -ℤ pos (below l)) held.0 holds in
            let wide : field_width at.field.kind ≡ 4 = ap field_width kind.kind_is in
            let left : loaded_field l (bias_of l.kind x.number) at.spot.object at.spot.section at.field ≡ Some held.0 =
            rw kind.kind_is held.1 in
            let here : place' ≡ place l at.spot.object at.spot.section at.field.offset + bias_of l.kind x.number =
            omega (arith, stands.from, stands.within_is, at.at.low, kind.byte_is, inside.0) in
            let four_is = four_loaded l is.given is.links is.stray at.spot.object at.spot.section at.spot.within
            stands.there at.field found.among inside at.outside ls x is stands.class_is place' four held.0 wide long left
            here bytes in
            let number_is = kind.number_is ∙ ap (offset_number l (bias_of l.kind x.number) at.field) e in
            tied l (bias_of l.kind x.number) at.field v number (below l) block.start
            (base_number (setting_of ls history) block) held.0 number_is holds (base_is block made own)
            ∙ ap (λ bs. (base_number (setting_of ls history) block + field_of bs) % 2 ^ 64) (sym four_is)

        of_bound : (b : Option Binding) → binding l at.spot.object at.field ≡ b
            → (block.start + number) % 2 ^ 64 ≡ (base_number (setting_of ls history) block + field_of four) % 2 ^ 64
        of_bound None e = absurd (is_bound.some e)
        of_bound (Some (Here v)) e = of_variable v e
        of_bound (Some (Startup k)) e =
            absurd (not_startup l.objects l.startup at.spot.object at.field k (ap may_import kind.kind_is) e)
        of_bound (Some Runtime) e = absurd (is_bound.other e)

-- the law
pub offsets_tied : OffsetFieldsAreTied
offsets_tied ls history l x place number four known is mark bytes block made own =
    moves ls history l x known is place number four (sym (mark_is ls l x place is.image) ∙ mark) bytes block made own
