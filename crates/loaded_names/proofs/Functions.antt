-- A definition is a function of the image where it stands in the executable class, and else none.
use Rattle.std.proofs.Common.{◌≡◌, ◌≢◌, ◌+◌, ◌≤◌, ◌&&◌, ◌∙◌, ℕ, Bool, true, false, not, Option, Some, None, IsSome}
use Rattle.std.proofs.Common.{refl, sym}
use Rattle.std.proofs.Common.{ap, subst, arith}
use Rattle.std.specs.Prelude.{List, nat_le, nat_lt, option_and_then, option_map, unwrap_or, if◌then◌else◌}
use Rattle.std.specs.List.{list_any}
use Rattle.std.proofs.lemmas.Bool.{le-leb}
use Rattle.std.proofs.lemmas.Bool.Decides.{nat_tests}
use Rattle.object_faults.specs.declared.class.SectionClass.{SectionClass}
use Rattle.object_faults.specs.declared.class.SectionClass.TheVariants as class
use Rattle.elf_object.specs.declared.symbol.SymbolPlace.{SymbolPlace}
use Rattle.elf_object.specs.declared.symbol.SymbolPlace.TheVariants.{Undefined, Absolute, InSection}
use Rattle.elf_object.specs.Lent.{section_class, symbol_place, symbol_type, symbol_value}
use Rattle.dynamic_symbols.specs.Laws.{IsShared}
use Rattle.elf_records.specs.declared.symbol.SymbolType.TheVariants.{Tls}
use Rattle.image_file.specs.Spelled.{Spelled}
use Rattle.image_names.specs.Functions.{entry_in, function_place, runs_at}
use Rattle.elf_records.specs.Symbols.{is_tls}
use Rattle.link_core.specs.Dynamic.{defined}
use Rattle.link_core.specs.Faults.{Links}
use Rattle.link_core.specs.Images.{image_of}
use Rattle.link_faults.specs.declared.symbol_ref.SymbolRef.{SymbolRef}
use Rattle.link_needs.specs.Given.{IsGiven}
use Rattle.link_needs.specs.Linking.{Linking, address, layout, object, offset}
use Rattle.loaded_bytes.proofs.Biases.{image_bias}
use Rattle.loaded_names.proofs.Images.{image_is}
use Rattle.loaded_modules.specs.Loader.{bias}
use Rattle.thread_blocks.specs.JobLoads.{job_loads}
use Rattle.tls_layout.specs.declared.extent.Extent.{Extent}
use Rattle.tls_layout.specs.Places.{extent_for}
use Rattle.tls_layout.specs.Places.{address_of, class_of, room}
use Rattle.tls_layout.specs.Sections.{is_class}
use Rattle.tls_layout.proofs.LawsOfPlaces.{classes_follow, have_addresses, lie_in_classes}
use Rattle.tls_layout.proofs.LawsOfSections.{finds_sections}
use Rattle.elf_object.specs.Lent.{is_tls_class, is_tls_place}
use Rattle.tls_symbols.specs.Definitions.{definition_of}
use Rattle.whole_meaning.specs.Bytes.{below, code_place, function_at, function_of}
use Rattle.whole_meaning.specs.Spots.{begin_of, bias_of}
use Rattle.loaded_names.specs.Laws.{FunctionsAreLoaded}
use Rattle.loaded_names.proofs.Defined.{definition_shared}
use Rattle.loaded_names.proofs.Named.{Reads, read_named}
use Rattle.loaded_names.proofs.Runs.{code_runs}
use Rattle.loaded_names.proofs.Symbols.{IsPlacedIn, placed_in}
use Rattle.link_needs.specs.Linking.{placed_value}

-- what does not begin before an end is behind it
none_before : (start end at : ℕ) → end ≤ at → (nat_le start at && nat_lt at end) ≡ false
none_before start end at behind = grind (arith, nat_tests)

-- ** a definition

module _ (l : Linking) (given : IsGiven l) (links : Links l) (found : SymbolRef) (shares : IsShared l.objects found)
  where
    abbrev o : ℕ
    o = found.object

    abbrev e : ℕ
    e = found.symbol

    abbrev b : List ℕ
    b = object l found.object

    abbrev code : Extent
    code = extent_for class.Executable (layout l)

    is : IsPlacedIn l found
    is = placed_in l given found shares

    -- where it stands if that is in section s: in the class, and not behind where the room begins
    abbrev at_in : ℕ → ℕ
    at_in s = begin_of (layout l) found.object s + symbol_value (object l found.object) found.symbol

    record Stands (s : ℕ) (c : SectionClass) : Type 0 where
      pub begins : (extent_for c (layout l)).start ≤ at_in s
      pub below_room : at_in s ≤ room (layout l).kind (layout l).sections

    stands : (s : ℕ) (c : SectionClass) → symbol_place b e ≡ InSection s → section_class b s ≡ Some c
        → c ≢ class.Tls false
        → Stands s c
    stands s c at class_is other =
        of_address (address_of (layout l) o s) refl (have_addresses (layout l) o s c known other)
      where
        known : class_of (layout l) o s ≡ Some c
        known = (finds_sections l.kind l.objects o s shares.within.object).class_is ∙ class_is

        of_address : (a : Option ℕ) → address_of (layout l) o s ≡ a → IsSome a → Stands s c
        of_address None a some = absurd (cc)
        of_address (Some begin) a some =
            let lies = lie_in_classes (layout l) links.sound.limits.lawful o s begin c known a in
            let kept : IsSome (section_class b s) = subst IsSome (sym class_is) (cc) in
            let size = (finds_sections l.kind l.objects o s shares.within.object).size_is kept in
            let inside = is.inside s at kept in
            let begin_is : begin_of (layout l) o s ≡ begin = ap (λ x. unwrap_or x 0) a in
            record {
              begins = omega (arith, begin_is, lies.begins);
              below_room = omega (arith, begin_is, lies.below, size, inside);
            }

    -- what an image's symbol tells, of a variable of threads or of another definition
    abbrev shown : Bool → ℕ → Option ℕ
    shown tls at =
        let kind = if tls then Tls else symbol_type (object l found.object) found.symbol in
        let value = if tls then offset l found else at in
        if not (is_tls kind) && list_any (runs_at value) (image_of l).parts then Some value else None

    -- what lies behind the code is not run
    behind_code : (at : ℕ) → at ≤ room (layout l).kind (layout l).sections → code.end ≤ at → shown false at ≡ None
    behind_code at low behind =
        rw (code_runs l given links at low, none_before code.start code.end at behind)
        (no_other (not (is_tls (symbol_type b e))))
      where
        no_other : (t : Bool) → (if t && false then Some at else None) ≡ None
        no_other true = refl
        no_other false = refl

    -- code is of no type of thread-local storage
    not_tls : (s : ℕ) → symbol_place b e ≡ InSection s → section_class b s ≡ Some class.Executable
        → is_tls (symbol_type b e) ≡ false
    not_tls s at class_is =
        is.not_tls (ap (is_tls_place b) at ∙ ap is_tls_class class_is)

    in_section : (s : ℕ) → symbol_place b e ≡ InSection s → (c : Option SectionClass) → section_class b s ≡ c → IsSome c
        → shown (is_tls_class c) (at_in s) ≡ (if is_class class.Executable c then below code.end (at_in s) else None)
    in_section s at None class_is some = absurd (cc)
    in_section s at (Some class.Executable) class_is some =
        let x = stands s class.Executable at class_is (λ h. cc) in
        rw (
          not_tls s at class_is,
          code_runs l given links (at_in s) x.below_room,
          le-leb code.start (at_in s) x.begins,
        ) refl
    in_section s at (Some class.ReadOnly) class_is some =
        let x = stands s class.ReadOnly at class_is (λ h. cc) in
        behind_code (at_in s) x.below_room (omega (arith, x.begins, (classes_follow (layout l)).second))
    in_section s at (Some (class.Tls initial)) class_is some = refl
    in_section s at (Some (class.Writable initial)) class_is some =
        let x = stands s (class.Writable initial) at class_is (λ h. cc) in
        let follow = classes_follow (layout l) in
        behind_code (at_in s) x.below_room
        (omega (
          arith,
          x.begins,
          follow.second,
          follow.rise class.ReadOnly,
          follow.third,
          follow.rise (class.Tls true),
          follow.fourth,
        ))

    -- a function of the objects, by where it is defined
    abbrev meant : SymbolPlace → ℕ → Option ℕ
    meant (InSection s) at = if is_class class.Executable (section_class (object l found.object) s)
        then below (extent_for class.Executable (layout l)).end at
        else None
    meant place at = None

    same_code : (place : SymbolPlace) → code_place l found place ≡ meant place (address l found)
    same_code Undefined = refl
    same_code Absolute = refl
    same_code (InSection s) = refl

    -- a definition lies in a section that linking keeps
    of_place : (place : SymbolPlace) → symbol_place b e ≡ place
        → shown (is_tls_place b place) (placed_value (address_of (layout l) o) place (symbol_value b e))
        ≡ meant place (placed_value (address_of (layout l) o) place (symbol_value b e))
    of_place Undefined at = absurd (is.defined at)
    of_place Absolute at = absurd (is.relative at)
    of_place (InSection s) at = in_section s at (section_class b s) refl (is.kept s at)

    place_alike : function_place (image_of l).parts (defined l found) ≡ function_at l found
    unfolding defined address
    place_alike = of_place (symbol_place b e) refl ∙ sym (same_code (symbol_place b e))

-- ** by name

module _ (l : Linking) where
  foreign_none : Reads (function_place (image_of l).parts)
  foreign_none symbol undefined = rw undefined refl

  entry_is : IsGiven l → Links l → (name : List ℕ) → entry_in (image_of l) name ≡ function_of l name
  unfolding entry_in function_of
  entry_is given links name =
      read_named l name (function_place (image_of l).parts) foreign_none
      ∙ of_definition (definition_of l.objects name) refl
    where
      of_definition : (found : Option SymbolRef) → definition_of l.objects name ≡ found
          → option_and_then (function_place (image_of l).parts) (option_map (defined l) found)
          ≡ option_and_then (function_at l) found
      of_definition None e = refl
      of_definition (Some found) e = place_alike l given links found (definition_shared l.objects name found e)

-- the law
pub functions_loaded : FunctionsAreLoaded
unfolding job_loads
functions_loaded ls l x name is =
    ap
    (option_and_then (λ (image : Spelled). option_map (λ place. place + bias image.kind x.number)
    (entry_in image name)))
    (image_is ls l x.image is.image)
    ∙ ap (λ n. option_map (λ place. place + n) (entry_in (image_of l) name)) (image_bias l x.number)
    ∙ ap (option_map (λ at. at + bias_of l.kind x.number)) (entry_is l is.given is.links name)
