-- Code at its places: what the meaning marks there is what stands there.
use Rattle.std.proofs.Common.{◌≡◌, ◌∙◌, ◌+◌, ◌-◌, ◌<◌, ◌≤◌, ◌&&◌, ◌==◌, ℕ, Bool, true, false, not, List, [], ◌∷◌}
use Rattle.std.proofs.Common.{Option, Some, None}
use Rattle.std.proofs.Common.{length, inl, inr, refl, sym, ap, subst, arith}
use Rattle.std.specs.Prelude.{nat_le, nat_lt, option_and_then, slice_get, slice_index_or, unwrap_or}
use Rattle.std.specs.List.{Contains, find}
use Rattle.std.proofs.lemmas.Bool.{le-ltb}
use Rattle.std.proofs.lemmas.Bool.Decides.{nat_tests}
use Rattle.elf_object.specs.declared.relocation.Relocation.{Relocation}
use Rattle.elf_object.specs.Lent.{relocations}
use Rattle.elf_object.specs.Relocations.{field_width}
use Rattle.elf_records.specs.declared.relocation.RelocationKind.{RelocationKind}
use Rattle.elf_records.specs.declared.relocation.RelocationKind.TheVariants.{Nothing, Absolute64, Pc32, Plt32, GotPcRel}
use Rattle.elf_records.specs.declared.relocation.RelocationKind.TheVariants.{Absolute32, Absolute32Signed, TlsGd, TlsLd}
use Rattle.elf_records.specs.declared.relocation.RelocationKind.TheVariants.{DtpOff32, GotTpOff, TpOff32}
use Rattle.elf_records.specs.declared.relocation.RelocationKind.TheVariants.{GotPc32TlsDesc}
use Rattle.elf_records.specs.declared.relocation.RelocationKind.TheVariants.{TlsDescCall, GotPcRelX, RexGotPcRelX}
use Rattle.guest_operands.specs.declared.space.Access.TheVariants.{Run}
use Rattle.guest_operands.specs.Ranges.{Range, byte_in, grants, holds}
use Rattle.job_meaning.specs.declared.values.Byte.{Byte}
use Rattle.job_meaning.specs.declared.values.Byte.TheVariants.{Value}
use Rattle.job_meaning.specs.Marked.{code_byte}
use Rattle.link_core.proofs.Few.{table_fits}
use Rattle.link_core.proofs.LengthsInside.{is_object}
use Rattle.link_core.proofs.StandingPlaces.{lies_of}
use Rattle.link_core.specs.Faults.{Links}
use Rattle.link_core.specs.Laws.{HasNoStray}
use Rattle.link_core.specs.Meant.{is_in_field, is_in_rewritten}
use Rattle.link_needs.specs.Given.{IsGiven}
use Rattle.link_needs.specs.Linking.{Linking, binding, choice, layout, object, sites_at}
use Rattle.link_needs.specs.Needs.{is_kept}
use Rattle.link_needs.specs.Values.{is_replaced}
use Rattle.loaded_bytes.proofs.Classes.{class_below}
use Rattle.loaded_bytes.proofs.Elsewhere.{elsewhere}
use Rattle.loaded_bytes.proofs.FieldBytes.{loaded_is}
use Rattle.link_core.proofs.StandingFields.{shared}
use Rattle.loaded_bytes.proofs.Finds.{found_is, none_found, none_passes}
use Rattle.loaded_bytes.proofs.Meant.{byte_there, held, in_range}
use Rattle.loaded_bytes.proofs.Sections.{sections_stand}
use Rattle.loaded_bytes.proofs.Spots.{standing}
use Rattle.loaded_bytes.proofs.Still.{code_loaded}
use Rattle.loaded_bytes.proofs.Values.{value_is}
use Rattle.loaded_bytes.specs.Bytes.{byte_at, byte_of_spot, loaded_byte}
use Rattle.loaded_bytes.specs.Laws.{IsInstanceOf, images_of}
use Rattle.loaded_bytes.specs.Places.{IsInMoved}
use Rattle.loaded_modules.specs.declared.instance.Instance.{Instance}
use Rattle.object_faults.specs.declared.class.SectionClass.TheVariants.{Executable, ReadOnly, Tls}
use Rattle.sequence_forms.specs.declared.places.Site.{Site}
use Rattle.sequence_match.proofs.Sections.{fields_apart}
use Rattle.sequence_match.specs.Faults.{IsOfSequence}
use Rattle.sequence_match.specs.Sites.{Covers}
use Rattle.thread_blocks.specs.JobLoads.{job_loads}
use Rattle.thread_blocks.specs.Turns.{at_number}
use Rattle.tied_fields.specs.Laws.{CodeIsTied, RoomsHaveNoCode}
use Rattle.tied_meaning.specs.Codes.{SameCodeByte}
use Rattle.tls_layout.specs.Places.{room as room_start}
use Rattle.tls_relocs.specs.declared.fields.Field.TheVariants.{Empty}
use Rattle.tls_relocs.specs.Fields.{field_bytes}
use Rattle.whole_meaning.specs.declared.marks.Mark.TheVariants.{Usual}
use Rattle.whole_meaning.specs.Bytes.{byte_by, byte_of, covers, has_value}
use Rattle.whole_meaning.specs.Code.{field_mark, is_in_site, mark_of, relocated_mark, site_mark, spot_mark}
use Rattle.whole_meaning.specs.Loads.{loads_of, meaning_of, still_ranges, class_range}
use Rattle.whole_meaning.specs.Spots.{Spot, begin_of, bias_of, in_room, moved_spot, spot_in}
use Rattle.tied_fields.proofs.Marks.{IsAt, at_spot, mark_is}
use Rattle.tied_fields.proofs.Fields.{bound, covered_so, covers_so, not_of_sequence, stays}
use Rattle.link_core.proofs.TogetherPlaces.{second as second_part}

first_part : (a b : Bool) → (a && b) ≡ true → a ≡ true
first_part true b e = refl
first_part false b e = e

both : (a b : Bool) → a ≡ true → b ≡ true → (a && b) ≡ true
both true b e f = f
both false b e f = e

-- ** a byte of a section

module _ (l : Linking) (given : IsGiven l) (links : Links l) (stray : HasNoStray l) (number o t k : ℕ)
    (there : o < length l.objects) (outside : find (is_in_site t k) (sites_at l o) ≡ None) where
  abbrev xs : List Relocation
  xs = relocations (object l o) t

  -- by the meaning
  abbrev meant : ℕ
  meant = byte_by l (bias_of l.kind number) o t k
      (find (λ r. has_value r.kind && covers k r) (relocations (object l o) t))

  -- ** no field has it

  module _ (none : find (covers k) (relocations (object l o) t) ≡ None) where
    no_value : find (λ (r : Relocation). has_value r.kind && covers k r) (relocations (object l o) t) ≡ None
    no_value =
        none_found (λ (r : Relocation). has_value r.kind && covers k r) (relocations (object l o) t) (λ r has passes.
        none_passes (covers k) (relocations (object l o) t) r none has
        (second_part (has_value r.kind) (covers k r) passes))

    no_field : find (is_in_field l o k) (relocations (object l o) t) ≡ None
    no_field =
        none_found (is_in_field l o k) (relocations (object l o) t) (λ r has passes.
        none_passes (covers k) (relocations (object l o) t) r none has
        (first_part (covers k r) (not (is_replaced l o r)) passes))

    no_sequence : find (is_in_rewritten l o t k) (sites_at l o) ≡ None
    no_sequence =
        none_found (is_in_rewritten l o t k) (sites_at l o) (λ site own passes.
        none_passes (is_in_site t k) (sites_at l o) site outside own
        (first_part (is_in_site t k site) (not (is_kept (choice l o site)))
        (assoc (site.section == t) (nat_le site.start k && nat_lt k (site.start + site.len))
        (not (is_kept (choice l o site)))
        passes)))
      where
        assoc : (a b c : Bool) → (a && b && c) ≡ true → ((a && b) && c) ≡ true
        assoc true b c e = e
        assoc false b c e = e

    own_byte : loaded_byte l (bias_of l.kind number) o t k ≡ meant
    unfolding loaded_byte
    own_byte =
        rw (no_sequence, no_field, no_value) refl

  -- ** a field has it

  module _ (r : Relocation) (found : find (covers k) (relocations (object l o) t) ≡ Some r) where
    has : Contains (relocations (object l o) t) r
    has = (found_is (covers k) (relocations (object l o) t) r found).among

    inside : Covers r k
    inside = covers_so k r (found_is (covers k) (relocations (object l o) t) r found).passes

    value_found : has_value r.kind ≡ true
        → find (λ (y : Relocation). has_value y.kind && covers k y) (relocations (object l o) t) ≡ Some r
    value_found value =
        of_found (find (λ (y : Relocation). has_value y.kind && covers k y) (relocations (object l o) t)) refl
      where
        of_found : (f : Option Relocation)
            → find (λ (y : Relocation). has_value y.kind && covers k y) (relocations (object l o) t) ≡ f
            → find (λ (y : Relocation). has_value y.kind && covers k y) (relocations (object l o) t) ≡ Some r
        of_found None e =
            absurd (none_passes (λ (y : Relocation). has_value y.kind && covers k y)
            (relocations (object l o) t) r e has
            (both (has_value r.kind) (covers k r) value (covered_so k r inside)))
        of_found (Some y) e =
            let f = found_is (λ (y : Relocation). has_value y.kind && covers k y) (relocations (object l o) t) y e in
            e ∙ ap Some (shared (relocations (object l o) t) r y k
            (fields_apart (object l o) (is_object l o given there) t)
            has f.among inside (covers_so k y (second_part (has_value y.kind) (covers k y) f.passes)))

    value_byte : has_value r.kind ≡ true → loaded_byte l (bias_of l.kind number) o t k ≡ meant
    value_byte value =
        loaded_is l given links stray o t k there r has
        (stays l given links stray o t k there r has inside outside) inside.0
        inside.1 (bias_of l.kind number)
        ∙ ap (λ f. slice_index_or (field_bytes (unwrap_or f Empty)) (k - r.offset) 0)
        (value_is l number o t r value (bound l given links stray o t k there r has inside outside))
        ∙ ap (byte_by l (bias_of l.kind number) o t k) (sym (value_found value))

    four : field_width r.kind ≡ 4 → k - r.offset < 4
    four wide = omega (arith, inside.0, inside.1, wide)

    some : field_width r.kind ≡ 0 → ⊥
    some none = omega (arith, inside.0, inside.1, none)

    sequence : IsOfSequence r.kind → ⊥
    sequence = not_of_sequence l given links stray o t k there r has inside outside

    abbrev Same : RelocationKind → Type 0
    Same kind = SameCodeByte (field_mark l (bias_of l.kind number) k r (binding l o r) kind) (Some meant)
        (Some (loaded_byte l (bias_of l.kind number) o t k))

    of_kind : (kind : RelocationKind) → r.kind ≡ kind → Same kind
    of_kind Nothing e = absurd (some (ap field_width e))
    of_kind Absolute64 e = ap Some (value_byte (ap has_value e))
    of_kind Pc32 e = ap Some (value_byte (ap has_value e))
    of_kind Plt32 e = ap Some (value_byte (ap has_value e))
    of_kind GotPcRel e = (four (ap field_width e), tt)
    of_kind Absolute32 e = ap Some (value_byte (ap has_value e))
    of_kind Absolute32Signed e = ap Some (value_byte (ap has_value e))
    of_kind TlsGd e = absurd (sequence (subst (λ (y : RelocationKind). IsOfSequence y) (sym e) refl))
    of_kind TlsLd e = absurd (sequence (subst (λ (y : RelocationKind). IsOfSequence y) (sym e) refl))
    of_kind DtpOff32 e = (four (ap field_width e), tt)
    of_kind GotTpOff e = absurd (sequence (subst (λ (y : RelocationKind). IsOfSequence y) (sym e) refl))
    of_kind TpOff32 e = ap Some (value_byte (ap has_value e))
    of_kind GotPc32TlsDesc e = absurd (sequence (subst (λ (y : RelocationKind). IsOfSequence y) (sym e) refl))
    of_kind TlsDescCall e = absurd (some (ap field_width e))
    of_kind GotPcRelX e = (four (ap field_width e), tt)
    of_kind RexGotPcRelX e = (four (ap field_width e), tt)

  -- ** either

  pub of_relocation : (found : Option Relocation) → find (covers k) (relocations (object l o) t) ≡ found
      → SameCodeByte (relocated_mark l (bias_of l.kind number) o k found) (Some meant)
      (Some (loaded_byte l (bias_of l.kind number) o t k))
  of_relocation None e = ap Some (own_byte e)
  of_relocation (Some r) e = of_kind r e r.kind refl

-- ** what stands at an address

module _ (l : Linking) (given : IsGiven l) (links : Links l) (stray : HasNoStray l) (number : ℕ) where
  of_site : (o t k : ℕ) → o < length l.objects → (found : Option Site) → find (is_in_site t k) (sites_at l o) ≡ found
      → SameCodeByte (site_mark l (bias_of l.kind number) found (relocated_mark l (bias_of l.kind number) o k
      (find (covers k) (relocations (object l o) t))))
      (Some (byte_by l (bias_of l.kind number) o t k
      (find (λ r. has_value r.kind && covers k r) (relocations (object l o) t))))
      (Some (loaded_byte l (bias_of l.kind number) o t k))
  of_site o t k there None e =
      of_relocation l given links stray number o t k there e (find (covers k) (relocations (object l o) t)) refl
  of_site o t k there (Some site) e = tt

  pub of_spot : (address : ℕ) (found : Option Spot) → spot_in l Executable address ≡ found
      → SameCodeByte (spot_mark l (bias_of l.kind number) found) (Some (byte_of l (bias_of l.kind number) found))
      (Some (byte_of_spot l (bias_of l.kind number) found))
  of_spot address None e = refl
  of_spot address (Some spot) e =
      let stands = standing l Executable address spot e in
      of_site spot.object spot.section spot.within stands.there
      (find (is_in_site spot.section spot.within) (sites_at l spot.object)) refl

-- ** what is found at a place

granted : (r : Range Byte) (more : List (Range Byte)) (place : ℕ) → grants Run r place ≡ true
    → byte_in Run (r ∷ more) place ≡ slice_get r.bytes (place - r.start)
granted r more place e = rw e refl

passed : (r : Range Byte) (more : List (Range Byte)) (place : ℕ) → grants Run r place ≡ false
    → byte_in Run (r ∷ more) place ≡ byte_in Run more place
passed r more place e = rw e refl

-- what the meaning loads of an instance beside its code
abbrev others : Linking → ℕ → List (Range Byte)
others l bias = class_range l bias ReadOnly ∷ class_range l bias (Tls true) ∷ []

module _ (ls : List Linking) (l : Linking) (x : Instance) (is : IsInstanceOf ls l x) (place : ℕ) where
  abbrev bias : ℕ
  bias = bias_of l.kind x.number

  -- on the two sides
  abbrev meant_byte : Option ℕ
  meant_byte = option_and_then code_byte (byte_in Run (still_ranges l (bias_of l.kind x.number)) place)

  abbrev loaded : Option ℕ
  loaded = byte_in Run ((job_loads (images_of ls)).fixed x) place

  -- ** among the sections of code

  in_class : IsInMoved l (bias_of l.kind x.number) Executable place
      → SameCodeByte (mark_of l (bias_of l.kind x.number) place) meant_byte loaded
  unfolding mark_of byte_at
  in_class here =
      let address = here.0 in
      let grant : grants Run (class_range l (bias_of l.kind x.number) Executable) place ≡ true =
      ap (λ p. grants Run (class_range l (bias_of l.kind x.number) Executable) p) here.1
      ∙ held ls l x is Executable here.0 here.2 in
      let meaning : byte_in Run (still_ranges l (bias_of l.kind x.number)) place
      ≡ Some (Value (byte_of l (bias_of l.kind x.number) (spot_in l Executable here.0))) =
      granted (class_range l (bias_of l.kind x.number) Executable) (others l (bias_of l.kind x.number)) place grant
      ∙ ap (λ p. slice_get (class_range l (bias_of l.kind x.number) Executable).bytes
      (p - (class_range l (bias_of l.kind x.number) Executable).start)) here.1
      ∙ byte_there ls l x is Executable here.0 here.2 in
      let machine : byte_in Run ((job_loads (images_of ls)).fixed x) place
      ≡ Some (byte_of_spot l (bias_of l.kind x.number) (spot_in l Executable here.0)) =
      ap (byte_in Run ((job_loads (images_of ls)).fixed x)) here.1 ∙ code_loaded ls l x here.0 is here.2 in
      let index : place - bias_of l.kind x.number ≡ here.0 = omega (arith, here.1) in
      let spot : moved_spot l Executable (bias_of l.kind x.number) place ≡ spot_in l Executable here.0 =
      rw (not_below (omega (arith, here.1))) (ap (spot_in l Executable) index) in
      rw (spot, meaning, machine)
      (of_spot l is.given is.links is.stray x.number here.0 (spot_in l Executable here.0) refl)
    where
      not_below : bias_of l.kind x.number ≤ place → nat_lt place (bias_of l.kind x.number) ≡ false
      not_below h = le-ltb place (bias_of l.kind x.number) h

  -- a section of code is there
  of_section : (spot : Spot) → IsAt l (bias_of l.kind x.number) place spot
      → IsInMoved l (bias_of l.kind x.number) Executable place
  of_section spot at =
      let stands = standing l Executable (place - bias_of l.kind x.number) spot at.stands in
      let lies = lies_of l is.given (table_fits l is.given is.links.sound.limits) spot.object spot.section Executable
      stands.there stands.class_is (λ e. cc) in
      let begins : begin_of (layout l) spot.object spot.section ≡ lies.0 = ap (λ a. unwrap_or a 0) lies.1.address_is in
      let within = (sections_stand l
      (bias_of l.kind x.number) Executable spot.object spot.section lies.0 spot.within is.given
      is.links tt (record { there = stands.there; class_is = stands.class_is; address_is = lies.1.address_is })
      (omega (arith, stands.from, stands.to, stands.within_is))).0 in
      (lies.0 + spot.within, omega (arith, begins, stands.from, stands.within_is, at.low), within)

  -- ** elsewhere

  module _ (out : holds (class_range l (bias_of l.kind x.number) Executable) place ≡ false) where
    not_there : IsInMoved l (bias_of l.kind x.number) Executable place → ⊥
    not_there here =
        let yes : holds (class_range l (bias_of l.kind x.number) Executable) place ≡ true =
        ap (holds (class_range l (bias_of l.kind x.number) Executable)) here.1
        ∙ held ls l x is Executable here.0 here.2 in
        cc

    pub unmeant : byte_in Run (still_ranges l (bias_of l.kind x.number)) place ≡ None
    unmeant = passed (class_range l (bias_of l.kind x.number) Executable) (others l (bias_of l.kind x.number)) place out

    pub unmarked : mark_of l (bias_of l.kind x.number) place ≡ Usual
    unfolding mark_of
    unmarked = of_found (moved_spot l Executable (bias_of l.kind x.number) place) refl
      where
        of_found : (found : Option Spot) → moved_spot l Executable (bias_of l.kind x.number) place ≡ found
            → spot_mark l (bias_of l.kind x.number) found ≡ Usual
        of_found None e = refl
        of_found (Some spot) e =
            absurd (not_there (of_section spot (at_spot l (bias_of l.kind x.number) place spot e)))

    unloaded : in_room l (bias_of l.kind x.number) place ≡ false
        → byte_in Run ((job_loads (images_of ls)).fixed x) place ≡ None
    unloaded away = of_found (byte_in Run ((job_loads (images_of ls)).fixed x) place) refl
      where
        of_found : (found : Option ℕ) → byte_in Run ((job_loads (images_of ls)).fixed x) place ≡ found → found ≡ None
        of_found None e = refl
        of_found (Some byte) e = elim ((elsewhere ls l x is).run place byte e) [
          | inl room ↦ absurd (cc)
          | inr here ↦ absurd (not_there here)
        ]

    pub nothing : in_room l (bias_of l.kind x.number) place ≡ false
        → SameCodeByte (mark_of l (bias_of l.kind x.number) place) meant_byte loaded
    nothing away = rw (unmarked, unmeant, unloaded away) refl

  -- either
  same : in_room l (bias_of l.kind x.number) place ≡ false
      → SameCodeByte (mark_of l (bias_of l.kind x.number) place) meant_byte loaded
  same away = of_test (holds (class_range l (bias_of l.kind x.number) Executable) place) refl
    where
      of_test : (t : Bool) → holds (class_range l (bias_of l.kind x.number) Executable) place ≡ t
          → SameCodeByte (mark_of l (bias_of l.kind x.number) place) meant_byte loaded
      of_test true e = in_class (in_range ls l x is Executable place e)
      of_test false e = nothing e away

  -- ** in the room

  behind : in_room l (bias_of l.kind x.number) place ≡ true
      → holds (class_range l (bias_of l.kind x.number) Executable) place ≡ false
  unfolding in_room
  behind room = of_test (holds (class_range l (bias_of l.kind x.number) Executable) place) refl
    where
      low : (a b : ℕ) (t : Bool) → (nat_le a b && t) ≡ true → a ≤ b
      low a b t e = grind (arith, nat_tests)

      of_test : (t : Bool) → holds (class_range l (bias_of l.kind x.number) Executable) place ≡ t
          → holds (class_range l (bias_of l.kind x.number) Executable) place ≡ false
      of_test false e = e
      of_test true e =
          let here = in_range ls l x is Executable place e in
          let from = low (room_start (layout l).kind (layout l).sections + bias_of l.kind x.number) place _ room in
          let ends = class_below (layout l) Executable in
          absurd (omega (arith, here.1, here.2.1, from, ends))

-- ** of a job's meaning

pub room_is : (ls : List Linking) (l : Linking) (x : Instance) (place : ℕ) → at_number ls x.image ≡ Some l
    → (meaning_of ls).room x place ≡ in_room l (bias_of l.kind x.number) place
unfolding meaning_of
room_is ls l x place e = rw e refl

pub fixed_meant : (ls : List Linking) (l : Linking) (x : Instance) → at_number ls x.image ≡ Some l
    → (meaning_of ls).loads.fixed x ≡ still_ranges l (bias_of l.kind x.number)
unfolding meaning_of loads_of
fixed_meant ls l x e = rw e refl

-- the laws
pub code_tied : CodeIsTied
code_tied ls l x place is out =
    rw (mark_is ls l x place is.image, fixed_meant ls l x is.image)
    (same ls l x is place (sym (room_is ls l x place is.image) ∙ out))

pub rooms_empty : RoomsHaveNoCode
rooms_empty ls l x place is within =
    let away = behind ls l x is place (sym (room_is ls l x place is.image) ∙ within) in (
      ap (λ ranges. byte_in Run ranges place) (fixed_meant ls l x is.image) ∙ unmeant ls l x is place away,
      mark_is ls l x place is.image ∙ unmarked ls l x is place away,
    )
