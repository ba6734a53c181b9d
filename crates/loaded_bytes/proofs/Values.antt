-- Outside code a loaded byte is what the meaning of a job has there: each field that has one holds its value at the
-- instance's place.
use Rattle.std.proofs.Common.{◌≡◌, ◌≢◌, ◌+◌, ◌-◌, ◌<◌, ◌^◌, ◌&&◌, ◌∙◌, ℕ, ℤ, pos, suc, Bool, true, false, not, List, []}
use Rattle.std.proofs.Common.{◌∷◌, Option, Some, None, length, refl, sym, ap, arith, if◌then◌else◌}
use Rattle.std.specs.Prelude.{◌+ℤ◌, ◌-ℤ◌, is_none, nat_le, nat_lt, slice_index_or, unwrap_or}
use Rattle.std.specs.List.{Contains, find}
use Rattle.std.proofs.lemmas.Bool.Decides.{nat_tests}
use Rattle.std.proofs.lemmas.List.Elements.{All-contains}
use Rattle.std.proofs.lemmas.Option.{slice_get-get_or}
use Rattle.memory_image.proofs.Words.{moved_distance}
use Rattle.elf_object.specs.declared.relocation.Relocation.{Relocation}
use Rattle.elf_object.specs.Lawful.{IsLawful}
use Rattle.elf_object.specs.LawsOfRelocations.{lawful}
use Rattle.elf_object.specs.Lent.{kept_relocation_table, relocations, section_bytes, section_class}
use Rattle.elf_object.specs.Relocations.{IsOfCode, field_width}
use Rattle.elf_records.specs.declared.relocation.RelocationKind.{RelocationKind}
use Rattle.elf_records.specs.declared.relocation.RelocationKind.TheVariants.{Nothing, Absolute64, Pc32, Absolute32}
use Rattle.elf_records.specs.declared.relocation.RelocationKind.TheVariants.{Absolute32Signed, Plt32, TpOff32}
use Rattle.link_core.proofs.GotRelocationsSites.{has_table, held, passes}
use Rattle.link_core.proofs.LengthsInside.{form_some, is_code, is_object}
use Rattle.link_core.proofs.TogetherNames.{runtime_getter}
use Rattle.link_core.specs.Dynamic.{is_absolute}
use Rattle.link_core.specs.Faults.{Links}
use Rattle.link_core.specs.Laws.{HasNoStray}
use Rattle.link_core.specs.Meant.{is_in_field, site_byte}
use Rattle.link_faults.specs.declared.binding.Binding.{Binding}
use Rattle.link_faults.specs.declared.binding.Binding.TheVariants.{Here, Startup, Runtime}
use Rattle.link_faults.specs.declared.fault.LinkFaultKind.TheVariants.{NarrowInModule, NotTls, Undefined}
use Rattle.link_faults.specs.ImageKinds.{is_moved}
use Rattle.link_needs.specs.Given.{IsGiven}
use Rattle.link_needs.specs.Linking.{Linking, address, binding, block_offset, object, offset, place}
use Rattle.link_needs.specs.Values.{field, goes, is_replaced, is_rewriting, other_number, own_number}
use Rattle.link_needs.specs.Refusals.{by_type, is_refused}
use Rattle.object_faults.specs.declared.class.SectionClass.TheVariants.{Executable}
use Rattle.sequence_forms.specs.declared.places.Site.{Site}
use Rattle.elf_records.specs.RelocationRows.{row as kind_row}
use Rattle.sequence_forms.specs.Forms.{row}
use Rattle.sequence_match.specs.Faults.{IsGetter, code_of}
use Rattle.sequence_match.specs.Sites.{IsEntry, IsSecond, IsSiteOf}
use Rattle.tls_relocs.specs.declared.fields.Field.{Field}
use Rattle.tls_relocs.specs.declared.fields.Field.TheVariants.{Empty, Word64}
use Rattle.tls_relocs.specs.Fields.{field_bytes}
use Rattle.tls_relocs.specs.Values.{modulo, signed_field, stored_field, unsigned_field}
use Rattle.tls_symbols.specs.Faults.{Stands, is_faulty, is_mismatched, is_tls_kind, names_symbol}
use Rattle.whole_meaning.specs.Bytes.{byte_by, byte_of, covers, has_value, subtracted, symbol_number, value_of}
use Rattle.whole_meaning.specs.Spots.{Spot, bias_of, spot_in}
use Rattle.loaded_bytes.specs.Bytes.{byte_at, byte_of_spot, field_byte, loaded_byte, loaded_field}
use Rattle.loaded_bytes.specs.Laws.{BytesAreMeant}
use Rattle.loaded_bytes.proofs.Finds.{IsFound, found_is}
use Rattle.loaded_bytes.proofs.Spots.{standing}
use Rattle.loaded_bytes.proofs.Zeros.{no_site}

impossible : {X : Type 0} → false ≡ true → X
impossible e = absurd (cc)

-- the types that may stand outside code
data_kind : (kind : RelocationKind) → (IsOfCode kind → ⊥) → kind ≢ Nothing
    → (names_symbol kind ≡ true) × (has_value kind ≡ true)
data_kind Nothing other some = absurd (some refl)
data_kind Absolute64 other some = (refl, refl)
data_kind Pc32 other some = (refl, refl)
data_kind Absolute32 other some = (refl, refl)
data_kind Absolute32Signed other some = (refl, refl)
data_kind TpOff32 other some = (refl, refl)
data_kind kind other some = absurd (other refl)

-- how a field may be bound that is no sequence's
pub record IsBound (l : Linking) (kind : RelocationKind) (bound : Option Binding) : Type 0 where
  pub some : bound ≢ None
  pub other : bound ≢ Some Runtime
  pub own : (image : ℕ) → is_tls_kind kind ≡ false → bound ≢ Some (Startup image)
  pub narrow : is_moved l.kind ≡ true → is_refused NarrowInModule l.kind kind ≡ false

-- no sequence of section s calls the run time by relocation number f
abbrev pub CallsNone : List ℕ → ℕ → ℕ → Type 0
CallsNone b s f = (e : ℕ) (site : Site) → IsSiteOf (code_of b s) (relocations b s) (IsGetter b) e site
    → IsSecond (row site.form).second (IsGetter b) (relocations b s) site.start f → ⊥

names_some : (kind : RelocationKind) → kind ≢ Nothing → names_symbol kind ≡ true
names_some Nothing some = absurd (some refl)
names_some kind some = refl

module _ (l : Linking) (given : IsGiven l) (links : Links l) (stray : HasNoStray l) (o s : ℕ) (r : Relocation)
    (there : o < length l.objects) (has : Contains (relocations (object l o) s) r) (some : r.kind ≢ Nothing)
    (alone : CallsNone (object l o) s has.0) where
  entry : IsEntry (relocations (object l o) s) has.0 r
  entry = slice_get-get_or (relocations (object l o) s) has.0 r has.1 ∙ ap Some has.2

  not_undefined : is_faulty Undefined l.objects l.startup o r ≡ true → ⊥
  unfolding Stands
  not_undefined wrong =
      let at = held (object l o) s has.0 r entry in
      links.sound.resolved Undefined (omega arith) o at.table at.entry
      (there, at.above, at.below, passes (object l o) r (is_faulty Undefined l.objects l.startup o) at wrong)

  not_mismatched : is_faulty NotTls l.objects l.startup o r ≡ true → ⊥
  unfolding Stands
  not_mismatched wrong =
      let at = held (object l o) s has.0 r entry in
      links.sound.resolved NotTls (omega arith) o at.table at.entry
      (there, at.above, at.below, passes (object l o) r (is_faulty NotTls l.objects l.startup o) at wrong)

  not_refused : is_refused NarrowInModule l.kind r.kind ≡ true → ⊥
  not_refused wrong =
      let at = held (object l o) s has.0 r entry in
      links.sound.kind.no_narrow.nowhere o at.table at.entry
      (there, at.above, at.below, passes (object l o) r (by_type NarrowInModule l.kind o) at wrong)

  -- the run time's function is called by sequences alone
  not_runtime : binding l o r ≡ Some Runtime → ⊥
  not_runtime bound =
      let law = All-contains (IsLawful (object l o) s) (relocations (object l o) s) r
      (lawful (object l o) (given.are_objects o [] there) s) has in
      let named = law.symbol some in
      let getter : IsGetter (object l o) r.symbol =
      runtime_getter l.objects l.startup o links.sound.resolved there r named.0 named.1 bound in
      (stray o there).1 (kept_relocation_table (object l o) s) has.0 (
        has_table (object l o) (kept_relocation_table (object l o) s) has.0 r entry,
        (s, refl, (r, entry, some, getter, alone)),
      )

  pub bound_is : IsBound l r.kind (binding l o r)
  bound_is = record {
    some = λ e. not_undefined (ap (λ t. t && is_none (binding l o r)) (names_some r.kind some) ∙ ap is_none e);
    other = not_runtime;
    own = λ image other e. not_mismatched (
        ap (λ t. t && is_mismatched l.objects r.kind (binding l o r)) (names_some r.kind some)
        ∙ ap (is_mismatched l.objects r.kind) e ∙ rw other refl);
    narrow = λ moved. of_test (is_refused NarrowInModule l.kind r.kind) refl;
  }
    where
      of_test : (t : Bool) → is_refused NarrowInModule l.kind r.kind ≡ t
          → is_refused NarrowInModule l.kind r.kind ≡ false
      of_test true e = absurd (not_refused e)
      of_test false e = e

-- ** one field

module _ (l : Linking) (bias : ℕ) (still : is_moved l.kind ≡ false → bias ≡ 0) (a : ℤ) (at : ℕ) (g : RelocationKind → ℕ)
    (storage : g TpOff32 ≡ block_offset l) where
  -- what a loader leaves in it
  abbrev left : RelocationKind → Option Binding → Option Field
  left kind bound =
      if is_absolute kind
      then Some (Word64 (modulo (2 ^ 64) (pos (own_number l kind bound + bias) +ℤ a)))
      else stored_field kind (own_number l kind bound) a at (g kind)

  -- and what the meaning says
  abbrev meant : RelocationKind → Option Binding → Option Field
  meant kind bound = stored_field kind (symbol_number l bias kind bound) a (at + bias)
      (subtracted l bias (kind_row kind).value)

  -- a field of 4 bytes with an address is in an image that is not moved
  zero_bias : (is_moved l.kind ≡ true → is_moved l.kind ≡ false) → bias ≡ 0
  zero_bias narrow = of_test (is_moved l.kind) refl
    where
      of_test : (t : Bool) → is_moved l.kind ≡ t → bias ≡ 0
      of_test true e = let no = narrow e in absurd (cc)
      of_test false e = still e

  unmoved : (n : ℕ) → bias ≡ 0 → n ≡ n + bias
  unmoved n still_there = omega (arith, still_there)

  same : (kind : RelocationKind) (bound : Option Binding) → has_value kind ≡ true → IsBound l kind bound
      → left kind bound ≡ meant kind bound
  same Absolute64 None value is = absurd (is.some refl)
  same Absolute64 (Some (Here found)) value is = refl
  same Absolute64 (Some (Startup image)) value is = absurd (is.own image refl refl)
  same Absolute64 (Some Runtime) value is = absurd (is.other refl)
  same Pc32 None value is = absurd (is.some refl)
  same Pc32 (Some (Here found)) value is = ap signed_field (sym (moved_distance (address l found) at bias a))
  same Pc32 (Some (Startup image)) value is = absurd (is.own image refl refl)
  same Pc32 (Some Runtime) value is = absurd (is.other refl)
  same Plt32 None value is = absurd (is.some refl)
  same Plt32 (Some (Here found)) value is = ap signed_field (sym (moved_distance (address l found) at bias a))
  same Plt32 (Some (Startup image)) value is = absurd (is.own image refl refl)
  same Plt32 (Some Runtime) value is = absurd (is.other refl)
  same Absolute32 None value is = absurd (is.some refl)
  same Absolute32 (Some (Here found)) value is =
      ap (λ n. unsigned_field (pos n +ℤ a)) (unmoved (address l found) (zero_bias is.narrow))
  same Absolute32 (Some (Startup image)) value is = absurd (is.own image refl refl)
  same Absolute32 (Some Runtime) value is = absurd (is.other refl)
  same Absolute32Signed None value is = absurd (is.some refl)
  same Absolute32Signed (Some (Here found)) value is =
      ap (λ n. signed_field (pos n +ℤ a)) (unmoved (address l found) (zero_bias is.narrow))
  same Absolute32Signed (Some (Startup image)) value is = absurd (is.own image refl refl)
  same Absolute32Signed (Some Runtime) value is = absurd (is.other refl)
  same TpOff32 None value is = absurd (is.some refl)
  same TpOff32 (Some (Here found)) value is =
      ap (λ n. signed_field ((pos (offset l found) +ℤ a) -ℤ pos n)) storage
  same TpOff32 (Some (Startup image)) value is = ap (λ n. signed_field ((pos 0 +ℤ a) -ℤ pos n)) storage
  same TpOff32 (Some Runtime) value is = absurd (is.other refl)
  same kind bound value is = impossible value

-- in each field that has one the loaded number is the meaning's
pub value_is : (l : Linking) (number o s : ℕ) (r : Relocation) → has_value r.kind ≡ true
    → IsBound l r.kind (binding l o r)
    → loaded_field l (bias_of l.kind number) o s r ≡ value_of l (bias_of l.kind number) o s r
unfolding value_of field
value_is l number o s r value bound =
    same l (bias_of l.kind number) (λ still. rw still refl) r.addend (place l o s r.offset)
    (other_number l o r) refl r.kind
    (binding l o r) value bound

-- ** a byte

names_nothing : (kind : RelocationKind) → names_symbol kind ≡ false → kind ≡ Nothing
names_nothing Nothing e = refl
names_nothing kind e = cc

some_kind : (kind : RelocationKind) → names_symbol kind ≡ true → kind ≢ Nothing
some_kind kind e none = let no : names_symbol kind ≡ false = ap names_symbol none in cc

-- outside code no relocation goes with a sequence
goes_none : (kind : RelocationKind) (bound : Option Binding) → (IsOfCode kind → ⊥) → bound ≢ Some Runtime
    → goes bound kind ≡ false
goes_none Nothing bound other runtime = refl
goes_none Absolute64 bound other runtime = refl
goes_none Pc32 None other runtime = refl
goes_none Pc32 (Some (Here found)) other runtime = refl
goes_none Pc32 (Some (Startup image)) other runtime = refl
goes_none Pc32 (Some Runtime) other runtime = absurd (runtime refl)
goes_none Absolute32 bound other runtime = refl
goes_none Absolute32Signed bound other runtime = refl
goes_none TpOff32 bound other runtime = refl
goes_none kind bound other runtime = absurd (other refl)

find_same : {X : Type 0} (p q : X → Bool) (xs : List X) → ((x : X) → Contains xs x → p x ≡ q x) → find p xs ≡ find q xs
find_same p q [] agree = refl
find_same p q (x ∷ xs) agree =
    let rest = find_same p q xs (λ y has. agree y (suc has.0, (let lt = has.1 in omega arith), has.2)) in
    ap (λ t. if t then Some x else find p xs) (agree x (0, omega arith, refl))
    ∙ ap (λ found. if q x then Some x else found) rest

empty_field : (kind : RelocationKind) (a k : ℕ) (replaced : Bool) → kind ≡ Nothing
    → ((nat_le a k && nat_lt k (a + field_width kind)) && not replaced)
    ≡ (has_value kind && (nat_le a k && nat_lt k (a + field_width kind)))
empty_field Nothing a k replaced e = grind (arith, nat_tests)
empty_field kind a k replaced e = cc

full_field : (c value replaced : Bool) → value ≡ true → replaced ≡ false → (c && not replaced) ≡ (value && c)
full_field true value replaced e f = rw (e, f) refl
full_field false value replaced e f = rw e refl

module _ (l : Linking) (given : IsGiven l) (links : Links l) (stray : HasNoStray l) (number o s : ℕ)
    (there : o < length l.objects) (data_here : section_class (object l o) s ≢ Some Executable) where
  abbrev bias : ℕ
  bias = bias_of l.kind number

  not_code : (r : Relocation) → Contains (relocations (object l o) s) r → IsOfCode r.kind → ⊥
  not_code r has of_code =
      data_here ((All-contains (IsLawful (object l o) s) (relocations (object l o) s) r
      (lawful (object l o) (given.are_objects o [] there) s) has).code of_code)

  -- no sequence stands there
  alone : (f : ℕ) → CallsNone (object l o) s f
  alone f e site is second =
      let spelled = is.spelled.inside in
      let few = form_some site.form in
      data_here (is_code (object l o) (is_object l o given there) s (omega arith)).class_is

  bound : (r : Relocation) → Contains (relocations (object l o) s) r → r.kind ≢ Nothing
      → IsBound l r.kind (binding l o r)
  bound r has some = bound_is l given links stray o s r there has some (alone has.0)

  -- byte k has the same field
  test_is : (k : ℕ) (r : Relocation) → Contains (relocations (object l o) s) r
      → is_in_field l o k r ≡ (has_value r.kind && covers k r)
  unfolding is_replaced
  test_is k r has = of_test (names_symbol r.kind) refl
    where
      of_test : (t : Bool) → names_symbol r.kind ≡ t → is_in_field l o k r ≡ (has_value r.kind && covers k r)
      of_test true e =
          let some = some_kind r.kind e in
          let none = goes_none r.kind (binding l o r) (not_code r has) (bound r has some).other in
          full_field (covers k r) (has_value r.kind) (is_rewriting l && goes (binding l o r) r.kind)
          (data_kind r.kind (not_code r has) some).1
          (ap (λ t. is_rewriting l && t) none ∙ no_other (is_rewriting l))
        where
          no_other : (t : Bool) → (t && false) ≡ false
          no_other true = refl
          no_other false = refl
      of_test false e = empty_field r.kind r.offset k (is_rewriting l && goes (binding l o r) r.kind)
          (names_nothing r.kind e)

  -- so it is the same
  byte_same : (k : ℕ) → loaded_byte l (bias_of l.kind number) o s k
      ≡ byte_by l (bias_of l.kind number) o s k
      (find (λ r. has_value r.kind && covers k r) (relocations (object l o) s))
  unfolding loaded_byte
  byte_same k =
      let own = slice_index_or (section_bytes (object l o) s) k 0 in
      ap
      (λ site. site_byte l o k site
      (field_byte l (bias_of l.kind number) o s k (find (is_in_field l o k) (relocations (object l o) s)) own))
      (no_site l given o s k there data_here)
      ∙ ap (λ found. field_byte l (bias_of l.kind number) o s k found own)
      (find_same (is_in_field l o k) (λ r. has_value r.kind && covers k r) (relocations (object l o) s) (test_is k))
      ∙ of_found (find (λ r. has_value r.kind && covers k r) (relocations (object l o) s)) refl
    where
      first_part : (a b : Bool) → (a && b) ≡ true → a ≡ true
      first_part true b e = refl
      first_part false b e = e

      of_found : (found : Option Relocation)
          → find (λ r. has_value r.kind && covers k r) (relocations (object l o) s) ≡ found
          → field_byte l (bias_of l.kind number) o s k found (slice_index_or (section_bytes (object l o) s) k 0)
          ≡ byte_by l (bias_of l.kind number) o s k found
      of_found None e = refl
      of_found (Some r) e =
          let f : IsFound (λ r. has_value r.kind && covers k r) (relocations (object l o) s) r =
          found_is (λ r. has_value r.kind && covers k r) (relocations (object l o) s) r e in
          ap (λ value. slice_index_or (field_bytes (unwrap_or value Empty)) (k - r.offset) 0)
          (let value = first_part (has_value r.kind) (covers k r) f.passes in
          value_is l number o s r value (bound r f.among (λ none. impossible (sym (ap has_value none) ∙ value))))

-- the law
pub bytes_meant : BytesAreMeant
unfolding byte_at
bytes_meant l number address class given links stray other = of_spot (spot_in l class address) refl
  where
    of_spot : (found : Option Spot) → spot_in l class address ≡ found
        → byte_of_spot l (bias_of l.kind number) found ≡ byte_of l (bias_of l.kind number) found
    of_spot None e = refl
    of_spot (Some spot) e =
        let x = standing l class address spot e in
        byte_same l given links stray number spot.object spot.section x.there
        (λ code. other (same_some (sym x.class_is ∙ code))) spot.within
      where
        same_some : Some class ≡ Some Executable → class ≡ Executable
        same_some e = cc
