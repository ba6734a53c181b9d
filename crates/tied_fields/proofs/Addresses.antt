-- An address field leads, from where its instruction ends, to a word with the address that the meaning has.
use Rattle.std.proofs.Common.{◌≡◌, ◌∙◌, ◌+◌, ◌-◌, ◌*◌, ◌<◌, ◌≤◌, ◌%◌, ◌^◌, ℕ, ℤ, pos, negsuc, suc, true, false, List}
use Rattle.std.proofs.Common.{Option}
use Rattle.std.proofs.Common.{Some, None, refl, sym, ap, arith}
use Rattle.std.specs.Prelude.{◌+ℤ◌, ◌-ℤ◌, ◌==◌, slice_get}
use Rattle.std.proofs.lemmas.Bool.Decides.{nat_tests}
use Rattle.amd64_subset.specs.Spelling.{field_of}
use Rattle.elf_object.specs.declared.relocation.Relocation.{Relocation}
use Rattle.elf_object.specs.Laws.{class_in_table}
use Rattle.elf_object.specs.Lent.{relocations}
use Rattle.elf_object.specs.Relocations.{field_width}
use Rattle.elf_records.specs.declared.relocation.RelocationKind.{RelocationKind}
use Rattle.elf_records.specs.declared.relocation.RelocationKind.TheVariants.{GotPcRel, GotPcRelX, RexGotPcRelX}
use Rattle.got_pairs.specs.declared.need.Need.{Need}
use Rattle.got_pairs.specs.declared.need.Need.TheVariants.{AddressWord}
use Rattle.got_pairs.specs.Needs.{start_of}
use Rattle.guest_arithmetic.specs.Values.{digit}
use Rattle.guest_operands.specs.declared.space.Access.TheVariants.{Read}
use Rattle.guest_operands.specs.Ranges.{byte_in}
use Rattle.guest_operands.specs.Use.{plus}
use Rattle.known_instances.proofs.StartupNumbers.{known_given}
use Rattle.link_core.specs.Dynamic.{is_absolute}
use Rattle.link_faults.specs.declared.binding.Binding.{Binding}
use Rattle.link_faults.specs.declared.binding.Binding.TheVariants.{Here, Startup, Runtime}
use Rattle.link_faults.specs.declared.image_kind.ImageKind.{ImageKind}
use Rattle.link_faults.specs.declared.image_kind.ImageKind.TheVariants.{Exe, Pie, Start, Late}
use Rattle.link_faults.specs.declared.symbol_ref.SymbolRef.{SymbolRef}
use Rattle.link_faults.specs.ImageKinds.{base_of}
use Rattle.link_needs.proofs.Reached.{fields_reach_entries}
use Rattle.link_needs.specs.Linking.{Linking, address, binding, object, place}
use Rattle.link_needs.specs.Needs.{address_need, entries, entry_by, got_start, is_address_kind, need_address, need_by}
use Rattle.link_needs.specs.Needs.{relocation_need}
use Rattle.link_needs.specs.Values.{field, other_number, own_number}
use Rattle.loaded_bytes.proofs.Finds.{IsFound, found_is}
use Rattle.loaded_bytes.proofs.Places.{places_own}
use Rattle.loaded_bytes.proofs.Spots.{Standing, standing}
use Rattle.loaded_bytes.proofs.Values.{IsBound}
use Rattle.loaded_bytes.specs.Bytes.{loaded_field}
use Rattle.loaded_bytes.specs.Laws.{IsInstanceOf, images_of}
use Rattle.loaded_words.proofs.Words.{words_loaded}
use Rattle.loaded_words.specs.Laws.{IsKnown}
use Rattle.loaded_words.specs.Words.{loaded_words}
use Rattle.module_table.specs.declared.events.Event.{Event}
use Rattle.loaded_modules.specs.declared.instance.Instance.{Instance}
use Rattle.object_faults.specs.declared.class.SectionClass.TheVariants.{Executable}
use Rattle.relocated_parts.proofs.Words.{low_digit}
use Rattle.sequence_match.specs.Sites.{Covers}
use Rattle.thread_blocks.specs.JobLoads.{job_loads}
use Rattle.tied_meaning.specs.Sites.{HasWord}
use Rattle.tied_meaning.specs.Ties.{HasFourBytes}
use Rattle.tls_relocs.specs.declared.fields.Field.{Field}
use Rattle.tls_relocs.specs.Values.{modulo, signed_field, stored_field}
use Rattle.tls_symbols.specs.Faults.{is_tls_kind}
use Rattle.whole_meaning.specs.declared.marks.Mark.TheVariants.{Address}
use Rattle.whole_meaning.specs.Bytes.{covers, symbol_number}
use Rattle.whole_meaning.specs.Code.{mark_of}
use Rattle.whole_meaning.specs.Fields.{is_minus}
use Rattle.whole_meaning.specs.Spots.{bias_of}
use Rattle.tied_fields.specs.Laws.{AddressFieldsAreTied}
use Rattle.tied_fields.proofs.Fields.{bound, covers_so, four_loaded, value}
use Rattle.tied_fields.proofs.Marks.{AtField, IsAddress, at_field, is_address, mark_is}
use Rattle.tied_fields.proofs.Numbers.{field_is, field_long, reaches}

impossible : {X : Type 0} → false ≡ true → X
impossible e = absurd (cc)

-- ** the types of address fields

wide : (kind : RelocationKind) → is_address_kind kind ≡ true → field_width kind ≡ 4
wide GotPcRel e = refl
wide GotPcRelX e = refl
wide RexGotPcRelX e = refl
wide kind e = impossible e

plain : (kind : RelocationKind) → is_address_kind kind ≡ true → is_tls_kind kind ≡ false
plain GotPcRel e = refl
plain GotPcRelX e = refl
plain RexGotPcRelX e = refl
plain kind e = impossible e

unmoved : (kind : RelocationKind) → is_address_kind kind ≡ true → is_absolute kind ≡ false
unmoved GotPcRel e = refl
unmoved GotPcRelX e = refl
unmoved RexGotPcRelX e = refl
unmoved kind e = impossible e

-- what the meaning's number is, of a symbol of the image
number_of : (l : Linking) (bias : ℕ) (kind : RelocationKind) (v : SymbolRef) → is_address_kind kind ≡ true
    → symbol_number l bias kind (Some (Here v)) ≡ address l v + bias
number_of l bias GotPcRel v e = refl
number_of l bias GotPcRelX v e = refl
number_of l bias RexGotPcRelX v e = refl
number_of l bias kind v e = impossible e

-- what the field holds: how far the entry is
stored_by : (l : Linking) (o : ℕ) (r : Relocation) (kind : RelocationKind) (s p : ℕ) (a : ℤ)
    → is_address_kind kind ≡ true
    → stored_field kind s a p (other_number l o r kind)
    ≡ signed_field ((pos (need_address l (relocation_need l o r)) +ℤ a) -ℤ pos p)
stored_by l o r GotPcRel s p a e = refl
stored_by l o r GotPcRelX s p a e = refl
stored_by l o r RexGotPcRelX s p a e = refl
stored_by l o r kind s p a e = impossible e

need_of : (l : Linking) (o e : ℕ) (b : Option Binding) (kind : RelocationKind) → is_address_kind kind ≡ true
    → need_by l o e b kind ≡ address_need l b
need_of l o e b GotPcRel h = refl
need_of l o e b GotPcRelX h = refl
need_of l o e b RexGotPcRelX h = refl
need_of l o e b kind h = impossible h

-- an addend is minus so many
minus_is : (addend : ℤ) (size : ℕ) → is_minus addend size ≡ true → (s : ℕ) × (addend ≡ negsuc s) × (suc s ≡ size)
minus_is (pos n) size e = impossible e
minus_is (negsuc n) size e = (n, refl, same (suc n) size e)
  where
    same : (a b : ℕ) → (a == b) ≡ true → a ≡ b
    same a b e = grind (arith, nat_tests)

-- a word of 64 bits has the digits of any number that it is left of
reduced : (n k : ℕ) → k < 8 → digit (n % 2 ^ 64) k ≡ digit n k
reduced n k below = low_digit n k below

-- the words of the table that hold addresses, as the loader leaves them
abbrev pub AddressesAreLoaded : List Linking → Linking → Instance → Type 0
AddressesAreLoaded ls l x = (v : SymbolRef) (at : ℕ) → start_of (entries l) (AddressWord v (address l v)) ≡ Some at
    → HasWord (job_loads (images_of ls)) x (got_start l + at + bias_of l.kind x.number)
    (address l v + bias_of l.kind x.number)

module _ (ls : List Linking) (l : Linking) (x : Instance) (is : IsInstanceOf ls l x) (words : AddressesAreLoaded ls l x)
    (low : (v : SymbolRef) (at : ℕ) → start_of (entries l) (AddressWord v (address l v)) ≡ Some at
    → got_start l + at + bias_of l.kind x.number < 2 ^ 64)
    (here number size : ℕ) (addend : ℤ) (four : List ℕ)
    (mark : mark_of l (bias_of l.kind x.number) here ≡ Address number addend 0)
    (bytes : HasFourBytes (job_loads (images_of ls)) x here four) (minus : is_minus addend size ≡ true) where
  at : AtField l (bias_of l.kind x.number) here (Address number addend 0)
  at = at_field l (bias_of l.kind x.number) here (Address number addend 0) mark (λ e. cc) (λ e. cc)

  stands : Standing l Executable (here - bias_of l.kind x.number) at.spot
  stands = standing l Executable (here - bias_of l.kind x.number) at.spot at.at.stands

  found : IsFound (covers at.spot.within) (relocations (object l at.spot.object) at.spot.section) at.field
  found = found_is (covers at.spot.within) (relocations (object l at.spot.object) at.spot.section) at.field at.found

  inside : Covers at.field at.spot.within
  inside = covers_so at.spot.within at.field found.passes

  kind : IsAddress l (bias_of l.kind x.number) at.spot.within at.field (binding l at.spot.object at.field) at.field.kind
      number 0 addend
  kind = is_address l (bias_of l.kind x.number) at.spot.within at.field (binding l at.spot.object at.field)
      at.field.kind number 0 addend at.is

  is_bound : IsBound l at.field.kind (binding l at.spot.object at.field)
  is_bound = bound l is.given is.links is.stray at.spot.object at.spot.section at.spot.within stands.there at.field
      found.among inside at.outside

  held : (f : Field) × (field l at.spot.object at.spot.section at.field ≡ Some f)
  held = value l is.given is.links is.stray at.spot.object at.spot.section at.spot.within stands.there at.field
      found.among inside at.outside

  abbrev Reaches : Type 0
  Reaches = (number < 2 ^ 64)
      × HasWord (job_loads (images_of ls)) x (plus (plus here size) (field_of four)) number

  of_variable : (v : SymbolRef) → binding l at.spot.object at.field ≡ Some (Here v) → Reaches
  unfolding relocation_need field
  of_variable v e =
      let o = at.spot.object in
      let t = at.spot.section in
      let bias = bias_of l.kind x.number in
      let m = minus_is addend size minus in
      let word = fields_reach_entries l at.spot.object at.spot.section at.field v stands.there
      (class_in_table (object l at.spot.object) at.spot.section (rw stands.class_is refl)).1 found.among kind.kind_is
      e in
      let reached : need_address l (relocation_need l at.spot.object at.field) ≡ got_start l + word.at =
      ap (need_address l) (need_of l at.spot.object at.field.symbol (binding l at.spot.object at.field) at.field.kind
      kind.kind_is ∙ ap (address_need l) e) ∙ ap (entry_by l) word.starts in
      let far : ℤ =
      (pos (got_start l + word.at) +ℤ negsuc m.0) -ℤ pos (place l at.spot.object at.spot.section at.field.offset) in
      let holds : signed_field ((pos (got_start l + word.at) +ℤ negsuc m.0)
      -ℤ pos (place l at.spot.object at.spot.section at.field.offset)) ≡ Some held.0 =
      ap (λ a. signed_field ((pos (got_start l + word.at) +ℤ a)
      -ℤ pos (place l at.spot.object at.spot.section at.field.offset))) (sym m.1 ∙ kind.addend_is)
      ∙ ap (λ g. signed_field ((pos g +ℤ at.field.addend)
      -ℤ pos (place l at.spot.object at.spot.section at.field.offset))) (sym reached)
      ∙ sym (stored_by l at.spot.object at.field at.field.kind
      (own_number l at.field.kind (binding l at.spot.object at.field))
      (place l at.spot.object at.spot.section at.field.offset) at.field.addend kind.kind_is)
      ∙ held.1 in
      let long = field_long far held.0 holds in
      let left : loaded_field l (bias_of l.kind x.number) at.spot.object at.spot.section at.field ≡ Some held.0 =
      rw (unmoved at.field.kind kind.kind_is) held.1 in
      let where_is : here ≡ place l at.spot.object at.spot.section at.field.offset + bias_of l.kind x.number =
      omega (arith, stands.from, stands.within_is, at.at.low, kind.byte_is, inside.0) in
      let four_is = four_loaded l is.given is.links is.stray at.spot.object at.spot.section at.spot.within stands.there
      at.field found.among inside at.outside ls x is stands.class_is here four held.0
      (wide at.field.kind kind.kind_is) long
      left where_is bytes in
      let read : field_of four ≡ modulo (2 ^ 64) ((pos (got_start l + word.at) +ℤ negsuc m.0)
      -ℤ pos (place l at.spot.object at.spot.section at.field.offset)) =
      ap field_of four_is ∙ field_is far held.0 holds in
      let leads : plus (plus here size) (field_of four) ≡ got_start l + word.at + bias_of l.kind x.number =
      ap (λ h. plus (plus h size) (field_of four)) where_is
      ∙ ap (λ s. plus (plus (place l at.spot.object at.spot.section at.field.offset + bias_of l.kind x.number) s)
      (field_of four)) (sym m.2)
      ∙ ap (plus (plus (place l at.spot.object at.spot.section at.field.offset + bias_of l.kind x.number)
      (suc m.0))) read
      ∙ reaches (got_start l + word.at) (place l at.spot.object at.spot.section at.field.offset)
      (bias_of l.kind x.number) m.0
      ∙ whole (got_start l + word.at + bias_of l.kind x.number) (low v word.at word.starts) in
      let number_is : number ≡ (address l v + bias_of l.kind x.number) % 2 ^ 64 =
      kind.number_is ∙ ap (λ b. symbol_number l (bias_of l.kind x.number) at.field.kind b % 2 ^ 64) e
      ∙ ap (λ n. n % 2 ^ 64) (number_of l (bias_of l.kind x.number) at.field.kind v kind.kind_is) in (
        omega (arith, number_is),
        λ k below. ap (λ p. byte_in Read ((job_loads (images_of ls)).fixed x) (p + k)) leads
            ∙ words v word.at word.starts k below
            ∙ ap Some (sym (ap (λ n. digit n k) number_is ∙ reduced (address l v + bias_of l.kind x.number) k below)),
      )
    where
      whole : (n : ℕ) → n < 2 ^ 64 → n % 2 ^ 64 ≡ n
      whole n small = omega (arith, small)

  pub leads_there : Reaches
  leads_there = of_bound (binding l at.spot.object at.field) refl
    where
      of_bound : (b : Option Binding) → binding l at.spot.object at.field ≡ b → Reaches
      of_bound None e = absurd (is_bound.some e)
      of_bound (Some (Here v)) e = of_variable v e
      of_bound (Some (Startup k)) e = absurd (is_bound.own k (plain at.field.kind kind.kind_is) e)
      of_bound (Some Runtime) e = absurd (is_bound.other e)

-- ** where entries lie

base_low : (kind : ImageKind) → base_of kind ≤ 2 ^ 32
base_low Exe = omega arith
base_low Pie = omega arith
base_low Start = omega arith
base_low Late = omega arith

pub bias_low : (kind : ImageKind) (n : ℕ) → bias_of kind n ≤ 2 ^ 32 + n * 2 ^ 26
bias_low Exe n = omega arith
bias_low Pie n = omega arith
bias_low Start n = omega arith
bias_low Late n = omega arith

-- an entry lies at a place of 64 bits
pub entry_low : (ls : List Linking) (history : List Event) (l : Linking) (x : Instance) (need : Need) (at word : ℕ)
    → IsKnown ls history x → IsInstanceOf ls l x → start_of (entries l) need ≡ Some at
    → slice_get (loaded_words (images_of ls) l.kind x need) 0 ≡ Some word
    → got_start l + at + bias_of l.kind x.number < 2 ^ 64
entry_low ls history l x need at word known is starts first =
    let place : ℕ = got_start l + at + 8 * 0 + bias_of l.kind x.number + 0 in
    let own = (places_own ls l x is).fixed Read (got_start l + at + 8 * 0 + bias_of l.kind x.number + 0) (digit word 0)
    (words_loaded ls l x history need at 0 word known is starts first 0 (omega arith)) in
    let given = known_given (job_loads (images_of ls)) history known.legal x.number x known.known in
    omega (arith, own.1, given.low, given.number, base_low l.kind, bias_low l.kind x.number)

-- the law
pub addresses_tied : AddressFieldsAreTied
addresses_tied ls history l x here number size addend four known is mark bytes minus =
    leads_there ls l x is words low here number size addend four (sym (mark_is ls l x here is.image) ∙ mark) bytes minus
  where
    words : AddressesAreLoaded ls l x
    words v at starts k below =
        let here : got_start l + at + bias_of l.kind x.number + k
        ≡ got_start l + at + 8 * 0 + bias_of l.kind x.number + k =
        omega arith in
        ap (byte_in Read ((job_loads (images_of ls)).fixed x)) here
        ∙ words_loaded ls l x history (AddressWord v (address l v)) at 0
        (address l v + bias_of l.kind x.number) known is starts
        refl k below

    low : (v : SymbolRef) (at : ℕ) → start_of (entries l) (AddressWord v (address l v)) ≡ Some at
        → got_start l + at + bias_of l.kind x.number < 2 ^ 64
    low v at starts =
        entry_low ls history l x (AddressWord v (address l v)) at
        (address l v + bias_of l.kind x.number) known is starts refl
