-- The field of a rewritten sequence fits its value: a variable's distance from the thread pointer, and how far an entry
-- of the table is from the field's end, are small.
use Rattle.std.proofs.Common.{◌≡◌, ◌+◌, ◌<◌, ◌≤◌, ◌⊎◌, ◌^◌, ℕ, ℤ, pos, negsuc, Bool, true, false, List, Option, Some}
use Rattle.std.proofs.Common.{None, length, inl, inr, refl, sym, ap, subst, arith}
use Rattle.std.specs.Prelude.{◌+ℤ◌, ◌-ℤ◌, unwrap_or, if◌then◌else◌}
use Rattle.std.specs.List.{Contains}
use Rattle.std.specs.Str.{bytes_eq}
use Rattle.std.proofs.lemmas.Bool.{lt-ltb}
use Rattle.std.proofs.lemmas.Int.{ints}
use Rattle.std.proofs.lemmas.List.Elements.{All-contains}
use Rattle.elf_object.specs.declared.relocation.Relocation.{Relocation}
use Rattle.elf_records.specs.declared.symbol.SymbolBinding.TheVariants.{Local}
use Rattle.elf_object.specs.Lent.{symbol_binding, symbol_name}
use Rattle.elf_records.specs.declared.relocation.RelocationKind.{RelocationKind}
use Rattle.elf_records.specs.declared.relocation.RelocationKind.TheVariants.{GotTpOff, TpOff32}
use Rattle.got_pairs.proofs.Served.{within}
use Rattle.got_pairs.specs.declared.need.Need.{Need}
use Rattle.got_pairs.specs.Needs.{start_of, total_size}
use Rattle.link_faults.specs.declared.binding.Binding.{Binding}
use Rattle.link_faults.specs.declared.binding.Binding.TheVariants.{Here, Startup, Runtime}
use Rattle.link_faults.specs.declared.image_kind.ImageKind.{ImageKind}
use Rattle.link_faults.specs.declared.image_kind.ImageKind.TheVariants.{Exe, Pie}
use Rattle.link_faults.specs.declared.symbol_ref.SymbolRef.{SymbolRef}
use Rattle.link_needs.proofs.InputsLemmas.{address_small}
use Rattle.link_needs.proofs.PlanLemmas.{table_small}
use Rattle.link_needs.proofs.UsableSites.{usable}
use Rattle.link_needs.specs.Given.{FitsTable, IsGiven}
use Rattle.link_needs.specs.Plans.{IsUsable}
use Rattle.link_needs.specs.Linking.{Linking, binding, block_offset, choice, chosen, layout, object, offset, place}
use Rattle.link_needs.specs.Linking.{sites_at}
use Rattle.link_needs.specs.Needs.{entries, entry_by, got_start, need_address, new_relocation, relocation_need}
use Rattle.link_needs.specs.Values.{field, other_number, own_number}
use Rattle.link_tables.specs.Faults.{Links}
use Rattle.relax_sites.proofs.Tables.{field_end}
use Rattle.relax_sites.specs.Choices.{choice_of, program_choice}
use Rattle.relax_sites.specs.declared.choices.Choice.TheVariants.{Keep}
use Rattle.relax_sites.specs.declared.rows.NewField.{NewField}
use Rattle.relax_sites.specs.Rows.{new_field}
use Rattle.sequence_forms.specs.declared.forms.Form.{Form}
use Rattle.sequence_forms.specs.declared.forms.Form.TheVariants.{Gd, IeMov, IeAdd, GdInd, DescLea, DescCall}
use Rattle.sequence_forms.specs.declared.places.Site.{Site}
use Rattle.sequence_match.specs.Faults.{IsSite}
use Rattle.sequence_match.specs.Sites.{first_of}
use Rattle.tls_layout.proofs.Rounds.{power_bounds, round_up-near}
use Rattle.tls_layout.specs.Places.{tls_alignment, tls_size}
use Rattle.tls_relocs.specs.declared.fields.Field.{Field}
use Rattle.tls_relocs.specs.declared.fields.Field.TheVariants.{Word32}
use Rattle.tls_relocs.specs.Values.{modulo, signed_field, stored_field}
use Rattle.tls_symbols.specs.Bindings.{binding_of, bound_to, first_export, here_or, may_import, name_binding}
use Rattle.elf_records.specs.Symbols.{get_address}
use Rattle.tls_symbols.specs.Bindings.{object_at, of_startup}
use Rattle.tls_symbols.specs.Definitions.{definition_of, same_binding}
use Rattle.link_core.proofs.Few.{table_fits}
use Rattle.link_core.proofs.GotRelocationsSites.{known}
use Rattle.link_core.proofs.LoadsTls.{alignment_power}
use Rattle.link_core.proofs.StandingPlaces.{site_in}
use Rattle.link_core.specs.Laws.{NewFieldsFit}

-- ** which of the two it is

-- the distance of a variable of the program, or the word of any
record IsTpOff (bound : Option Binding) (new : NewField) : Type 0 where
  kind_is : new.kind ≡ TpOff32
  addend_is : new.addend ≡ pos 0
  variable : SymbolRef
  here : bound ≡ Some (Here variable)

record IsGotTpOff (new : NewField) : Type 0 where
  kind_is : new.kind ≡ GotTpOff
  addend_is : new.addend ≡ negsuc 3

abbrev IsNew : Option Binding → NewField → Type 0
IsNew bound new = IsTpOff bound new ⊎ IsGotTpOff new

distance : (variable : SymbolRef) (at : ℕ) (new : NewField)
    → Some (record { at = at; kind = TpOff32; addend = pos 0 }) ≡ Some new → IsNew (Some (Here variable)) new
distance variable at new e = inl (record { kind_is = cc; addend_is = cc; variable = variable; here = refl })

word : (bound : Option Binding) (at : ℕ) (new : NewField)
    → Some (record { at = at; kind = GotTpOff; addend = negsuc 3 }) ≡ Some new → IsNew bound new
word bound at new e = inr (record { kind_is = cc; addend_is = cc })

of_program : (form : Form) (bound : Binding) (new : NewField) → new_field form (program_choice form bound) ≡ Some new
    → IsNew (Some bound) new
of_program Gd (Here variable) new e = distance variable 12 new e
of_program Gd (Startup image) new e = word _ 12 new e
of_program GdInd (Here variable) new e = distance variable 12 new e
of_program GdInd (Startup image) new e = word _ 12 new e
of_program IeMov (Here variable) new e = distance variable 3 new e
of_program IeAdd (Here variable) new e = distance variable 3 new e
of_program DescLea (Here variable) new e = distance variable 3 new e
of_program DescLea (Startup image) new e = word _ 3 new e
of_program DescCall (Here variable) new e = absurd (cc)
of_program form bound new e = absurd (cc)

kept_has_none : (form : Form) (new : NewField) → new_field form Keep ≡ Some new → ⊥
kept_has_none Gd new e = cc
kept_has_none form new e = cc

of_kind : (form : Form) (bound : Binding) (kind : ImageKind) (relax : Bool) (new : NewField)
    → new_field form (choice_of form bound kind relax) ≡ Some new → IsNew (Some bound) new
of_kind form bound kind false new e = absurd (kept_has_none form new e)
of_kind form bound Exe true new e = of_program form bound new e
of_kind form bound Pie true new e = of_program form bound new e
of_kind form bound kind true new e = absurd (kept_has_none form new e)

which : (l : Linking) (form : Form) (bound : Option Binding) (new : NewField)
    → new_field form (chosen l form bound) ≡ Some new → IsNew bound new
which l form None new e = absurd (kept_has_none form new e)
which l form (Some bound) new e = of_kind form bound l.kind l.relax new e

-- ** bindings

-- a symbol of the image itself is bound so whatever the type of the relocation
pub here_alike : (objects : List (List ℕ)) (startup : List (List (List ℕ))) (o : ℕ) (x y : Relocation)
    (found : SymbolRef) → x.symbol ≡ y.symbol → binding_of objects startup o x ≡ Some (Here found)
    → binding_of objects startup o y ≡ Some (Here found)
unfolding bound_to
here_alike objects startup o x y found same e =
    let b = object_at objects o in
    subst (λ n. (if same_binding Local (symbol_binding (object_at objects o) n)
    then Some (Here (record { object = o; symbol = n }))
    else name_binding objects startup y.kind (symbol_name (object_at objects o) n)) ≡ Some (Here found)) same
    (of_local (same_binding Local (symbol_binding b x.symbol)) e)
  where
    none_here : (t : Bool) (k : Option ℕ) → (if t then of_startup k else None) ≡ Some (Here found) → ⊥
    none_here true None e = cc
    none_here true (Some k) e = cc
    none_here false k e = cc

    of_definition : (n : List ℕ) (defined : Option SymbolRef)
        → here_or defined (if may_import x.kind then of_startup (first_export n 1 startup) else None)
        ≡ Some (Here found)
        → here_or defined (if may_import y.kind then of_startup (first_export n 1 startup) else None)
        ≡ Some (Here found)
    of_definition n (Some defined) e = e
    of_definition n None e = absurd (none_here (may_import x.kind) (first_export n 1 startup) e)

    of_name : (n : List ℕ) (t : Bool)
        → (if t then Some Runtime else here_or (definition_of objects n)
        (if may_import x.kind then of_startup (first_export n 1 startup) else None)) ≡ Some (Here found)
        → (if t then Some Runtime else here_or (definition_of objects n)
        (if may_import y.kind then of_startup (first_export n 1 startup) else None)) ≡ Some (Here found)
    of_name n true e = absurd (cc)
    of_name n false e = of_definition n (definition_of objects n) e

    of_local : (t : Bool)
        → (if t then Some (Here (record { object = o; symbol = x.symbol }))
        else name_binding objects startup x.kind (symbol_name (object_at objects o) x.symbol)) ≡ Some (Here found)
        → (if t then Some (Here (record { object = o; symbol = x.symbol }))
        else name_binding objects startup y.kind (symbol_name (object_at objects o) x.symbol)) ≡ Some (Here found)
    of_local true e = e
    of_local false e =
        of_name (symbol_name (object_at objects o) x.symbol)
        (bytes_eq (symbol_name (object_at objects o) x.symbol) get_address) e

-- ** numbers

-- the block begins near the thread pointer
pub block_near : (l : Linking) → FitsTable l → block_offset l < 2 ^ 21
unfolding block_offset
block_near l limits =
    let sections = (layout l).sections in
    let power = power_bounds (tls_alignment sections) (alignment_power sections limits.lawful.ordinary) in
    let near = round_up-near (tls_size sections) (tls_alignment sections) power.0 in
    omega (arith, near, power.1, limits.lawful.small_tls)

-- each entry of the table lies low
pub entry_low : (l : Linking) → (need : Option Need) → got_start l + total_size (entries l) ≤ 2 ^ 25
    → need_address l need ≤ 2 ^ 25
entry_low l None small = omega arith
entry_low l (Some need) small = of_start (start_of (entries l) need) refl
  where
    of_start : (at : Option ℕ) → at ≡ start_of (entries l) need → entry_by l at ≤ 2 ^ 25
    of_start None e = omega arith
    of_start (Some at) e = omega (arith, within (entries l) need (Some at) e, small)

pub distance_field : (l : Linking) (o : ℕ) (r : Relocation) (kind : RelocationKind) (bound : Option Binding)
    (found : SymbolRef) (p : ℕ) → kind ≡ TpOff32 → bound ≡ Some (Here found)
    → stored_field kind (own_number l kind bound) r.addend p (other_number l o r kind)
    ≡ signed_field ((pos (offset l found) +ℤ r.addend) -ℤ pos (block_offset l))
distance_field l o r TpOff32 bound found p is e = rw e refl
distance_field l o r kind bound found p is e = absurd (cc)

word_field : (l : Linking) (o : ℕ) (r : Relocation) (kind : RelocationKind) (s p : ℕ) → kind ≡ GotTpOff
    → stored_field kind s r.addend p (other_number l o r kind)
    ≡ signed_field ((pos (need_address l (relocation_need l o r)) +ℤ r.addend) -ℤ pos p)
word_field l o r GotTpOff s p is = refl
word_field l o r kind s p is = absurd (cc)

-- ** the value

-- the difference of two small numbers
difference_fits : (z : ℤ) (a b : ℕ) → z +ℤ pos b ≡ pos a → a < 2 ^ 31 → b < 2 ^ 31
    → (value : Field) × (signed_field z ≡ Some value)
difference_fits (pos n) a b e small low =
    let sum : n + b ≡ a = omega (arith, ints, e) in
    let yes = lt-ltb n (2 ^ 31) (omega (arith, sum, small)) in
    (Word32 (modulo (2 ^ 32) (pos n)), rw yes refl)
difference_fits (negsuc n) a b e small low =
    let sum : n + 1 + a ≡ b = omega (arith, ints, e) in
    let yes = lt-ltb n (2 ^ 31) (omega (arith, sum, low)) in
    (Word32 (modulo (2 ^ 32) (negsuc n)), rw yes refl)

abbrev HasValue : Option Field → Type 0
HasValue found = (value : Field) × (found ≡ Some value)

distance_fits : (d b : ℕ) (a : ℤ) → a ≡ pos 0 → d < 2 ^ 31 → b < 2 ^ 31
    → HasValue (signed_field ((pos d +ℤ a) -ℤ pos b))
distance_fits d b a e small low =
    let sum : (pos d +ℤ pos 0) -ℤ pos b +ℤ pos b ≡ pos d = omega (arith, ints) in
    subst (λ n. HasValue (signed_field ((pos d +ℤ n) -ℤ pos b))) (sym e)
    (difference_fits ((pos d +ℤ pos 0) -ℤ pos b) d b sum small low)

word_fits : (g p : ℕ) (a : ℤ) → a ≡ negsuc 3 → g < 2 ^ 31 → p + 4 < 2 ^ 31
    → HasValue (signed_field ((pos g +ℤ a) -ℤ pos p))
word_fits g p a e small low =
    let sum : (pos g +ℤ negsuc 3) -ℤ pos p +ℤ pos (p + 4) ≡ pos g = omega (arith, ints) in
    subst (λ n. HasValue (signed_field ((pos g +ℤ n) -ℤ pos p))) (sym e)
    (difference_fits ((pos g +ℤ negsuc 3) -ℤ pos p) g (p + 4) sum small low)

module _ (l : Linking) (given : IsGiven l) (links : Links l) (o : ℕ) (there : o < length l.objects) (site : Site)
    (has : Contains (sites_at l o) site) (new : NewField)
    (is_new : new_field site.form (choice l o site) ≡ Some new) where
  limits : FitsTable l
  limits = table_fits l given links.sound.limits

  fits : IsUsable (object l o) site
  fits = All-contains (IsUsable (object l o)) (sites_at l o) site (usable l o given there) has

  spelled : IsSite (object l o) site
  spelled = All-contains (IsSite (object l o)) (sites_at l o) site (given.are_sites o there).only has

  abbrev r : Relocation
  r = new_relocation site new

  of_distance : IsTpOff (binding l o (first_of site)) new → HasValue (field l o site.section (new_relocation site new))
  unfolding field
  of_distance h =
      let inside = (known l given links.sound o site there has spelled fits.symbol).inside h.variable h.here in
      subst HasValue
      (sym (distance_field l o r new.kind (binding l o r) h.variable (place l o site.section r.offset) h.kind_is
      (here_alike l.objects l.startup o (first_of site) r h.variable refl h.here)))
      (distance_fits (offset l h.variable) (block_offset l) new.addend h.addend_is
      (omega (arith, inside, limits.lawful.small_tls)) (omega (arith, block_near l limits)))

  of_word : IsGotTpOff new → HasValue (field l o site.section (new_relocation site new))
  unfolding field
  of_word h =
      let at = site_in l given limits o site there has in
      let low = address_small (layout l) o site.section at.address limits.lawful at.lies.address_is in
      let end = (field_end site.form (choice l o site) site.reg new is_new).end in
      let begins : place l o site.section (site.start + new.at) ≡ at.address + (site.start + new.at) =
      ap (λ a. unwrap_or a 0 + (site.start + new.at)) at.lies.address_is in
      subst HasValue
      (sym (word_field l o r new.kind (own_number l new.kind (binding l o r)) (place l o site.section r.offset)
      h.kind_is))
      (word_fits (need_address l (relocation_need l o r)) (place l o site.section (site.start + new.at)) new.addend
      h.addend_is
      (omega (arith, entry_low l (relocation_need l o r) (table_small l given limits)))
      (omega (arith, begins, low, end, fits.small, fits.whole)))

  new_value : HasValue (field l o site.section (new_relocation site new))
  unfolding choice
  new_value = elim (which l site.form (binding l o (first_of site)) new is_new) [
    | inl h ↦ of_distance h
    | inr h ↦ of_word h
  ]

pub new_fields_fit : NewFieldsFit
new_fields_fit l o site new given links there has is = new_value l given links o there site has new is
