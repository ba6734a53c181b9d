-- Where the fields of a kept site lead: the first to its variable's entry, and the second to the stub or to the run
-- time's word.
use Rattle.std.proofs.Common.{◌≡◌, ◌≢◌, ◌∙◌, ◌+◌, ◌*◌, ◌<◌, ◌≤◌, ◌^◌, ℕ, negsuc, Bool, true, false, List}
use Rattle.std.proofs.Common.{Option, Some, None}
use Rattle.std.proofs.Common.{refl, sym, ap, subst, arith, if◌then◌else◌}
use Rattle.std.specs.Prelude.{IfSome, slice_get, unwrap_or}
use Rattle.std.specs.List.{Contains}
use Rattle.std.proofs.lemmas.List.Elements.{All-contains}
use Rattle.std.proofs.lemmas.Option.{get_or_from_slice_get, slice_get_within}
use Rattle.elf_object.specs.declared.relocation.Relocation.{Relocation}
use Rattle.elf_object.specs.Lawful.{IsLawful}
use Rattle.elf_object.specs.LawsOfRelocations.{lawful}
use Rattle.elf_object.specs.Lent.{relocations}
use Rattle.elf_object.specs.Relocations.{field_width}
use Rattle.elf_records.specs.declared.relocation.RelocationKind.{RelocationKind}
use Rattle.elf_records.specs.declared.relocation.RelocationKind.TheVariants.{Nothing, Pc32, Plt32, GotPcRel}
use Rattle.elf_records.specs.declared.relocation.RelocationKind.TheVariants.{GotPcRelX, RexGotPcRelX}
use Rattle.got_pairs.specs.declared.need.Need.{Need}
use Rattle.got_pairs.specs.declared.need.Need.TheVariants.{RuntimeWord}
use Rattle.guest_machine.specs.Use.{plus}
use Rattle.link_core.proofs.Few.{table_fits}
use Rattle.link_core.proofs.LengthsInside.{is_object}
use Rattle.link_core.proofs.TogetherNames.{getter_bound}
use Rattle.link_core.specs.Dynamic.{is_absolute}
use Rattle.link_faults.specs.declared.binding.Binding.{Binding}
use Rattle.link_faults.specs.declared.binding.Binding.TheVariants.{Runtime}
use Rattle.link_faults.specs.ImageKinds.{is_moved}
use Rattle.link_needs.proofs.InputsLemmas.{address_small}
use Rattle.link_needs.specs.Laws.{HasEntry}
use Rattle.link_needs.specs.Given.{FitsTable}
use Rattle.link_needs.specs.Linking.{Linking, binding, choice, layout, object}
use Rattle.link_needs.specs.Needs.{got_start, is_kept, need_by, relocation_need, stub_start}
use Rattle.link_needs.specs.Plans.{reaches_entry, IsUsable}
use Rattle.link_needs.specs.Values.{field}
use Rattle.loaded_bytes.specs.Laws.{IsInstanceOf}
use Rattle.loaded_modules.specs.declared.instance.Instance.{Instance}
use Rattle.relax_sites.specs.Rows.{form_length}
use Rattle.sequence_forms.specs.declared.forms.Call.{Call}
use Rattle.sequence_forms.specs.declared.forms.Call.TheVariants.{Direct, Indirect}
use Rattle.sequence_forms.specs.declared.forms.Form.{Form}
use Rattle.sequence_forms.specs.declared.forms.Form.TheVariants.{Gd, Ld, IeMov, IeAdd, GdInd, LdInd, DescLea, DescCall}
use Rattle.sequence_forms.specs.declared.forms.Second.{Second}
use Rattle.sequence_forms.specs.declared.places.Site.{Site}
use Rattle.sequence_forms.specs.Forms.{IsCallKind, row}
use Rattle.sequence_match.proofs.Rows.{call_width_is}
use Rattle.sequence_match.specs.Faults.{IsGetter, IsSite}
use Rattle.sequence_match.specs.Sites.{HasSecond, first_of}
use Rattle.sequence_laws.specs.Laws.{number_in, second_in}
use Rattle.tied_meaning.specs.Sites.{first_length}
use Rattle.tls_relocs.specs.declared.fields.Field.TheVariants.{Empty}
use Rattle.tls_relocs.specs.Fields.{field_bytes}
use Rattle.whole_meaning.specs.Spots.{bias_of}
use Rattle.tied_sites.proofs.Cells.{loaded, number_is}
use Rattle.tied_sites.proofs.Numbers.{Holds}
use Rattle.tied_sites.proofs.Places.{IsHere, site_here, usable_here}
use Rattle.tied_sites.proofs.Reaches.{call_held, entry_held, entry_low, from_end, leads, stub_low}
use Rattle.tied_sites.proofs.Variables.{bound_is}

-- ** rows

-- the forms whose first field leads to an entry
abbrev pub HasField : Form → Type 0
HasField DescCall = ⊥
HasField form = Unit {0}

record IsFirst (form : Form) : Type 0 where
  reaches : reaches_entry (row form).first ≡ true
  wide : field_width (row form).first ≡ 4
  other : is_absolute (row form).first ≡ false
  addend : (row form).addend ≡ Some (negsuc 3)
  end : first_length form ≡ (row form).first_at + 4
  inside : (row form).first_at + 4 ≤ form_length form

first_is : (form : Form) → HasField form → IsFirst form
unfolding row
first_is Gd h =
    record { reaches = refl; wide = refl; other = refl; addend = refl; end = refl; inside = omega arith }
first_is Ld h =
    record { reaches = refl; wide = refl; other = refl; addend = refl; end = refl; inside = omega arith }
first_is IeMov h =
    record { reaches = refl; wide = refl; other = refl; addend = refl; end = refl; inside = omega arith }
first_is IeAdd h =
    record { reaches = refl; wide = refl; other = refl; addend = refl; end = refl; inside = omega arith }
first_is GdInd h =
    record { reaches = refl; wide = refl; other = refl; addend = refl; end = refl; inside = omega arith }
first_is LdInd h =
    record { reaches = refl; wide = refl; other = refl; addend = refl; end = refl; inside = omega arith }
first_is DescLea h =
    record { reaches = refl; wide = refl; other = refl; addend = refl; end = refl; inside = omega arith }
first_is DescCall h = absurd h

-- the second field ends a form that has one
abbrev EndsWith : Option Second → ℕ → Type 0
EndsWith None n = Unit {0}
EndsWith (Some second) n = second.at + 4 ≡ n

second_ends : (form : Form) → EndsWith (row form).second (form_length form)
unfolding row
second_ends Gd = refl
second_ends Ld = refl
second_ends IeMov = tt
second_ends IeAdd = tt
second_ends GdInd = refl
second_ends LdInd = refl
second_ends DescLea = tt
second_ends DescCall = tt

-- a call is of no 8 bytes, and does something
call_other : (call : Call) (kind : RelocationKind) → IsCallKind call kind → is_absolute kind ≡ false
call_other Direct Plt32 h = refl
call_other Direct Pc32 h = refl
call_other Indirect GotPcRel h = refl
call_other Indirect GotPcRelX h = refl
call_other Indirect RexGotPcRelX h = refl
call_other Direct _ h = absurd (cc)
call_other Indirect _ h = absurd (cc)

call_some : (call : Call) (kind : RelocationKind) → IsCallKind call kind → kind ≢ Nothing
call_some call kind is none = let width : field_width kind ≡ 0 = ap field_width none in
    omega (arith, width, call_width_is call kind is)

call_reaches : (kind : RelocationKind) → IsCallKind Indirect kind → reaches_entry kind ≡ true
call_reaches GotPcRel h = refl
call_reaches GotPcRelX h = refl
call_reaches RexGotPcRelX h = refl
call_reaches _ h = absurd (cc)

call_need : (l : Linking) (o e : ℕ) (bound : Option Binding) (kind : RelocationKind) → IsCallKind Indirect kind
    → bound ≡ Some Runtime → need_by l o e bound kind ≡ Some RuntimeWord
call_need l o e bound GotPcRel h is = rw is refl
call_need l o e bound GotPcRelX h is = rw is refl
call_need l o e bound RexGotPcRelX h is = rw is refl
call_need l o e bound _ h is = absurd (cc)

contains_at : {X : Type 0} (xs : List X) (i : ℕ) (x : X) → slice_get xs i ≡ Some x → Contains xs x
contains_at xs i x e = (i, slice_get_within xs i x e, get_or_from_slice_get xs i x x e)

pub moved_small : (l : Linking) (number : ℕ) → number < 2 ^ 12 → bias_of l.kind number < 2 ^ 40
moved_small l number few = of_test (is_moved l.kind)
  where
    of_test : (t : Bool) → (if t then 2 ^ 32 + number * 2 ^ 26 else 0) < 2 ^ 40
    of_test true = omega (arith, few)
    of_test false = omega arith

-- ** a site

module _ (ls : List Linking) (l : Linking) (x : Instance) (is : IsInstanceOf ls l x) (o address : ℕ) (site : Site)
    (place : ℕ) (here : IsHere l (bias_of l.kind x.number) o address site place)
    (kept : is_kept (choice l o site) ≡ true) (few : x.number < 2 ^ 12) where
  limits : FitsTable l
  limits = table_fits l is.given is.links.sound.limits

  abbrev is_site : IsSite (object l o) site
  is_site = site_here ls l x is o address site place here

  abbrev usable : IsUsable (object l o) site
  usable = usable_here ls l x is o address site place here

  low_place : address ≤ 2 ^ 25
  low_place = address_small (layout l) o site.section address limits.lawful here.at.address_is

  -- ** the first field

  module _ (has_field : HasField site.form) (need : Need) (e : HasEntry l need)
      (needed : relocation_need l o (first_of site) ≡ Some need) where
    abbrev r : Relocation
    r = is_site.1.first.0

    abbrev facts : IsFirst site.form
    facts = first_is site.form has_field

    same_need : relocation_need l o is_site.1.first.0 ≡ Some need
    unfolding relocation_need
    same_need =
        let kind = is_site.1.first.2.kind_is in
        let symbol = is_site.1.first.3 in
        let bound = bound_is l is.links o here.at.there site is_site in
        let same : need_by l o site.symbol (binding l o (first_of site)) (row site.form).first
        ≡ need_by l o is_site.1.first.0.symbol (binding l o is_site.1.first.0) is_site.1.first.0.kind =
        λ i. need_by l o (symbol i) (bound i) (sym kind i) in
        sym same ∙ needed

    minus_four : is_site.1.first.0.addend ≡ negsuc 3
    minus_four =
        subst (λ a. IfSome a (λ addend. is_site.1.first.0.addend ≡ addend)) facts.addend is_site.1.first.2.addend_is

    first_held : Holds (field l o site.section is_site.1.first.0)
        (from_end (got_start l + e.at) (address + is_site.1.first.0.offset))
    first_held =
        let at = is_site.1.first.2.offset_is in
        entry_held l is.given limits o site.section address here.at.address_is is_site.1.first.0
        (omega (arith, low_place, at, usable.small, usable.whole, facts.inside)) need e
        (ap reaches_entry is_site.1.first.2.kind_is ∙ facts.reaches) minus_four same_need

    pub first_value : ℕ
    first_value = from_end (got_start l + e.at) (address + is_site.1.first.0.offset)

    pub first_number : number_in (loaded ls l x is o address site place here kept) 0
        (row site.form).first_at ≡ first_value
    unfolding first_value
    first_number =
        let held = first_held in
        number_is ls l x is o address site place here kept is_site.1.first.0
        (contains_at (relocations (object l o) site.section) is_site.0 is_site.1.first.0 is_site.1.first.1)
        (row site.form).first_at is_site.1.first.2.offset_is (ap field_width is_site.1.first.2.kind_is ∙ facts.wide)
        (omega (arith, usable.whole, facts.inside)) (field_bytes held.field)
        (ap (λ f. field_bytes (unwrap_or f Empty)) (sym held.is)) held.four
        (ap is_absolute is_site.1.first.2.kind_is ∙ facts.other)
        ∙ held.number

    -- it leads to the entry at the instance's place
    pub first_leads : plus (place + first_length site.form) first_value ≡ got_start l + e.at + bias_of l.kind x.number
    unfolding first_value
    first_leads =
        let at = is_site.1.first.2.offset_is in
        let small = moved_small l x.number few in
        let entry = entry_low l is.given limits need e in
        leads (got_start l + e.at) (address + is_site.1.first.0.offset) (bias_of l.kind x.number)
        (place + first_length site.form) (omega (arith, here.place_is, at, facts.end)) (omega (arith, small, entry))
        (omega (arith, here.place_is, small, low_place, usable.small, usable.whole, facts.end, facts.inside))

  -- ** the second field

  module _ (second : Second) (has_second : (row site.form).second ≡ Some second) where
    abbrev IsCallIn : Option Second → Type 0
    IsCallIn found = HasSecond found (IsGetter (object l o)) (relocations (object l o) site.section) site.start

    call : IsCallIn (Some second)
    call = subst IsCallIn has_second is_site.1.second

    abbrev c : Relocation
    c = call.1.0

    has_call : Contains (relocations (object l o) site.section) call.1.0
    has_call = contains_at (relocations (object l o) site.section) call.0 call.1.0 call.1.1

    ends : second.at + 4 ≡ form_length site.form
    ends = subst (λ found. EndsWith found (form_length site.form)) has_second (second_ends site.form)

    runs : binding l o call.1.0 ≡ Some Runtime
    runs =
        let law = All-contains (IsLawful (object l o) site.section) (relocations (object l o) site.section) call.1.0
        (lawful (object l o) (is_object l o is.given here.at.there) site.section) has_call in
        getter_bound l.objects l.startup o (is_object l o is.given here.at.there) call.1.0
        (law.symbol (call_some second.call call.1.0.kind call.1.2.kind_is)).0 call.1.2.names

    low_call : address + call.1.0.offset < 2 ^ 30
    low_call = let at = call.1.2.offset_is in omega (arith, low_place, at, usable.small, usable.whole, ends)

    -- the number that is read, whatever it is
    number_of : (n : ℕ) → Holds (field l o site.section call.1.0) n
        → second_in (loaded ls l x is o address site place here kept) 0 (row site.form).second ≡ n
    number_of n held =
        ap (second_in (loaded ls l x is o address site place here kept) 0) has_second
        ∙ number_is ls l x is o address site place here kept call.1.0 has_call second.at call.1.2.offset_is
        (call_width_is second.call call.1.0.kind call.1.2.kind_is) (omega (arith, usable.whole, ends))
        (field_bytes held.field) (ap (λ f. field_bytes (unwrap_or f Empty)) (sym held.is)) held.four
        (call_other second.call call.1.0.kind call.1.2.kind_is)
        ∙ held.number

    -- from the site's end to a number
    ends_at : (number : ℕ) → number < 2 ^ 30 → plus (place + site.len) (from_end number (address + call.1.0.offset))
        ≡ number + bias_of l.kind x.number
    ends_at number small =
        let at = call.1.2.offset_is in
        let moved = moved_small l x.number few in
        leads number (address + call.1.0.offset) (bias_of l.kind x.number) (place + site.len)
        (omega (arith, here.place_is, at, ends, usable.whole)) (omega (arith, moved, small))
        (omega (arith, here.place_is, moved, low_place, usable.small))

    -- ** to the stub

    pub stub_value : ℕ
    stub_value = from_end (stub_start l) (address + call.1.0.offset)

    module _ (direct : second.call ≡ Direct) where
      direct_kind : IsCallKind Direct call.1.0.kind
      direct_kind = subst (λ way. IsCallKind way call.1.0.kind) direct call.1.2.kind_is

      pub stub_number : second_in (loaded ls l x is o address site place here kept) 0
          (row site.form).second ≡ stub_value
      unfolding stub_value
      stub_number =
          number_of (from_end (stub_start l) (address + call.1.0.offset))
          (call_held l is.given limits o site.section address here.at.address_is call.1.0 low_call direct_kind
          call.1.2.addend_is runs)

      pub stub_leads : plus (place + site.len) stub_value ≡ stub_start l + bias_of l.kind x.number
      unfolding stub_value
      stub_leads = let low = stub_low l is.given limits in ends_at (stub_start l) (omega (arith, low))

    -- ** to the run time's word

    module _ (e : HasEntry l RuntimeWord) (indirect : second.call ≡ Indirect) where
      indirect_kind : IsCallKind Indirect call.1.0.kind
      indirect_kind = subst (λ way. IsCallKind way call.1.0.kind) indirect call.1.2.kind_is

      pub word_value : ℕ
      word_value = from_end (got_start l + e.at) (address + call.1.0.offset)

      needs_word : relocation_need l o call.1.0 ≡ Some RuntimeWord
      unfolding relocation_need
      needs_word = call_need l o call.1.0.symbol (binding l o call.1.0) call.1.0.kind indirect_kind runs

      pub word_number : second_in (loaded ls l x is o address site place here kept) 0
          (row site.form).second ≡ word_value
      unfolding word_value
      word_number =
          number_of (from_end (got_start l + e.at) (address + call.1.0.offset))
          (entry_held l is.given limits o site.section address here.at.address_is call.1.0 low_call RuntimeWord e
          (call_reaches call.1.0.kind indirect_kind) call.1.2.addend_is needs_word)

      pub word_leads : plus (place + site.len) word_value ≡ got_start l + e.at + bias_of l.kind x.number
      unfolding word_value
      word_leads =
          let low = entry_low l is.given limits RuntimeWord e in
          ends_at (got_start l + e.at) (omega (arith, low))
