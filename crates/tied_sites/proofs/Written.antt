-- Rewritten sites: the row's instructions, and the number in their field.
use Rattle.std.proofs.Common.{◌≡◌, ◌∙◌, ◌+◌, ◌<◌, ◌≤◌, ◌^◌, ℕ, pos, negsuc, true, false, List, Some, None}
use Rattle.std.proofs.Common.{refl, sym, ap, subst, arith}
use Rattle.std.specs.Prelude.{IfSome, unwrap_or}
use Rattle.amd64_subset.specs.Spelling.{field_of}
use Rattle.elf_records.specs.declared.relocation.RelocationKind.TheVariants.{GotTpOff, TpOff32}
use Rattle.got_pairs.specs.declared.need.Need.TheVariants.{SymbolWord}
use Rattle.got_pairs.specs.declared.need.Target.{Target}
use Rattle.got_pairs.specs.Entries.{less}
use Rattle.guest_machine.specs.Use.{plus}
use Rattle.link_core.proofs.Few.{table_fits}
use Rattle.link_faults.specs.declared.binding.Binding.TheVariants.{Here}
use Rattle.link_faults.specs.declared.symbol_ref.SymbolRef.{SymbolRef}
use Rattle.link_needs.proofs.InputsLemmas.{address_small}
use Rattle.link_needs.specs.Laws.{HasEntry}
use Rattle.link_needs.specs.Given.{FitsTable}
use Rattle.link_needs.specs.Linking.{Linking, binding, block_offset, choice, layout, object, offset}
use Rattle.link_needs.specs.Needs.{got_start, is_kept, new_relocation, relocation_need, target_by}
use Rattle.link_needs.specs.Plans.{reaches_entry, IsUsable}
use Rattle.link_needs.specs.Values.{field}
use Rattle.loaded_bytes.specs.Laws.{IsInstanceOf, images_of}
use Rattle.loaded_modules.specs.declared.instance.Instance.{Instance}
use Rattle.relax_sites.proofs.Tables.{field_end}
use Rattle.relax_sites.specs.declared.rows.NewField.{NewField}
use Rattle.relax_sites.specs.Rows.{field_of_zeros, form_length, new_field}
use Rattle.sequence_forms.specs.declared.places.Site.{Site}
use Rattle.sequence_forms.specs.Forms.{row}
use Rattle.sequence_match.specs.Sites.{first_of}
use Rattle.sequence_laws.specs.Instructions.{new_instructions}
use Rattle.thread_blocks.specs.JobLoads.{job_loads}
use Rattle.tied_meaning.specs.Sites.{HasCode}
use Rattle.tls_relocs.specs.declared.fields.Field.TheVariants.{Empty}
use Rattle.tls_relocs.specs.Fields.{field_bytes}
use Rattle.tls_symbols.specs.Bindings.{may_import}
use Rattle.whole_meaning.specs.Spots.{bias_of}
use Rattle.tied_sites.proofs.Chosen.{in_program, new_entry, new_word}
use Rattle.tied_sites.proofs.Firsts.{moved_small}
use Rattle.tied_sites.proofs.Numbers.{Holds}
use Rattle.tied_sites.proofs.Places.{IsHere, usable_here}
use Rattle.tied_sites.proofs.Reaches.{entry_held, entry_low, from_end, leads, offset_held}
use Rattle.tied_sites.proofs.Rows.{four_of, row_stands}
use Rattle.link_core.proofs.GotRelocationsNeeds.{bound_alike as import_alike}
use Rattle.link_core.proofs.NewFields.{here_alike}
use Rattle.tied_sites.specs.Instances.{IsCounted}

module _ (ls : List Linking) (l : Linking) (x : Instance) (is : IsInstanceOf ls l x) (counted : IsCounted ls l x)
    (o address : ℕ) (site : Site) (place : ℕ) (here : IsHere l (bias_of l.kind x.number) o address site place)
    (off : is_kept (choice l o site) ≡ false) where
  limits : FitsTable l
  limits = table_fits l is.given is.links.sound.limits

  abbrev usable : IsUsable (object l o) site
  usable = usable_here ls l x is o address site place here

  -- ** a row without a field

  pub plain_code : new_field site.form (choice l o site) ≡ None
      → HasCode (job_loads (images_of ls)) x place
      (new_instructions site.form (choice l o site) site.reg (field_of field_of_zeros))
  plain_code none =
      row_stands ls l x is o address site place here off field_of_zeros (sym (ap (four_of l o site) none)) refl

  module _ (f : NewField) (new : new_field site.form (choice l o site) ≡ Some f) where
    filled_code : (n : ℕ) → Holds (field l o site.section (new_relocation site f)) n
        → HasCode (job_loads (images_of ls)) x place (new_instructions site.form (choice l o site) site.reg n)
    filled_code n held =
        subst (λ m. HasCode (job_loads (images_of ls)) x place (new_instructions site.form
        (choice l o site) site.reg m))
        held.number
        (row_stands ls l x is o address site place here off (field_bytes held.field)
        (ap (λ v. field_bytes (unwrap_or v Empty)) (sym held.is) ∙ ap (four_of l o site) (sym new)) held.four)

    -- ** the distance itself

    pub near_block : block_offset l < 2 ^ 28
    near_block =
        subst (λ at. IfSome at (λ (n : ℕ). n < 2 ^ 28)) (counted.program (in_program l o site off)).1 counted.near

    pub distance_code : (found : SymbolRef) → binding l o (first_of site) ≡ Some (Here found) → offset l found ≤ 2 ^ 20
        → f.kind ≡ TpOff32 → f.addend ≡ pos 0
        → HasCode (job_loads (images_of ls)) x place
        (new_instructions site.form (choice l o site) site.reg (less (offset l found) (block_offset l)))
    distance_code found bound inside kind addend =
        filled_code (less (offset l found) (block_offset l))
        (offset_held l is.given limits o site.section (new_relocation site f) found kind addend
        (here_alike l.objects l.startup o (first_of site) (new_relocation site f) found refl bound)
        (omega (arith, inside)) (let near = near_block in omega (arith, near)))

    -- ** its word

    module _ (t : Target) (target_is : target_by l o site.symbol (binding l o (first_of site)) ≡ Some t)
        (kind : f.kind ≡ GotTpOff) (addend : f.addend ≡ negsuc 3) (imports : may_import
        (row site.form).first ≡ true) where
      word_need : relocation_need l o (new_relocation site f) ≡ Some (SymbolWord t)
      word_need =
          new_word l o site f t kind
          (ap (target_by l o site.symbol)
          (import_alike l.objects l.startup o (new_relocation site f) (first_of site) (ap may_import kind ∙ sym imports)
          refl)
          ∙ target_is)

      pub word_entry : HasEntry l (SymbolWord t)
      word_entry = new_entry l o site is.given here.at.there here.own off f new (SymbolWord t) word_need

      pub word_value : ℕ
      word_value = from_end (got_start l + word_entry.at) (address + (site.start + f.at))

      end : f.at + 4 ≡ form_length site.form
      end = (field_end site.form (choice l o site) site.reg f new).end

      low_place : address ≤ 2 ^ 25
      low_place = address_small (layout l) o site.section address limits.lawful here.at.address_is

      pub word_code : HasCode (job_loads (images_of ls)) x place
          (new_instructions site.form (choice l o site) site.reg word_value)
      unfolding word_value
      word_code =
          filled_code (from_end (got_start l + word_entry.at) (address + (site.start + f.at)))
          (entry_held l is.given limits o site.section address here.at.address_is (new_relocation site f)
          (omega (arith, low_place, usable.small, usable.whole, end)) (SymbolWord t) word_entry
          (ap reaches_entry kind) addend
          word_need)

      pub word_leads : plus (place + site.len) word_value ≡ got_start l + word_entry.at + bias_of l.kind x.number
      unfolding word_value
      word_leads =
          let moved = moved_small l x.number counted.few in
          let low = entry_low l is.given limits (SymbolWord t) word_entry in
          leads (got_start l + word_entry.at) (address + (site.start + f.at)) (bias_of l.kind x.number)
          (place + site.len)
          (omega (arith, here.place_is, end, usable.whole)) (omega (arith, moved, low))
          (omega (arith, here.place_is, moved, low_place, usable.small))
