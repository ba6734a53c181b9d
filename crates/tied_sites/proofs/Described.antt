-- Sequences of descriptors, kept and rewritten.
use Rattle.std.proofs.Common.{◌≡◌, ◌∙◌, ◌+◌, ◌%◌, ◌<◌, ◌^◌, inl, inr, ℕ, Bool, true, false, List, Option, Some}
use Rattle.std.proofs.Common.{None}
use Rattle.std.proofs.Common.{refl, sym, ap, subst, arith}
use Rattle.std.specs.Prelude.{IfSome, unwrap_or}
use Rattle.std.proofs.lemmas.Option.{same_Some}
use Rattle.amd64_subset.specs.Spelling.{field_of}
use Rattle.elf_records.specs.declared.relocation.RelocationKind.TheVariants.{GotPc32TlsDesc}
use Rattle.got_pairs.specs.declared.need.Need.TheVariants.{Descriptor}
use Rattle.got_pairs.specs.Entries.{less}
use Rattle.guest_machine.specs.Use.{plus}
use Rattle.link_core.proofs.Few.{table_fits}
use Rattle.link_core.proofs.TogetherRows.{IsVariable}
use Rattle.link_faults.specs.declared.binding.Binding.{Binding}
use Rattle.link_faults.specs.declared.binding.Binding.TheVariants.{Here, Startup, Runtime}
use Rattle.link_faults.specs.declared.symbol_ref.SymbolRef.{SymbolRef}
use Rattle.link_needs.specs.Laws.{HasEntry}
use Rattle.link_needs.specs.Linking.{Linking, binding, block_offset, choice, offset}
use Rattle.link_needs.specs.Needs.{is_kept}
use Rattle.loaded_bytes.specs.Laws.{images_of}
use Rattle.loaded_modules.specs.declared.instance.Instance.{Instance}
use Rattle.loaded_words.specs.Words.{variable_of}
use Rattle.relax_sites.specs.declared.choices.Choice.TheVariants.{DescLe, DescIe}
use Rattle.relax_sites.specs.Rows.{field_of_zeros, form_length, new_field}
use Rattle.sequence_forms.specs.declared.forms.Form.{Form}
use Rattle.sequence_forms.specs.declared.forms.Form.TheVariants.{DescLea, DescCall}
use Rattle.sequence_forms.specs.declared.places.Site.{Site}
use Rattle.sequence_forms.specs.Forms.{row}
use Rattle.sequence_match.specs.Sites.{first_of}
use Rattle.sequence_laws.specs.Instructions.{kept_instructions}
use Rattle.sequence_laws.specs.Laws.{number_in, second_in}
use Rattle.thread_blocks.specs.JobLoads.{job_loads}
use Rattle.tied_meaning.specs.Numbers.{Setting}
use Rattle.tied_meaning.specs.Sites.{HasCode, HasDescriptor, HasWord, IsDistance, Stands, first_length}
use Rattle.tls_symbols.specs.Bindings.{may_import}
use Rattle.whole_meaning.specs.Code.{Variable, defined_in, no_variable, sequence_with, variable_by, variable_for}
use Rattle.whole_meaning.specs.declared.sequences.Sequence.{Sequence}
use Rattle.whole_meaning.specs.Spots.{bias_of}
use Rattle.tied_fields.specs.Laws.{HasItsNumber}
use Rattle.tied_fields.specs.Settings.{makes}
use Rattle.tied_sites.proofs.Cells.{kept_stands, loaded}
use Rattle.tied_sites.proofs.Chosen.{choice_is, in_program, kept_entry, needs_descriptor}
use Rattle.tied_sites.proofs.Firsts.{HasField, first_leads, first_number, first_value, moved_small}
use Rattle.tied_sites.proofs.Named.{LiesBelow}
use Rattle.tied_sites.proofs.Own.{other_written, own_written}
use Rattle.tied_sites.proofs.Pairs.{descriptor_is, distance_at}
use Rattle.tied_sites.proofs.Places.{IsHere, usable_here}
use Rattle.tied_sites.proofs.Reaches.{entry_low}
use Rattle.tied_sites.proofs.Standing.{Asks, IsRelied, Name, name, own_distance, own_early, stands_kept, stands_written}
use Rattle.tied_sites.proofs.Standing.{variable, with_variable}
use Rattle.tied_sites.proofs.Written.{plain_code}
use Rattle.tied_sites.specs.Laws.{IsOfDescriptor}

lea_first : (row DescLea).first ≡ GotPc32TlsDesc
unfolding row
lea_first = refl

lea_second : (row DescLea).second ≡ None
unfolding row
lea_second = refl

lea_length : first_length DescLea ≡ form_length DescLea
unfolding row
lea_length = refl

lea_imports : may_import (row DescLea).first ≡ true
unfolding row
lea_imports = refl

call_second : (row DescCall).second ≡ None
unfolding row
call_second = refl

-- such a sequence asks for the variable that it names
pub asks_by_name : (ls : List Linking) (image number : ℕ) (l : Linking) (o : ℕ) (site : Site) (form : Form)
    → IsOfDescriptor form
    → variable_for ls image number l o site form ≡ variable_by ls image number l o site (binding l o (first_of site))
asks_by_name ls image number l o site DescLea h = refl
asks_by_name ls image number l o site DescCall h = refl
asks_by_name ls image number l o site form h = absurd h

small_less : (n m : ℕ) → less n m % 2 ^ 64 ≡ less n m
small_less n m = omega arith

module _ (g : Setting) (ls : List Linking) (l : Linking) (x : Instance) (is : IsRelied g ls l x) (o address : ℕ)
    (site : Site) (place : ℕ) (here : IsHere l (bias_of l.kind x.number) o address site place) where
  abbrev means : Variable → Sequence
  means v = sequence_with ls x.image x.number place site v

  -- ** kept

  module _ (kept : is_kept (choice l o site) ≡ true) where
    abbrev n : Name g ls l x is o address site place here (binding l o (first_of site))
    n = name g ls l x is o address site place here (binding l o (first_of site)) refl

    module _ (knows : HasItsNumber g ls l x o site n.v) where
      lea_kept : site.form ≡ DescLea → Stands g (job_loads (images_of ls)) x place (means n.v)
      lea_kept form =
          let first : (row site.form).first ≡ GotPc32TlsDesc = ap (λ f. (row f).first) form ∙ lea_first in
          let needed = needs_descriptor l o site n.t n.target_is first in
          let e = kept_entry l o site is.of.given here.at.there here.own kept (Descriptor n.t) needed in
          let few = is.counted.few in
          let field : HasField site.form = subst HasField (sym form) tt in
          let m = first_value ls l x is.of o address site place here kept few field (Descriptor n.t) e needed in
          let leads = first_leads ls l x is.of o address site place here kept few field (Descriptor n.t) e needed in
          let made = knows.made (ap makes form) in
          let number = knows.kept made kept n.t n.target_is in
          let at : e.at ≡ number.0 = same_Some e.at number.0 (sym e.starts ∙ number.1) in
          let whole : first_length site.form ≡ site.len =
          ap first_length form ∙ lea_length ∙ ap form_length (sym form)
          ∙ sym (usable_here ls l x is.of o address site place here).whole in
          let limits = table_fits l is.of.given is.of.links.sound.limits in
          let moved = moved_small l x.number few in
          let low = entry_low l is.of.given limits (Descriptor n.t) e in
          let goes : plus (place + site.len) m ≡ g.descriptor x.number n.v.symbol % 2 ^ 64 =
          ap (λ k. plus (place + k) m) (sym whole) ∙ leads
          ∙ omega (arith, at, number.2, moved, low) in
          let code = kept_stands ls l x is.of o address site place here kept m 0
          (first_number ls l x is.of o address site place here kept few field (Descriptor n.t) e needed)
          (ap (second_in (loaded ls l x is.of o address site place here kept) 0)
          (ap (λ f. (row f).second) form ∙ lea_second)) in
          stands_kept g ls l x is o address site place here n.v DescLea form n.of.asked tt (
            m,
            record {
              code = subst (λ f. HasCode (job_loads (images_of ls)) x place
                  (kept_instructions f site.reg m 0)) form code;
              made = made;
              number = goes;
            },
          )

      called : g.makes_descriptor x.number n.v.symbol ≡ true
          → HasDescriptor (job_loads (images_of ls)) x (means n.v) (g.descriptor x.number n.v.symbol)
      called made =
          let number = knows.kept made kept n.t n.target_is in
          let e : HasEntry l (Descriptor n.t) = record { at = number.0; starts = number.1 } in
          subst (HasDescriptor (job_loads (images_of ls)) x (means n.v)) (sym number.2)
          (descriptor_is g ls l x is.of is.words (means n.v) n.v refl refl n.t n.of e)

      call_kept : site.form ≡ DescCall → Stands g (job_loads (images_of ls)) x place (means n.v)
      call_kept form =
          let m = number_in (loaded ls l x is.of o address site place here kept) 0 (row site.form).first_at in
          let code = kept_stands ls l x is.of o address site place here kept m 0 refl
          (ap (second_in (loaded ls l x is.of o address site place here kept) 0)
          (ap (λ f. (row f).second) form ∙ call_second)) in
          stands_kept g ls l x is o address site place here n.v DescCall form n.of.asked tt
          (record {
            code = subst (λ f. HasCode (job_loads (images_of ls)) x place (kept_instructions f site.reg m 0)) form code;
            low = knows.low;
            descriptor = called;
          })

  -- ** rewritten

  module _ (off : is_kept (choice l o site) ≡ false) where
    -- the program's own variable
    module _ (found : SymbolRef) (bound : binding l o (first_of site) ≡ Some (Here found))
        (knows : HasItsNumber g ls l x o site (defined_in l x.image x.number found)) where
      abbrev v : Variable
      v = defined_in l x.image x.number found

      own_number : g.makes_descriptor x.number (defined_in l x.image x.number found).symbol ≡ true
          → g.descriptor x.number (defined_in l x.image x.number found).symbol ≡ less (offset l found) (block_offset l)
      own_number made =
          knows.written made off x (block_offset l) is.knows.own (is.counted.program (in_program l o site off)).1

      lea_le : site.form ≡ DescLea → Stands g (job_loads (images_of ls)) x place (means v)
      lea_le form =
          let made = knows.made (ap makes form) in
          own_written g ls l x is o address site place here off DescLea form DescLe _ refl found bound refl refl refl tt
          (λ n same distance. (
            made,
            same
                ∙ sym (small_less (offset l found) (block_offset l))
                ∙ ap (λ d. d % 2 ^ 64) (sym (own_number made)),
          ))

      call_le : site.form ≡ DescCall → block_offset l < 2 ^ 28 → Stands g (job_loads (images_of ls)) x place (means v)
      call_le form near =
          let chosen : choice l o site ≡ DescLe = choice_is l o site off (Some (Here found)) bound DescCall form in
          let early = own_early g ls l x is o address site place here off found bound in
          stands_written g ls l x is o address site place here v DescCall DescLe
          (field_of field_of_zeros) form off chosen
          (inl refl) early tt
          (plain_code ls l x is.of is.counted o address site place here off (λ i. new_field (form i) (chosen i)))
          (λ made.
          let same : less (offset l found) (block_offset l)
          ≡ g.descriptor x.number (defined_in l x.image x.number found).symbol % 2 ^ 64 =
          sym (small_less (offset l found) (block_offset l)) ∙ ap (λ d. d % 2 ^ 64) (sym (own_number made)) in
          subst (IsDistance g (means v)) same
          (own_distance g ls l x is o address site place here off found bound (means v) refl refl near))

    -- one of what started with the program
    module _ (k : ℕ) (bound : binding l o (first_of site) ≡ Some (Startup k)) where
      abbrev m : Name g ls l x is o address site place here (Some (Startup k))
      m = name g ls l x is o address site place here (Some (Startup k)) bound

      not_here : (found : SymbolRef) → Some (Startup k) ≡ Some (Here found)
          → (distance : ℕ) × (x.offset ≡ Some distance)
      not_here found e = absurd (cc)

      below : LiesBelow g ls l x m.t m.v
      below = m.below is.knows (sym bound) not_here

      other_word : ℕ
      other_word =
          less (variable_of (images_of ls) l.kind x m.t).offset (variable_of (images_of ls) l.kind x m.t).distance

      -- its instance is there
      there : (v : Variable) → Asks g ls l x is o address site place here v
          → (y : Instance) × (g.known v.target ≡ Some y)
      there v (inl own) = (x, ap g.known own ∙ is.knows.own)
      there v (inr early) = let y = is.knows.startup v.target early.0 early.1 in (y.0, y.1.0)

      module _ (knows : HasItsNumber g ls l x o site m.v) where
        other_number : g.makes_descriptor x.number m.v.symbol ≡ true
            → less (variable_of (images_of ls) l.kind x m.t).offset (variable_of (images_of ls) l.kind x m.t).distance
            ≡ g.descriptor x.number m.v.symbol % 2 ^ 64
        other_number made =
            let y = there m.v m.of.asked in
            let distance = (variable_of (images_of ls) l.kind x m.t).distance in
            let offset = (variable_of (images_of ls) l.kind x m.t).offset in
            let number = knows.written made off y.0 distance y.1 (below.each y.0 y.1) in
            sym (small_less offset distance)
            ∙ ap (λ d. d % 2 ^ 64) (ap (λ o. less o distance) m.of.offset ∙ sym number)

        lea_ie : site.form ≡ DescLea → Stands g (job_loads (images_of ls)) x place (means m.v)
        lea_ie form =
            let made = knows.made (ap makes form) in
            let imports : may_import (row site.form).first ≡ true =
            ap (λ f. may_import (row f).first) form ∙ lea_imports in
            other_written g ls l x is o address site place here off DescLea form DescIe _ refl k bound refl refl refl
            imports
            tt (λ n word same stands distance. (
              made,
              subst (HasWord (job_loads (images_of ls)) x (plus (place + site.len) n)) (same
                  ∙ other_number made) stands,
            ))

        call_ie : site.form ≡ DescCall → Stands g (job_loads (images_of ls)) x place (means m.v)
        call_ie form =
            let chosen : choice l o site ≡ DescIe = choice_is l o site off (Some (Startup k)) bound DescCall form in
            stands_written g ls l x is o address site place here m.v DescCall DescIe
            (field_of field_of_zeros) form off chosen
            m.of.asked (m.early k refl) tt
            (plain_code ls l x is.of is.counted o address site place here off (λ i. new_field (form i) (chosen i)))
            (λ made.
            subst (IsDistance g (means m.v)) (other_number made)
            (distance_at g ls l x is.of is.words (means m.v) m.v refl refl m.t m.of below))

  -- ** each form

  module _ (described : IsOfDescriptor site.form)
      (knows : (v : Variable) → variable_by ls x.image x.number l o site (binding l o (first_of site)) ≡ Some v
      → HasItsNumber g ls l x o site v) where
    near : is_kept (choice l o site) ≡ false → block_offset l < 2 ^ 28
    near off =
        subst (λ at. IfSome at (λ (b : ℕ). b < 2 ^ 28)) (is.counted.program (in_program l o site off)).1 is.counted.near

    of_kept : (kept : is_kept (choice l o site) ≡ true) (form : Form) → site.form ≡ form → IsOfDescriptor form
        → Stands g (job_loads (images_of ls)) x place (means (n kept).v)
    of_kept kept DescLea form h = lea_kept kept (knows (n kept).v (n kept).variable_is) form
    of_kept kept DescCall form h = call_kept kept (knows (n kept).v (n kept).variable_is) form
    of_kept kept form is_form h = absurd h

    of_here : (off : is_kept (choice l o site) ≡ false) (found : SymbolRef)
        → binding l o (first_of site) ≡ Some (Here found) → (form : Form) → site.form ≡ form → IsOfDescriptor form
        → Stands g (job_loads (images_of ls)) x place (means (defined_in l x.image x.number found))
    of_here off found e DescLea form h =
        lea_le off found e (knows (defined_in l x.image x.number found) (ap
        (variable_by ls x.image x.number l o site) e))
        form
    of_here off found e DescCall form h =
        call_le off found e (knows (defined_in l x.image x.number found) (ap
        (variable_by ls x.image x.number l o site) e))
        form (near off)
    of_here off found e form is_form h = absurd h

    of_startup : (off : is_kept (choice l o site) ≡ false) (k : ℕ) (e : binding l o (first_of site) ≡ Some (Startup k))
        (form : Form) → site.form ≡ form → IsOfDescriptor form
        → Stands g (job_loads (images_of ls)) x place (means (m off k e).v)
    of_startup off k e DescLea form h =
        lea_ie off k e (knows (m off k e).v (ap (variable_by ls x.image x.number l o site) e
        ∙ (m off k e).variable_is)) form
    of_startup off k e DescCall form h =
        call_ie off k e (knows (m off k e).v (ap (variable_by ls x.image x.number l o site) e
        ∙ (m off k e).variable_is)) form
    of_startup off k e form is_form h = absurd h

    pub described_stands : (s : Sequence) → s ≡ sequence_with ls x.image x.number place site
        (unwrap_or (variable_for ls x.image x.number l o site site.form) no_variable)
        → Stands g (job_loads (images_of ls)) x place s
    described_stands s same = of_test (is_kept (choice l o site)) refl
      where
        of_bound : (off : is_kept (choice l o site) ≡ false) (bound : Option Binding)
            → binding l o (first_of site) ≡ bound
            → IsVariable bound → Stands g (job_loads (images_of ls)) x place s
        of_bound off None e var = absurd var
        of_bound off (Some Runtime) e var = absurd var
        of_bound off (Some (Here found)) e var =
            with_variable g ls l x is o address site place here (defined_in l x.image x.number found) s site.form refl
            (asks_by_name ls x.image x.number l o site site.form described
            ∙ ap (variable_by ls x.image x.number l o site) e) same
            (of_here off found e site.form refl described)
        of_bound off (Some (Startup k)) e var =
            with_variable g ls l x is o address site place here (m off k e).v s site.form refl
            (asks_by_name ls x.image x.number l o site site.form described
            ∙ ap (variable_by ls x.image x.number l o site) e
            ∙ (m off k e).variable_is) same
            (of_startup off k e site.form refl described)

        of_test : (t : Bool) → is_kept (choice l o site) ≡ t → Stands g (job_loads (images_of ls)) x place s
        of_test true kept =
            with_variable g ls l x is o address site place here (n kept).v s site.form refl
            (asks_by_name ls x.image x.number l o site site.form described
            ∙ (n kept).variable_is) same (of_kept kept site.form refl described)
        of_test false off =
            of_bound off (binding l o (first_of site)) refl (variable g ls l x is o address site place here)
