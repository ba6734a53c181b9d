-- Initial exec sequences, kept and rewritten.
use Rattle.std.proofs.Common.{◌≡◌, ◌∙◌, ◌+◌, ℕ, Bool, true, false, List, Option, Some, None}
use Rattle.std.proofs.Common.{IsSome}
use Rattle.std.proofs.Common.{refl, sym, ap, subst}
use Rattle.std.specs.Prelude.{unwrap_or}
use Rattle.elf_records.specs.declared.relocation.RelocationKind.TheVariants.{GotTpOff}
use Rattle.got_pairs.specs.declared.need.Need.TheVariants.{SymbolWord}
use Rattle.got_pairs.specs.Entries.{less}
use Rattle.guest_machine.specs.Use.{plus}
use Rattle.link_core.proofs.TogetherRows.{IsVariable, taken}
use Rattle.link_faults.specs.declared.binding.Binding.{Binding}
use Rattle.link_faults.specs.declared.binding.Binding.TheVariants.{Here, Startup, Runtime}
use Rattle.link_faults.specs.declared.symbol_ref.SymbolRef.{SymbolRef}
use Rattle.link_faults.specs.ImageKinds.{is_module}
use Rattle.link_needs.proofs.Reached.{any_site}
use Rattle.link_needs.specs.Laws.{HasEntry}
use Rattle.link_needs.specs.Linking.{Linking, binding, block_offset, choice}
use Rattle.link_needs.specs.Needs.{got_start, is_kept}
use Rattle.loaded_bytes.specs.Laws.{images_of}
use Rattle.loaded_modules.specs.declared.instance.Instance.{Instance}
use Rattle.loaded_words.specs.Words.{variable_of}
use Rattle.relax_sites.specs.declared.choices.Choice.TheVariants.{IeLe}
use Rattle.relax_sites.specs.Rows.{form_length}
use Rattle.sequence_forms.specs.declared.forms.Form.{Form}
use Rattle.sequence_forms.specs.declared.forms.Form.TheVariants.{IeMov, IeAdd}
use Rattle.sequence_forms.specs.declared.places.Site.{Site}
use Rattle.sequence_forms.specs.Forms.{is_initial, row}
use Rattle.sequence_match.specs.Sites.{first_of}
use Rattle.sequence_laws.specs.Laws.{second_in}
use Rattle.thread_blocks.specs.JobLoads.{job_loads}
use Rattle.tied_meaning.specs.Numbers.{Setting}
use Rattle.tied_meaning.specs.Sites.{HasWord, LoadsDistance, Stands, first_length}
use Rattle.whole_meaning.specs.Code.{defined_in, no_variable, sequence_with, variable_by, variable_for}
use Rattle.whole_meaning.specs.declared.sequences.Sequence.{Sequence}
use Rattle.whole_meaning.specs.Loads.{wants_surplus}
use Rattle.whole_meaning.specs.Spots.{bias_of}
use Rattle.tied_sites.proofs.Cells.{kept_stands, loaded}
use Rattle.tied_sites.proofs.Chosen.{choice_is, kept_entry, needs_word}
use Rattle.tied_sites.proofs.Firsts.{HasField, first_leads, first_number, first_value}
use Rattle.tied_sites.proofs.Named.{LiesBelow}
use Rattle.tied_sites.proofs.Own.{own_written}
use Rattle.tied_sites.proofs.Pairs.{distance_at, distance_word}
use Rattle.tied_sites.proofs.Places.{IsHere, usable_here}
use Rattle.tied_sites.proofs.Standing.{IsRelied, Name, name, stands_kept, variable, with_variable}
use Rattle.tied_sites.specs.Laws.{IsInitial}

-- ** the two forms

record IsWord (form : Form) : Type 0 where
  field : HasField form
  first : (row form).first ≡ GotTpOff
  second : (row form).second ≡ None
  whole : first_length form ≡ form_length form
  initial : is_initial form ≡ true

is_word : (form : Form) → IsInitial form → IsWord form
unfolding row
is_word IeMov h = record { field = tt; first = refl; second = refl; whole = refl; initial = refl }
is_word IeAdd h = record { field = tt; first = refl; second = refl; whole = refl; initial = refl }
is_word form h = absurd h

some_is : (o : Option ℕ) → IsSome o → (n : ℕ) × (o ≡ Some n)
some_is None h = absurd (cc)
some_is (Some n) h = (n, refl)

module _ (g : Setting) (ls : List Linking) (l : Linking) (x : Instance) (is : IsRelied g ls l x) (o address : ℕ)
    (site : Site) (place : ℕ) (here : IsHere l (bias_of l.kind x.number) o address site place)
    (initial : IsInitial site.form) where
  abbrev facts : IsWord site.form
  facts = is_word site.form initial

  -- the instance's own block is below the thread pointer
  fixed : (distance : ℕ) × (x.offset ≡ Some distance)
  unfolding wants_surplus
  fixed = of_kind (is_module l.kind) refl
    where
      of_kind : (t : Bool) → is_module l.kind ≡ t → (distance : ℕ) × (x.offset ≡ Some distance)
      of_kind false e = (block_offset l, (is.counted.program e).1)
      of_kind true e =
          let any = any_site l is.of.given o site here.at.there here.own (λ (y : Site). is_initial y.form)
          facts.initial in
          some_is x.offset (is.counted.surplus (rw (e, any) refl))

  -- ** kept

  module _ (kept : is_kept (choice l o site) ≡ true) where
    abbrev n : Name g ls l x is o address site place here (binding l o (first_of site))
    n = name g ls l x is o address site place here (binding l o (first_of site)) refl

    entry : HasEntry l (SymbolWord n.t)
    entry =
        kept_entry l o site is.of.given here.at.there here.own kept (SymbolWord n.t)
        (needs_word l o site n.t n.target_is facts.first)

    below : LiesBelow g ls l x n.t n.v
    below = n.below is.knows refl (λ found e. fixed)

    word : ℕ
    word = less (variable_of (images_of ls) l.kind x n.t).offset (variable_of (images_of ls) l.kind x n.t).distance

    loads : (first : ℕ) × ((w : ℕ) × LoadsDistance g (job_loads (images_of ls)) x place
        (sequence_with ls x.image x.number place site n.v) site.reg first w)
    loads =
        let s = sequence_with ls x.image x.number place site n.v in
        let few = is.counted.few in
        let needed = needs_word l o site n.t n.target_is facts.first in
        let m = first_value ls l x is.of o address site place here kept few facts.field (SymbolWord n.t) entry needed in
        let w = less (variable_of (images_of ls) l.kind x n.t).offset (variable_of
        (images_of ls) l.kind x n.t).distance in
        let leads = first_leads ls l x is.of o address site place here kept few facts.field
        (SymbolWord n.t) entry needed in
        let whole : first_length site.form ≡ site.len =
        facts.whole ∙ sym (usable_here ls l x is.of o address site place here).whole in
        let goes : plus (place + site.len) m ≡ got_start l + entry.at + bias_of l.kind x.number =
        ap (λ k. plus (place + k) m) (sym whole) ∙ leads in (
          m,
          (
            w,
            record {
              code = kept_stands ls l x is.of o address site place here kept m 0
                  (first_number ls l x is.of o address site place here kept few facts.field
                  (SymbolWord n.t) entry needed)
                  (ap (second_in (loaded ls l x is.of o address site place here kept) 0) facts.second);
              register = refl;
              there = subst (λ a. HasWord (job_loads (images_of ls)) x a w) (sym goes)
                  (distance_word g ls l x is.of is.words s n.v refl refl n.t entry);
              distance = distance_at g ls l x is.of is.words s n.v refl refl n.t n.of below;
            },
          ),
        )

    ie_kept : (form : Form) → site.form ≡ form → IsInitial form
        → Stands g (job_loads (images_of ls)) x place (sequence_with ls x.image x.number place site n.v)
    ie_kept IeMov form h =
        stands_kept g ls l x is o address site place here n.v IeMov form n.of.asked tt (site.reg, loads)
    ie_kept IeAdd form h =
        stands_kept g ls l x is o address site place here n.v IeAdd form n.of.asked tt (site.reg, loads)
    ie_kept form is_form h = absurd h

  -- ** rewritten: variables of the program alone

  module _ (off : is_kept (choice l o site) ≡ false) where
    ie_le : (form : Form) → site.form ≡ form → (found : SymbolRef) → binding l o (first_of site) ≡ Some (Here found)
        → IsInitial form
        → Stands g (job_loads (images_of ls)) x place
        (sequence_with ls x.image x.number place site (defined_in l x.image x.number found))
    ie_le IeMov is_form found bound h =
        own_written g ls l x is o address site place here off IeMov is_form IeLe _ refl found bound refl refl refl tt
        (λ n same distance. (refl, distance))
    ie_le IeAdd is_form found bound h =
        own_written g ls l x is o address site place here off IeAdd is_form IeLe _ refl found bound refl refl refl tt
        (λ n same distance. (refl, distance))
    ie_le form is_form found bound h = absurd h

    -- another's is reached through a word already
    keeps : (form : Form) (k : ℕ) → IsInitial form → is_kept (taken form (Some (Startup k))) ≡ true
    keeps IeMov k h = refl
    keeps IeAdd k h = refl
    keeps form k h = absurd h

    no_startup : (k : ℕ) → binding l o (first_of site) ≡ Some (Startup k) → ⊥
    no_startup k bound =
        let chosen = choice_is l o site off (Some (Startup k)) bound site.form refl in
        let kept = ap is_kept chosen ∙ keeps site.form k initial in
        cc

  -- ** each form

  asks_by_name : (form : Form) → IsInitial form
      → variable_for ls x.image x.number l o site form ≡ variable_by ls x.image x.number l o site (binding l o
      (first_of site))
  asks_by_name IeMov h = refl
  asks_by_name IeAdd h = refl
  asks_by_name form h = absurd h

  pub initial_stands : (s : Sequence) → s ≡ sequence_with ls x.image x.number place site
      (unwrap_or (variable_for ls x.image x.number l o site site.form) no_variable)
      → Stands g (job_loads (images_of ls)) x place s
  initial_stands s same = of_test (is_kept (choice l o site)) refl
    where
      of_bound : is_kept (choice l o site) ≡ false → (bound : Option Binding) → binding l o (first_of site) ≡ bound
          → IsVariable bound → Stands g (job_loads (images_of ls)) x place s
      of_bound off None e var = absurd var
      of_bound off (Some Runtime) e var = absurd var
      of_bound off (Some (Here found)) e var =
          with_variable g ls l x is o address site place here (defined_in l x.image x.number found) s site.form refl
          (asks_by_name site.form initial ∙ ap (variable_by ls x.image x.number l o site) e) same
          (ie_le off site.form refl found e initial)
      of_bound off (Some (Startup k)) e var = absurd (no_startup off k e)

      of_test : (t : Bool) → is_kept (choice l o site) ≡ t → Stands g (job_loads (images_of ls)) x place s
      of_test true kept =
          with_variable g ls l x is o address site place here (n kept).v s site.form refl
          (asks_by_name site.form initial ∙ (n kept).variable_is) same (ie_kept kept site.form refl initial)
      of_test false off =
          of_bound off (binding l o (first_of site)) refl (variable g ls l x is o address site place here)
