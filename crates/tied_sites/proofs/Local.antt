-- Local dynamic sequences, kept and rewritten.
use Rattle.std.proofs.Common.{◌≡◌, ◌∙◌, ◌&&◌, ◌==◌, inl, ℕ, Bool, true, false, List, Option, Some, None}
use Rattle.std.proofs.Common.{refl, sym, ap, subst}
use Rattle.std.specs.Prelude.{unwrap_or}
use Rattle.std.proofs.lemmas.Bool.{ne_eqb}
use Rattle.amd64_subset.specs.Spelling.{field_of}
use Rattle.elf_records.specs.declared.relocation.RelocationKind.TheVariants.{TlsLd}
use Rattle.got_pairs.specs.declared.need.Need.TheVariants.{ModulePair}
use Rattle.link_core.proofs.TogetherRows.{IsVariable, chosen_taken, taken}
use Rattle.link_faults.specs.declared.binding.Binding.{Binding}
use Rattle.link_faults.specs.declared.binding.Binding.TheVariants.{Here, Startup, Runtime}
use Rattle.link_faults.specs.ImageKinds.{is_module}
use Rattle.link_needs.proofs.Reached.{any_site, stub_there}
use Rattle.link_needs.specs.Laws.{HasEntry}
use Rattle.link_needs.specs.Linking.{Linking, binding, choice}
use Rattle.link_needs.specs.Needs.{calls, calls_stub, is_kept, is_stub_call}
use Rattle.link_needs.specs.Values.{counts_from_thread_pointer, is_local, is_rewriting}
use Rattle.loaded_bytes.specs.Laws.{images_of}
use Rattle.loaded_modules.specs.declared.instance.Instance.{Instance}
use Rattle.relax_sites.specs.declared.choices.Choice.TheVariants.{LdLe}
use Rattle.relax_sites.specs.Rows.{field_of_zeros, new_field}
use Rattle.sequence_forms.specs.declared.forms.Form.{Form}
use Rattle.sequence_forms.specs.declared.forms.Form.TheVariants.{Ld, LdInd}
use Rattle.sequence_forms.specs.declared.places.Site.{Site}
use Rattle.sequence_forms.specs.Forms.{row}
use Rattle.sequence_match.specs.Sites.{first_of}
use Rattle.thread_blocks.specs.JobLoads.{job_loads}
use Rattle.tied_meaning.specs.Numbers.{Setting}
use Rattle.tied_meaning.specs.Sites.{CountsFromBlock, Stands}
use Rattle.whole_meaning.specs.Code.{Variable, no_variable, sequence_with, variable_for}
use Rattle.whole_meaning.specs.declared.sequences.Sequence.{Sequence}
use Rattle.whole_meaning.specs.Spots.{bias_of}
use Rattle.tied_sites.proofs.Calls.{CallsThrough, stub_called, word_called}
use Rattle.tied_sites.proofs.Chosen.{choice_is, in_program, kept_entry, needs_module, rewriting, runtime_entry}
use Rattle.tied_sites.proofs.Firsts.{HasField}
use Rattle.tied_sites.proofs.Pairs.{module_pair_is}
use Rattle.tied_sites.proofs.Places.{IsHere}
use Rattle.tied_sites.proofs.Standing.{IsRelied, stands_kept, stands_written, variable, with_variable}
use Rattle.tied_sites.proofs.Written.{plain_code}
use Rattle.tied_sites.specs.Laws.{IsLocal}

ld_first : (row Ld).first ≡ TlsLd
unfolding row
ld_first = refl

ld_ind_first : (row LdInd).first ≡ TlsLd
unfolding row
ld_ind_first = refl

-- rewriting leaves no such sequence
local_taken : (form : Form) (bound : Option Binding) → IsLocal form → IsVariable bound → taken form bound ≡ LdLe
local_taken Ld (Some (Here found)) local is = refl
local_taken Ld (Some (Startup k)) local is = refl
local_taken LdInd (Some (Here found)) local is = refl
local_taken LdInd (Some (Startup k)) local is = refl
local_taken form None local is = absurd is
local_taken form (Some Runtime) local is = absurd is
local_taken form bound local is = absurd local

is_local_form : (form : Form) → IsLocal form → is_local form ≡ true
is_local_form Ld local = refl
is_local_form LdInd local = refl
is_local_form form local = absurd local

module _ (g : Setting) (ls : List Linking) (l : Linking) (x : Instance) (is : IsRelied g ls l x) (o address : ℕ)
    (site : Site) (place : ℕ) (here : IsHere l (bias_of l.kind x.number) o address site place)
    (local : IsLocal site.form) where
  -- the block of the code's own instance
  abbrev own : Variable
  own = record { target = x.number; offset = 0; symbol = 0 }

  abbrev s : Sequence
  s = sequence_with ls x.image x.number place site (record { target = x.number; offset = 0; symbol = 0 })

  -- ** kept

  module _ (kept : is_kept (choice l o site) ≡ true) where
    not_rewriting : is_rewriting l ≡ false
    unfolding choice
    not_rewriting = of_test (is_rewriting l) refl
      where
        of_test : (t : Bool) → is_rewriting l ≡ t → is_rewriting l ≡ false
        of_test false e = e
        of_test true e =
            let chosen : choice l o site ≡ LdLe =
            chosen_taken l site.form (binding l o (first_of site)) e
            ∙ local_taken site.form (binding l o (first_of site)) local
            (variable g ls l x is o address site place here) in
            let other = ap is_kept chosen in
            absurd (cc)

    counts_from_block : CountsFromBlock g (job_loads (images_of ls)) x place s
    unfolding counts_from_thread_pointer
    counts_from_block = of_kind (is_module l.kind) refl
      where
        both_false : (a b : Bool) → b ≡ false → (a && b) ≡ false
        both_false true b e = e
        both_false false b e = refl

        of_kind : (t : Bool) → is_module l.kind ≡ t → (g.counts_from_pointer && (x.number == 1)) ≡ false
        of_kind true e = both_false g.counts_from_pointer (x.number == 1) (ne_eqb x.number 1 (is.counted.later e))
        of_kind false e =
            let counts = is.knows.counts (is.counted.program e).0 in
            rw (counts, not_rewriting) refl

    pair_entry : (row site.form).first ≡ TlsLd → HasEntry l ModulePair
    pair_entry first =
        kept_entry l o site is.of.given here.at.there here.own kept ModulePair (needs_module l o site first)

    ld_kept : site.form ≡ Ld → Stands g (job_loads (images_of ls)) x place s
    ld_kept form =
        let first : (row site.form).first ≡ TlsLd = ap (λ f. (row f).first) form ∙ ld_first in
        let e = pair_entry first in
        let call : calls_stub site.form ≡ true = ap calls_stub form in
        stands_kept g ls l x is o address site place here own Ld form (inl refl) (refl, refl) (
          counts_from_block,
          stub_called g ls l x is.of is.words is.counted.few o address site place here kept
              (subst HasField (sym form) tt) ModulePair e (needs_module l o site first) own
              (module_pair_is g ls l x is.of is.words s own refl refl is.counted refl refl e) call
              (is.stub (stub_there l is.of.given o site here.at.there here.own (rw (kept, call) refl))),
        )

    ld_ind_kept : site.form ≡ LdInd → Stands g (job_loads (images_of ls)) x place s
    ld_ind_kept form =
        let first : (row site.form).first ≡ TlsLd = ap (λ f. (row f).first) form ∙ ld_ind_first in
        let e = pair_entry first in
        let call : calls site.form ≡ true = ap calls form in
        stands_kept g ls l x is o address site place here own LdInd form (inl refl) (refl, refl) (
          counts_from_block,
          word_called g ls l x is.of is.words is.counted.few o address site place here kept
              (subst HasField (sym form) tt) ModulePair e (needs_module l o site first) own
              (module_pair_is g ls l x is.of is.words s own refl refl is.counted refl refl e)
              (subst CallsThrough (sym form) tt)
              (runtime_entry l o site is.of.given here.at.there here.own kept call),
        )

  -- ** rewritten

  module _ (off : is_kept (choice l o site) ≡ false) where
    chosen : choice l o site ≡ LdLe
    chosen =
        choice_is l o site off (binding l o (first_of site)) refl site.form refl
        ∙ local_taken site.form (binding l o (first_of site)) local (variable g ls l x is o address site place here)

    counts : g.counts_from_pointer ≡ true
    unfolding counts_from_thread_pointer
    counts =
        let rewrites = rewriting l o site off in
        let any = any_site l is.of.given o site here.at.there here.own (λ (y : Site). is_local y.form)
        (is_local_form site.form local) in
        is.knows.counts (is.counted.program (in_program l o site off)).0 ∙ rw (rewrites, any) refl

    ld_written : (form : Form) → site.form ≡ form → IsLocal form → Stands g (job_loads (images_of ls)) x place s
    ld_written Ld form local =
        stands_written g ls l x is o address site place here own Ld LdLe (field_of field_of_zeros) form off chosen
        (inl refl)
        (is.counted.early (in_program l o site off)) (refl, refl)
        (plain_code ls l x is.of is.counted o address site place here off (λ i. new_field (form i) (chosen i))) counts
    ld_written LdInd form local =
        stands_written g ls l x is o address site place here own LdInd LdLe (field_of field_of_zeros) form off chosen
        (inl refl) (is.counted.early (in_program l o site off)) (refl, refl)
        (plain_code ls l x is.of is.counted o address site place here off (λ i. new_field (form i) (chosen i))) counts
    ld_written form is_form local = absurd local

  -- ** each form

  own_block : (form : Form) → IsLocal form
      → variable_for ls x.image x.number l o site form ≡ Some (record { target = x.number; offset = 0; symbol = 0 })
  own_block Ld local = refl
  own_block LdInd local = refl
  own_block form local = absurd local

  of_kept : is_kept (choice l o site) ≡ true → (form : Form) → site.form ≡ form → IsLocal form
      → Stands g (job_loads (images_of ls)) x place s
  of_kept kept Ld form local = ld_kept kept form
  of_kept kept LdInd form local = ld_ind_kept kept form
  of_kept kept form is_form local = absurd local

  pub local_stands : (asked : Sequence) → asked ≡ sequence_with ls x.image x.number place site
      (unwrap_or (variable_for ls x.image x.number l o site site.form) no_variable)
      → Stands g (job_loads (images_of ls)) x place asked
  local_stands asked same =
      with_variable g ls l x is o address site place here own asked site.form refl (own_block site.form local) same
      (of_test (is_kept (choice l o site)) refl)
    where
      of_test : (t : Bool) → is_kept (choice l o site) ≡ t → Stands g (job_loads (images_of ls)) x place s
      of_test true kept = of_kept kept site.form refl local
      of_test false off = ld_written off site.form refl local
