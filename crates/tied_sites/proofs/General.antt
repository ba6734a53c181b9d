-- General dynamic sequences, kept and rewritten.
use Rattle.std.proofs.Common.{◌≡◌, ◌∙◌, ℕ, Bool, true, false, List, Option}
use Rattle.std.proofs.Common.{Some, None}
use Rattle.std.proofs.Common.{refl, sym, ap, subst}
use Rattle.std.specs.Prelude.{unwrap_or}
use Rattle.elf_records.specs.declared.relocation.RelocationKind.TheVariants.{TlsGd}
use Rattle.got_pairs.specs.declared.need.Need.TheVariants.{SymbolPair}
use Rattle.link_core.proofs.TogetherRows.{IsVariable}
use Rattle.link_faults.specs.declared.binding.Binding.{Binding}
use Rattle.link_faults.specs.declared.binding.Binding.TheVariants.{Here, Startup, Runtime}
use Rattle.link_faults.specs.declared.symbol_ref.SymbolRef.{SymbolRef}
use Rattle.link_needs.proofs.Reached.{stub_there}
use Rattle.link_needs.specs.Laws.{HasEntry}
use Rattle.link_needs.specs.Linking.{Linking, binding, choice}
use Rattle.link_needs.specs.Needs.{calls, calls_stub, is_kept, is_stub_call}
use Rattle.loaded_bytes.specs.Laws.{images_of}
use Rattle.loaded_modules.specs.declared.instance.Instance.{Instance}
use Rattle.relax_sites.specs.declared.choices.Choice.TheVariants.{GdLe, GdIe}
use Rattle.sequence_forms.specs.declared.forms.Form.{Form}
use Rattle.sequence_forms.specs.declared.forms.Form.TheVariants.{Gd, GdInd}
use Rattle.sequence_forms.specs.declared.places.Site.{Site}
use Rattle.sequence_forms.specs.Forms.{row}
use Rattle.sequence_match.specs.Sites.{first_of}
use Rattle.thread_blocks.specs.JobLoads.{job_loads}
use Rattle.tied_meaning.specs.Numbers.{Setting}
use Rattle.tied_meaning.specs.Sites.{Stands}
use Rattle.tls_symbols.specs.Bindings.{may_import}
use Rattle.whole_meaning.specs.Code.{defined_in, no_variable, sequence_with, variable_by, variable_for}
use Rattle.whole_meaning.specs.declared.sequences.Sequence.{Sequence}
use Rattle.whole_meaning.specs.Spots.{bias_of}
use Rattle.tied_sites.proofs.Calls.{CallsThrough, stub_called, word_called}
use Rattle.tied_sites.proofs.Chosen.{kept_entry, needs_pair, runtime_entry}
use Rattle.tied_sites.proofs.Firsts.{HasField}
use Rattle.tied_sites.proofs.Pairs.{pair_is}
use Rattle.tied_sites.proofs.Places.{IsHere}
use Rattle.tied_sites.proofs.Standing.{IsRelied, Name, name, stands_kept, variable, with_variable}
use Rattle.tied_sites.proofs.Own.{other_written, own_written}
use Rattle.whole_meaning.specs.Laws.{IsGeneral}

gd_first : (row Gd).first ≡ TlsGd
unfolding row
gd_first = refl

gd_ind_first : (row GdInd).first ≡ TlsGd
unfolding row
gd_ind_first = refl

gd_imports : may_import (row Gd).first ≡ true
unfolding row
gd_imports = refl

gd_ind_imports : may_import (row GdInd).first ≡ true
unfolding row
gd_ind_imports = refl

module _ (g : Setting) (ls : List Linking) (l : Linking) (x : Instance) (is : IsRelied g ls l x) (o address : ℕ)
    (site : Site) (place : ℕ) (here : IsHere l (bias_of l.kind x.number) o address site place) where
  -- ** kept

  module _ (kept : is_kept (choice l o site) ≡ true) where
    abbrev n : Name g ls l x is o address site place here (binding l o (first_of site))
    n = name g ls l x is o address site place here (binding l o (first_of site)) refl

    pair_entry : (row site.form).first ≡ TlsGd → HasEntry l (SymbolPair n.t)
    pair_entry first =
        kept_entry l o site is.of.given here.at.there here.own kept (SymbolPair n.t)
        (needs_pair l o site n.t n.target_is first)

    gd_kept : site.form ≡ Gd
        → Stands g (job_loads (images_of ls)) x place (sequence_with ls x.image x.number place site n.v)
    gd_kept form =
        let first : (row site.form).first ≡ TlsGd = ap (λ f. (row f).first) form ∙ gd_first in
        let e = pair_entry first in
        let call : calls_stub site.form ≡ true = ap calls_stub form in
        stands_kept g ls l x is o address site place here n.v Gd form n.of.asked tt
        (stub_called g ls l x is.of is.words is.counted.few o address site place here kept
        (subst HasField (sym form) tt) (SymbolPair n.t) e (needs_pair l o site n.t n.target_is first) n.v
        (pair_is g ls l x is.of is.words (sequence_with ls x.image x.number place site n.v) n.v refl refl n.t n.of e)
        call (is.stub (stub_there l is.of.given o site here.at.there here.own (rw (kept, call) refl))))

    gd_ind_kept : site.form ≡ GdInd
        → Stands g (job_loads (images_of ls)) x place (sequence_with ls x.image x.number place site n.v)
    gd_ind_kept form =
        let first : (row site.form).first ≡ TlsGd = ap (λ f. (row f).first) form ∙ gd_ind_first in
        let e = pair_entry first in
        let call : calls site.form ≡ true = ap calls form in
        stands_kept g ls l x is o address site place here n.v GdInd form n.of.asked tt
        (word_called g ls l x is.of is.words is.counted.few o address site place here kept
        (subst HasField (sym form) tt) (SymbolPair n.t) e (needs_pair l o site n.t n.target_is first) n.v
        (pair_is g ls l x is.of is.words (sequence_with ls x.image x.number place site n.v) n.v refl refl n.t n.of e)
        (subst CallsThrough (sym form) tt) (runtime_entry l o site is.of.given here.at.there here.own kept call))

  -- ** rewritten

  module _ (off : is_kept (choice l o site) ≡ false) where
    gd_le : (form : Form) → site.form ≡ form → (found : SymbolRef) → binding l o (first_of site) ≡ Some (Here found)
        → IsGeneral form
        → Stands g (job_loads (images_of ls)) x place
        (sequence_with ls x.image x.number place site (defined_in l x.image x.number found))
    gd_le Gd is_form found bound general =
        own_written g ls l x is o address site place here off Gd is_form GdLe _ refl found bound refl refl refl tt
        (λ n same distance. distance)
    gd_le GdInd is_form found bound general =
        own_written g ls l x is o address site place here off GdInd is_form GdLe _ refl found bound refl refl refl tt
        (λ n same distance. distance)
    gd_le form is_form found bound general = absurd general

    abbrev m : (k : ℕ) → binding l o (first_of site) ≡ Some (Startup k)
        → Name g ls l x is o address site place here (Some (Startup k))
    m k bound = name g ls l x is o address site place here (Some (Startup k)) bound

    gd_ie : (form : Form) → site.form ≡ form → (k : ℕ) (bound : binding l o (first_of site) ≡ Some (Startup k))
        → IsGeneral form
        → Stands g (job_loads (images_of ls)) x place (sequence_with ls x.image x.number place site (m k bound).v)
    gd_ie Gd is_form k bound general =
        let imports : may_import (row site.form).first ≡ true = ap (λ f. may_import (row f).first) is_form
        ∙ gd_imports in
        other_written g ls l x is o address site place here off Gd is_form GdIe _ refl k bound refl refl refl imports tt
        (λ n word same there distance. (word, (there, distance)))
    gd_ie GdInd is_form k bound general =
        let imports : may_import (row site.form).first ≡ true =
        ap (λ f. may_import (row f).first) is_form ∙ gd_ind_imports in
        other_written g ls l x is o address site place here off GdInd is_form GdIe _ refl k bound refl refl refl
        imports tt
        (λ n word same there distance. (word, (there, distance)))
    gd_ie form is_form k bound general = absurd general

  -- ** each form

  module _ (general : IsGeneral site.form) where
    asks_by_name : (form : Form) → IsGeneral form
        → variable_for ls x.image x.number l o site form ≡ variable_by ls x.image x.number l o site (binding l o
        (first_of site))
    asks_by_name Gd general = refl
    asks_by_name GdInd general = refl
    asks_by_name form general = absurd general

    of_kept : is_kept (choice l o site) ≡ true → (form : Form) → site.form ≡ form → IsGeneral form
        → (s : Sequence) → s ≡ sequence_with ls x.image x.number place site
        (unwrap_or (variable_for ls x.image x.number l o site site.form) no_variable)
        → Stands g (job_loads (images_of ls)) x place s
    of_kept kept Gd is_form general s same =
        with_variable g ls l x is o address site place here (n kept).v s Gd is_form (n kept).variable_is same
        (gd_kept kept is_form)
    of_kept kept GdInd is_form general s same =
        with_variable g ls l x is o address site place here (n kept).v s GdInd is_form (n kept).variable_is same
        (gd_ind_kept kept is_form)
    of_kept kept form is_form general s same = absurd general

    of_bound : is_kept (choice l o site) ≡ false → (bound : Option Binding) → binding l o (first_of site) ≡ bound
        → IsVariable bound → (s : Sequence) → s ≡ sequence_with ls x.image x.number place site
        (unwrap_or (variable_for ls x.image x.number l o site site.form) no_variable)
        → Stands g (job_loads (images_of ls)) x place s
    of_bound off None e var s same = absurd var
    of_bound off (Some Runtime) e var s same = absurd var
    of_bound off (Some (Here found)) e var s same =
        with_variable g ls l x is o address site place here (defined_in l x.image x.number found) s site.form refl
        (asks_by_name site.form general ∙ ap (variable_by ls x.image x.number l o site) e) same
        (gd_le off site.form refl found e general)
    of_bound off (Some (Startup k)) e var s same =
        with_variable g ls l x is o address site place here (m off k e).v s site.form refl
        (asks_by_name site.form general ∙ ap (variable_by ls x.image x.number l o site) e
        ∙ (m off k e).variable_is) same
        (gd_ie off site.form refl k e general)

    pub general_stands : (s : Sequence) → s ≡ sequence_with ls x.image x.number place site
        (unwrap_or (variable_for ls x.image x.number l o site site.form) no_variable)
        → Stands g (job_loads (images_of ls)) x place s
    general_stands s same = of_test (is_kept (choice l o site)) refl
      where
        of_test : (t : Bool) → is_kept (choice l o site) ≡ t → Stands g (job_loads (images_of ls)) x place s
        of_test true kept = of_kept kept site.form refl general s same
        of_test false off =
            of_bound off (binding l o (first_of site)) refl (variable g ls l x is o address site place here) s same
