-- What all forms share: the sequence that a site means, and the record of what stands there.
use Rattle.std.proofs.Common.{◌≡◌, ◌∙◌, ◌+◌, ◌<◌, ◌≤◌, ◌⊎◌, ◌^◌, inl, inr, ℕ, true, false, List, Option}
use Rattle.std.proofs.Common.{Some}
use Rattle.std.proofs.Common.{refl, sym, ap, subst, arith}
use Rattle.std.specs.Prelude.{unwrap_or}
use Rattle.std.proofs.lemmas.Option.{same_Some}
use Rattle.elf_object.specs.declared.relocation.Relocation.{Relocation}
use Rattle.elf_object.specs.Lent.{symbol_name}
use Rattle.got_pairs.specs.Entries.{less}
use Rattle.link_core.proofs.GotRelocationsSites.{known}
use Rattle.link_core.proofs.TogetherRows.{IsVariable}
use Rattle.link_faults.specs.declared.binding.Binding.{Binding}
use Rattle.link_faults.specs.declared.binding.Binding.TheVariants.{Here, Startup}
use Rattle.link_faults.specs.declared.symbol_ref.SymbolRef.{SymbolRef}
use Rattle.link_needs.specs.Linking.{Linking, binding, block_offset, choice, object, offset}
use Rattle.link_needs.specs.Needs.{has_stub, is_kept}
use Rattle.link_needs.specs.Plans.{IsUsable}
use Rattle.loaded_bytes.specs.Laws.{IsInstanceOf, images_of}
use Rattle.loaded_modules.specs.declared.instance.Instance.{Instance}
use Rattle.module_table.specs.Past.{startup_count}
use Rattle.relax_sites.specs.declared.choices.Choice.{Choice}
use Rattle.sequence_forms.specs.declared.forms.Form.{Form}
use Rattle.sequence_forms.specs.declared.places.Site.{Site}
use Rattle.sequence_match.specs.Faults.{IsSite}
use Rattle.sequence_match.specs.Sites.{first_of}
use Rattle.sequence_laws.specs.Instructions.{new_instructions}
use Rattle.thread_blocks.specs.JobLoads.{job_loads}
use Rattle.tied_meaning.specs.Numbers.{Setting}
use Rattle.tied_meaning.specs.Sites.{AsksForOwnBlock, HasCode, IsDistance, KeptAs, Stands, WrittenAs}
use Rattle.whole_meaning.specs.Code.{Variable, no_variable, sequence_with, variable_for}
use Rattle.whole_meaning.specs.declared.sequences.Sequence.{Sequence}
use Rattle.whole_meaning.specs.Spots.{bias_of}
use Rattle.tied_sites.proofs.Chosen.{in_program}
use Rattle.tied_sites.proofs.Distances.{distance_is}
use Rattle.tied_sites.proofs.Named.{IsNamed, named}
use Rattle.tied_sites.proofs.Pairs.{AreWords}
use Rattle.tied_sites.proofs.Places.{IsHere, site_here, usable_here}
use Rattle.tied_sites.proofs.Variables.{site_variable}
use Rattle.loaded_words.specs.Laws.{IsStub}
use Rattle.tied_sites.specs.Instances.{IsCounted, IsShared, Knows}

-- all that is relied on of an instance
pub record IsRelied (g : Setting) (ls : List Linking) (l : Linking) (x : Instance) : Type 0 where
  pub of : IsInstanceOf ls l x
  pub counted : IsCounted ls l x
  pub knows : Knows g ls l x
  pub words : AreWords ls l x
  pub stub : has_stub l ≡ true → IsStub l (bias_of l.kind x.number) ((job_loads (images_of ls)).fixed x)
  pub shared : (o : ℕ) (r : Relocation) (k : ℕ) → binding l o r ≡ Some (Startup k)
      → IsShared ls (symbol_name (object l o) r.symbol) k

module _ (g : Setting) (ls : List Linking) (l : Linking) (x : Instance) (is : IsRelied g ls l x) (o address : ℕ)
    (site : Site) (place : ℕ) (here : IsHere l (bias_of l.kind x.number) o address site place) where
  -- what the site means, with its variable
  abbrev pub means : Variable → Sequence
  means v = sequence_with ls x.image x.number place site v

  abbrev is_site : IsSite (object l o) site
  is_site = site_here ls l x is.of o address site place here

  abbrev usable : IsUsable (object l o) site
  usable = usable_here ls l x is.of o address site place here

  -- ** the record

  -- a module that asks for itself, or for what started with the program
  abbrev pub Asks : Variable → Type 0
  Asks v = (v.target ≡ x.number) ⊎ ((0 < v.target) × (v.target ≤ startup_count (job_loads (images_of ls)).infos))

  pub stands_kept : (v : Variable) (form : Form) → site.form ≡ form → Asks v
      → AsksForOwnBlock g (job_loads (images_of ls)) x place (means v) form
      → KeptAs g (job_loads (images_of ls)) x place (means v) form
      → Stands g (job_loads (images_of ls)) x place (means v)
  stands_kept v form is_form asks base kept =
      let s = sequence_with ls x.image x.number place site v in
      record {
        base = subst (AsksForOwnBlock g (job_loads (images_of ls)) x place s) (sym is_form) base;
        own = refl;
        ends = ap (λ n. place + n) usable.whole;
        asked = asks;
        stands = inl (subst (KeptAs g (job_loads (images_of ls)) x place s) (sym is_form) kept);
      }

  pub stands_written : (v : Variable) (form : Form) (chosen : Choice) (number : ℕ) → site.form ≡ form
      → is_kept (choice l o site) ≡ false → choice l o site ≡ chosen → Asks v
      → v.target ≤ startup_count (job_loads (images_of ls)).infos
      → AsksForOwnBlock g (job_loads (images_of ls)) x place (means v) form
      → HasCode (job_loads (images_of ls)) x place (new_instructions site.form (choice l o site) site.reg number)
      → WrittenAs g (job_loads (images_of ls)) x place (means v) form chosen site.reg number
      → Stands g (job_loads (images_of ls)) x place (means v)
  stands_written v form chosen number is_form off is_chosen asks early base code written =
      let s = sequence_with ls x.image x.number place site v in
      record {
        base = subst (AsksForOwnBlock g (job_loads (images_of ls)) x place s) (sym is_form) base;
        own = refl;
        ends = ap (λ n. place + n) usable.whole;
        asked = asks;
        stands = inr (
          choice l o site,
          (
            site.reg,
            (
              number,
              (
                record {
                  code = code;
                  program = (is.counted.program (in_program l o site off)).0;
                  early = early;
                },
                subst (λ c. WrittenAs g (job_loads (images_of ls)) x place s site.form c site.reg number)
                    (sym is_chosen)
                    (subst (λ f. WrittenAs g (job_loads (images_of ls)) x place s f chosen site.reg number)
                    (sym is_form)
                    written),
              ),
            ),
          ),
        );
      }

  -- ** the variable

  pub inside : (found : SymbolRef) → binding l o (first_of site) ≡ Some (Here found) → offset l found ≤ 2 ^ 20
  inside found bound =
      let k = known l is.of.given is.of.links.sound o site here.at.there here.own is_site usable.symbol in
      let small = is.of.links.sound.limits.lawful.small_tls in
      let few = k.inside found bound in
      omega (arith, few, small)

  pub variable : IsVariable (binding l o (first_of site))
  variable = site_variable l is.of.links o here.at.there site is_site

  abbrev pub Name : Option Binding → Type 0
  Name bound = IsNamed g ls l x o site is.counted (is.shared o) inside bound

  pub name : (bound : Option Binding) → binding l o (first_of site) ≡ bound → Name bound
  name bound e = named g ls l x o site is.counted (is.shared o) inside bound e (subst IsVariable e variable)

  -- a sequence that is no local dynamic one asks for it
  pub with_variable : (v : Variable) (s : Sequence) (form : Form) → site.form ≡ form
      → variable_for ls x.image x.number l o site form ≡ Some v
      → s ≡ sequence_with ls x.image x.number place site
      (unwrap_or (variable_for ls x.image x.number l o site site.form) no_variable)
      → Stands g (job_loads (images_of ls)) x place (sequence_with ls x.image x.number place site v)
      → Stands g (job_loads (images_of ls)) x place s
  with_variable v s form is_form found same stands =
      let asked : unwrap_or (variable_for ls x.image x.number l o site site.form) no_variable ≡ v =
      ap (λ f. unwrap_or (variable_for ls x.image x.number l o site f) no_variable) is_form
      ∙ ap (λ found. unwrap_or found no_variable) found in
      subst (Stands g (job_loads (images_of ls)) x place)
      (sym (same ∙ ap (sequence_with ls x.image x.number place site) asked)) stands

  -- ** the program's own variables

  module _ (off : is_kept (choice l o site) ≡ false) (found : SymbolRef)
      (bound : binding l o (first_of site) ≡ Some (Here found)) where
    pub own_early : x.number ≤ startup_count (job_loads (images_of ls)).infos
    own_early = is.counted.early (in_program l o site off)

    pub own_distance : (s : Sequence) → s.target ≡ x.number → s.offset ≡ offset l found → block_offset l < 2 ^ 28
        → IsDistance g s (less (offset l found) (block_offset l))
    own_distance s target at near =
        let few = inside found bound in
        subst (λ n. IsDistance g s (less n (block_offset l))) at
        (distance_is g s (block_offset l) near (omega (arith, at, few)) (λ y is_known.
        let same : x ≡ y =
        same_Some x y (sym is.knows.own ∙ subst (λ n. g.known n ≡ Some y) target is_known) in
        ap (λ (z : Instance). z.offset) (sym same) ∙ (is.counted.program (in_program l o site off)).1))
