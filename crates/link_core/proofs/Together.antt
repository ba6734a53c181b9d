-- A relocation that has a field has it outside all rewritten sequences, and one that has none lies in one.
use Rattle.std.proofs.Common.{◌≡◌, ◌≢◌, ◌+◌, ◌<◌, ◌≤◌, ◌&&◌, ◌∙◌, ℕ, Bool, true, false, List, [], Option, Some, None}
use Rattle.std.proofs.Common.{length, refl, sym, ap, subst, inl, inr, arith}
use Rattle.std.specs.Prelude.{is_none}
use Rattle.std.specs.List.{Contains}
use Rattle.std.proofs.lemmas.List.Elements.{All-contains}
use Rattle.std.proofs.lemmas.Option.{slice_get-get_or}
use Rattle.elf_records.specs.declared.relocation.RelocationKind.{RelocationKind}
use Rattle.elf_records.specs.declared.relocation.RelocationKind.TheVariants.{Nothing, TlsGd, TlsLd, GotTpOff}
use Rattle.elf_records.specs.declared.relocation.RelocationKind.TheVariants.{GotPc32TlsDesc, TlsDescCall}
use Rattle.elf_object.specs.declared.relocation.Relocation.{Relocation}
use Rattle.elf_object.specs.Lawful.{IsLawful}
use Rattle.elf_object.specs.LawsOfRelocations.{lawful}
use Rattle.elf_object.specs.Parts.{symbol_count}
use Rattle.elf_object.specs.Lent.{kept_relocation_table, relocations}
use Rattle.elf_object.specs.Relocations.{field_width}
use Rattle.link_faults.specs.declared.fault.LinkFaultKind.TheVariants.{NotTls, Undefined}
use Rattle.sequence_forms.specs.declared.forms.Call.{Call}
use Rattle.sequence_forms.specs.declared.forms.Second.{Second}
use Rattle.sequence_forms.specs.declared.places.Site.{Site}
use Rattle.sequence_match.specs.Faults.{code_of, IsGetter, IsOfSequence, IsSite}
use Rattle.sequence_forms.specs.Forms.{row, IsCallKind}
use Rattle.sequence_match.specs.Sites.{IsEntry, IsSecond, IsSiteOf, first_of}
use Rattle.sequence_match.proofs.Entries.{same_entry}
use Rattle.sequence_match.proofs.Rows.{first_of_sequence}
use Rattle.sequence_match.proofs.Sections.{fields_apart}
use Rattle.link_faults.specs.declared.binding.Binding.{Binding}
use Rattle.link_faults.specs.declared.binding.Binding.TheVariants.{Here, Startup, Runtime}
use Rattle.tls_symbols.specs.Faults.{is_faulty, is_mismatched, is_tls_kind, names_symbol, Stands}
use Rattle.dynamic_symbols.proofs.Foreign.{bindings_by_use}
use Rattle.link_needs.specs.Linking.{Linking, binding, choice, chosen, object, sites_at}
use Rattle.link_tables.specs.Faults.{Links}
use Rattle.link_needs.specs.Given.{IsGiven}
use Rattle.link_core.specs.Laws.{FieldsGoWithTheirSites, HasNoStray, IsCovered, IsInSite}
use Rattle.link_needs.specs.Needs.{is_kept}
use Rattle.link_needs.specs.Values.{goes, is_replaced, is_rewriting}
use Rattle.link_core.proofs.GotRelocationsSites.{has_table, held, IsHeld, passes}
use Rattle.link_core.proofs.TogetherFound.{Rewritten, rewritten_or_not}
use Rattle.link_core.proofs.TogetherNames.{getter_bound, runtime_getter}
use Rattle.link_core.proofs.TogetherRows.{both, call_goes, chosen_kept, chosen_taken, first_goes, first_stays}
use Rattle.link_core.proofs.TogetherRows.{goes_with, IsVariable, runtime_goes, taken}
use Rattle.link_core.proofs.TogetherSites.{first_within, own_relocation, second_within}

-- ** what a thread-local relocation names

is_variable : (objects : List (List ℕ)) (kind : RelocationKind) (bound : Option Binding) → is_tls_kind kind ≡ true
    → is_none bound ≡ false → is_mismatched objects kind bound ≡ false → IsVariable bound
is_variable objects kind None tls some suits = absurd (cc)
is_variable objects kind (Some (Here found)) tls some suits = tt
is_variable objects kind (Some (Startup image)) tls some suits = tt
is_variable objects kind (Some Runtime) tls some suits = absurd (let wrong = rw tls at suits in cc)

-- the types of sequences are thread-local
tls_of : (kind : RelocationKind) → IsOfSequence kind → (names_symbol kind ≡ true) × (is_tls_kind kind ≡ true)
tls_of TlsGd h = (refl, refl)
tls_of TlsLd h = (refl, refl)
tls_of GotTpOff h = (refl, refl)
tls_of GotPc32TlsDesc h = (refl, refl)
tls_of TlsDescCall h = (refl, refl)
tls_of _ h = absurd (cc)

-- ** one relocation

entry_of : (xs : List Relocation) (r : Relocation) (has : Contains xs r) → IsEntry xs has.0 r
entry_of xs r has = slice_get-get_or xs has.0 r has.1 ∙ ap Some has.2

-- a relocation that is a site's second one is a call of the run time
abbrev IsCallOf : (ℕ → Type 0) → Relocation → Type 0
IsCallOf getter r = getter r.symbol × ((call : Call) × IsCallKind call r.kind)

call_of : (second : Option Second) (getter : ℕ → Type 0) (xs : List Relocation) (start f : ℕ) (r : Relocation)
    → IsSecond second getter xs start f → IsEntry xs f r → IsCallOf getter r
call_of None getter xs start f r is entry = absurd is
call_of (Some second) getter xs start f r is entry =
    let P : Relocation → Type 0 = λ y. IsCallOf getter y in
    subst P (same_entry xs f is.0 r is.1 entry) (is.2.names, (second.call, is.2.kind_is))

-- a relocation that has a field does something
some_kind : (r : Relocation) (k : ℕ) → IsCovered r k → r.kind ≢ Nothing
some_kind r k covers none =
    let width : field_width r.kind ≡ 0 = ap field_width none in omega (arith, covers.0, covers.1)

some_width : (r : Relocation) (k : ℕ) → IsCovered r k → 0 < field_width r.kind
some_width r k covers = omega (arith, covers.0, covers.1)

-- ** one section

module _ (l : Linking) (given : IsGiven l) (links : Links l) (stray : HasNoStray l) (o : ℕ)
    (there : o < length l.objects) (t : ℕ) where
  abbrev own : List ℕ
  own = object l o

  abbrev xs : List Relocation
  xs = relocations own t

  -- relocation number e of the section is the first of the site
  abbrev IsSiteAt : ℕ → Site → Type 0
  IsSiteAt e site = IsSiteOf (code_of own t) xs (IsGetter own) e site

  -- a thread-local relocation names a variable
  variable : (e : ℕ) (x : Relocation) → IsEntry xs e x → names_symbol x.kind ≡ true → is_tls_kind x.kind ≡ true
      → IsVariable (binding l o x)
  unfolding Stands
  variable e x entry names tls =
      is_variable l.objects x.kind (binding l o x) tls (bound (is_none (binding l o x)) refl)
      (suits (is_mismatched l.objects x.kind (binding l o x)) refl)
    where
      place : IsHeld own x
      place = held own t e x entry

      bound : (b : Bool) → is_none (binding l o x) ≡ b → is_none (binding l o x) ≡ false
      bound false h = h
      bound true h =
          let wrong : is_faulty Undefined l.objects l.startup o x ≡ true =
          ap (λ b. b && is_none (binding l o x)) names ∙ h in
          absurd (links.sound.resolved Undefined (omega arith) o place.table place.entry (
            there,
            place.above,
            place.below,
            passes own x (is_faulty Undefined l.objects l.startup o) place wrong,
          ))

      suits : (b : Bool) → is_mismatched l.objects x.kind (binding l o x) ≡ b
          → is_mismatched l.objects x.kind (binding l o x) ≡ false
      suits false h = h
      suits true h =
          let wrong : is_faulty NotTls l.objects l.startup o x ≡ true =
          ap (λ b. b && is_mismatched l.objects x.kind (binding l o x)) names ∙ h in
          absurd (links.sound.resolved NotTls (omega arith) o place.table place.entry (
            there,
            place.above,
            place.below,
            passes own x (is_faulty NotTls l.objects l.startup o) place wrong,
          ))

  -- which sequence stands in a site's place, by its first relocation, which names a variable
  choice_is : (e : ℕ) (site : Site) (is : IsSiteAt e site)
      → choice l o site ≡ chosen l site.form (binding l o is.first.0)
  unfolding choice
  choice_is e site is =
      ap (chosen l site.form)
      (bindings_by_use l.objects l.startup o (first_of site) is.first.0 (sym is.first.2.kind_is) is.first.3)

  site_variable : (e : ℕ) (site : Site) (is : IsSiteAt e site) → IsVariable (binding l o is.first.0)
  site_variable e site is =
      let x = is.first.0 in
      let P : RelocationKind → Type 0 = λ kind. IsOfSequence kind in
      let tls = tls_of x.kind (subst P (sym is.first.2.kind_is) (first_of_sequence site.form)) in
      variable e x is.first.1 tls.0 tls.1

  -- where programs are rewritten
  choice_taken : (e : ℕ) (site : Site) (is : IsSiteAt e site) → is_rewriting l ≡ true
      → choice l o site ≡ taken site.form (binding l o is.first.0)
  choice_taken e site is rewriting =
      choice_is e site is ∙ chosen_taken l site.form (binding l o is.first.0) rewriting

  -- the first relocation of a site goes as the row says
  first_goes_as : (f : ℕ) (r : Relocation) (site : Site) (is : IsSiteAt f site) → IsEntry xs f r
      → goes (binding l o is.first.0) (row site.form).first ≡ goes (binding l o r) r.kind
  first_goes_as f r site is entry =
      let x = is.first.0 in
      ap (goes (binding l o x)) (sym is.first.2.kind_is)
      ∙ ap (λ y. goes (binding l o y) y.kind) (same_entry xs f x r is.first.1 entry)

  -- ** one relocation of it

  module _ (r : Relocation) (has : Contains xs r) (k : ℕ) (covers : IsCovered r k) where
    abbrev entry : IsEntry xs has.0 r
    entry = entry_of xs r has

    named : (0 < r.symbol) × (r.symbol < symbol_count own)
    named = (All-contains (IsLawful own t) xs r (lawful own (given.are_objects o [] there) t) has).symbol
        (some_kind r k covers)

    -- it has a field, so the site stays
    first_kept : (site : Site) (is : IsSiteAt has.0 site) → is_rewriting l ≡ true
        → goes (binding l o r) r.kind ≡ false → is_kept (choice l o site) ≡ true
    first_kept site is rewriting stays =
        let x = is.first.0 in
        let width : field_width r.kind ≡ field_width (row site.form).first =
        ap (λ y. field_width y.kind) (sym (same_entry xs has.0 x r is.first.1 entry))
        ∙ ap field_width is.first.2.kind_is in
        ap is_kept (choice_taken has.0 site is rewriting)
        ∙ first_stays site.form (binding l o x) (first_goes_as has.0 r site is entry ∙ stays)
        (omega (arith, some_width r k covers, width))

    call_goes_off : IsCallOf (IsGetter own) r → goes (binding l o r) r.kind ≡ true
    call_goes_off is =
        ap (λ bound. goes bound r.kind)
        (getter_bound l.objects l.startup o (given.are_objects o [] there) r named.0 is.0)
        ∙ runtime_goes is.1.0 r.kind is.1.1

    kept_outside : (site : Site) → is_replaced l o r ≡ false → IsInSite l o t k site → is_kept (choice l o site) ≡ true
    unfolding is_replaced
    kept_outside site off inside = by (is_rewriting l) refl off
      where
        is : IsSite own site
        is = All-contains (IsSite own) (sites_at l o) site (given.are_sites o there).only inside.own

        here : IsSiteAt is.0 site
        here =
            let S : ℕ → Type 0 = λ s. IsSiteOf (code_of own s) (relocations own s) (IsGetter own) is.0 site in
            subst S inside.section is.1

        by : (b : Bool) → is_rewriting l ≡ b → (b && goes (binding l o r) r.kind) ≡ false
            → is_kept (choice l o site) ≡ true
        by false e h =
            ap is_kept (choice_is is.0 site here) ∙ chosen_kept l site.form (binding l o here.first.0) e
        by true e h =
            elim (own_relocation (code_of own t) xs (IsGetter own) (fields_apart own (given.are_objects o [] there) t)
            is.0 has.0 k r site here entry covers inside.from inside.to) [
              | inl first ↦
                  let S : ℕ → Type 0 = λ n. IsSiteAt n site in first_kept site (subst S first here) e h
              | inr second ↦
                  let goes_off = call_goes_off (call_of (row site.form).second (IsGetter own) xs site.start has.0 r
                  second entry) in
                  absurd (cc)
            ]

    -- ** it has none

    -- the same site, of this section, is one of the object's
    site_there : (e : ℕ) (site : Site) → IsSiteAt e site → (site.start ≤ k) × (k < site.start + site.len)
        → is_kept (choice l o site) ≡ false → Rewritten l o t k (sites_at l o)
    unfolding choice
    site_there e site is within kept =
        let moved : Site = record site { section = t } in
        let same : IsSiteAt e moved = record {
          spelled = is.spelled;
          first = is.first;
          earliest = is.earliest;
          second = is.second;
          len_is = is.len_is;
          reg_is = is.reg_is;
        } in
        (moved, ((given.are_sites o there).every moved (e, same), refl, within.0, within.1, kept))

    first_there : (site : Site) → IsSiteAt has.0 site → is_rewriting l ≡ true → goes (binding l o r) r.kind ≡ true
        → Rewritten l o t k (sites_at l o)
    first_there site is rewriting off =
        site_there has.0 site is (first_within (code_of own t) xs (IsGetter own) has.0 k r site is entry covers)
        (ap is_kept (choice_taken has.0 site is rewriting)
        ∙ first_goes site.form (binding l o is.first.0) (site_variable has.0 site is)
        (first_goes_as has.0 r site is entry ∙ off))

    second_there : (e : ℕ) (site : Site) → IsSiteAt e site
        → IsSecond (row site.form).second (IsGetter own) xs site.start has.0 → is_rewriting l ≡ true
        → Rewritten l o t k (sites_at l o)
    second_there e site is second rewriting =
        site_there e site is
        (second_within (code_of own t) xs (IsGetter own) e has.0 k r site is second entry covers)
        (ap is_kept (choice_taken e site is rewriting)
        ∙ call_goes site.form (binding l o is.first.0) (IsGetter own) xs site.start has.0 (site_variable e site is)
        second)

    rewritten_there : is_replaced l o r ≡ true → Rewritten l o t k (sites_at l o)
    unfolding is_replaced
    rewritten_there off = elim (rewritten_or_not l o t k (sites_at l o)) [
      | inl found ↦ found
      | inr none ↦
          let table = kept_relocation_table own t in
          let some = has_table own table has.0 r entry in
          let tests = both (is_rewriting l) (goes (binding l o r) r.kind) off in
          absurd (elim (goes_with (binding l o r) r.kind tests.1) [
            | inl sequence ↦
                (stray o there).0 table has.0 (
                  some,
                  (t, refl, (r, entry, sequence, λ site is. none (first_there site is tests.0 tests.1))),
                )
            | inr runtime ↦
                let getter = runtime_getter l.objects l.startup o links.sound.resolved there r named.0 named.1
                runtime.0 in
                (stray o there).1 table has.0 (
                  some,
                  (
                    t,
                    refl,
                    (r, entry, runtime.1, getter, λ e site is second. none (second_there e site is second tests.0)),
                  ),
                )
          ])
    ]

pub together : FieldsGoWithTheirSites
together l o t r given links stray there has = record {
  outside = λ stays k site covers inside. kept_outside l given links stray o there t r has k covers site stays inside;
  inside = λ goes_off k covers.
      let found = rewritten_there l given links stray o there t r has k covers goes_off in
      let site = found.1 in (
        found.0,
        record { own = site.0; section = site.1; from = site.2; to = site.3 },
        site.4,
      );
}
