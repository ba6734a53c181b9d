-- Objects that link make images that may be moved.
use Rattle.std.proofs.Common.{◌≡◌, ◌≢◌, ◌<◌, ◌^◌, ◌&&◌, ◌∙◌, ℕ, pos, negsuc, true, false, List, [], Option, None, Some}
use Rattle.std.proofs.Common.{length, refl, ap, subst, arith}
use Rattle.std.specs.Prelude.{◌<ℤ◌, ◌≤ℤ◌, is_none}
use Rattle.std.specs.List.{Contains}
use Rattle.std.proofs.lemmas.Int.{by_lt_z, ints}
use Rattle.std.proofs.lemmas.List.Elements.{All-contains}
use Rattle.std.proofs.lemmas.Option.{slice_get-get_or}
use Rattle.elf_object.specs.declared.relocation.Relocation.{Relocation}
use Rattle.elf_object.specs.Lawful.{IsLawful}
use Rattle.elf_object.specs.LawsOfRelocations.{lawful}
use Rattle.elf_object.specs.Lent.{kept_relocation_table, relocations}
use Rattle.elf_records.specs.declared.relocation.RelocationKind.{RelocationKind}
use Rattle.elf_records.specs.declared.relocation.RelocationKind.TheVariants.{Nothing, Pc32, Plt32}
use Rattle.link_core.proofs.GotRelocationsSites.{has_table, held, passes}
use Rattle.link_core.proofs.TogetherNames.{runtime_getter}
use Rattle.link_core.specs.Faults.{IsSound}
use Rattle.link_core.specs.Laws.{HasNoStray}
use Rattle.link_faults.specs.declared.binding.Binding.{Binding}
use Rattle.link_faults.specs.declared.binding.Binding.TheVariants.{Here, Startup, Runtime}
use Rattle.link_faults.specs.declared.fault.LinkFaultKind.TheVariants.{NarrowInModule, NotTls, Undefined}
use Rattle.link_faults.specs.ImageKinds.{is_moved}
use Rattle.link_needs.specs.Given.{IsGiven}
use Rattle.link_needs.specs.Linking.{Linking, binding, object}
use Rattle.link_needs.specs.Refusals.{FitsKind, by_type, is_refused, is_refused_by}
use Rattle.sequence_forms.specs.declared.forms.Second.{Second}
use Rattle.sequence_forms.specs.Forms.{row}
use Rattle.sequence_match.proofs.Entries.{same_entry}
use Rattle.sequence_match.specs.Faults.{IsGetter}
use Rattle.sequence_match.specs.Sites.{IsEntry, IsSecond}
use Rattle.tls_symbols.specs.Faults.{AreResolved, Stands, is_faulty, is_mismatched, is_tls_kind, names_symbol}
use Rattle.memory_image.specs.Tables.{IsMovable, Keeps, is_distance, is_elsewhere}
use Rattle.whole_meaning.specs.Spots.{bias_of}
use Rattle.memory_image.proofs.Keeping.{keeps_instance}

impossible : false ≡ true → ⊥
impossible e = cc

-- a field of a distance names a symbol that is not thread-local
record Plain (kind : RelocationKind) : Type 0 where
  names : names_symbol kind ≡ true
  other : is_tls_kind kind ≡ false
  some : kind ≢ Nothing

plain : (kind : RelocationKind) → is_distance kind ≡ true → Plain kind
plain Pc32 h = record { names = refl; other = refl; some = λ e. cc }
plain Plt32 h = record { names = refl; other = refl; some = λ e. cc }
plain kind h = absurd (impossible h)

-- a call of a sequence adds -4
addend_of : (second : Option Second) (getter : ℕ → Type 0) (xs : List Relocation) (start f : ℕ) (r : Relocation)
    → IsSecond second getter xs start f → IsEntry xs f r → r.addend ≡ negsuc 3
addend_of None getter xs start f r is entry = absurd is
addend_of (Some second) getter xs start f r is entry =
    subst (λ (y : Relocation). y.addend ≡ negsuc 3) (same_entry xs f is.0 r is.1 entry) is.2.addend_is

module _ (l : Linking) (given : IsGiven l) (fits : FitsKind l.objects l.kind)
    (resolved : AreResolved l.objects l.startup) (stray : HasNoStray l)
    (o s : ℕ) (r : Relocation) (there : o < length l.objects) (has : Contains (relocations (object l o) s) r) where
  abbrev own : List ℕ
  own = object l o

  abbrev xs : List Relocation
  xs = relocations own s

  entry : IsEntry xs has.0 r
  entry = slice_get-get_or xs has.0 r has.1 ∙ ap Some has.2

  not_refused : is_refused NarrowInModule l.kind r.kind ≡ true → ⊥
  not_refused wrong =
      let place = held own s has.0 r entry in
      fits.no_narrow.nowhere o place.table place.entry
      (there, place.above, place.below, passes own r (by_type NarrowInModule l.kind o) place wrong)

  not_undefined : is_faulty Undefined l.objects l.startup o r ≡ true → ⊥
  unfolding Stands
  not_undefined wrong =
      let place = held own s has.0 r entry in
      resolved Undefined (omega arith) o place.table place.entry
      (there, place.above, place.below, passes own r (is_faulty Undefined l.objects l.startup o) place wrong)

  not_mismatched : is_faulty NotTls l.objects l.startup o r ≡ true → ⊥
  unfolding Stands
  not_mismatched wrong =
      let place = held own s has.0 r entry in
      resolved NotTls (omega arith) o place.table place.entry
      (there, place.above, place.below, passes own r (is_faulty NotTls l.objects l.startup o) place wrong)

  -- a call of the run time's function is one of a sequence
  called : Plain r.kind → binding l o r ≡ Some Runtime → r.addend <ℤ pos (2 ^ 31)
  called kind bound =
      by_lt_z r.addend (pos (2 ^ 31)) (λ h. h) (λ big. absurd (
      (stray o there).1 (kept_relocation_table own s) has.0 (
        has_table own (kept_relocation_table own s) has.0 r entry,
        (
          s,
          refl,
          (
            r,
            entry,
            kind.some,
            getter,
            λ e site is second. clash big
                (addend_of (row site.form).second (IsGetter own) xs site.start has.0 r second entry),
          ),
        ),
      )))
    where
      getter : IsGetter own r.symbol
      getter =
          let x = All-contains (IsLawful own s) xs r (lawful own (given.are_objects o [] there) s) has in
          let named = x.symbol kind.some in
          runtime_getter l.objects l.startup o resolved there r named.0 named.1 bound

      clash : pos (2 ^ 31) ≤ℤ r.addend → r.addend ≡ negsuc 3 → ⊥
      clash big e = absurd (omega (arith, ints))

  near : is_distance r.kind ≡ true → is_elsewhere (binding l o r) ≡ true → r.addend <ℤ pos (2 ^ 31)
  near h elsewhere = by_bound (binding l o r) refl elsewhere
    where
      kind : Plain r.kind
      kind = plain r.kind h

      by_bound : (bound : Option Binding) → binding l o r ≡ bound → is_elsewhere bound ≡ true → r.addend <ℤ pos (2 ^ 31)
      by_bound None e h = absurd (not_undefined (ap (λ t. t && is_none (binding l o r)) kind.names ∙ ap is_none e))
      by_bound (Some (Here found)) e h = absurd (impossible h)
      by_bound (Some (Startup image)) e h =
          absurd (not_mismatched (ap (λ t. t && is_mismatched l.objects r.kind (binding l o r)) kind.names
          ∙ ap (is_mismatched l.objects r.kind) e ∙ rw kind.other refl))
      by_bound (Some Runtime) e h = called kind e

pub movable : (l : Linking) → IsGiven l → FitsKind l.objects l.kind → AreResolved l.objects l.startup → HasNoStray l
    → is_moved l.kind ≡ true → IsMovable l
movable l given fits resolved stray moved = record {
  wide = λ o s r there has e.
      not_refused l given fits resolved stray o s r there has (ap (is_refused_by NarrowInModule l.kind) e ∙ moved);
  near = λ o s r there has. near l given fits resolved stray o s r there has;
}

pub keeps_linked : (l : Linking) (number : ℕ) → IsGiven l → IsSound l → HasNoStray l → Keeps l (bias_of l.kind number)
keeps_linked l number given sound stray = keeps_instance l number (movable l given sound.kind sound.resolved stray)
