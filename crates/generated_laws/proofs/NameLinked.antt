-- What generated objects meet of what is asked before an image is laid out.
use Rattle.std.proofs.Common.{◌≡◌, ◌^◌, ◌≤◌, ◌∙◌, ℕ, length, sym, subst, ap}
use Rattle.link_needs.specs.Refusals.{FitsKind, FitsStorage}
use Rattle.elf_object.specs.Counts.{relocation_count}
use Rattle.link_core.specs.Dynamic.{imports, own_symbols}
use Rattle.link_core.specs.Faults.{IsSound}
use Rattle.link_needs.specs.Given.{IsGiven}
use Rattle.link_needs.specs.Linking.{Linking, layout}
use Rattle.tls_layout.specs.Places.{tls_size, IsLawful}
use Rattle.tls_layout.specs.Sections.{all_sections}
use Rattle.tls_symbols.specs.Faults.{AreResolved}
use Rattle.dynamic_symbols.specs.Names.{defined_symbols, name_size, imports as imports_of}
use Rattle.generated_laws.specs.Linked.{program_objects}
use Rattle.generated_laws.proofs.NameGenerated.{HasItsSites, ModuleReads, ProgramReads, module_few, module_fits_kind}
use Rattle.generated_laws.proofs.NameGenerated.{module_fits_storage, module_has_storage, module_objects}
use Rattle.generated_laws.proofs.NameGenerated.{module_resolved, module_short, program_few, program_fits_kind}
use Rattle.generated_laws.proofs.NameGenerated.{program_fits_storage, program_has_storage, program_resolved}
use Rattle.generated_laws.proofs.NameGenerated.{program_short}

-- all that is asked before fields are filled, but for the layout
pub record HasNames (l : Linking) : Type 0 where
  pub resolved : AreResolved l.objects l.startup
  pub kind : FitsKind l.objects l.kind
  pub few : relocation_count l.objects ≤ 2 ^ 19
  pub short : name_size l.objects (own_symbols l) (imports l) ≤ 2 ^ 22
  pub storage : FitsStorage l.objects l.startup l.kind (tls_size (layout l).sections)

pub sound : (l : Linking) → HasNames l → IsLawful (layout l) → IsSound l
sound l has lawful = record {
  resolved = has.resolved;
  kind = has.kind;
  limits = record { lawful = lawful; few = has.few; short = has.short };
  storage = has.storage;
}

pub program_has_names : (n : ℕ) → 1 ≤ n → n ≤ 1000 → ProgramReads n → (l : Linking) → IsGiven l
    → l.objects ≡ program_objects n → HasNames l
program_has_names n some few reads l given is = record {
  resolved = subst (λ objects. AreResolved objects l.startup) (sym is) (program_resolved n few reads l.startup);
  kind = subst (λ objects. FitsKind objects l.kind) (sym is) (program_fits_kind n few reads l.kind);
  few = subst (λ objects. relocation_count objects ≤ 2 ^ 19) (sym is) (program_few n few reads);
  short =
      subst (λ objects. name_size objects (defined_symbols objects) (imports_of objects l.startup l.sites) ≤ 2 ^ 22)
      (sym is)
      (program_short n few reads l.startup l.sites (given.each ∙ ap length is)
      (subst (λ objects. HasItsSites objects l.sites) is given.are_sites));
  storage =
      subst (λ objects. FitsStorage objects l.startup l.kind (tls_size (all_sections objects))) (sym is)
      (program_fits_storage n few reads l.startup l.kind (tls_size (all_sections (program_objects n)))
      (program_has_storage n few reads some));
}

pub module_has_names : ModuleReads → (l : Linking) → IsGiven l → l.objects ≡ module_objects → HasNames l
module_has_names reads l given is = record {
  resolved = subst (λ objects. AreResolved objects l.startup) (sym is) (module_resolved reads l.startup);
  kind = subst (λ objects. FitsKind objects l.kind) (sym is) (module_fits_kind reads l.kind);
  few = subst (λ objects. relocation_count objects ≤ 2 ^ 19) (sym is) (module_few reads);
  short =
      subst (λ objects. name_size objects (defined_symbols objects) (imports_of objects l.startup l.sites) ≤ 2 ^ 22)
      (sym is)
      (module_short reads l.startup l.sites (given.each ∙ ap length is)
      (subst (λ objects. HasItsSites objects l.sites) is given.are_sites));
  storage =
      subst (λ objects. FitsStorage objects l.startup l.kind (tls_size (all_sections objects))) (sym is)
      (module_fits_storage reads l.startup l.kind (tls_size (all_sections module_objects)) (module_has_storage reads));
}
