use Rattle.std.proofs.Common.{◌∙◌, ◌<◌, ◌≤◌, ◌^◌, map, inl, inr, sym, refl, subst}
use Rattle.std.proofs.lemmas.List.{length-map}
use Rattle.std.specs.Global.{Vec}
use Rattle.sequence_match.proofs.SitesSymbols.{sites_symbols}
use Rattle.elf_object.specs.Counts.{relocation_count}
use Rattle.sequence_forms.specs.declared.places.Site.{Site}
use Rattle.link_needs.specs.Linking.{link_of}
use Rattle.link_tables.specs.Faults.{IsCrowded, IsLinkFault}
use Rattle.link_core.proofs.StepFaults.{exceeds, limit_fault}
use Rattle.link_core.proofs.NamesHeld.{names_are, size_is}
use Rattle.link_core.proofs.ready.named.Goals as goal
use Rattle.link_core.proofs.ready.named.Goals.{then-not-few-via-then-not-few}
use Rattle.link_core.proofs.ready.named.Goals.{then-not-few-via-else-not-few+then-not-names_fit}

pub imports-requires-clause-symbols : goal.imports-requires-clause-symbols
imports-requires-clause-symbols c = λ o there.
    sites_symbols _ _ (c.has_few_relocations-few.ensures.objects o _ there) (c.requires.sites o there)

pub returns-then-not-few-clause-fault : goal.returns-then-not-few-clause-fault
returns-then-not-few-clause-fault c =
    let l = link_of c.args.asked.objects.now c.args.asked.sites.now c.args.asked.kind c.args.bindings.now.startup c.args.asked.relax in
    let large : IsCrowded l =
    elim c.then-not-few.branch [
      | then-not-few-via-then-not-few w ↦
          inl (exceeds (relocation_count l.objects) (2 ^ 19) c.has_few_relocations-few.result w.if-not-few.true
          c.has_few_relocations-few.ensures.few)
      | then-not-few-via-else-not-few+then-not-names_fit w ↦
          inr (subst (λ n. 2 ^ 22 < n)
          (size_is l w.as_slice.result.now (map (λ name. name.now) w.as_slice-else-not-few.result.now)
          (w.as_slice.ensures.value ∙ c.in_ok-own.ensures.symbols)
          (names_are l c.args.bindings.now.startup w.as_slice-else-not-few.result.now c.in_ok-imports.imports.keys
          w.as_slice-else-not-few.ensures.keys c.in_ok-imports.ensures refl))
          (exceeds _ (2 ^ 22) w.names_fit.result w.if-not-names_fit.true w.names_fit.ensures))
    ] in
    subst (IsLinkFault l) (sym c.too_large.ensures)
    (limit_fault l c.requires.resolved c.requires.kind c.requires.lawful.small_tls large)

pub returns-clause-prepared : goal.returns-clause-prepared
returns-clause-prepared c =
    let l = link_of c.args.asked.objects.now c.args.asked.sites.now c.args.asked.kind c.args.bindings.now.startup c.args.asked.relax in record {
      given = record {
        few_startup = c.requires.few;
        are_objects = c.has_few_relocations-few.ensures.objects;
        each = length-map c.args.asked.sites.now (λ (own : Vec Site). own.items) ∙ c.requires.each;
        are_sites = c.requires.sites;
      };
      limits = record {
        lawful = c.requires.lawful;
        few = c.has_few_relocations-few.ensures.few.0 c.if-not-few.false;
        short =
            subst (λ n. n ≤ 2 ^ 22)
            (size_is l c.as_slice.result.now (map (λ name. name.now) c.as_slice-else-not-few.result.now)
            (c.as_slice.ensures.value ∙ c.in_ok-own.ensures.symbols)
            (names_are l c.args.bindings.now.startup c.as_slice-else-not-few.result.now c.in_ok-imports.imports.keys
            c.as_slice-else-not-few.ensures.keys c.in_ok-imports.ensures refl))
            (c.names_fit.ensures.0 c.if-not-names_fit.false);
      };
      own_are = c.in_ok-own.ensures.symbols;
      within = c.in_ok-own.ensures.within;
      imports_are = c.in_ok-imports.ensures;
    }
