use Rattle.std.proofs.Common.{List, refl, sym, subst}
use Rattle.elf_object.specs.declared.relocation.Relocation.{Relocation}
use Rattle.sequence_match.specs.Code.{AreApart}
use Rattle.sequence_match.proofs.Sections.{fields_apart}
use Rattle.sequence_match.proofs.Surveys.{findings_are}
use Rattle.sequence_match.proofs.finding.search_with.Goals as goal

pub find_in_code-requires : goal.find_in_code-requires
find_in_code-requires c =
    let A : List Relocation → Type 0 = λ ys. AreApart ys in
    record {
      ordered = c.requires.ordered;
      apart = subst A (sym c.requires.relocations)
          (fields_apart c.args.object.now c.code_of.ensures.object c.args.section);
      few = c.requires.few;
    }

pub returns : goal.returns
returns c =
    findings_are _ c.args.object.now c.args.section refl c.code_of.ensures.bytes c.requires.relocations c.requires.getters c.in_ok-findings.findings
    c.in_ok-findings.ensures
