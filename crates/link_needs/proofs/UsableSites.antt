-- What is asked of one site holds of all sites of a link's objects.
use Rattle.std.proofs.Common.{◌≡◌, ◌+◌, ◌/◌, ◌%◌, ◌<◌, ◌≤◌, ◌^◌, ◌&&◌, ◌==◌, if◌then◌else◌, ℕ, List, [], length, Option}
use Rattle.std.proofs.Common.{Some, refl, arith}
use Rattle.std.proofs.lemmas.Bool.Decides.{nat_tests}
use Rattle.std.specs.List.{All}
use Rattle.std.specs.Prelude.{IsTrue, nat_lt, slice_index_or}
use Rattle.object_faults.specs.declared.class.SectionClass.{SectionClass}
use Rattle.object_faults.specs.declared.class.SectionClass.TheVariants.{Executable}
use Rattle.elf_object.specs.Faults.{IsObject}
use Rattle.elf_object.specs.LawsOfSections.{kept_as}
use Rattle.elf_object.specs.Lent.{section_bytes, section_class, section_size}
use Rattle.sequence_forms.specs.declared.forms.Form.{Form}
use Rattle.sequence_forms.specs.declared.forms.Form.TheVariants.{IeMov, IeAdd}
use Rattle.sequence_forms.specs.declared.forms.Cell.TheVariants.{ModRm}
use Rattle.sequence_forms.specs.declared.places.Site.{Site}
use Rattle.sequence_match.specs.Faults.{bytes_of_code, code_of, AreSites, IsSite}
use Rattle.sequence_forms.specs.Forms.{register, row}
use Rattle.sequence_match.specs.Sites.{IsSpelled}
use Rattle.sequence_match.proofs.SitesSymbols.{sites_symbols}
use Rattle.link_needs.specs.Linking.{Linking, object, sites_at}
use Rattle.link_needs.specs.Given.{IsGiven}
use Rattle.link_needs.specs.Plans.{IsUsable}

-- the code of a section is no longer than the section, and small
code_fits : (b : List ℕ) → IsObject b → (s : ℕ)
    → (length (code_of b s) ≤ section_size b s) × (length (code_of b s) ≤ 2 ^ 20)
unfolding code_of
code_fits b object s = by_class (section_class b s) refl
  where
    by_class : (c : Option SectionClass) → section_class b s ≡ c
        → (length (bytes_of_code c (section_bytes b s)) ≤ section_size b s)
        × (length (bytes_of_code c (section_bytes b s)) ≤ 2 ^ 20)
    by_class (Some Executable) e =
        let kept = kept_as b object s Executable e in
        let filled : length (section_bytes b s) ≡ section_size b s = kept.filled in
        (omega arith, omega (arith, kept.small))
    by_class c e = (omega arith, omega arith)

-- a register that ModRM names is one of sixteen
few_registers : (rex modrm : ℕ) → IsTrue ((modrm % 8 == 5) && nat_lt modrm 64)
    → modrm / 8 + (if rex == 0x4c then 8 else 0) ≤ 15
few_registers rex modrm fits = grind (arith, nat_tests)

few_of_form : (form : Form) (code : List ℕ) (xs : List _) (start : ℕ)
    → IsSpelled code xs (row form).cells start → register form code start ≤ 15
unfolding register row
few_of_form IeMov code xs start spelled = few_registers _ _ ((spelled.stands 2 ModRm refl).0)
few_of_form IeAdd code xs start spelled = few_registers _ _ ((spelled.stands 2 ModRm refl).0)
few_of_form form code xs start spelled = omega arith

usable_site : (b : List ℕ) (sites : List Site) → IsObject b → AreSites b sites → All (IsUsable b) sites
usable_site b sites object are = λ k d h.
    let is : IsSite b (slice_index_or sites k d) = are.only k d h in
    let site = slice_index_or sites k d in
    let fits = code_fits b object site.section in
    let inside = is.1.spelled.inside in
    record {
      symbol = sites_symbols b sites object are k d h;
      inside = omega (arith, inside, is.1.len_is, fits.0);
      small = omega (arith, inside, is.1.len_is, fits.1);
      whole = is.1.len_is;
      register = rw is.1.reg_is (few_of_form site.form _ _ site.start is.1.spelled);
    }

pub usable : (l : Linking) (o : ℕ) → IsGiven l → o < length l.objects → All (IsUsable (object l o)) (sites_at l o)
usable l o given there =
    usable_site (object l o) (sites_at l o) (given.are_objects o [] there) (given.are_sites o there)
