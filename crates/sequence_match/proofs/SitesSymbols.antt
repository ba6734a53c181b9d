-- The sites of an object name its own symbols.
use Rattle.std.proofs.Common.{◌≡◌, ◌<◌, ◌∙◌, ℕ, zero, suc, List, [], ◌∷◌, Some, sym, subst, arith}
use Rattle.std.specs.List.{All, slice_get}
use Rattle.std.specs.Prelude.{slice_index_or}
use Rattle.elf_records.specs.declared.relocation.RelocationKind.TheVariants.{Nothing}
use Rattle.elf_object.specs.Faults.{IsObject}
use Rattle.elf_object.specs.Lawful.{IsLawful}
use Rattle.elf_object.specs.LawsOfRelocations.{lawful}
use Rattle.elf_object.specs.Lent.{relocations}
use Rattle.elf_object.specs.Parts.{symbol_count}
use Rattle.sequence_forms.specs.declared.forms.Form.{Form}
use Rattle.sequence_forms.specs.declared.forms.Form.TheVariants.{Gd}
use Rattle.sequence_forms.specs.declared.places.Site.{Site}
use Rattle.sequence_match.specs.Faults.{AreSites, IsSite}
use Rattle.sequence_match.specs.Sites.{HaveSymbols}
use Rattle.sequence_forms.specs.Forms.{row}

-- what holds of all holds of each
of_each : {X : Type 0} (P : X → Type 0) (xs : List X) (e : ℕ) (x : X) → All P xs → slice_get xs e ≡ Some x → P x
of_each P [] e x all is = absurd (cc)
of_each P (y ∷ ys) zero x all is = let same : y ≡ x = cc in subst P same (all 0 y (omega arith))
of_each P (y ∷ ys) (suc e) x all is = of_each P ys e x (λ k d h. all (suc k) d (omega (arith, h))) is

-- a sequence begins with a relocation of some type
is_some_type : (form : Form) → (row form).first ≡ Nothing → ⊥
unfolding row
is_some_type Gd h = cc
is_some_type form h = cc

site_has_symbol : (b : List ℕ) (site : Site) → IsObject b → IsSite b site → site.symbol < symbol_count b
site_has_symbol b site object is =
    let first = is.1.first in
    let x = first.0 in
    let law : IsLawful b site.section x =
    of_each (IsLawful b site.section) (relocations b site.section) is.0 x (lawful b object site.section) first.1 in
    let below = (law.symbol (λ nothing. is_some_type site.form (sym first.2.kind_is ∙ nothing))).1 in
    subst (λ n. n < symbol_count b) (sym first.3) below

pub sites_symbols : (b : List ℕ) (sites : List Site) → IsObject b → AreSites b sites → HaveSymbols b sites
sites_symbols b sites object are = λ k d h. site_has_symbol b (slice_index_or sites k d) object (are.only k d h)
