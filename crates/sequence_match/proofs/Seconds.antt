-- The second relocation of a sequence tells the sequence.
use Rattle.std.proofs.Common.{◌≡◌, ◌≢◌, ◌+◌, ◌<◌, ◌≤◌, ◌↔◌, ◌∙◌, ℕ, List, Bool, true, false, not, IsTrue, Option, Some}
use Rattle.std.proofs.Common.{None, length, refl, subst, sym, ap, arith, rules}
use Rattle.elf_records.specs.declared.relocation.RelocationKind.TheVariants.{Nothing}
use Rattle.elf_object.specs.declared.relocation.Relocation.{Relocation}
use Rattle.elf_object.specs.Relocations.{field_width}
use Rattle.sequence_forms.specs.declared.forms.Form.{Form}
use Rattle.sequence_forms.specs.declared.forms.Form.TheVariants.{Gd, Ld, GdInd, LdInd}
use Rattle.sequence_forms.specs.declared.forms.Second.{Second}
use Rattle.sequence_match.specs.declared.matching.Code.{Code}
use Rattle.sequence_forms.specs.declared.places.Site.{Site}
use Rattle.sequence_match.specs.declared.index.Reach.TheVariants.{OfField}
use Rattle.sequence_match.specs.Code.{IsFound, IsNoFirst, IsReady, IsSecondIn, IsSiteIn, Names, ReachesAt}
use Rattle.sequence_match.specs.Faults.{IsStray}
use Rattle.sequence_forms.specs.Forms.{row}
use Rattle.sequence_match.specs.Sites.{Covers, IsEntry, IsSecond, IsSpelled, Opens}
use Rattle.sequence_match.proofs.Entries.{bare_of, only_field, same_entry}
use Rattle.sequence_match.proofs.OneForm.{one_form}
use Rattle.sequence_match.proofs.Opened.{same_start}
use Rattle.sequence_match.proofs.Rows.{first_has_field, first_inside}

-- it tells the start
pub start_of_second : (second : Option Second) (getter : ℕ → Type 0) (xs : List Relocation) (s t f : ℕ)
    → IsSecond second getter xs s f
    → IsSecond second getter xs t f → s ≡ t
start_of_second None getter xs s t f a b = absurd a
start_of_second (Some second) getter xs s t f a b =
    let same = same_entry xs f a.0 b.0 a.1 b.1 in
    omega (arith, a.2.offset_is, b.2.offset_is, ap (λ x. x.offset) same)

-- the sequence has two
has_two : (second : Option Second) (getter : ℕ → Type 0) (xs : List Relocation) (s f : ℕ)
    → IsSecond second getter xs s f
    → (of : Second) × (second ≡ Some of)
has_two None getter xs s f a = absurd a
has_two (Some second) getter xs s f a = (second, refl)

starts : (k o w : ℕ) → o ≡ k → w ≡ 4 → (o ≤ k) × (k < o + w)
starts k o w same four = (omega arith, omega arith)

module _ (code : Code) (form : Form) (f start : ℕ) where
  -- the parts of such a sequence
  spelled_of : (site : Site) (e : ℕ) → site.form ≡ form → IsSiteIn code e site
      → IsSpelled code.bytes.now code.relocations.now (row form).cells site.start
  spelled_of site e same is =
      let P : Form → Type 0 = λ g. IsSpelled code.bytes.now code.relocations.now (row g).cells site.start in
      subst P same is.spelled

  opens_of : (site : Site) (e : ℕ) → site.form ≡ form → (is : IsSiteIn code e site)
      → Opens (row form) site.start is.first.0
  opens_of site e same is =
      let P : Form → Type 0 = λ g. Opens (row g) site.start is.first.0 in
      subst P same is.first.2

  -- its first relocation stands in the code
  pub first_within : (h : IsSecondIn code form f) → h.1.0.start ≡ start
      → start + (row form).first_at < length code.bytes.now
  first_within h same =
      let spelled = spelled_of h.1.0 h.0 h.1.1 h.1.2 in
      omega (arith, spelled.inside, first_inside form)

  -- and covers its place
  pub first_covers : (h : IsSecondIn code form f) → h.1.0.start ≡ start
      → Covers h.1.2.first.0 (start + (row form).first_at)
  first_covers h same =
      let opens = opens_of h.1.0 h.0 h.1.1 h.1.2 in
      let two = has_two (row form).second (Names code.getters.now) code.relocations.now h.1.0.start f h.1.3 in
      starts (start + (row form).first_at) h.1.2.first.0.offset (field_width h.1.2.first.0.kind)
      (opens.offset_is ∙ ap (λ n. n + (row form).first_at) same)
      (ap field_width opens.kind_is ∙ first_has_field form two.0 two.1)

module _ (code : Code) (ready : IsReady code) (form : Form) (f start : ℕ)
    (second : IsSecond (row form).second (Names code.getters.now) code.relocations.now start f) where
  same_starts : (h : IsSecondIn code form f) → h.1.0.start ≡ start
  same_starts h = start_of_second (row form).second
      (Names code.getters.now) code.relocations.now h.1.0.start start f h.1.3 second

  -- where no relocation covers the first one's place, there is no such sequence
  pub not_covered : ((e : ℕ) → ReachesAt OfField code.relocations.now (start + (row form).first_at) e → ⊥)
      → IsSecondIn code form f → ⊥
  not_covered none h =
      bare_of code.relocations.now (start + (row form).first_at) none
      h.0 h.1.2.first.0 h.1.2.first.1 (first_covers code form f start h (same_starts h))

  -- the one that covers it is the first one
  is_first : (e : ℕ) → ReachesAt OfField code.relocations.now (start + (row form).first_at) e
      → (h : IsSecondIn code form f) → h.0 ≡ e
  is_first e some h =
      only_field code.relocations.now (start + (row form).first_at) e h.0 h.1.2.first.0 ready.apart some h.1.2.first.1
      (first_covers code form f start h (same_starts h))

  pub no_sequence : (e : ℕ) → ReachesAt OfField code.relocations.now (start + (row form).first_at) e → IsNoFirst code e
      → IsSecondIn code form f → ⊥
  no_sequence e some none h =
      let P : ℕ → Type 0 = λ i. IsSiteIn code i h.1.0 in
      none h.1.0 (subst P (is_first e some h) h.1.2)

  pub a_sequence : (e : ℕ) (site : Site) (r : Bool)
      → ReachesAt OfField code.relocations.now (start + (row form).first_at) e
      → IsFound code site.form e site → (IsTrue r ↔ ((site.form ≡ form) × (site.start ≡ start)))
      → IsTrue r ↔ IsSecondIn code form f
  a_sequence e site r some found is = (
    λ t.
        let here = is.0 t in
        let S : ℕ → Type 0 = λ n. IsSecond (row form).second (Names code.getters.now) code.relocations.now n f in
        (e, (site, here.0, found.2, subst S (sym here.1) second)),
    λ h.
        let P : ℕ → Type 0 = λ i. IsSiteIn code i h.1.0 in
        let other = subst P (is_first e some h) h.1.2 in
        let at = same_start code.bytes.now code.relocations.now (Names code.getters.now) e site h.1.0 found.2 other in
        let S : ℕ → Type 0 = λ n. IsSpelled code.bytes.now code.relocations.now (row h.1.0.form).cells n in
        is.1 (
          one_form site.form h.1.0.form code.bytes.now code.relocations.now site.start found.2.spelled
              (subst S (sym at) other.spelled) ∙ h.1.1,
          at ∙ same_starts h,
        ),
  )

-- of four forms
pub of_four : (code : Code) (f : ℕ) → (IsSecondIn code Gd f → ⊥) → (IsSecondIn code Ld f → ⊥)
    → (IsSecondIn code GdInd f → ⊥) → (form : Form)
    → IsSecondIn code form f → IsSecondIn code LdInd f
unfolding row
of_four code f a b c Gd h = absurd (a h)
of_four code f a b c Ld h = absurd (b h)
of_four code f a b c GdInd h = absurd (c h)
of_four code f a b c LdInd h = h
of_four code f a b c form h = absurd h.1.3

-- a relocation that names `__tls_get_addr` is stray where it is the second of none
pub stray_is : (code : Code) (f : ℕ) (x : Relocation) (r : Bool) → IsEntry code.relocations.now f x → x.kind ≢ Nothing
    → Names code.getters.now x.symbol
    → (IsTrue r ↔ ((form : Form) × IsSecondIn code form f))
    → IsTrue (not r) ↔ IsStray code.bytes.now code.relocations.now (Names code.getters.now) f
stray_is code f x true entry some names is = (
  λ t. absurd (cc),
  λ h.
      let second = is.0 (search rules) in
      let g = second.0 in
      let e = second.1.0 in
      let site = second.1.1.0 in
      let S : Form → Type 0 =
      λ form. IsSecond (row form).second (Names code.getters.now) code.relocations.now site.start f in
      absurd (h.4 e site second.1.1.2 (subst S (sym second.1.1.1) second.1.1.3)),
)
stray_is code f x false entry some names is = (
  λ t. (
    x,
    entry,
    some,
    names,
    λ e site s second. let wrong : IsTrue false = is.1 (site.form, (e, (site, refl, s, second))) in absurd (cc),
  ),
  λ h. (search rules),
)

pub none_where_false : (r : Bool) (P : Type 0) → (IsTrue r ↔ P) → r ≡ false → P → ⊥
none_where_false true P is wrong p = absurd (cc)
none_where_false false P is same p = let wrong : IsTrue false = is.1 p in absurd (cc)
