-- Which forms a type of relocation opens, and that it opens one sequence at most.
use Rattle.std.proofs.Common.{◌≡◌, ◌≢◌, ◌+◌, ◌⊎◌, ◌∙◌, ℕ, List, Option, Some, None, length, refl, subst, sym, ap, inl}
use Rattle.std.proofs.Common.{inr, arith}
use Rattle.std.specs.Prelude.{MatchOption}
use Rattle.elf_records.specs.declared.relocation.RelocationKind.{RelocationKind}
use Rattle.elf_records.specs.declared.relocation.RelocationKind.TheVariants.{TlsGd, TlsLd, GotTpOff, GotPc32TlsDesc}
use Rattle.elf_records.specs.declared.relocation.RelocationKind.TheVariants.{TlsDescCall}
use Rattle.elf_object.specs.declared.relocation.Relocation.{Relocation}
use Rattle.sequence_forms.specs.declared.forms.Form.{Form}
use Rattle.sequence_forms.specs.declared.forms.Form.TheVariants.{Gd, Ld, IeMov, IeAdd, GdInd, LdInd, DescLea, DescCall}
use Rattle.sequence_match.specs.declared.matching.Code.{Code}
use Rattle.sequence_forms.specs.declared.places.Site.{Site}
use Rattle.sequence_match.specs.Code.{HasNoSiteOf, IsAt, IsNoFirst, IsSiteIn}
use Rattle.sequence_forms.specs.Forms.{row, register}
use Rattle.sequence_match.specs.Sites.{IsEntry, Opens, IsSiteOf}
use Rattle.sequence_match.proofs.Entries.{same_entry}

-- the forms that a type opens
abbrev pub IsAmong : Form → RelocationKind → Type 0
IsAmong form TlsGd = (form ≡ Gd) ⊎ (form ≡ GdInd)
IsAmong form TlsLd = (form ≡ Ld) ⊎ (form ≡ LdInd)
IsAmong form GotTpOff = (form ≡ IeMov) ⊎ (form ≡ IeAdd)
IsAmong form GotPc32TlsDesc = form ≡ DescLea
IsAmong form TlsDescCall = form ≡ DescCall
IsAmong _ _ = ⊥

pub is_among : (form : Form) → IsAmong form (row form).first
unfolding row
is_among Gd = inl refl
is_among Ld = inl refl
is_among IeMov = inl refl
is_among IeAdd = inr refl
is_among GdInd = inr refl
is_among LdInd = inr refl
is_among DescLea = refl
is_among DescCall = refl

pub among_none : (form : Form) (kind : RelocationKind) → IsAmong form kind → kind ≢ TlsGd → kind ≢ TlsLd
    → kind ≢ GotTpOff
    → kind ≢ GotPc32TlsDesc → kind ≢ TlsDescCall → ⊥
among_none form TlsGd m a b c d e = a refl
among_none form TlsLd m a b c d e = b refl
among_none form GotTpOff m a b c d e = c refl
among_none form GotPc32TlsDesc m a b c d e = d refl
among_none form TlsDescCall m a b c d e = e refl
among_none form _ m a b c d e = m

-- the first relocation of a sequence is as its form says
pub opened : (code : List ℕ) (xs : List Relocation) (getter : ℕ → Type 0) (e : ℕ) (x : Relocation) (site : Site)
    → IsEntry xs e x
    → IsSiteOf code xs getter e site → Opens (row site.form) site.start x × (site.symbol ≡ x.symbol)
opened code xs getter e x site entry is =
    let P : Relocation → Type 0 = λ y. Opens (row site.form) site.start y × (site.symbol ≡ y.symbol) in
    subst P (same_entry xs e is.first.0 x is.first.1 entry) (is.first.2, is.first.3)

-- a sequence that relocation number e opens is of a form of its type
pub among_of : (code : List ℕ) (xs : List Relocation) (getter : ℕ → Type 0) (e : ℕ) (x : Relocation) (site : Site)
    → IsEntry xs e x
    → IsSiteOf code xs getter e site → IsAmong site.form x.kind
among_of code xs getter e x site entry is =
    let P : RelocationKind → Type 0 = λ kind. IsAmong site.form kind in
    subst P (sym (opened code xs getter e x site entry is).0.kind_is) (is_among site.form)

-- the sequence of a form that starts there, by its first relocation
abbrev pub site_from : Code → Form → Relocation → ℕ → Site
site_from code form x start = record {
  section = code.section;
  start = start;
  len = length (row form).cells;
  form = form;
  symbol = x.symbol;
  reg = register form code.bytes.now start;
}

module _ (code : Code) (e : ℕ) (x : Relocation) (entry : IsEntry code.relocations.now e x) where
  -- where two forms have none, and the type opens no other, there is none
  pub none_of_two : (f g : Form) (r : Option Form) (P : Form → Type 0)
      → ((site : Site) → IsAmong site.form x.kind → (site.form ≡ f) ⊎ (site.form ≡ g))
      → MatchOption r (HasNoSiteOf code f e × HasNoSiteOf code g e) P → MatchOption r (IsNoFirst code e) P
  none_of_two f g None P among h = λ site is.
      elim (among site (among_of code.bytes.now code.relocations.now _ e x site entry is)) [
        | inl same ↦ h.0 site same is
        | inr same ↦ h.1 site same is
      ]
  none_of_two f g (Some form) P among h = h

  pub none_of_one : (f : Form) (r : Option Form) (P : Form → Type 0)
      → ((site : Site) → IsAmong site.form x.kind → site.form ≡ f)
      → MatchOption r (HasNoSiteOf code f e) P → MatchOption r (IsNoFirst code e) P
  none_of_one f None P among h =
      λ site is. h site (among site (among_of code.bytes.now code.relocations.now _ e x site entry is)) is
  none_of_one f (Some form) P among h = h

  -- a sequence that starts so far before the relocation is opened by it
  pub site_is_at : (form : Form) (start : ℕ) → x.kind ≡ (row form).first → x.offset ≡ start + (row form).first_at
      → IsAt code form e x start
      → IsSiteIn code e (site_from code form x start)
  site_is_at form start kind offset at = record {
    spelled = at.spelled;
    first = (x, entry, record { kind_is = kind; offset_is = offset; addend_is = at.addend_is }, refl);
    earliest = λ f y less there same place. at.earliest f y less there (same ∙ sym kind) (place ∙ sym offset);
    second = at.second;
    len_is = refl;
    reg_is = refl;
  }

-- the offset of the first relocation, by its type
abbrev pub place_of : RelocationKind → ℕ
place_of TlsGd = 4
place_of TlsDescCall = 0
place_of _ = 3

pub first_at_is : (form : Form) → (row form).first_at ≡ place_of (row form).first
unfolding row
first_at_is Gd = refl
first_at_is form = refl

-- a sequence starts so far before its first relocation as the type says
pub start_of : (code : List ℕ) (xs : List Relocation) (getter : ℕ → Type 0) (e : ℕ) (x : Relocation) (site : Site)
    → IsEntry xs e x
    → IsSiteOf code xs getter e site → x.offset ≡ site.start + place_of x.kind
start_of code xs getter e x site entry is =
    let opens = (opened code xs getter e x site entry is).0 in
    opens.offset_is ∙ ap (λ n. site.start + n) (first_at_is site.form ∙ ap place_of (sym opens.kind_is))

-- two sequences with one first relocation start at one place
pub same_start : (code : List ℕ) (xs : List Relocation) (getter : ℕ → Type 0) (e : ℕ) (p q : Site)
    → IsSiteOf code xs getter e p
    → IsSiteOf code xs getter e q → p.start ≡ q.start
same_start code xs getter e p q a b =
    let x = a.first.0 in
    omega (arith, start_of code xs getter e x p a.first.1 a, start_of code xs getter e x q a.first.1 b)
