-- A link's letters give the numbers that its field is made of.
use Rattle.std.proofs.Common.{◌≡◌, ◌⊎◌, ◌↔◌, inl, inr, ℕ, ℤ, Bool, true, false, List, Option, Some, None, refl, sym}
use Rattle.std.proofs.Common.{ap, subst, ◌∙◌}
use Rattle.std.specs.Prelude.{◌&&◌, if◌then◌else◌}
use Rattle.std.specs.List.{Any, list_any}
use Rattle.std.proofs.lemmas.List.Folds.{Any-from_list_any, list_any-from_Any}
use Rattle.elf_object.specs.declared.relocation.Relocation.{Relocation}
use Rattle.elf_records.specs.declared.relocation.RelocationKind.{RelocationKind}
use Rattle.elf_records.specs.declared.relocation.RelocationKind.TheVariants.{Nothing, Absolute64, Pc32, Plt32}
use Rattle.elf_records.specs.declared.relocation.RelocationKind.TheVariants.{GotPcRel, Absolute32, Absolute32Signed}
use Rattle.elf_records.specs.declared.relocation.RelocationKind.TheVariants.{TlsGd, TlsLd, DtpOff32, GotTpOff}
use Rattle.elf_records.specs.declared.relocation.RelocationKind.TheVariants.{TpOff32, GotPc32TlsDesc, TlsDescCall}
use Rattle.elf_records.specs.declared.relocation.RelocationKind.TheVariants.{GotPcRelX, RexGotPcRelX}
use Rattle.elf_records.specs.Relocations.{relocation_kind}
use Rattle.elf_records.specs.RelocationRows.{is_offset}
use Rattle.link_faults.specs.declared.binding.Binding.{Binding}
use Rattle.link_faults.specs.declared.binding.Binding.TheVariants.{Here, Runtime}
use Rattle.link_faults.specs.declared.image_kind.ImageKind.TheVariants.{Exe, Pie}
use Rattle.link_faults.specs.declared.image_kind.ImageKind.{ImageKind}
use Rattle.link_faults.specs.ImageKinds.{is_module}
use Rattle.link_needs.specs.Linking.{Linking, binding, block_offset, place}
use Rattle.link_needs.specs.Values.{field, own_number, other_number, is_local, is_rewriting, counts_from_thread_pointer}
use Rattle.sequence_forms.specs.declared.forms.Form.{Form}
use Rattle.sequence_forms.specs.declared.forms.Form.TheVariants.{Ld, LdInd}
use Rattle.sequence_forms.specs.declared.places.Site.{Site}
use Rattle.tls_relocs.specs.declared.fields.Field.{Field}
use Rattle.field_laws.specs.Laws.{letters_of}
use Rattle.field_laws.specs.Links.{AreLetters, HasLetters, IsLocalDynamic, LosesLocalDynamic, TakesAddress, TakesOffset}
use Rattle.field_laws.specs.Table.{Letters, IsAnswer, row_numbered}
use Rattle.field_laws.proofs.Rows.{number_of, is_number, stored_right}

-- ** local dynamic code

local_form : (form : Form) → is_local form ≡ true → (form ≡ Ld) ⊎ (form ≡ LdInd)
local_form Ld is = inl refl
local_form LdInd is = inr refl
local_form form is = absurd cc

form_local : (form : Form) → (form ≡ Ld) ⊎ (form ≡ LdInd) → is_local form ≡ true
form_local form (inl is) = ap is_local is
form_local form (inr is) = ap is_local is

is_program : (kind : ImageKind) → is_module kind ≡ false → (kind ≡ Exe) ⊎ (kind ≡ Pie)
is_program Exe is = inl refl
is_program Pie is = inr refl
is_program kind is = absurd cc

program_is : (kind : ImageKind) → (kind ≡ Exe) ⊎ (kind ≡ Pie) → is_module kind ≡ false
program_is kind (inl is) = ap is_module is
program_is kind (inr is) = ap is_module is

any_more : {X : Type 0} (P Q : X → Type 0) → ((x : X) → P x → Q x) → (xs : List X) → Any P xs → Any Q xs
any_more P Q more xs (k, x, inside, here, holds) = (k, x, inside, here, more x holds)

both : (a b : Bool) → (a && b) ≡ true → (a ≡ true) × (b ≡ true)
both true b is = (refl, is)
both false b is = absurd cc

where_not : (a b : Bool) → (if a then false else b) ≡ true → (a ≡ false) × (b ≡ true)
where_not false b is = (refl, is)
where_not true b is = absurd cc

are_local : (own : List Site) → list_any (λ (site : Site). is_local site.form) own ≡ true → Any IsLocalDynamic own
are_local own is =
    any_more (λ (site : Site). is_local site.form ≡ true) IsLocalDynamic (λ site. local_form site.form) own
    (Any-from_list_any (λ (site : Site). is_local site.form) own is)

local_are : (own : List Site) → Any IsLocalDynamic own → list_any (λ (site : Site). is_local site.form) own ≡ true
local_are own some = list_any-from_Any (λ (site : Site). is_local site.form) own
    (any_more IsLocalDynamic (λ (site : Site). is_local site.form ≡ true) (λ site. form_local site.form) own some)

pub loses : (l : Linking) → counts_from_thread_pointer l ≡ true → LosesLocalDynamic l
unfolding counts_from_thread_pointer
loses l is =
    let parts = both (is_rewriting l) (list_any (λ own. list_any
    (λ (site : Site). is_local site.form) own) l.sites) is in
    let rewrites = where_not (is_module l.kind) l.relax parts.0 in
    record {
      program = is_program l.kind rewrites.0;
      relax = rewrites.1;
      some = any_more (λ own. list_any (λ (site : Site). is_local site.form) own ≡ true) (λ own. Any IsLocalDynamic own)
          are_local l.sites (Any-from_list_any (λ own. list_any
          (λ (site : Site). is_local site.form) own) l.sites parts.1);
    }

pub counts : (l : Linking) → LosesLocalDynamic l → counts_from_thread_pointer l ≡ true
unfolding counts_from_thread_pointer
counts l lost =
    let program = program_is l.kind lost.program in
    let relax = lost.relax in
    let some = list_any-from_Any (λ own. list_any (λ (site : Site). is_local site.form) own) l.sites
    (any_more (λ own. Any IsLocalDynamic own) (λ own. list_any (λ (site : Site). is_local site.form) own ≡ true)
    local_are l.sites lost.some) in
    rw (program, relax, some) refl

-- ** the numbers

-- the letters that the field of a type is made of
abbrev given : Linking → ℕ → ℕ → Relocation → RelocationKind → Letters
given l o t r kind =
    letters_of (own_number l kind (binding l o r)) r.addend (place l o t r.offset) (other_number l o r kind)

module _ (l : Linking) (o t : ℕ) (r : Relocation) (letters : Letters) (are : AreLetters l o t r letters) where
  address_is : (number : ℕ) (kind : RelocationKind) → TakesAddress number → is_offset kind ≡ false
      → (b : Option Binding) → binding l o r ≡ b → HasLetters number b → own_number l kind b ≡ letters.S
  address_is number kind takes is (Some (Here found)) bound has = rw (is, (are.own found bound).0) refl
  address_is number kind takes is (Some Runtime) bound has = sym (are.runtime bound)
  address_is number kind takes is b bound has = absurd (has (inl takes))

  offset_is : (number : ℕ) (kind : RelocationKind) → TakesOffset number → is_offset kind ≡ true
      → (b : Option Binding) → binding l o r ≡ b → HasLetters number b → own_number l kind b ≡ letters.O
  offset_is number kind takes is (Some (Here found)) bound has = rw (is, (are.own found bound).1) refl
  offset_is number kind takes is (Some Runtime) bound has = absurd (has takes)
  offset_is number kind takes is b bound has = absurd (has (inr takes))

  moved_by : (counting : Bool) → counts_from_thread_pointer l ≡ counting
      → (if counting then block_offset l else 0) ≡ letters.D
  moved_by true is = sym (are.moved (loses l is))
  moved_by false is = sym (are.unmoved (λ lost. let counting = counts l lost in cc))

  same : (kind : RelocationKind) → HasLetters (number_of kind) (binding l o r) → (x : ℤ)
      → row_numbered (number_of kind) (given l o t r kind) x ≡ row_numbered (number_of kind) letters x
  same Nothing has x = refl
  same Absolute64 has x = rw (sym (address_is 1 Absolute64 (inl refl) refl (binding l o r) refl has), are.addend) refl
  same Pc32 has x =
      rw (sym (address_is 2 Pc32 (inr (inl refl)) refl (binding l o r) refl has), are.addend, are.field) refl
  same Plt32 has x =
      rw (sym (address_is 4 Plt32 (inr (inr (inl refl))) refl (binding l o r) refl has), are.addend, are.field) refl
  same GotPcRel has x = rw (are.entry, are.addend, are.field) refl
  same Absolute32 has x =
      rw (sym (address_is 10 Absolute32 (inr (inr (inr (inl refl)))) refl (binding l o r) refl has), are.addend) refl
  same Absolute32Signed has x = rw (
    sym (address_is 11 Absolute32Signed (inr (inr (inr (inr refl)))) refl
        (binding l o r) refl has),
    are.addend,
  ) refl
  same TlsGd has x = rw (are.entry, are.addend, are.field) refl
  same TlsLd has x = rw (are.entry, are.addend, are.field) refl
  same DtpOff32 has x =
      rw (
        sym (offset_is 21 DtpOff32 (inl refl) refl (binding l o r) refl has),
        sym
            (moved_by (counts_from_thread_pointer l) refl),
        are.addend,
      ) refl
  same GotTpOff has x = rw (are.entry, are.addend, are.field) refl
  same TpOff32 has x =
      rw (sym (offset_is 23 TpOff32 (inr refl) refl (binding l o r) refl has), are.block, are.addend) refl
  same GotPc32TlsDesc has x = rw (are.entry, are.addend, are.field) refl
  same TlsDescCall has x = refl
  same GotPcRelX has x = rw (are.entry, are.addend, are.field) refl
  same RexGotPcRelX has x = rw (are.entry, are.addend, are.field) refl

-- ** an answer for one's letters is one for the other's

other_letters : (number : ℕ) (given letters : Letters)
    → ((x : ℤ) → row_numbered number given x ≡ row_numbered number letters x)
    → (answer : Option Field) → IsAnswer number given answer → IsAnswer number letters answer
other_letters number given letters same (Some field) stored = record {
  value = stored.value;
  row = stored.row;
  is_row = sym (same stored.value) ∙ stored.is_row;
  solved = stored.solved;
  has = stored.has;
}
other_letters number given letters same None none = λ x row is solves. none x row (same x ∙ is) solves

pub link_stores : (l : Linking) (o t : ℕ) (r : Relocation) (number : ℕ) (letters : Letters) (answer : Option Field)
    → relocation_kind number ≡ Some r.kind → AreLetters l o t r letters → HasLetters number (binding l o r)
    → (field l o t r ≡ answer) ↔ IsAnswer number letters answer
unfolding field
link_stores l o t r number letters answer is are has =
    let numbered = is_number number r.kind is in
    let here = subst (λ (n : ℕ). HasLetters n (binding l o r)) numbered has in
    let alike : (x : ℤ) → row_numbered number (given l o t r r.kind) x ≡ row_numbered number letters x =
    subst (λ (n : ℕ). (x : ℤ) → row_numbered n (given l o t r r.kind) x ≡ row_numbered n letters x)
    (sym numbered) (same l o t r letters are r.kind here) in
    let right = stored_right number r.kind is (own_number l r.kind (binding l o r)) r.addend (place l o t r.offset)
    (other_number l o r r.kind) answer in (
      λ stored. other_letters number (given l o t r r.kind) letters alike answer (right.0 stored),
      λ found. right.1 (other_letters number letters (given l o t r r.kind) (λ x. sym (alike x)) answer found),
    )
