-- Each relocation has letters, and where names have no fault they are those that its type takes.
use Rattle.std.proofs.Common.{◌≡◌, ◌<◌, ◌&&◌, ◌∙◌, ◌==◌, ℕ, zero, suc, Bool, true, false, List, Option, Some, None, inl}
use Rattle.std.proofs.Common.{inr, refl, sym, ap, subst, length, arith}
use Rattle.std.specs.Prelude.{is_none, slice_get, if◌then◌else◌, IsSomeAnd}
use Rattle.std.specs.List.{Contains}
use Rattle.std.specs.Str.{bytes_eq}
use Rattle.std.proofs.lemmas.Bool.{ne_eqb}
use Rattle.std.proofs.lemmas.Option.{slice_get-get_or}
use Rattle.elf_object.specs.declared.relocation.Relocation.{Relocation}
use Rattle.elf_object.specs.Laws.{table_of_kept}
use Rattle.elf_object.specs.Lent.{kept_relocation_table, relocation_target, relocations, relocations_in, symbol_binding}
use Rattle.elf_object.specs.Lent.{symbol_name}
use Rattle.elf_object.specs.Object.{section_count}
use Rattle.elf_records.specs.declared.relocation.RelocationKind.{RelocationKind}
use Rattle.elf_records.specs.declared.relocation.RelocationKind.TheVariants.{Absolute64, Pc32, Plt32, Absolute32}
use Rattle.elf_records.specs.declared.relocation.RelocationKind.TheVariants.{Absolute32Signed, DtpOff32, TpOff32}
use Rattle.elf_records.specs.declared.symbol.SymbolBinding.TheVariants.{Local}
use Rattle.elf_records.specs.RelocationRows.{is_tls_kind, may_import, names_symbol}
use Rattle.elf_records.specs.Relocations.{relocation_kind}
use Rattle.elf_records.specs.Symbols.{get_address}
use Rattle.link_faults.specs.declared.binding.Binding.{Binding}
use Rattle.link_faults.specs.declared.binding.Binding.TheVariants.{Here, Runtime, Startup}
use Rattle.link_faults.specs.declared.fault.LinkFaultKind.TheVariants.{NotTls, Undefined}
use Rattle.link_faults.specs.declared.symbol_ref.SymbolRef.{SymbolRef}
use Rattle.link_needs.specs.Linking.{Linking, address, binding, block_offset, object, offset, place}
use Rattle.link_needs.specs.Needs.{need_address, relocation_need, stub_start}
use Rattle.link_needs.specs.Values.{counts_from_thread_pointer}
use Rattle.sequence_match.proofs.Sections.{target_of_table}
use Rattle.tls_symbols.specs.Bindings.{bound_to, here_or, object_at}
use Rattle.tls_symbols.specs.Definitions.{definition_of, same_binding}
use Rattle.tls_symbols.specs.Faults.{AreResolved, Stands, differ, held_in, is_faulty, is_mismatched}
use Rattle.field_laws.specs.Links.{HasLetters, LettersAreThere, LosesLocalDynamic, ResolvedLinksStoreFields}
use Rattle.field_laws.specs.Links.{TakesAddress, TakesOffset}
use Rattle.field_laws.specs.Table.{Letters}
use Rattle.field_laws.proofs.Links.{counts, link_stores, loses}

-- ** the letters

abbrev address_for : Linking → Option Binding → ℕ
address_for l (Some (Here found)) = address l found
address_for l (Some Runtime) = stub_start l
address_for l bound = 0

abbrev offset_for : Linking → Option Binding → ℕ
offset_for l (Some (Here found)) = offset l found
offset_for l bound = 0

abbrev moved_for : Linking → Bool → ℕ
moved_for l true = block_offset l
moved_for l false = 0

abbrev letters_for : Linking → ℕ → ℕ → Relocation → Letters
letters_for l o t r = record {
  S = address_for l (binding l o r);
  A = r.addend;
  P = place l o t r.offset;
  G = need_address l (relocation_need l o r);
  O = offset_for l (binding l o r);
  B = block_offset l;
  D = moved_for l (counts_from_thread_pointer l);
}

not_moved : (l : Linking) (counting : Bool) → counts_from_thread_pointer l ≡ counting → (LosesLocalDynamic l → ⊥)
    → moved_for l counting ≡ 0
not_moved l true is none = absurd (none (loses l is))
not_moved l false is none = refl

pub letters_there : LettersAreThere
letters_there l o t r = (
  letters_for l o t r,
  record {
    addend = refl;
    field = refl;
    entry = refl;
    own = λ found is. (ap (address_for l) is, ap (offset_for l) is);
    runtime = λ is. ap (address_for l) is;
    block = refl;
    moved = λ lost. ap (moved_for l) (counts l lost);
    unmoved = λ none. not_moved l (counts_from_thread_pointer l) refl none;
  },
)

-- ** the types that take S, and those that take O

record IsOfAddress (kind : RelocationKind) : Type 0 where
  names : names_symbol kind ≡ true
  other : is_tls_kind kind ≡ false

record IsOfOffset (kind : RelocationKind) : Type 0 where
  names : names_symbol kind ≡ true
  tls : is_tls_kind kind ≡ true
  own : may_import kind ≡ false

as_address : (kind same : RelocationKind) → IsOfAddress same → Some same ≡ Some kind → IsOfAddress kind
as_address kind same is alike = subst IsOfAddress (let equal : same ≡ kind = cc in equal) is

as_offset : (kind same : RelocationKind) → IsOfOffset same → Some same ≡ Some kind → IsOfOffset kind
as_offset kind same is alike = subst IsOfOffset (let equal : same ≡ kind = cc in equal) is

module _ (number : ℕ) (kind : RelocationKind) (is : relocation_kind number ≡ Some kind) where
  numbered : (other : ℕ) → number ≡ other → relocation_kind other ≡ Some kind
  numbered other same = subst (λ (n : ℕ). relocation_kind n ≡ Some kind) same is

  of_address : TakesAddress number → IsOfAddress kind
  of_address (inl at) = as_address kind Absolute64 (record { names = refl; other = refl }) (numbered 1 at)
  of_address (inr (inl at)) = as_address kind Pc32 (record { names = refl; other = refl }) (numbered 2 at)
  of_address (inr (inr (inl at))) = as_address kind Plt32 (record { names = refl; other = refl }) (numbered 4 at)
  of_address (inr (inr (inr (inl at)))) =
      as_address kind Absolute32 (record { names = refl; other = refl }) (numbered 10 at)
  of_address (inr (inr (inr (inr at)))) =
      as_address kind Absolute32Signed (record { names = refl; other = refl }) (numbered 11 at)

  of_offset : TakesOffset number → IsOfOffset kind
  of_offset (inl at) = as_offset kind DtpOff32 (record { names = refl; tls = refl; own = refl }) (numbered 21 at)
  of_offset (inr at) = as_offset kind TpOff32 (record { names = refl; tls = refl; own = refl }) (numbered 23 at)

-- a name that is no other image's is bound to no other image
never_there : (local getter : Bool) (found : Option SymbolRef) (own : SymbolRef) (k : ℕ)
    → (if local then Some (Here own) else if getter then Some Runtime else here_or found None) ≡ Some (Startup k) → ⊥
never_there true getter found own k is = cc
never_there false true found own k is = cc
never_there false false (Some x) own k is = cc
never_there false false None own k is = cc

own_only : (objects : List (List ℕ)) (startup : List (List (List ℕ))) (o e k : ℕ)
    → bound_to objects startup o e false ≡ Some (Startup k) → ⊥
unfolding bound_to
own_only objects startup o e k is =
    never_there (same_binding Local (symbol_binding (object_at objects o) e))
    (bytes_eq (symbol_name (object_at objects o) e) get_address)
    (definition_of objects (symbol_name (object_at objects o) e)) (record { object = o; symbol = e }) k is

-- ** where names have no fault

not_zero : (n : ℕ) → 0 < n → (n == 0) ≡ false
not_zero n is = ne_eqb n 0 (λ same. omega arith)

has_table : (b : List ℕ) (r e : ℕ) (x : Relocation) → slice_get (relocations_in b r) e ≡ Some x → 0 < r
unfolding relocations_in
has_table b zero e x is = absurd cc
has_table b (suc r) e x is = omega arith

held_of : (b : List ℕ) (t r : ℕ) → 0 < t → relocation_target b r ≡ t → held_in b r ≡ relocations b t
unfolding held_in
held_of b t r above target = rw (target, not_zero t above) refl

module _ (l : Linking) (o t : ℕ) (r : Relocation) (resolved : AreResolved l.objects l.startup)
    (there : o < length l.objects) (has : Contains (relocations (object l o) t) r) where
  abbrev own : List ℕ
  own = object l o

  abbrev holder : ℕ
  holder = kept_relocation_table own t

  entry : slice_get (relocations own t) has.0 ≡ Some r
  entry = slice_get-get_or (relocations own t) has.0 r has.1 ∙ ap Some has.2

  above : 0 < holder
  above = has_table own holder has.0 r entry

  below : holder < section_count own
  below = (table_of_kept own t above).1.0.1

  listed : slice_get (held_in own holder) has.0 ≡ Some r
  listed = ap (λ xs. slice_get xs has.0)
      (held_of own t holder (table_of_kept own t above).0.0.0 (target_of_table own t above)) ∙ entry

  charged : (test : Relocation → Bool) → test r ≡ true
      → IsSomeAnd (slice_get (held_in own holder) has.0) (λ x. test x ≡ true)
  charged test is = subst (λ (x : Option Relocation). IsSomeAnd x (λ x. test x ≡ true)) (sym listed) is

  not_undefined : is_faulty Undefined l.objects l.startup o r ≡ true → ⊥
  unfolding Stands
  not_undefined wrong = resolved Undefined (omega arith) o holder has.0
      (there, above, below, charged (is_faulty Undefined l.objects l.startup o) wrong)

  not_mismatched : is_faulty NotTls l.objects l.startup o r ≡ true → ⊥
  unfolding Stands
  not_mismatched wrong = resolved NotTls (omega arith) o holder has.0
      (there, above, below, charged (is_faulty NotTls l.objects l.startup o) wrong)

  mismatched : names_symbol r.kind ≡ true → (b : Option Binding) → binding l o r ≡ b
      → is_mismatched l.objects r.kind b ≡ true → ⊥
  mismatched names b bound wrong =
      not_mismatched (ap (λ t. t && is_mismatched l.objects r.kind (binding l o r)) names
      ∙ ap (is_mismatched l.objects r.kind) bound ∙ wrong)

  undefined : names_symbol r.kind ≡ true → binding l o r ≡ None → ⊥
  undefined names bound = not_undefined (ap (λ t. t && is_none (binding l o r)) names ∙ ap is_none bound)

  elsewhere : may_import r.kind ≡ false → (k : ℕ) → binding l o r ≡ Some (Startup k) → ⊥
  elsewhere own k bound = own_only l.objects l.startup o r.symbol k
      (subst (λ (may : Bool). bound_to l.objects l.startup o r.symbol may ≡ Some (Startup k)) own bound)

  have : (number : ℕ) → relocation_kind number ≡ Some r.kind → (b : Option Binding) → binding l o r ≡ b
      → HasLetters number b
  have number is (Some (Here found)) bound = tt
  have number is (Some Runtime) bound = λ offset.
      let kind = of_offset number r.kind is offset in
      mismatched kind.names (Some Runtime) bound (ap (λ t. differ t false) kind.tls)
  have number is (Some (Startup k)) bound = λ takes. elim takes [
    | inl address ↦
        let kind = of_address number r.kind is address in
        mismatched kind.names (Some (Startup k)) bound (ap (λ t. differ t true) kind.other)
    | inr offset ↦ elsewhere (of_offset number r.kind is offset).own k bound
  ]
  have number is None bound = λ takes. elim takes [
    | inl address ↦ undefined (of_address number r.kind is address).names bound
    | inr offset ↦ undefined (of_offset number r.kind is offset).names bound
  ]

pub resolved_stores : ResolvedLinksStoreFields
resolved_stores l o t r number letters answer resolved there has is are =
    link_stores l o t r number letters answer is are (have l o t r resolved there has number is (binding l o r) refl)
