-- Undefined stands at the relocations that are bound to nothing.
use Rattle.std.proofs.Common.{◌≡◌, ◌≢◌, ◌<◌, ◌==◌, ℕ, true, false, List, [], Option, Some, None, inl, inr, refl, sym}
use Rattle.std.proofs.Common.{subst, arith}
use Rattle.std.specs.Prelude.{map, is_none, slice_get, IsSomeAnd}
use Rattle.std.proofs.lemmas.Option.{slice_get_past}
use Rattle.std.proofs.lemmas.Bool.{cases_lt, ne_eqb}
use Rattle.elf_records.specs.declared.relocation.RelocationKind.{RelocationKind}
use Rattle.elf_records.specs.declared.relocation.RelocationKind.TheVariants.{Nothing}
use Rattle.elf_records.specs.RelocationRows.{names_symbol}
use Rattle.elf_records.specs.Relocations.{relocation_kind}
use Rattle.elf_object.specs.declared.relocation.Relocation.{Relocation}
use Rattle.elf_object.specs.Lent.{relocation_target, relocations}
use Rattle.link_faults.specs.declared.binding.Binding.{Binding}
use Rattle.link_faults.specs.declared.fault.LinkFaultKind.TheVariants.{Undefined}
use Rattle.object_faults.specs.Firsts.{nonzero}
use Rattle.tls_symbols.specs.Bindings.{binding_of, exported_names}
use Rattle.tls_symbols.specs.Faults.{held_in, held_for, is_faulty, Stands}
use Rattle.tls_symbols.proofs.ExportLaw.{both}
use Rattle.binding_laws.specs.Bound.{IsBound, bytes_of}
use Rattle.binding_laws.specs.Laws.{IsUnbound, UnboundIsUndefined, asked}
use Rattle.binding_laws.proofs.Bindings.{bindings_only}

-- ** a relocation

named_is : (kind : RelocationKind) → names_symbol kind ≡ true → relocation_kind 0 ≢ Some kind
named_is Nothing is = absurd cc
named_is kind is = λ h. cc

is_named : (kind : RelocationKind) → relocation_kind 0 ≢ Some kind → names_symbol kind ≡ true
is_named Nothing is = absurd (is refl)
is_named kind is = refl

none_is : (bound : Option Binding) → is_none bound ≡ true → bound ≡ None
none_is None is = refl
none_is (Some b) is = absurd cc

module _ (objects : List (List ℕ)) (images : List (List (List ℕ))) (o : ℕ) where
  faulty_is : (r : Relocation) → is_faulty Undefined objects (map exported_names images) o r ≡ true
      → (relocation_kind 0 ≢ Some r.kind) × ((bound : Binding) → IsBound (asked objects images o r) bound → ⊥)
  faulty_is r is =
      let parts = both (names_symbol r.kind) (is_none (binding_of objects (map exported_names images) o r)) is in (
        named_is r.kind parts.0,
        (bindings_only (asked objects images o r) None).0
            (none_is (binding_of objects (map exported_names images) o r) parts.1),
      )

  is_faulty_there : (r : Relocation) → relocation_kind 0 ≢ Some r.kind
      → ((bound : Binding) → IsBound (asked objects images o r) bound → ⊥)
      → is_faulty Undefined objects (map exported_names images) o r ≡ true
  is_faulty_there r named unbound =
      let name = is_named r.kind named in
      let none = (bindings_only (asked objects images o r) None).1 unbound in
      rw (name, none) refl

-- ** where it stands

-- entry e of the relocations of section t, which is kept, has the property
record Held (P : Relocation → Type 0) (b : List ℕ) (t e : ℕ) : Type 0 where
  kept : 0 < t
  relocation : Relocation
  listed : slice_get (relocations b t) e ≡ Some relocation
  holds : P relocation

some_at : (P : Relocation → Type 0) (b : List ℕ) (t e : ℕ) → 0 < t → IsSomeAnd (slice_get (relocations b t) e) P
    → Held P b t e
some_at P b t e kept some = by_entry (slice_get (relocations b t) e) refl some
  where
    by_entry : (entry : Option Relocation) → slice_get (relocations b t) e ≡ entry → IsSomeAnd entry P → Held P b t e
    by_entry None is holds = elim holds [ ]
    by_entry (Some r) is holds = record { kept = kept; relocation = r; listed = is; holds = holds }

-- no relocations
abbrev the_empty : List Relocation
the_empty = []

nonzero_some : (n : ℕ) → 0 < n → nonzero n ≡ Some n
nonzero_some n is = let other : (n == 0) ≡ false = ne_eqb n 0 (λ same. omega arith) in rw other refl

held_is : (P : Relocation → Type 0) (b : List ℕ) (t e : ℕ) → IsSomeAnd (slice_get (held_for b (nonzero t)) e) P
    → Held P b t e
held_is P b t e some = elim (cases_lt 0 t) [
  | inl above ↦ some_at P b t e above
      (subst (λ (s : Option ℕ). IsSomeAnd (slice_get (held_for b s) e) P) (nonzero_some t above) some)
  | inr none ↦
      let zero : t ≡ 0 = omega (arith, none) in
      let here : IsSomeAnd (slice_get the_empty e) P =
      subst (λ (t : ℕ). IsSomeAnd (slice_get (held_for b (nonzero t)) e) P) zero some in
      let past : slice_get the_empty e ≡ None = slice_get_past the_empty e (omega arith) in
      absurd (subst (λ (r : Option Relocation). IsSomeAnd r P) past here)
]

is_held : (P : Relocation → Type 0) (b : List ℕ) (t e : ℕ) → Held P b t e
    → IsSomeAnd (slice_get (held_for b (nonzero t)) e) P
is_held P b t e held =
    subst (λ (s : Option ℕ). IsSomeAnd (slice_get (held_for b s) e) P) (sym (nonzero_some t held.kept))
    (subst (λ (s : Option Relocation). IsSomeAnd s P) (sym held.listed) held.holds)

pub unbound_undefined : UnboundIsUndefined
unfolding Stands held_in
unbound_undefined objects images o s e = (to, from)
  where
    to : Stands Undefined objects (map exported_names images) o s e → IsUnbound objects images o s e
    to stands =
        let held = held_is (λ r. is_faulty Undefined objects (map exported_names images) o r ≡ true)
        (bytes_of objects o)
        (relocation_target (bytes_of objects o) s) e stands.3 in
        let faulty = faulty_is objects images o held.relocation held.holds in
        record {
          object = stands.0;
          reserved = stands.1;
          section = stands.2;
          kept = held.kept;
          relocation = held.relocation;
          listed = held.listed;
          named = faulty.0;
          unbound = faulty.1;
        }

    from : IsUnbound objects images o s e → Stands Undefined objects (map exported_names images) o s e
    from there = (
      there.object,
      there.reserved,
      there.section,
      is_held (λ r. is_faulty Undefined objects (map exported_names images) o r ≡ true) (bytes_of objects o)
          (relocation_target (bytes_of objects o) s) e (record {
            kept = there.kept;
            relocation = there.relocation;
            listed = there.listed;
            holds = is_faulty_there objects images o there.relocation there.named there.unbound;
          }),
    )
