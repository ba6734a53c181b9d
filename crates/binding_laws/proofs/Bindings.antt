-- What a symbol is bound to is an answer, and there is one answer.
use Rattle.std.proofs.Common.{◌≡◌, ◌∙◌, ℕ, Bool, true, false, Option, Some, None, inl, inr, refl, sym, ap, subst}
use Rattle.std.specs.Prelude.{map, if◌then◌else◌}
use Rattle.std.specs.Str.{bytes_eq}
use Rattle.std.proofs.lemmas.Slice.Eq.{bytes_eq-Decides}
use Rattle.elf_records.specs.declared.relocation.RelocationKind.{RelocationKind}
use Rattle.elf_records.specs.declared.relocation.RelocationKind.TheVariants.{TlsGd, GotTpOff, GotPc32TlsDesc}
use Rattle.elf_records.specs.declared.relocation.RelocationKind.TheVariants.{TlsDescCall}
use Rattle.elf_records.specs.declared.symbol.SymbolBinding.{SymbolBinding}
use Rattle.elf_records.specs.declared.symbol.SymbolBinding.TheVariants.{Local, Global, Weak}
use Rattle.elf_records.specs.RelocationRows.{may_import}
use Rattle.elf_records.specs.Symbols.{get_address}
use Rattle.elf_object.specs.Lent.{symbol_binding}
use Rattle.link_faults.specs.declared.binding.Binding.{Binding}
use Rattle.link_faults.specs.declared.binding.Binding.TheVariants.{Here, Startup, Runtime}
use Rattle.link_faults.specs.declared.symbol_ref.SymbolRef.{SymbolRef}
use Rattle.tls_symbols.specs.Bindings.{bound_to, exported_names, first_export, here_or, name_bound, of_startup}
use Rattle.tls_symbols.specs.Definitions.{definition_of, same_binding}
use Rattle.binding_laws.specs.Bound.{Asked, IsAnswer, IsBound, IsDefinition, IsEmpty, IsImport, IsLocal, IsOrdinary}
use Rattle.binding_laws.specs.Bound.{MayBeElsewhere, bytes_of, name_of}
use Rattle.binding_laws.specs.Laws.{BindingsAreOnly}
use Rattle.binding_laws.proofs.Definition.{definition_is, definition_none, definition_only}
use Rattle.binding_laws.proofs.Imports.{import_is, import_none, import_only}

-- ** tests

is_local : (x : SymbolBinding) → same_binding Local x ≡ true → x ≡ Local
is_local Local is = refl
is_local x is = absurd cc

not_local : (x : SymbolBinding) → same_binding Local x ≡ false → x ≡ Local → ⊥
not_local Local is = absurd cc
not_local Global is = λ h. cc
not_local Weak is = λ h. cc

may_be : (kind : RelocationKind) → may_import kind ≡ true → MayBeElsewhere kind
may_be TlsGd is = inl refl
may_be GotTpOff is = inr (inl refl)
may_be GotPc32TlsDesc is = inr (inr (inl refl))
may_be TlsDescCall is = inr (inr (inr refl))
may_be kind is = absurd cc

be_may : (kind : RelocationKind) → MayBeElsewhere kind → may_import kind ≡ true
be_may kind (inl is) = let same : TlsGd ≡ kind = cc in sym (ap may_import same)
be_may kind (inr (inl is)) = let same : GotTpOff ≡ kind = cc in sym (ap may_import same)
be_may kind (inr (inr (inl is))) = let same : GotPc32TlsDesc ≡ kind = cc in sym (ap may_import same)
be_may kind (inr (inr (inr is))) = let same : TlsDescCall ≡ kind = cc in sym (ap may_import same)

impossible : true ≡ false → ⊥
impossible h = cc

-- ** it is an answer

module _ (q : Asked) where
  nothing : IsOrdinary q → IsEmpty (IsDefinition q.objects (name_of q))
      → ((k : ℕ) → MayBeElsewhere q.kind → IsImport q.images (name_of q) k → ⊥) → (bound : Binding)
      → IsBound q bound → ⊥
  nothing ordinary empty none Runtime bound = ordinary.1 bound.1
  nothing ordinary empty none (Here x) (inl bound) = ordinary.0 bound.0
  nothing ordinary empty none (Here x) (inr bound) = empty x bound.1
  nothing ordinary empty none (Startup k) bound = none k bound.2 bound.3

  startup : Option ℕ
  startup = first_export (name_of q) 1 (map exported_names q.images)

  of_first : (k : Option ℕ) → first_export (name_of q) 1 (map exported_names q.images) ≡ k → IsOrdinary q
      → IsEmpty (IsDefinition q.objects (name_of q)) → MayBeElsewhere q.kind → IsAnswer q (of_startup k)
  of_first (Some k) is ordinary empty may = (ordinary, empty, may, import_is q.images (name_of q) k is)
  of_first None is ordinary empty may =
      nothing ordinary empty (λ k may import. import_none q.images (name_of q) is k import)

  of_may : (t : Bool) → may_import q.kind ≡ t → IsOrdinary q → IsEmpty (IsDefinition q.objects (name_of q))
      → IsAnswer q (if t then of_startup (first_export (name_of q) 1 (map exported_names q.images)) else None)
  of_may true is ordinary empty =
      of_first (first_export (name_of q) 1 (map exported_names q.images)) refl ordinary empty (may_be q.kind is)
  of_may false is ordinary empty = nothing ordinary empty (λ k may import. impossible (sym (be_may q.kind may) ∙ is))

  of_definition : (found : Option SymbolRef) → definition_of q.objects (name_of q) ≡ found → IsOrdinary q
      → IsAnswer q (here_or found (if may_import q.kind then of_startup
      (first_export (name_of q) 1 (map exported_names q.images)) else None))
  of_definition (Some x) is ordinary = inr (ordinary, definition_is q.objects (name_of q) x is)
  of_definition None is ordinary = of_may (may_import q.kind) refl ordinary (definition_none q.objects (name_of q) is)

  of_name : (t : Bool) → bytes_eq (name_of q) get_address ≡ t → (IsLocal q → ⊥)
      → IsAnswer q (if t then Some Runtime else here_or (definition_of q.objects (name_of q))
      (if may_import q.kind then of_startup (first_export (name_of q) 1 (map exported_names q.images)) else None))
  of_name true is other = (other, (bytes_eq-Decides (name_of q) get_address).0 is)
  of_name false is other = of_definition (definition_of q.objects (name_of q)) refl
      (other, λ same. impossible (sym ((bytes_eq-Decides (name_of q) get_address).1 same) ∙ is))

  of_local : (t : Bool) → same_binding Local (symbol_binding (bytes_of q.objects q.o) q.e) ≡ t
      → IsAnswer q (if t then Some (Here (record { object = q.o; symbol = q.e }))
      else name_bound q.objects (map exported_names q.images) (may_import q.kind) (name_of q))
  of_local true is = inl (is_local (symbol_binding (bytes_of q.objects q.o) q.e) is, refl)
  of_local false is =
      of_name (bytes_eq (name_of q) get_address) refl (not_local (symbol_binding (bytes_of q.objects q.o) q.e) is)

  answers : IsAnswer q (bound_to q.objects (map exported_names q.images) q.o q.e (may_import q.kind))
  unfolding bound_to
  answers = of_local (same_binding Local (symbol_binding (bytes_of q.objects q.o) q.e)) refl

  -- ** there is one

  one : (a b : Binding) → IsBound q a → IsBound q b → a ≡ b
  one Runtime Runtime x y = refl
  one Runtime (Here b) x (inl y) = absurd (x.0 y.0)
  one Runtime (Here b) x (inr y) = absurd (y.0.1 x.1)
  one Runtime (Startup k) x y = absurd (y.0.1 x.1)
  one (Here a) Runtime (inl x) y = absurd (y.0 x.0)
  one (Here a) Runtime (inr x) y = absurd (x.0.1 y.1)
  one (Here a) (Here b) (inl x) (inl y) = ap Here (x.1 ∙ sym y.1)
  one (Here a) (Here b) (inl x) (inr y) = absurd (y.0.0 x.0)
  one (Here a) (Here b) (inr x) (inl y) = absurd (x.0.0 y.0)
  one (Here a) (Here b) (inr x) (inr y) = ap Here (definition_only q.objects (name_of q) a b x.1 y.1)
  one (Here a) (Startup k) (inl x) y = absurd (y.0.0 x.0)
  one (Here a) (Startup k) (inr x) y = absurd (y.1 a x.1)
  one (Startup k) Runtime x y = absurd (x.0.1 y.1)
  one (Startup k) (Here b) x (inl y) = absurd (x.0.0 y.0)
  one (Startup k) (Here b) x (inr y) = absurd (x.1 b y.1)
  one (Startup k) (Startup j) x y = ap Startup (import_only q.images (name_of q) k j x.3 y.3)

  only : (a b : Option Binding) → IsAnswer q a → IsAnswer q b → a ≡ b
  only (Some a) (Some b) x y = ap (λ (c : Binding). Some c) (one a b x y)
  only (Some a) None x y = absurd (y a x)
  only None (Some b) x y = absurd (x b y)
  only None None x y = refl

pub bindings_only : BindingsAreOnly
bindings_only q answer = (
  λ is. subst (IsAnswer q) is (answers q),
  λ holds. only q (bound_to q.objects (map exported_names q.images) q.o q.e (may_import q.kind)) answer
      (answers q) holds,
)
