-- What may be asked of an image's relocations.
use Rattle.std.proofs.Common.{◌≡◌, ◌<◌, ◌⊎◌, ◌&&◌, inl, inr, ℕ, Bool, true, false, List, Option, length, refl, sym}
use Rattle.std.proofs.Common.{subst}
use Rattle.std.specs.List.{list_any}
use Rattle.elf_object.specs.declared.relocation.Relocation.{Relocation}
use Rattle.elf_object.specs.LawsOfNotes.{each_fails, every_relocation}
use Rattle.elf_object.specs.Noted.{all_relocations, is_in_module, is_where_moved, reaches_storage, traits_of}
use Rattle.elf_records.specs.RelocationRows.{row}
use Rattle.elf_records.specs.declared.relocation_row.Refused.{Refused}
use Rattle.elf_records.specs.declared.relocation_row.Refused.TheVariants.{InModule, WhereMoved}
use Rattle.elf_records.specs.declared.relocation_row.TableEntry.{TableEntry}
use Rattle.elf_records.specs.declared.relocation_row.TableEntry.TheVariants.{NoEntry, AddressWord}
use Rattle.link_faults.specs.declared.binding.Binding.{Binding}
use Rattle.link_faults.specs.declared.fault.LinkFaultKind.TheVariants.{LocalExecInModule, NarrowInModule}
use Rattle.link_faults.specs.declared.image_kind.ImageKind.{ImageKind}
use Rattle.link_faults.specs.ImageKinds.{is_module, is_moved}
use Rattle.tls_symbols.specs.declared.uses.Use.{Use}
use Rattle.tls_symbols.specs.Bindings.{object_at}
use Rattle.tls_symbols.specs.Faults.{NamesWithin}
use Rattle.tls_symbols.specs.Searches.{IsUseIn, MayAsk, NoneIn}
use Rattle.link_needs.specs.declared.charge.Charge.{Charge}
use Rattle.link_needs.specs.declared.charge.Charge.TheVariants.{ByType, ByStorage}
use Rattle.link_needs.specs.Refusals.{entry_asks_storage, is_refused_by}
use Rattle.link_needs.specs.RefusalLaws.{asks_among, IsAbout, IsAskedOf, IsAskedWithin}

-- a question that is asked of the objects may be asked of each of their relocations
pub may_ask : (charge : Charge) (objects : List (List ℕ)) → IsAskedOf objects charge
    → MayAsk (IsAskedWithin charge) objects
may_ask (ByType fault image) objects of = λ u is. tt
may_ask (ByStorage image bindings) objects of = λ u is. (
  subst (λ all. u.place.object < length all) (sym of) is.object,
  subst (λ all. NamesWithin (object_at all u.place.object) u.relocation) (sym of) (λ some. (is.lawful.symbol some).1),
)

-- ** an object by what its relocations have among them

-- one of two tests fails where both together do
some_fails : (x y : Bool) → (x && y) ≡ false → (x ≡ false) ⊎ (y ≡ false)
some_fails false y h = inl refl
some_fails true y h = inr h

not_in_module : (image : ImageKind) (refused : Refused) → (is_in_module refused ≡ false) ⊎ (is_module image ≡ false)
    → is_refused_by LocalExecInModule image refused ≡ true → ⊥
not_in_module image InModule (inl other) is = absurd (cc)
not_in_module image InModule (inr other) is = absurd (cc)
not_in_module image refused other is = absurd (cc)

not_where_moved : (image : ImageKind) (refused : Refused) → (is_where_moved refused ≡ false) ⊎ (is_moved image ≡ false)
    → is_refused_by NarrowInModule image refused ≡ true → ⊥
not_where_moved image WhereMoved (inl other) is = absurd (cc)
not_where_moved image WhereMoved (inr other) is = absurd (cc)
not_where_moved image refused other is = absurd (cc)

no_storage : (image : ImageKind) (entry : TableEntry) (bound : Option Binding) → reaches_storage entry ≡ false
    → entry_asks_storage image entry bound ≡ true → ⊥
no_storage image NoEntry bound none is = absurd (cc)
no_storage image AddressWord bound none is = absurd (cc)
no_storage image entry bound none is = absurd (cc)

-- what all fail together, each fails, or the other test does
each_or : (P : Relocation → Bool) (t : Bool) (b : List ℕ) (u : Use) (o : ℕ) → IsUseIn o b u
    → (list_any P (all_relocations b) && t) ≡ false → (P u.relocation ≡ false) ⊎ (t ≡ false)
each_or P t b u o is none = elim (some_fails (list_any P (all_relocations b)) t none) [
  | inl all ↦ inl (each_fails P (all_relocations b) u.relocation all (every_relocation b u.section u.relocation is.own))
  | inr other ↦ inr other
]

pub none_among : (charge : Charge) (o : ℕ) (b : List ℕ) → asks_among charge (traits_of (all_relocations b)) ≡ false
    → NoneIn (IsAbout charge) o b
unfolding traits_of
none_among (ByType LocalExecInModule image) o b none u is about =
    not_in_module image (row u.relocation.kind).refused
    (each_or (λ r. is_in_module (row r.kind).refused) (is_module image) b u o is none) about
none_among (ByType NarrowInModule image) o b none u is about =
    not_where_moved image (row u.relocation.kind).refused
    (each_or (λ r. is_where_moved (row r.kind).refused) (is_moved image) b u o is none) about
none_among (ByType fault image) o b none u is about = absurd (cc)
none_among (ByStorage image bindings) o b none u is about =
    no_storage image (row u.relocation.kind).entry _
    (each_fails (λ r. reaches_storage (row r.kind).entry) (all_relocations b) u.relocation none
    (every_relocation b u.section u.relocation is.own)) about
