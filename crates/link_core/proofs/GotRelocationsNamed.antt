-- A relocation of the table names what it may, and has the storage that it asks for.
use Rattle.std.proofs.Common.{◌≡◌, ◌+◌, ◌<◌, ◌≤◌, ◌^◌, ℕ, true, List, [], ◌∷◌, length, IsSome, inl, inr, refl, arith}
use Rattle.std.specs.Prelude.{pos, ◌≤ℤ◌}
use Rattle.std.specs.Int.{w64, cast_signed}
use Rattle.std.specs.List.{All}
use Rattle.std.proofs.lemmas.Int.{ints}
use Rattle.std.proofs.lemmas.List.Elements.{All-cons, All-nil}
use Rattle.image_file.specs.declared.relocation.ImageRelocation.{ImageRelocation}
use Rattle.image_writer.specs.Linkable.{HasOwnTls, MayName, tls_size}
use Rattle.link_faults.specs.declared.image_kind.ImageKind.{ImageKind}
use Rattle.link_faults.specs.declared.image_kind.ImageKind.TheVariants.{Exe, Pie}
use Rattle.got_pairs.specs.declared.entry.DynamicKind.{DynamicKind}
use Rattle.got_pairs.specs.declared.entry.DynamicKind.TheVariants as dynamic
use Rattle.got_pairs.specs.declared.entry.DynamicSymbol.TheVariants.{Image, Imported, Runtime}
use Rattle.got_pairs.specs.declared.need.Need.{Need}
use Rattle.got_pairs.specs.declared.need.Need.TheVariants.{ModulePair, SymbolPair, Descriptor, SymbolWord, AddressWord}
use Rattle.got_pairs.specs.declared.need.Need.TheVariants.{RuntimeWord}
use Rattle.got_pairs.specs.declared.need.Target.TheVariants.{Here, Import}
use Rattle.got_pairs.specs.Entries.{entry_of}
use Rattle.link_needs.specs.Linking.{Linking, block_offset}
use Rattle.link_needs.specs.Needs.{uses_runtime}
use Rattle.link_tables.specs.Dynamic.{entry_relocations, imports, loader_kind, need_relocations, number_of}
use Rattle.link_tables.specs.Dynamic.{relocation_of}
use Rattle.link_tables.specs.Dynamic.{symbols}
use Rattle.link_core.specs.Images.{contents, tls_part}
use Rattle.link_core.proofs.GotRelocationsNeeds.{IsEntry, Suits}
use Rattle.link_core.proofs.GotRelocationsShown.{import_in, is_import, is_runtime, runtime_in}
use Rattle.link_core.proofs.GotRelocationsSites.{not_zero, segment}

-- what the relocation says is right
pub record IsNamed (l : Linking) (r : ImageRelocation) : Type 0 where
  pub symbol_in : r.symbol ≤ length (symbols l)
  pub names : MayName (contents l) r.kind r.symbol
  pub own : r.symbol ≡ 0 → HasOwnTls (contents l) r.kind r.addend

module _ (l : Linking) where
  -- ** storage

  has_tls : 0 < segment l → IsSome (contents l).tls
  unfolding contents tls_part
  has_tls some = rw (not_zero (segment l) some) refl

  tls_long : 0 < segment l → tls_size (contents l).tls ≡ segment l
  unfolding contents tls_part
  tls_long some = rw (not_zero (segment l) some) refl

  module _ (small : segment l ≤ 2 ^ 20) where
    offset_in : (o : ℕ) → 0 < segment l → o ≤ segment l
        → (pos 0 ≤ℤ cast_signed w64 o) × (cast_signed w64 o ≤ℤ pos (tls_size (contents l).tls))
    offset_in o some inside = rw (tls_long some) (of o (segment l) small inside)
      where
        of : (o n : ℕ) → n ≤ 2 ^ 20 → o ≤ n → (pos 0 ≤ℤ cast_signed w64 o) × (cast_signed w64 o ≤ℤ pos n)
        of o n small inside = (omega (arith, ints), omega (arith, ints))

    -- ** the relocations of each sort

    import_named : (at : ℕ) (kind : DynamicKind) (name : List ℕ) → 0 < length (imports l)
        → MayName (contents l) (loader_kind kind) (number_of l (Imported name))
        → IsNamed l (relocation_of l at (record { kind = kind; symbol = Imported name; addend = 0 }))
    import_named at kind name some may = record {
      symbol_in = import_in l name some;
      names = may;
      own = λ null. absurd ((is_import l name some).0 null);
    }

    own_named : (at : ℕ) (kind : DynamicKind) (addend : ℕ) → MayName (contents l) (loader_kind kind) 0
        → HasOwnTls (contents l) (loader_kind kind) (cast_signed w64 addend)
        → IsNamed l (relocation_of l at (record { kind = kind; symbol = Image; addend = addend }))
    own_named at kind addend may has = record { symbol_in = omega arith; names = may; own = λ null. has }

    runtime_named : (at : ℕ) → uses_runtime l ≡ true
        → IsNamed l (relocation_of l at (record { kind = dynamic.JumpSlot; symbol = Runtime; addend = 0 }))
    runtime_named at uses = record { symbol_in = runtime_in l uses; names = is_runtime l uses; own = λ null. tt }

    -- ** those of an entry

    none : All (IsNamed l) []
    none = All-nil (IsNamed l)

    one : (r : ImageRelocation) → IsNamed l r → All (IsNamed l) (r ∷ [])
    one r named = All-cons (IsNamed l) r [] named none

    block_named : (at : ℕ) → 0 < segment l
        → All (IsNamed l) (relocation_of l at (record { kind = dynamic.DtpMod64; symbol = Image; addend = 0 }) ∷ [])
    block_named at some = one _ (own_named at dynamic.DtpMod64 0 (inl refl) (has_tls some))

    word_named : (at o : ℕ) → (0 < segment l) × (o ≤ segment l)
        → All (IsNamed l) (relocation_of l at (record { kind = dynamic.TpOff64; symbol = Image; addend = o }) ∷ [])
    word_named at o h = one _ (own_named at dynamic.TpOff64 o (inl refl) (has_tls h.0, offset_in o h.0 h.1))

    address_named : (at p : ℕ)
        → All (IsNamed l) (relocation_of l at (record { kind = dynamic.Relative; symbol = Image; addend = p }) ∷ [])
    address_named at p = one _ (own_named at dynamic.Relative p refl tt)

    pair_named : (at : ℕ) (n : List ℕ) → 0 < length (imports l)
        → All (IsNamed l)
        (relocation_of l at (record { kind = dynamic.DtpMod64; symbol = Imported n; addend = 0 })
        ∷ relocation_of l (at + 8) (record { kind = dynamic.DtpOff64; symbol = Imported n; addend = 0 })
        ∷ [])
    pair_named at n some =
        let second = relocation_of l (at + 8) (record { kind = dynamic.DtpOff64; symbol = Imported n; addend = 0 }) in
        All-cons (IsNamed l) _ (second ∷ []) (import_named at dynamic.DtpMod64 n some (inr (is_import l n some)))
        (one second (import_named (at + 8) dynamic.DtpOff64 n some (is_import l n some)))

    entry_named : (kind : ImageKind) (block : ℕ) (need : Need) (at : ℕ) → Suits l kind need
        → (need ≡ RuntimeWord → uses_runtime l ≡ true)
        → All (IsNamed l) (entry_relocations l at (entry_of kind block need))
    entry_named Exe block ModulePair at suits uses = none
    entry_named Pie block ModulePair at suits uses = none
    entry_named kind block ModulePair at suits uses = block_named at suits
    entry_named Exe block (SymbolPair (Here s o)) at suits uses = none
    entry_named Pie block (SymbolPair (Here s o)) at suits uses = none
    entry_named kind block (SymbolPair (Here s o)) at suits uses = block_named at (suits refl).0
    entry_named kind block (SymbolPair (Import n)) at suits uses = pair_named at n suits
    entry_named kind block (Descriptor (Here s o)) at suits uses =
        let h = suits refl in
        one _ (own_named at dynamic.TlsDesc o (inl refl) (has_tls h.0, offset_in o h.0 h.1))
    entry_named kind block (Descriptor (Import n)) at suits uses =
        one _ (import_named at dynamic.TlsDesc n suits (inr (is_import l n suits)))
    entry_named Exe block (SymbolWord (Here s o)) at suits uses = none
    entry_named Pie block (SymbolWord (Here s o)) at suits uses = none
    entry_named kind block (SymbolWord (Here s o)) at suits uses = word_named at o (suits refl)
    entry_named kind block (SymbolWord (Import n)) at suits uses =
        one _ (import_named at dynamic.TpOff64 n suits (inr (is_import l n suits)))
    entry_named Exe block (AddressWord s p) at suits uses = none
    entry_named kind block (AddressWord s p) at suits uses = address_named at p
    entry_named kind block RuntimeWord at suits uses = one _ (runtime_named at (uses refl))

    pub rows_named : (need : Need) (at : ℕ) → IsEntry l need → All (IsNamed l) (need_relocations l (need, at))
    unfolding IsEntry
    rows_named need at is = entry_named l.kind (block_offset l) need at is.0 is.1
