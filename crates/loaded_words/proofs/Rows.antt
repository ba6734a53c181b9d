-- The relocation of the table that writes at an address of an entry is one of the entry's own.
use Rattle.std.proofs.Common.{◌≡◌, ◌∙◌, ◌+◌, ◌<◌, ◌≤◌, ◌⊎◌, ◌&&◌, ℕ, suc, Bool, true, false, List, [], ◌∷◌, Option}
use Rattle.std.proofs.Common.{Some}
use Rattle.std.proofs.Common.{None, inl, inr, refl, sym, ap, arith, if◌then◌else◌}
use Rattle.std.specs.Prelude.{nat_eq}
use Rattle.std.specs.List.{All, Contains, find}
use Rattle.std.specs.Option.{option_or}
use Rattle.std.proofs.lemmas.Bool.Decides.{nat_tests}
use Rattle.std.proofs.lemmas.List.Elements.{All-contains, All-cons, All-nil}
use Rattle.std.proofs.lemmas.List.Folds.{find-append}
use Rattle.std.proofs.lemmas.Option.{same_Some}
use Rattle.std.proofs.lemmas.Slice.Eq.{bytes_eq-Decides}
use Rattle.got_pairs.proofs.Equal.{need_is}
use Rattle.got_pairs.specs.declared.need.Need.{Need}
use Rattle.got_pairs.specs.declared.need.Need.TheVariants.{ModulePair, SymbolPair, Descriptor, SymbolWord}
use Rattle.got_pairs.specs.declared.need.Need.TheVariants.{AddressWord, RuntimeWord}
use Rattle.got_pairs.specs.declared.need.Target.{Target}
use Rattle.got_pairs.specs.declared.need.Target.TheVariants.{Here, Import}
use Rattle.got_pairs.specs.Entries.{entry_of}
use Rattle.got_pairs.specs.Needs.{same_need, same_symbol, same_target, size_of, start_from}
use Rattle.image_file.specs.declared.relocation.ImageRelocation.{ImageRelocation}
use Rattle.image_writer.specs.Linkable.{width}
use Rattle.link_core.proofs.GotRelocationsRows.{LiesBetween, rows}
use Rattle.link_core.specs.Dynamic.{entry_relocations, need_relocations}
use Rattle.link_faults.specs.declared.image_kind.ImageKind.{ImageKind}
use Rattle.link_faults.specs.declared.image_kind.ImageKind.TheVariants.{Exe, Pie, Start, Late}
use Rattle.link_faults.specs.declared.symbol_ref.SymbolRef.{SymbolRef}
use Rattle.link_needs.specs.Linking.{Linking, block_offset}
use Rattle.relocated_parts.specs.Left.{is_written_at}
use Rattle.loaded_words.proofs.Tests.{none_found}
use Rattle.relocated_parts.proofs.Fold.{written_here as written_from}
use Rattle.loaded_modules.proofs.Left.{or_none}

-- ** those of an entry lie in it

-- all that they write
Inside : ℕ → ℕ → List ImageRelocation → Type 0
Inside at stop rs = All (LiesBetween at stop) rs

none : (at stop : ℕ) → Inside at stop []
unfolding Inside
none at stop = All-nil (LiesBetween at stop)

one : (at stop : ℕ) (r : ImageRelocation) (rs : List ImageRelocation) → at ≤ r.place → r.place + width r.kind ≤ stop
    → Inside at stop rs → Inside at stop (r ∷ rs)
unfolding Inside
one at stop r rs low high rest = All-cons (LiesBetween at stop) r rs (record { above = low; below = high }) rest

module _ (l : Linking) where
  entry_lies : (kind : ImageKind) (block : ℕ) (need : Need) (at : ℕ)
      → Inside at (at + size_of need) (entry_relocations l at (entry_of kind block need))
  entry_lies Exe block ModulePair at = none at _
  entry_lies Pie block ModulePair at = none at _
  entry_lies Start block ModulePair at = one at _ _ [] (omega arith) (omega arith) (none at _)
  entry_lies Late block ModulePair at = one at _ _ [] (omega arith) (omega arith) (none at _)
  entry_lies Exe block (SymbolPair (Here s o)) at = none at _
  entry_lies Pie block (SymbolPair (Here s o)) at = none at _
  entry_lies Start block (SymbolPair (Here s o)) at = one at _ _ [] (omega arith) (omega arith) (none at _)
  entry_lies Late block (SymbolPair (Here s o)) at = one at _ _ [] (omega arith) (omega arith) (none at _)
  entry_lies kind block (SymbolPair (Import n)) at =
      one at _ _ _ (omega arith) (omega arith) (one at _ _ [] (omega arith) (omega arith) (none at _))
  entry_lies kind block (Descriptor (Here s o)) at = one at _ _ [] (omega arith) (omega arith) (none at _)
  entry_lies kind block (Descriptor (Import n)) at = one at _ _ [] (omega arith) (omega arith) (none at _)
  entry_lies Exe block (SymbolWord (Here s o)) at = none at _
  entry_lies Pie block (SymbolWord (Here s o)) at = none at _
  entry_lies Start block (SymbolWord (Here s o)) at = one at _ _ [] (omega arith) (omega arith) (none at _)
  entry_lies Late block (SymbolWord (Here s o)) at = one at _ _ [] (omega arith) (omega arith) (none at _)
  entry_lies kind block (SymbolWord (Import n)) at = one at _ _ [] (omega arith) (omega arith) (none at _)
  entry_lies Exe block (AddressWord s p) at = none at _
  entry_lies Pie block (AddressWord s p) at = one at _ _ [] (omega arith) (omega arith) (none at _)
  entry_lies Start block (AddressWord s p) at = one at _ _ [] (omega arith) (omega arith) (none at _)
  entry_lies Late block (AddressWord s p) at = one at _ _ [] (omega arith) (omega arith) (none at _)
  entry_lies kind block RuntimeWord at = one at _ _ [] (omega arith) (omega arith) (none at _)

  -- ** what is found at an address

  module _ (address : ℕ) where
    outside : (need : Need) (at : ℕ) → (address < at) ⊎ (at + size_of need ≤ address)
        → find (is_written_at address) (need_relocations l (need, at)) ≡ None
    unfolding Inside
    outside need at out =
        none_found (is_written_at address) (need_relocations l (need, at)) (λ r has passes.
        let lies = All-contains (LiesBetween at (at + size_of need)) (need_relocations l (need, at)) r
        (entry_lies l.kind (block_offset l) need at) has in
        let here = written_from address r passes in
        elim out [
          | inl before ↦ omega (arith, lies.above, here.0, before)
          | inr behind ↦ omega (arith, lies.below, here.1, behind)
        ])

    later : (at : ℕ) (ks : List Need) → address < at → find (is_written_at address) (rows l at ks) ≡ None
    later at [] below = refl
    later at (need ∷ ks) below =
        find-append (is_written_at address) (need_relocations l (need, at)) (rows l (at + size_of need) ks)
        ∙ ap (λ o. option_or o (find (is_written_at address) (rows l (at + size_of need) ks)))
        (outside need at (inl below))
        ∙ later (at + size_of need) ks (omega (arith, below))

    module _ (need : Need) (at : ℕ) (low : at ≤ address) (high : address < at + size_of need) where
      pub row_found : (from : ℕ) (ks : List Need) → start_from from ks need ≡ Some at
          → (from ≤ at)
          × (find (is_written_at address) (rows l from ks)
          ≡ find (is_written_at address) (need_relocations l (need, at)))
      row_found from [] e = absurd (cc)
      row_found from (k ∷ ks) e = of_test (same_need need k) refl e (row_found (from + size_of k) ks)
        where
          of_test : (t : Bool) → same_need need k ≡ t
              → (if t then Some from else start_from (from + size_of k) ks need) ≡ Some at
              → (start_from (from + size_of k) ks need ≡ Some at → (from + size_of k ≤ at)
              × (find (is_written_at address) (rows l (from + size_of k) ks)
              ≡ find (is_written_at address) (need_relocations l (need, at))))
              → (from ≤ at)
              × (find (is_written_at address) (rows l from (k ∷ ks))
              ≡ find (is_written_at address) (need_relocations l (need, at)))
          of_test true same e rest =
              let here : from ≡ at = same_Some from at e in
              let own : k ≡ need = sym (need_is need k same) in
              let ends : address < from + size_of k = let size = ap size_of own in omega (arith, high, here, size) in (
                omega (arith, here),
                find-append (is_written_at address) (need_relocations l (k, from)) (rows l (from + size_of k) ks)
                    ∙ ap (option_or (find (is_written_at address) (need_relocations l (k, from))))
                    (later (from + size_of k) ks ends)
                    ∙ or_none (find (is_written_at address) (need_relocations l (k, from)))
                    ∙ ap (λ (x : Need). find (is_written_at address) (need_relocations l (x, from))) own
                    ∙ ap (λ (n : ℕ). find (is_written_at address) (need_relocations l (need, n))) here,
              )
          of_test false same e rest =
              let r = rest e in (
                omega (arith, r.0),
                find-append (is_written_at address) (need_relocations l (k, from)) (rows l (from + size_of k) ks)
                    ∙ ap (λ o. option_or o (find (is_written_at address) (rows l (from + size_of k) ks)))
                    (outside k from (inr (omega (arith, r.0, low))))
                    ∙ r.1,
              )
