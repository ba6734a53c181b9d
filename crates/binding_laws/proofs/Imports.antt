-- Which images export a name, and the first that does.
use Rattle.std.proofs.Common.{◌≡◌, ◌+◌, ◌<◌, ◌≤◌, ◌∙◌, ◌⊎◌, ℕ, Bool, true, false, List, [], ◌∷◌, Option, Some, None}
use Rattle.std.proofs.Common.{length, drop, inl, inr, refl, sym, ap, subst, arith}
use Rattle.std.specs.Prelude.{slice_index_or, map, if◌then◌else◌}
use Rattle.std.specs.List.{list_any}
use Rattle.std.specs.Str.{bytes_eq}
use Rattle.std.proofs.lemmas.Bool.{cases_lt}
use Rattle.std.proofs.lemmas.List.{length-drop}
use Rattle.elf_records.specs.declared.symbol.Visibility.{Visibility}
use Rattle.elf_records.specs.declared.symbol.Visibility.TheVariants.{Default, Protected}
use Rattle.elf_records.specs.Symbols.{is_visible}
use Rattle.elf_object.specs.Lent.{symbol_visibility}
use Rattle.link_faults.specs.declared.symbol_ref.SymbolRef.{SymbolRef}
use Rattle.tls_symbols.specs.Bindings.{exported_names, first_export, is_tls_symbol}
use Rattle.tls_symbols.specs.Definitions.{definition_of}
use Rattle.tls_symbols.specs.Laws.{is_exported_by}
use Rattle.tls_symbols.proofs.ExportLaw.{both, exports_by_name}
use Rattle.tls_symbols.proofs.Within.{Dropped, dropped_is}
use Rattle.binding_laws.specs.Bound.{Exports, IsImport, bytes_of, image}
use Rattle.binding_laws.proofs.Definition.{definition_is, definition_none, definition_only}

impossible : true ≡ false → ⊥
impossible h = cc

-- ** one image

visible_is : (v : Visibility) → is_visible v ≡ true → (v ≡ Default) ⊎ (v ≡ Protected)
visible_is Default is = inl refl
visible_is Protected is = inr refl
visible_is v is = absurd cc

is_seen : (v : Visibility) → (v ≡ Default) ⊎ (v ≡ Protected) → is_visible v ≡ true
is_seen v (inl is) = ap is_visible is
is_seen v (inr is) = ap is_visible is

module _ (objects : List (List ℕ)) (name : List ℕ) where
  exports_is : list_any (bytes_eq name) (exported_names objects) ≡ true → Exports objects name
  exports_is is = by_definition (definition_of objects name) refl (sym (exports_by_name objects name) ∙ is)
    where
      by_definition : (found : Option SymbolRef) → definition_of objects name ≡ found
          → is_exported_by objects found ≡ true
          → Exports objects name
      by_definition None here is = absurd cc
      by_definition (Some x) here is =
          let b = bytes_of objects x.object in
          let parts = both (is_tls_symbol b x.symbol) (is_visible (symbol_visibility b x.symbol)) is in
          record {
            found = x;
            definition = definition_is objects name x here;
            tls = parts.0;
            seen = visible_is (symbol_visibility b x.symbol) parts.1;
          }

  is_exports : Exports objects name → list_any (bytes_eq name) (exported_names objects) ≡ true
  is_exports exports = exports_by_name objects name ∙ by_definition (definition_of objects name) refl
    where
      x : SymbolRef
      x = exports.found

      at_found : is_exported_by objects (Some x) ≡ true
      at_found =
          let seen = is_seen (symbol_visibility (bytes_of objects x.object) x.symbol) exports.seen in
          let tls = exports.tls in
          rw (tls, seen) refl

      by_definition : (found : Option SymbolRef) → definition_of objects name ≡ found
          → is_exported_by objects found ≡ true
      by_definition None here = absurd (definition_none objects name here x exports.definition)
      by_definition (Some y) here =
          let same = definition_only objects name x y exports.definition (definition_is objects name y here) in
          subst (λ (z : SymbolRef). is_exported_by objects (Some z) ≡ true) same at_found

-- ** the first of the images from number n + 1 on

module _ (images : List (List (List ℕ))) (name : List ℕ) where
  image_is : (n : ℕ) → image images (n + 1) ≡ slice_index_or images n []
  image_is n = ap (λ (m : ℕ). slice_index_or images m []) (omega arith)

  record ImportFrom (n k : ℕ) : Type 0 where
    from : n < k
    listed : k ≤ length images
    exports : Exports (image images k) name
    first : (j : ℕ) → n < j → j < k → Exports (image images j) name → ⊥

  -- image n + 1 exports nothing of the name
  lacks : (n : ℕ) (b : List (List ℕ)) → slice_index_or images n [] ≡ b
      → list_any (bytes_eq name) (exported_names b) ≡ false
      → Exports (image images (n + 1)) name → ⊥
  lacks n b here is exports =
      impossible (sym (is_exports b name (subst (λ (b : List (List ℕ)). Exports b name)
      (image_is n ∙ here) exports)) ∙ is)

  from_none : (more : List (List (List ℕ))) (n : ℕ) → drop n images ≡ more
      → first_export name (n + 1) (map exported_names more) ≡ None
      → (j : ℕ) → n < j → j ≤ length images → Exports (image images j) name → ⊥
  from_none [] n e is j low high exports =
      let none : length (drop n images) ≡ 0 = ap length e in
      let size = length-drop n images in
      omega arith
  from_none (b ∷ more) n e is j low high exports =
      by_test (λ h is above. from_none more (n + 1) h is j above high exports)
      (list_any (bytes_eq name) (exported_names b)) refl is
    where
      at : Dropped images n [] b more
      at = dropped_is images n [] b more e

      by_test : (drop (n + 1) images ≡ more → first_export name (n + 1 + 1)
          (map exported_names more) ≡ None → n + 1 < j → ⊥)
          → (t : Bool) → list_any (bytes_eq name) (exported_names b) ≡ t
          → (if t then Some (n + 1) else first_export name (n + 1 + 1) (map exported_names more)) ≡ None → ⊥
      by_test rest true here is = cc
      by_test rest false here is = elim (cases_lt (n + 1) j) [
        | inl above ↦ rest at.rest is above
        | inr past ↦
            let same : j ≡ n + 1 = omega (arith, low, past) in
            lacks n b at.here here (subst (λ (j : ℕ). Exports (image images j) name) same exports)
      ]

  from_found : (more : List (List (List ℕ))) (n k : ℕ) → drop n images ≡ more
      → first_export name (n + 1) (map exported_names more) ≡ Some k → ImportFrom n k
  from_found [] n k e is = absurd cc
  from_found (b ∷ more) n k e is =
      by_test (λ h is. from_found more (n + 1) k h is) (list_any (bytes_eq name) (exported_names b)) refl is
    where
      at : Dropped images n [] b more
      at = dropped_is images n [] b more e

      by_test : (drop (n + 1) images ≡ more → first_export name (n + 1 + 1)
          (map exported_names more) ≡ Some k → ImportFrom (n + 1) k)
          → (t : Bool) → list_any (bytes_eq name) (exported_names b) ≡ t
          → (if t then Some (n + 1) else first_export name (n + 1 + 1) (map exported_names more)) ≡ Some k
          → ImportFrom n k
      by_test rest true here is =
          let same : n + 1 ≡ k = cc in
          let within = at.within in
          subst (ImportFrom n) same (record {
            from = omega arith;
            listed = omega arith;
            exports =
                subst (λ (b : List (List ℕ)). Exports b name) (sym (image_is n ∙ at.here)) (exports_is b name here);
            first = λ j low high. absurd (omega (arith, low, high));
          })
      by_test rest false here is =
          let later = rest at.rest is in
          record {
            from = omega (arith, later.from);
            listed = later.listed;
            exports = later.exports;
            first = λ j low high exports. elim (cases_lt (n + 1) j) [
              | inl above ↦ later.first j above high exports
              | inr past ↦
                  let same : j ≡ n + 1 = omega (arith, low, past) in
                  lacks n b at.here here (subst (λ (j : ℕ). Exports (image images j) name) same exports)
            ];
          }

  pub import_is : (k : ℕ) → first_export name 1 (map exported_names images) ≡ Some k → IsImport images name k
  import_is k is =
      let f = from_found images 0 k refl is in
      record {
        counted = omega (arith, f.from);
        listed = f.listed;
        exports = f.exports;
        first = λ j low high. f.first
            j (omega (arith, low)) high;
      }

  pub import_none : first_export name 1 (map exported_names images) ≡ None → (k : ℕ) → IsImport images name k → ⊥
  import_none is k import = from_none images 0 refl is k (omega (arith, import.counted)) import.listed import.exports

  pub import_only : (k j : ℕ) → IsImport images name k → IsImport images name j → k ≡ j
  import_only k j a b = elim (cases_lt k j) [
    | inl less ↦ absurd (b.first k a.counted less a.exports)
    | inr past ↦ elim (cases_lt j k) [
      | inl more ↦ absurd (a.first j b.counted more b.exports)
      | inr equal ↦ omega (arith, past, equal)
    ]
  ]
