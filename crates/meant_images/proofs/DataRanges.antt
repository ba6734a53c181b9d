-- The bytes of the class that programs write are the data that an instance loads.
use Rattle.std.proofs.Common.{◌≡◌, ◌<◌, ◌+◌, ◌-◌, ◌∙◌, ℕ, true, false, List, None, Some, length, map, refl, sym, ap}
use Rattle.std.proofs.Common.{arith}
use Rattle.std.proofs.lemmas.Bool.{le-ltb, lt-ltb}
use Rattle.std.proofs.lemmas.List.FromFn.{length-map-range_with_len}
use Rattle.job_meaning.specs.declared.values.Byte.{Byte}
use Rattle.job_meaning.specs.declared.values.Byte.TheVariants.{Value}
use Rattle.link_needs.specs.Linking.{Linking, layout}
use Rattle.object_faults.specs.declared.class.SectionClass.{SectionClass}
use Rattle.object_faults.specs.declared.class.SectionClass.TheVariants.{Writable}
use Rattle.tls_layout.specs.Places.{extent_for}
use Rattle.whole_meaning.specs.Bytes.{class_bytes}
use Rattle.whole_meaning.specs.Loads.{data_ranges}
use Rattle.memory_image.specs.Tables.{ClassTable, IsClass, Keeps, bytes_at}
use Rattle.memory_image.proofs.Moving.{bytes_length}

module _ (l : Linking) (bias : ℕ) (keeps : Keeps l bias) where
  class_length : (class : SectionClass)
      → length (class_bytes l bias class) ≡ (extent_for class (layout l)).end - (extent_for class (layout l)).start
  unfolding class_bytes
  class_length class = length-map-range_with_len _ (extent_for class (layout l)).start
      ((extent_for class (layout l)).end - (extent_for class (layout l)).start)

  table_length : (class : SectionClass) (c : ClassTable) → IsClass l class c
      → length c.bytes ≡ (extent_for class (layout l)).end - (extent_for class (layout l)).start
  table_length class c is = sym (bytes_length c bias) ∙ ap length (is.bytes_are bias keeps) ∙ class_length class

  pub no_data : (c : ClassTable) → IsClass l (Writable true) c → length c.bytes ≡ 0 → None ≡ data_ranges l bias
  no_data c is none =
      let len = table_length (Writable true) c is in
      rw (le-ltb (extent_for (Writable true) (layout l)).start (extent_for (Writable true) (layout l)).end
      (omega arith)) refl

  pub some_data : (c : ClassTable) (start : ℕ) (bytes : List Byte) → IsClass l (Writable true) c → 0 < length c.bytes
      → start ≡ c.start + bias
      → bytes ≡ map Value (bytes_at c bias)
      → Some (record { start = start; bytes = bytes; readable = true; writable = true; runnable = false })
      ≡ data_ranges l bias
  some_data c start bytes is some at all =
      let len = table_length (Writable true) c is in
      let from : start ≡ (extent_for (Writable true) (layout l)).start + bias = at ∙ ap (λ n. n + bias) is.start_is in
      let own : bytes ≡ map Value (class_bytes l bias (Writable true)) = all
      ∙ ap (map Value) (is.bytes_are bias keeps) in
      rw (
        lt-ltb (extent_for (Writable true) (layout l)).start (extent_for (Writable true) (layout l)).end
            (omega arith),
        from,
        own,
      ) refl
