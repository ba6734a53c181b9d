-- One write, by the part of the memory that takes it.
use Rattle.std.proofs.Common.{◌≡◌, ◌∙◌, ℕ, true, false, List, Option, Some, None, refl, sym, ap}
use Rattle.std.specs.Prelude.{is_some, option_and_then}
use Rattle.std.proofs.lemmas.Bool.{false≢true}
use Rattle.guest_operands.specs.declared.space.Access.TheVariants.{Write}
use Rattle.guest_operands.specs.Ranges.{grants, with_byte}
use Rattle.loaded_modules.specs.declared.instance.Instance.{Instance}
use Rattle.module_data.specs.Parts.{data_start}
use Rattle.thread_space.specs.Kept.{Kept, live_in, memory_of, shape_of}
use Rattle.thread_space.specs.Places.{behind, block_ranges, data_ranges, takes}
use Rattle.thread_space.specs.Writing.{WritesBlock, WritesData}
use Rattle.thread_space.proofs.OwnBytes.{block_is_held, data_begin}
use Rattle.thread_space.proofs.ReadKept.{block_found, data_found, stack_of}
use Rattle.thread_space.proofs.ShapeKept.{block_shape, data_shape}
use Rattle.thread_space.proofs.Sought.{found_passes}
use Rattle.thread_space.proofs.WriteKept.{write_block, write_data}
use Rattle.thread_vector.specs.Holding.{IsLeftBy}
use Rattle.thread_vector.specs.Vectors.{held}

-- a byte was written, and the shape is as it was
pub record IsWritten (k : Kept) (place byte : ℕ) (k' : Kept) : Type 0 where
  pub memory : memory_of k' ≡ record (memory_of k) { ranges = with_byte (memory_of k).ranges place byte }
  pub shape : shape_of k' ≡ shape_of k

module _ (k k' : Kept) (place byte : ℕ) (x : Instance) (left : IsLeftBy k.vector.images k.vector.past)
    (not : grants Write (stack_of k) place ≡ false) where
  pub block_takes : block_found k place ≡ Some x → takes (block_ranges k.vector x) place ≡ true
  block_takes found = found_passes (λ y. takes (block_ranges k.vector y) place)
      (live_in k.vector.images k.vector.past) x found

  pub data_takes : data_found k place ≡ Some x → takes (data_ranges k.vector.images k.pieces x) place ≡ true
  data_takes found = found_passes (λ y. takes (data_ranges k.vector.images k.pieces y) place)
      (live_in k.vector.images k.vector.past) x found

  pub block_is_written : block_found k place ≡ Some x → WritesBlock k x place byte k' → IsWritten k place byte k'
  block_is_written found writes = by_bytes (held k.vector x.number) refl
    where
      by_bytes : (o : Option (List ℕ)) → held k.vector x.number ≡ o → IsWritten k place byte k'
      by_bytes None e = absurd (false≢true (sym (ap is_some e) ∙ block_is_held k.vector x place (block_takes found)))
      by_bytes (Some bytes) e = record {
        memory = write_block k place byte left not k' x found writes bytes e;
        shape = block_shape k k' x place byte bytes e writes;
      }

  pub data_is_written : block_found k place ≡ None → data_found k place ≡ Some x → WritesData k x place byte k'
      → IsWritten k place byte k'
  data_is_written none found writes = by_start (data_start k.vector.images x) refl
    where
      by_start : (o : Option ℕ) → data_start k.vector.images x ≡ o → IsWritten k place byte k'
      by_start None e =
          absurd (data_begin k.vector.images k.pieces x place (data_takes found)
          (ap (option_and_then (λ start. behind start place)) e))
      by_start (Some start) e = record {
        memory = write_data k place byte left not k' x start none found e writes;
        shape = data_shape k k' x place byte start writes (writes.pieces start e);
      }
