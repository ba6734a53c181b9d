-- The bytes that a loader writes are the digits of words.
use Rattle.std.proofs.Common.{◌≡◌, ◌∙◌, ◌+◌, ◌-◌, ◌*◌, ◌%◌, ◌^◌, ◌<◌, ℕ, ℤ, zero, suc, ◌++◌, Some, length}
use Rattle.std.proofs.Common.{inl, inr, refl, ap, arith, length-append}
use Rattle.std.specs.Prelude.{slice_get}
use Rattle.std.specs.Int.{w64, cast_unsigned}
use Rattle.std.proofs.lemmas.Bool.{cases_lt, lt-ltb, le-ltb}
use Rattle.elf_records.specs.Fields.{bytes_of}
use Rattle.elf_records.specs.Laws.{length-bytes_of}
use Rattle.guest_arithmetic.specs.PlainLaws.{plain_laws}
use Rattle.guest_arithmetic.specs.Plain.{plain_operations}
use Rattle.guest_arithmetic.specs.Values.{digit}
use Rattle.image_faults.specs.declared.loader_kind.LoaderKind.{LoaderKind}
use Rattle.image_faults.specs.declared.loader_kind.LoaderKind.TheVariants.{JumpSlot, Relative, Module, ModuleOffset}
use Rattle.image_faults.specs.declared.loader_kind.LoaderKind.TheVariants.{ThreadOffset, Descriptor}
use Rattle.image_file.specs.declared.relocation.ImageRelocation.{ImageRelocation}
use Rattle.image_file.specs.Spelled.{Spelled}
use Rattle.image_writer.specs.Linkable.{width}
use Rattle.loaded_modules.specs.declared.instance.Instance.{Instance}
use Rattle.address_map.specs.Map.{descriptor_place, getter_place}
use Rattle.loaded_modules.specs.Images.{JobImages}
use Rattle.loaded_modules.specs.Loader.{bias, target_of, written_bytes}
use Rattle.relocated_parts.specs.Left.{digit_of_two, first_word, second_word}
use Rattle.tls_relocs.specs.Elements.{slice_get-append, slice_get-append_behind}

-- ** eight digits

pub digits : (n k : ℕ) → k < 8 → slice_get (bytes_of 8 n) k ≡ Some (digit n k)
unfolding bytes_of
digits n zero below = ap Some (omega arith)
digits n (suc zero) below = refl
digits n (suc (suc zero)) below = refl
digits n (suc (suc (suc zero))) below = refl
digits n (suc (suc (suc (suc zero)))) below = refl
digits n (suc (suc (suc (suc (suc zero))))) below = refl
digits n (suc (suc (suc (suc (suc (suc zero)))))) below = refl
digits n (suc (suc (suc (suc (suc (suc (suc zero))))))) below = refl
digits n (suc (suc (suc (suc (suc (suc (suc (suc k)))))))) below = absurd (omega arith)

-- those of a number modulo 2^64 are its own
pub low_digit : (n k : ℕ) → k < 8 → digit (n % 2 ^ 64) k ≡ digit n k
unfolding plain_operations
low_digit n k below = plain_laws.byte_of-word n k below

-- ** one word, or two

one : (n second k : ℕ) → k < 8 → slice_get (bytes_of 8 n) k ≡ Some (digit_of_two n second k)
one n second k below = rw (lt-ltb k 8 below) (digits n k below)

wrapped : (n second k : ℕ) → k < 8 → slice_get (bytes_of 8 (n % 2 ^ 64)) k ≡ Some (digit_of_two n second k)
wrapped n second k below =
    rw (lt-ltb k 8 below) (digits (n % 2 ^ 64) k below ∙ ap Some (low_digit n k below))

two : (n second k : ℕ) → k < 16
    → slice_get (bytes_of 8 n ++ bytes_of 8 (second % 2 ^ 64)) k ≡ Some (digit_of_two n second k)
two n second k below = elim (cases_lt k 8) [
  | inl front ↦
      slice_get-append (bytes_of 8 n) (bytes_of 8 (second % 2 ^ 64)) k
      (let long = length-bytes_of 8 n in omega (arith, long, front))
      ∙ one n second k front
  | inr behind ↦
      let long = length-bytes_of 8 n in
      let rest : k - 8 < 8 = omega arith in
      slice_get-append_behind (bytes_of 8 n) (bytes_of 8 (second % 2 ^ 64)) k (omega (arith, long, behind))
      ∙ ap (λ i. slice_get (bytes_of 8 (second % 2 ^ 64)) (k - i)) long
      ∙ rw (le-ltb k 8 behind) (digits (second % 2 ^ 64) (k - 8) rest ∙ ap Some (low_digit second (k - 8) rest))
]

-- ** all kinds

module _ (m : JobImages) (image : Spelled) (x : Instance) (r : ImageRelocation) where
  pub written_long : (k : LoaderKind) (addend : ℤ)
      → length (written_bytes image.kind x (target_of m image x r) k addend) ≡ width k
  written_long JumpSlot addend = length-bytes_of 8 getter_place
  written_long Relative addend = length-bytes_of 8 _
  written_long Module addend = length-bytes_of 8 _
  written_long ModuleOffset addend = length-bytes_of 8 _
  written_long ThreadOffset addend = length-bytes_of 8 _
  written_long Descriptor addend =
      let t = target_of m image x r in
      let both = length-append (bytes_of 8 descriptor_place) (bytes_of 8 ((t.id * 2 ^ 32 + t.offset) % 2 ^ 64)) in
      let first = length-bytes_of 8 descriptor_place in
      let second = length-bytes_of 8 ((t.id * 2 ^ 32 + t.offset) % 2 ^ 64) in
      omega (arith, both, first, second)

  pub written_digits : (k : LoaderKind) (addend : ℤ) (i : ℕ) → i < width k
      → slice_get (written_bytes image.kind x (target_of m image x r) k addend) i
      ≡ Some (digit_of_two
      (first_word image.kind x (target_of m image x r).id (target_of m image x r).offset
      (target_of m image x r).distance k
      addend)
      (second_word (target_of m image x r).id (target_of m image x r).offset) i)
  written_digits JumpSlot addend i below = one 0x1000 _ i below
  written_digits Relative addend i below = wrapped (bias image.kind x.number + cast_unsigned w64 addend) _ i below
  written_digits Module addend i below = one (target_of m image x r).id _ i below
  written_digits ModuleOffset addend i below = one (target_of m image x r).offset _ i below
  written_digits ThreadOffset addend i below =
      wrapped ((target_of m image x r).offset + (2 ^ 64 - (target_of m image x r).distance)) _ i below
  written_digits Descriptor addend i below =
      two 0x1800 (second_word (target_of m image x r).id (target_of m image x r).offset) i below
