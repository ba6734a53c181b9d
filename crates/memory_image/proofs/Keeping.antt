-- The fields that hold no address hold the same wherever the image lies.
use Rattle.std.proofs.Common.{◌≡◌, ◌≢◌, ◌≤◌, ◌+◌, ◌^◌, ◌∙◌, ℕ, ℤ, pos, negsuc, Bool, true, false, Option, Some, refl}
use Rattle.std.proofs.Common.{sym, ap, arith, add-zero}
use Rattle.std.specs.Prelude.{◌+ℤ◌, ◌-ℤ◌, ◌<ℤ◌, unwrap_or}
use Rattle.std.proofs.lemmas.Bool.{le-ltb}
use Rattle.std.proofs.lemmas.Int.{ints}
use Rattle.elf_records.specs.declared.relocation.RelocationKind.{RelocationKind}
use Rattle.elf_records.specs.declared.relocation.RelocationKind.TheVariants.{Absolute64, Pc32, Plt32, Absolute32}
use Rattle.elf_records.specs.declared.relocation.RelocationKind.TheVariants.{Absolute32Signed, DtpOff32, TpOff32}
use Rattle.elf_records.specs.declared.relocation_row.Refused.TheVariants.{WhereMoved}
use Rattle.elf_records.specs.RelocationRows.{row as kind_row}
use Rattle.link_faults.specs.declared.binding.Binding.{Binding}
use Rattle.link_faults.specs.declared.binding.Binding.TheVariants.{Here}
use Rattle.link_faults.specs.declared.image_kind.ImageKind.{ImageKind}
use Rattle.link_faults.specs.ImageKinds.{is_moved}
use Rattle.link_needs.specs.Linking.{Linking, address, binding, place}
use Rattle.tls_relocs.specs.declared.fields.Field.TheVariants.{Word32}
use Rattle.tls_relocs.specs.Values.{fits_signed, signed_field, stored_field}
use Rattle.whole_meaning.specs.Bytes.{has_value, subtracted, symbol_number, value_of}
use Rattle.whole_meaning.specs.Spots.{bias_of}
use Rattle.memory_image.specs.Filling.{is_moving, moved_place, own_field, own_number, own_subtracted}
use Rattle.memory_image.specs.Tables.{IsMovable, Keeps, is_distance, is_elsewhere}
use Rattle.memory_image.proofs.Words.{moved_distance}

same_subtracted : (l : Linking) (bias : ℕ) (kind : RelocationKind)
    → subtracted l bias (kind_row kind).value ≡ own_subtracted l kind
same_subtracted l bias kind = refl

-- ** not moved

same_number : (l : Linking) (kind : RelocationKind) (bound : Option Binding)
    → symbol_number l 0 kind bound ≡ own_number l kind bound
same_number l TpOff32 (Some (Here found)) = refl
same_number l DtpOff32 (Some (Here found)) = refl
same_number l kind (Some (Here found)) = add-zero (address l found)
same_number l kind bound = refl

not_moved : (kind : ImageKind) (bound : Option Binding) → is_moved kind ≡ false → 0 ≡ moved_place kind bound
not_moved kind (Some (Here found)) h = refl
not_moved kind bound h = rw h refl

pub keeps_still : (l : Linking) → is_moved l.kind ≡ false → Keeps l 0
unfolding value_of own_field
keeps_still l still o s r there has value stays =
    rw (same_number l r.kind (binding l o r), same_subtracted l 0 r.kind, not_moved l.kind (binding l o r) still) refl

-- ** moved

impossible : false ≡ true → ⊥
impossible e = cc

-- a distance that no field of 4 bytes holds
far : (z a : ℤ) (q : ℕ) → z ≡ (pos 0 +ℤ a) -ℤ pos q → a <ℤ pos (2 ^ 31) → 2 ^ 32 ≤ q → fits_signed z ≡ false
far (pos n) a q e low high = absurd (omega (arith, ints))
far (negsuc n) a q e low high = le-ltb n (2 ^ 31) (omega (arith, ints))

far_field : (a : ℤ) (q : ℕ) → a <ℤ pos (2 ^ 31) → 2 ^ 32 ≤ q
    → unwrap_or (signed_field ((pos 0 +ℤ a) -ℤ pos q)) (Word32 0) ≡ Word32 0
far_field a q low high = rw (far ((pos 0 +ℤ a) -ℤ pos q) a q refl low high) refl

module _ (l : Linking) (bias : ℕ) (moved : is_moved l.kind ≡ true) (high : 2 ^ 32 ≤ bias) (a : ℤ) (at : ℕ) where
  -- what a field holds, by where its symbol is bound
  abbrev now : RelocationKind → Option Binding → Type 0
  now kind bound =
      unwrap_or (stored_field kind (symbol_number l bias kind bound) a (at + bias) (subtracted l bias (kind_row kind).value))
      (Word32 0)
      ≡ unwrap_or (stored_field kind (own_number l kind bound) a (at + moved_place l.kind bound)
      (own_subtracted l kind)) (Word32 0)

  abbrev least : ℕ
  least = bias_of l.kind 0

  least_is : 2 ^ 32 ≤ bias_of l.kind 0
  least_is = rw moved (omega arith)

  distance : (x : ℕ) → unwrap_or (signed_field ((pos (x + bias) +ℤ a) -ℤ pos (at + bias))) (Word32 0)
      ≡ unwrap_or (signed_field ((pos x +ℤ a) -ℤ pos (at + 0))) (Word32 0)
  distance x =
      let start : at ≡ at + 0 = omega arith in
      ap (λ z. unwrap_or (signed_field z) (Word32 0))
      (moved_distance x at bias a ∙ ap (λ p. (pos x +ℤ a) -ℤ pos p) start)

  away : a <ℤ pos (2 ^ 31)
      → unwrap_or (signed_field ((pos 0 +ℤ a) -ℤ pos (at + bias))) (Word32 0)
      ≡ unwrap_or (signed_field ((pos 0 +ℤ a) -ℤ pos (at + least))) (Word32 0)
  away small =
      let low = least_is in
      far_field a (at + bias) small (omega arith) ∙ sym (far_field a (at + least) small (omega (arith, low)))

  keeps_kind : (kind : RelocationKind) (bound : Option Binding) → has_value kind ≡ true → is_moving kind bound ≡ false
      → (kind_row kind).refused ≢ WhereMoved → (is_distance kind ≡ true → is_elsewhere bound ≡ true → a <ℤ pos (2 ^ 31))
      → now kind bound
  keeps_kind Absolute64 (Some (Here found)) h stays wide near = absurd (impossible (sym stays))
  keeps_kind Absolute64 bound h stays wide near = refl
  keeps_kind Pc32 (Some (Here found)) h stays wide near = distance (address l found)
  keeps_kind Pc32 bound h stays wide near = away (near refl refl)
  keeps_kind Plt32 (Some (Here found)) h stays wide near = distance (address l found)
  keeps_kind Plt32 bound h stays wide near = away (near refl refl)
  keeps_kind Absolute32 bound h stays wide near = absurd (wide refl)
  keeps_kind Absolute32Signed bound h stays wide near = absurd (wide refl)
  keeps_kind TpOff32 (Some (Here found)) h stays wide near = refl
  keeps_kind TpOff32 bound h stays wide near = refl
  keeps_kind kind bound h stays wide near = absurd (impossible h)

pub keeps_moved : (l : Linking) (bias : ℕ) → IsMovable l → is_moved l.kind ≡ true → 2 ^ 32 ≤ bias → Keeps l bias
unfolding value_of own_field
keeps_moved l bias movable moved high o s r there has value stays =
    keeps_kind l bias moved high r.addend (place l o s r.offset) r.kind (binding l o r) value stays
    (movable.wide o s r there has) (movable.near o s r there has)

-- an instance of an image is not moved, or by 2^32 and more
pub keeps_instance : (l : Linking) (number : ℕ) → (is_moved l.kind ≡ true → IsMovable l)
    → Keeps l (bias_of l.kind number)
keeps_instance l number movable = by_kind (is_moved l.kind) refl
  where
    by_kind : (t : Bool) → is_moved l.kind ≡ t → Keeps l (bias_of l.kind number)
    by_kind true h = keeps_moved l (bias_of l.kind number) (movable h) h (rw h (omega arith))
    by_kind false h = rw h (keeps_still l h)
