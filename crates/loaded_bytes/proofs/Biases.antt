-- How far a loader moves an instance is how far its objects' meaning does; and a word that moves.
use Rattle.std.proofs.Common.{◌≡◌, ◌+◌, ◌<◌, ◌^◌, ◌∙◌, ℕ, ℤ, pos, refl, sym, ap, arith}
use Rattle.std.specs.Prelude.{◌+ℤ◌, slice_index_or}
use Rattle.std.specs.Int.{w64, cast_signed, cast_unsigned}
use Rattle.std.proofs.lemmas.Int.{of_z-to_z}
use Rattle.std.proofs.lemmas.Option.{get_or_from_slice_get}
use Rattle.memory_image.proofs.Words.{modulo_small, moved_sum}
use Rattle.elf_records.specs.Fields.{bytes_of}
use Rattle.guest_arithmetic.specs.Values.{digit}
use Rattle.image_writer.specs.Page.{base_of as page_base}
use Rattle.image_writer.specs.Tables.{finished}
use Rattle.link_core.proofs.LoadsTls.{same_base}
use Rattle.link_core.specs.Images.{contents, file_kind, image_of}
use Rattle.link_needs.specs.Linking.{Linking}
use Rattle.link_faults.specs.declared.image_kind.ImageKind.{ImageKind}
use Rattle.link_faults.specs.ImageKinds.{base_of}
use Rattle.link_faults.specs.declared.image_kind.ImageKind.TheVariants.{Exe, Pie, Start, Late}
use Rattle.loaded_modules.specs.Loader.{bias}
use Rattle.relocated_parts.proofs.Words.{digits, low_digit}
use Rattle.tls_relocs.specs.Values.{modulo}
use Rattle.whole_meaning.specs.Spots.{bias_of}

pub same_bias : (kind : ImageKind) (number : ℕ) → bias (file_kind kind) number ≡ bias_of kind number
unfolding bias
same_bias Exe number = refl
same_bias Pie number = refl
same_bias Start number = refl
same_bias Late number = refl

pub image_bias : (l : Linking) (number : ℕ) → bias (image_of l).kind number ≡ bias_of l.kind number
unfolding image_of finished contents
image_bias l number = same_bias l.kind number

pub image_base : (l : Linking) → page_base (image_of l).kind ≡ base_of l.kind
unfolding image_of finished contents
image_base l = same_base l.kind

-- byte j of an address that a loader moves, and of the sum that it stands for
pub moved_digit : (n b j : ℕ) (a : ℤ) → j < 8
    → digit (b + cast_unsigned w64 (cast_signed w64 (modulo (2 ^ 64) (pos n +ℤ a)))) j
    ≡ slice_index_or (bytes_of 8 (modulo (2 ^ 64) (pos (n + b) +ℤ a))) j 0
moved_digit n b j a below =
    let m = modulo (2 ^ 64) (pos n +ℤ a) in
    let again : cast_unsigned w64 (cast_signed w64 m) ≡ m = of_z-to_z w64 m (modulo_small (pos n +ℤ a)) in
    let order : b + m ≡ m + b = omega arith in
    ap (λ v. digit (b + v) j) again
    ∙ ap (λ v. digit v j) order
    ∙ sym (low_digit (m + b) j below)
    ∙ ap (λ v. digit v j) (moved_sum n b a)
    ∙ sym (get_or_from_slice_get (bytes_of 8 (modulo (2 ^ 64) (pos (n + b) +ℤ a))) j
    (digit (modulo (2 ^ 64) (pos (n + b) +ℤ a)) j) 0 (digits (modulo (2 ^ 64) (pos (n + b) +ℤ a)) j below))
