-- The parts of an instance, by their numbers.
use Rattle.std.proofs.Common.{◌≡◌, ◌∙◌, ℕ, ◌+◌, ◌≤◌, List, [], length, Some, None, refl, sym, ap, arith}
use Rattle.std.specs.Prelude.{slice_range}
use Rattle.std.specs.List.{slice_get}
use Rattle.image_file.specs.Spelled.{Part, Spelled}
use Rattle.loaded_modules.specs.declared.instance.Instance.{Instance}
use Rattle.loaded_modules.specs.Images.{JobImages, image_at}
use Rattle.loaded_modules.proofs.Relocated.{length-part_bytes, window_is}
use Rattle.loaded_modules.specs.Loader.{part_bytes}
use Rattle.loaded_modules.specs.LoaderLaws.{bytes_or_none, loaded_in, loaded_part}

module _ (m : JobImages) (x : Instance) (n : ℕ) where
  pub part_some : (image : Spelled) (part : Part) → Some image ≡ image_at m x.image
      → Some part ≡ slice_get image.parts n → part_bytes m image x part ≡ loaded_part m x n
  unfolding loaded_part
  part_some image part is has = ap (bytes_or_none m image x) has ∙ ap (λ o. loaded_in m x o n) is

  pub part_none : (image : Spelled) → Some image ≡ image_at m x.image → None ≡ slice_get image.parts n
      → [] ≡ loaded_part m x n
  unfolding loaded_part
  part_none image is has = ap (bytes_or_none m image x) has ∙ ap (λ o. loaded_in m x o n) is

  pub part_nowhere : None ≡ image_at m x.image → [] ≡ loaded_part m x n
  unfolding loaded_part
  part_nowhere is = ap (λ o. loaded_in m x o n) is

  -- how many bytes it has
  pub length_some : (image : Spelled) (part : Part) → Some image ≡ image_at m x.image
      → Some part ≡ slice_get image.parts n → length part.bytes ≡ length (loaded_part m x n)
  length_some image part is has = sym (length-part_bytes m image x part) ∙ ap length (part_some image part is has)

pub nothing_read : (bytes into : List ℕ) (from : ℕ) → [] ≡ bytes → from + length into ≤ length bytes
    → into ≡ slice_range bytes from (from + length into)
nothing_read bytes into from none within =
    let long : 0 ≡ length bytes = ap length none in
    window_is bytes from (length into) into
    (record { within = within; same = λ k d lt. absurd (omega (arith, long, within, lt)) }) refl
