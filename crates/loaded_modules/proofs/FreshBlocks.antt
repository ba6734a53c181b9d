-- A thread's block: the initial image and zeros.
use Rattle.std.proofs.Common.{◌≡◌, ◌∙◌, ℕ, ◌+◌, ◌-◌, ◌≤◌, List, [], ◌∷◌, ◌++◌, length, drop, take, replicate, Some}
use Rattle.std.proofs.Common.{None, refl, sym, ap, arith}
use Rattle.std.specs.Prelude.{slice_range}
use Rattle.std.specs.List.{find}
use Rattle.std.proofs.lemmas.List.{drop-replicate, length-take-le, length-replicate}
use Rattle.image_file.specs.declared.part.TlsPart.{TlsPart}
use Rattle.image_file.specs.Spelled.{Part, Spelled}
use Rattle.loaded_modules.specs.declared.instance.Instance.{Instance}
use Rattle.loaded_modules.specs.Ends.{IsTls}
use Rattle.loaded_modules.specs.Images.{JobImages, block_size, image_at, size_at, size_of}
use Rattle.loaded_modules.specs.Loader.{block_of, block_of_image, filled, fresh_block, holds, initial_bytes, part_bytes}
use Rattle.loaded_modules.proofs.Left.{found_passes}
use Rattle.loaded_modules.proofs.Relocated.{inside}

-- the part that holds the initial image
pub placed : (tls : TlsPart) (parts : List Part) (part : Part) → Some part ≡ find (holds tls) parts
    → (part.address ≤ tls.address) × (tls.address + tls.initial ≤ part.address + length part.bytes)
placed tls parts part is = inside part tls.address tls.initial (found_passes (holds tls) parts part is)

pub length-front : (tls : TlsPart) (cleared : List ℕ) → IsTls tls → cleared ≡ replicate tls.size 0
    → length (take tls.initial cleared) ≡ tls.initial
length-front tls cleared kept is =
    let long : length cleared ≡ tls.size = ap length is ∙ length-replicate tls.size 0 in
    length-take-le tls.initial cleared (omega (arith, long, kept.within))

module _ (m : JobImages) (image : Spelled) (x : Instance) (tls : TlsPart) (part : Part) where
  pub block_is : (window cleared : List ℕ) (n : ℕ) → Some part ≡ find (holds tls) image.parts
      → cleared ≡ replicate tls.size 0 → length window ≡ tls.initial → n ≡ tls.initial
      → window ≡ slice_range (part_bytes m image x part) (tls.address - part.address) (tls.address - part.address + n)
      → window ++ drop tls.initial cleared
      ≡ filled tls.size (initial_bytes m image x tls (find (holds tls) image.parts))
  block_is window cleared n found zeros long same is =
      ap (λ (zs : List ℕ). window ++ drop tls.initial zs) zeros
      ∙ ap (λ (zs : List ℕ). window ++ zs) (drop-replicate tls.initial tls.size 0)
      ∙ ap (λ k. window ++ replicate (tls.size - k) 0) (sym long)
      ∙ ap (filled tls.size) (is
      ∙ ap (λ k. slice_range (part_bytes m image x part) (tls.address - part.address)
      (tls.address - part.address + k)) same)
      ∙ ap (λ o. filled tls.size (initial_bytes m image x tls o)) found

-- ** the block of an instance

empty : (xs : List ℕ) → length xs ≡ 0 → xs ≡ []
empty [] is = refl
empty (x ∷ xs) is = absurd (cc is)

module _ (m : JobImages) (x : Instance) where
  pub fresh_some : (image : Spelled) (tls : TlsPart) → Some image ≡ image_at m x.image → Some tls ≡ image.tls
      → block_of m image x (Some tls) ≡ fresh_block m x
  unfolding fresh_block
  fresh_some image tls is has = ap (block_of m image x) has ∙ ap (block_of_image m x) is

  pub size_some : (image : Spelled) (tls : TlsPart) → Some image ≡ image_at m x.image → Some tls ≡ image.tls
      → size_at m x.image ≡ tls.size
  unfolding size_at
  size_some image tls is has = sym (ap block_size has ∙ ap size_of is)

  pub fresh_without : (image : Spelled) (into : List ℕ) → Some image ≡ image_at m x.image → None ≡ image.tls
      → length into ≡ size_at m x.image → into ≡ fresh_block m x
  unfolding fresh_block size_at
  fresh_without image into is none long = empty into (long ∙ sym (ap block_size none ∙ ap size_of is))
      ∙ ap (block_of m image x) none ∙ ap (block_of_image m x) is

  pub fresh_nowhere : (into : List ℕ) → None ≡ image_at m x.image → length into ≡ size_at m x.image
      → into ≡ fresh_block m x
  unfolding fresh_block size_at
  fresh_nowhere into none long = empty into (long ∙ sym (ap size_of none)) ∙ ap (block_of_image m x) none
