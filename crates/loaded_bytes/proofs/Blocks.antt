-- The block that a thread begins with is the initial image as it is loaded, and zeros.
use Rattle.std.proofs.Common.{◌≡◌, ◌+◌, ◌-◌, ◌<◌, ◌==◌, ◌∙◌, ℕ, Bool, true, false, List, [], Option, Some, None, length}
use Rattle.std.proofs.Common.{refl, sym, ap, arith, if◌then◌else◌}
use Rattle.std.specs.Prelude.{slice_get}
use Rattle.std.proofs.lemmas.Bool.Decides.{nat_tests}
use Rattle.image_file.specs.declared.part.TlsPart.{TlsPart}
use Rattle.image_writer.specs.Tables.{finished}
use Rattle.link_core.proofs.Linkable.{linkable}
use Rattle.link_core.specs.Images.{contents, image_of, tls_part}
use Rattle.link_needs.specs.Linking.{Linking, layout}
use Rattle.loaded_modules.specs.declared.instance.Instance.{Instance}
use Rattle.loaded_modules.specs.Images.{image_at}
use Rattle.loaded_modules.specs.Loader.{block_of, block_of_image, fresh_block}
use Rattle.object_faults.specs.declared.class.SectionClass.TheVariants.{Tls}
use Rattle.relocated_parts.proofs.Blocks.{blocks_left}
use Rattle.relocated_parts.specs.Laws.{IsMade}
use Rattle.thread_blocks.specs.JobLoads.{job_loads}
use Rattle.tls_layout.proofs.LawsOfTls.{front_of_segment}
use Rattle.tls_layout.specs.Places.{extent_for}
use Rattle.tls_layout.specs.Places.{initial_tls, tls_alignment, tls_image, tls_size}
use Rattle.whole_meaning.specs.Spots.{bias_of, spot_in}
use Rattle.loaded_bytes.specs.Laws.{BlocksAreLoaded, IsBlockOf, IsInstanceOf, images_of}
use Rattle.loaded_bytes.proofs.ClassFile.{filed_byte}
use Rattle.loaded_bytes.proofs.ClassParts.{IsPart, class_part, part_byte, part_of}
use Rattle.loaded_bytes.proofs.LeftBytes.{left_is}
use Rattle.loaded_bytes.proofs.Still.{image_is}

module _ (ls : List Linking) (l : Linking) (x : Instance) (is : IsInstanceOf ls l x) where
  abbrev segment : TlsPart
  segment = record {
    address = (tls_image (layout l).kind (layout l).sections).start;
    initial = (initial_tls (layout l).sections).end;
    size = tls_size (layout l).sections;
    alignment = tls_alignment (layout l).sections;
  }

  made : IsMade (images_of ls) (contents l) x
  unfolding image_of
  made = record { linkable = linkable l is.given is.links.sound; image = image_is ls l x is.image }

  -- an image without thread-local storage has a block of no bytes
  none_block : tls_size (layout l).sections ≡ 0 → (contents l).tls ≡ None
      → IsBlockOf l (bias_of l.kind x.number) (fresh_block (images_of ls) x)
  unfolding fresh_block image_of finished
  none_block none tls =
      let inside = (front_of_segment (layout l) is.links.sound.limits.lawful).inside in
      let empty : block_of_image (images_of ls) x (image_at (images_of ls) x.image) ≡ [] =
      ap (block_of_image (images_of ls) x) (image_is ls l x is.image)
      ∙ ap (λ (t : Option TlsPart). block_of (images_of ls) (finished (contents l)) x t) tls in
      record {
        long = ap length empty ∙ sym none;
        initial = λ k below. absurd (omega (arith, none, inside, below));
        rest = λ k behind below. absurd (omega (arith, none, below));
      }

  some_block : (contents l).tls ≡ Some segment → IsBlockOf l (bias_of l.kind x.number) (fresh_block (images_of ls) x)
  unfolding image_of
  some_block tls =
      let block = blocks_left (images_of ls) (contents l) x segment made tls in
      let start = (extent_for (Tls true) (layout l)).start in
      let long = (front_of_segment (layout l) is.links.sound.limits.lawful).len in
      record {
        long = block.long;
        initial = λ k below.
            let some : start < (extent_for (Tls true) (layout l)).end = omega (arith, long, below) in
            let part : IsPart l (Tls true) = part_of l (Tls true) some in
            let index : start + k - start ≡ k = omega arith in
            block.initial part.index k (filed_byte l (spot_in l (Tls true) (start + k)))
            (class_part l (Tls true)) part.at below
            (omega arith)
            (ap (slice_get (class_part l (Tls true)).bytes) index
            ∙ part_byte l is.given is.links (Tls true) tt k (omega (arith, long, below)))
            ∙ ap Some
            (left_is l is.given is.links is.stray (Tls true) tt (start + k) (omega arith) (omega (arith, long, below))
            (images_of ls) x);
        rest = block.rest;
      }

  block_is : IsBlockOf l (bias_of l.kind x.number) (fresh_block (images_of ls) x)
  unfolding contents tls_part
  block_is = of_test (tls_size (layout l).sections == 0) refl
    where
      zero : (n : ℕ) → (n == 0) ≡ true → n ≡ 0
      zero n e = grind (arith, nat_tests)

      tls_is : (t : Bool) → (tls_size (layout l).sections == 0) ≡ t
          → (contents l).tls ≡ (if t then None else Some segment)
      tls_is t e = ap (λ (b : Bool). if b then None else Some segment) e

      of_test : (t : Bool) → (tls_size (layout l).sections == 0) ≡ t
          → IsBlockOf l (bias_of l.kind x.number) (fresh_block (images_of ls) x)
      of_test true e = none_block (zero (tls_size (layout l).sections) e) (tls_is true e)
      of_test false e = some_block (tls_is false e)

-- the law
pub blocks_loaded : BlocksAreLoaded
unfolding job_loads
blocks_loaded ls l x is = block_is ls l x is
