-- Fresh blocks of any images, and initial images of linked ones.
use Rattle.std.proofs.Common.{◌≡◌, ◌+◌, ◌-◌, ◌≤◌, ◌==◌, ℕ, zero, suc, Bool, true, false, List, [], ◌∷◌, length, map}
use Rattle.std.proofs.Common.{replicate, take, drop, Option, Some, None, refl, subst, arith, length-append}
use Rattle.std.proofs.Common.{if◌then◌else◌}
use Rattle.std.specs.Prelude.{All, IfSome}
use Rattle.std.specs.List.{find}
use Rattle.std.proofs.lemmas.List.{length-replicate}
use Rattle.std.proofs.lemmas.List.Elements.{All-cons, All-head, All-nil, All-tail}
use Rattle.std.proofs.lemmas.Option.{get_or_from_slice_get, slice_get_within}
use Rattle.image_file.specs.Spelled.{Part, Spelled}
use Rattle.image_file.specs.declared.part.TlsPart.{TlsPart}
use Rattle.image_writer.specs.Tables.{finished}
use Rattle.link_core.specs.Faults.{Links}
use Rattle.link_core.specs.Images.{contents, image_of, tls_part}
use Rattle.link_needs.specs.Linking.{Linking, layout}
use Rattle.loaded_modules.specs.Images.{JobImages, block_size, image_at}
use Rattle.loaded_modules.specs.Loader.{block_of, filled, fresh_block, holds, initial_bytes, part_bytes}
use Rattle.loaded_modules.specs.declared.instance.Instance.{Instance}
use Rattle.thread_blocks.specs.JobLoads.{job_loads}
use Rattle.thread_blocks.specs.Turns.{at_number}
use Rattle.tls_layout.proofs.LawsOfTls.{front_of_segment}
use Rattle.tls_layout.specs.Places.{initial_tls, tls_alignment, tls_image, tls_size}
use Rattle.tls_map_laws.specs.Fits.{FreshBlocksAreFilled, FreshBlocksAreLong, LinkedInitialsFit}

-- the law
pub filled_fresh : FreshBlocksAreFilled
unfolding job_loads fresh_block
filled_fresh m x image tls at is = rw (at, is) refl

-- ** the length of a fresh block

take_low : {X : Type 0} (n : ℕ) (xs : List X) → length (take n xs) ≤ n
take_low zero xs = omega arith
take_low (suc n) [] = omega arith
take_low (suc n) (x ∷ xs) = let rest = take_low n xs in omega (arith, rest)

initial_low : (m : JobImages) (image : Spelled) (x : Instance) (tls : TlsPart) (part : Option Part)
    → length (initial_bytes m image x tls part) ≤ tls.initial
initial_low m image x tls None = omega arith
initial_low m image x tls (Some part) =
    let from = tls.address - part.address in
    let low = take_low (from + tls.initial - from) (drop from (part_bytes m image x part)) in
    omega (arith, low)

filled_long : (size : ℕ) (initial : List ℕ) → length initial ≤ size → length (filled size initial) ≡ size
filled_long size initial low =
    let whole = length-append initial (replicate (size - length initial) 0) in
    let rest = length-replicate {A = ℕ} (size - length initial) 0 in
    omega (arith, whole, rest, low)

block_long : (m : JobImages) (image : Spelled) (x : Instance) (tls : Option TlsPart)
    → IfSome tls (λ (t : TlsPart). t.initial ≤ t.size) → length (block_of m image x tls) ≡ block_size tls
block_long m image x None fits = refl
block_long m image x (Some tls) fits =
    let initial = initial_bytes m image x tls (find (holds tls) image.parts) in
    let low = initial_low m image x tls (find (holds tls) image.parts) in
    filled_long tls.size initial (omega (arith, low, fits))

fits_at : (images : List Spelled) (n : ℕ) (image : Spelled)
    → All (λ (i : Spelled). IfSome i.tls (λ (tls : TlsPart). tls.initial ≤ tls.size)) images
    → at_number images n ≡ Some image → IfSome image.tls (λ (tls : TlsPart). tls.initial ≤ tls.size)
fits_at images zero image fits at = cc
fits_at images (suc i) image fits at =
    subst (λ (s : Spelled). IfSome s.tls (λ (tls : TlsPart). tls.initial ≤ tls.size))
    (get_or_from_slice_get images i image image at) (fits i image (slice_get_within images i image at))

-- the law
pub long_fresh : FreshBlocksAreLong
unfolding job_loads fresh_block image_at
long_fresh m x image fits at =
    rw at (block_long m image x image.tls (fits_at m.images x.image image fits at))

-- ** linked images

linked_fits : (l : Linking) → Links l → IfSome (image_of l).tls (λ (tls : TlsPart). tls.initial ≤ tls.size)
unfolding image_of finished contents tls_part
linked_fits l links =
    of_test (tls_size (layout l).sections == 0) (front_of_segment (layout l) links.sound.limits.lawful).inside
  where
    of_test : (t : Bool) → (initial_tls (layout l).sections).end ≤ tls_size (layout l).sections
        → IfSome (if t then None else Some (record {
          address = (tls_image (layout l).kind (layout l).sections).start;
          initial = (initial_tls (layout l).sections).end;
          size = tls_size (layout l).sections;
          alignment = tls_alignment (layout l).sections;
        })) (λ (tls : TlsPart). tls.initial ≤ tls.size)
    of_test true inside = tt
    of_test false inside = inside

all_fit : (ls : List Linking) → All Links ls
    → All (λ (image : Spelled). IfSome image.tls (λ (tls : TlsPart). tls.initial ≤ tls.size)) (map image_of ls)
all_fit [] links = All-nil (λ (image : Spelled). IfSome image.tls (λ (tls : TlsPart). tls.initial ≤ tls.size))
all_fit (l ∷ ls) links =
    All-cons (λ (image : Spelled). IfSome image.tls (λ (tls : TlsPart). tls.initial ≤ tls.size)) (image_of l)
    (map image_of ls)
    (linked_fits l (All-head Links l ls links)) (all_fit ls (All-tail Links l ls links))

-- the law
pub initials_fit : LinkedInitialsFit
initials_fit ls together = all_fit ls together.links
