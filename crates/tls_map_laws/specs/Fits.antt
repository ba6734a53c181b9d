-- What a fresh block holds, and how long it is, of any images of a job; and that linked images have room for it.
use Rattle.std.specs.Prelude.{◌≡◌, ◌≤◌, ◌-◌, ◌++◌, List, length, replicate, Some, All, IfSome}
use Rattle.std.specs.List.{find}
use Rattle.image_file.specs.Spelled.{Spelled}
use Rattle.image_file.specs.declared.part.TlsPart.{TlsPart}
use Rattle.link_needs.specs.Linking.{Linking}
use Rattle.linked_modules.specs.Together.{AreTogether}
use Rattle.loaded_bytes.specs.Laws.{images_of}
use Rattle.loaded_modules.specs.Images.{JobImages, block_size, image_at}
use Rattle.loaded_modules.specs.Loader.{holds, initial_bytes}
use Rattle.loaded_modules.specs.declared.instance.Instance.{Instance}
use Rattle.thread_blocks.specs.JobLoads.{job_loads}

-- a fresh block is the initial image, as the instance has it, followed by zeros
abbrev pub FreshBlocksAreFilled : Type 0
FreshBlocksAreFilled = (m : JobImages) (x : Instance) (image : Spelled) (tls : TlsPart)
    → image_at m x.image ≡ Some image
    → image.tls ≡ Some tls
    → let initial = initial_bytes m image x tls (find (holds tls) image.parts) in
    (job_loads m).block x ≡ initial ++ replicate (tls.size - length initial) 0

-- an image's initial image is no longer than the blocks that begin with it (gABI, "Program Header": p_filesz, p_memsz)
abbrev pub InitialsFit : JobImages → Type 0
InitialsFit m = All (λ (image : Spelled). IfSome image.tls (λ (tls : TlsPart). tls.initial ≤ tls.size)) m.images

-- then a fresh block is as long as its image says
abbrev pub FreshBlocksAreLong : Type 0
FreshBlocksAreLong = (m : JobImages) (x : Instance) (image : Spelled) → InitialsFit m
    → image_at m x.image ≡ Some image
    → length ((job_loads m).block x) ≡ block_size image.tls

-- so it is of images that are linked together
abbrev pub LinkedInitialsFit : Type 0
LinkedInitialsFit = (ls : List Linking) → AreTogether ls → InitialsFit (images_of ls)
