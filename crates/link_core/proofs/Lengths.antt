-- The file ends where the last part does, and each part lies in it.
use Rattle.std.proofs.Common.{◌≡◌, ◌+◌, ◌≤◌, length, ap, ◌∙◌, arith}
use Rattle.std.specs.List.{All}
use Rattle.image_writer.specs.Page.{file_offset}
use Rattle.image_writer.specs.Told.{places_end}
use Rattle.link_faults.specs.ImageKinds.{base_of}
use Rattle.link_needs.specs.Linking.{Linking}
use Rattle.link_core.specs.Bytes.{file}
use Rattle.link_needs.specs.Given.{FitsTable, IsGiven}
use Rattle.link_core.specs.Images.{file_kind, places}
use Rattle.link_core.proofs.LengthsPlaces.{all_follow, end_from, lie_between, places_end-is, same_base}
use Rattle.link_core.proofs.LengthsRaw.{file_length}

-- each part lies in it
pub places_inside : (l : Linking) → IsGiven l → FitsTable l
    → All (λ part. file_offset (file_kind l.kind) part.address + part.size ≤ length (file l)) (places l)
places_inside l given limits k d below =
    let f = all_follow l in
    let lies = lie_between (base_of l.kind) (places l) f.follow k d below in
    omega (arith, lies.0, lies.1, f.ends, file_length l given limits, same_base l.kind)

-- it ends where the last part does
pub file_reaches : (l : Linking) → IsGiven l → FitsTable l
    → length (file l) ≡ file_offset (file_kind l.kind) (places_end (file_kind l.kind) (places l))
file_reaches l given limits =
    let base = same_base l.kind in
    let last = places_end-is (file_kind l.kind) (places l) in
    let start = ap (λ n. end_from n (places l)) base in
    omega (arith, file_length l given limits, last ∙ start ∙ (all_follow l).ends, base)
