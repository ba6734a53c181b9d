-- The parts of an image stand in its bytes, each at the offset of its address.
use Rattle.std.proofs.Common.{ℕ, ◌+◌, ◌-◌, ◌<◌, ◌≤◌, ◌≡◌, suc, Some, List, [], ◌∷◌, length, map, take, drop, get_or}
use Rattle.std.proofs.Common.{refl, subst, sym, ap, ◌∙◌, arith}
use Rattle.std.specs.List.{slice_get}
use Rattle.std.proofs.lemmas.List.{get_or-map, length-map, length-take-le}
use Rattle.std.proofs.lemmas.Option.{get_or_from_slice_get, slice_get-get_or, slice_get_within}
use Rattle.elf_records.specs.Fields.{part_at}
use Rattle.elf_records.specs.Laws.{part_at-take}
use Rattle.image_rules.specs.declared.places.FileKind.{FileKind}
use Rattle.image_faults.specs.Faults.{IsImage}
use Rattle.image_faults.specs.Parts.{loads, segment}
use Rattle.image_faults.specs.Places.{file_kind}
use Rattle.image_file.specs.Spelled.{Part, Spelled, spelled}
use Rattle.image_file.specs.Spelled.{part as part_read}
use Rattle.image_file.specs.Tabled.{length-tabled, tabled_at}
use Rattle.image_writer.specs.Contents.{part_in}
use Rattle.image_writer.specs.Loadable.{IsLoadable}
use Rattle.image_writer.specs.Outlined.{end_of, outline_of, last_part, no_part, part, place_of}
use Rattle.image_writer.specs.Page.{file_offset}
use Rattle.image_writer.proofs.Filing.{loadable_of}
use Rattle.image_writer.proofs.HeaderExtents.{ends_within}
use Rattle.image_writer.proofs.Laying.{past}
use Rattle.image_writer.proofs.Positive.{dynamic_right, load_right, segment_in}
use Rattle.image_writer.proofs.Seen.{length_between, seen}
use Rattle.image_writer.proofs.SameHeaders.{offset_again}

-- every part stands in the bytes, inside of them
abbrev pub AllStand : FileKind → List ℕ → List Part → Type 0
AllStand kind file parts = (i : ℕ) (p : Part) → slice_get parts i ≡ Some p
    → (file_offset kind p.address + length p.bytes ≤ length file)
    × (part_at (length p.bytes) (file_offset kind p.address) file ≡ p.bytes)

-- LOAD i stands there
stands_read : (b : List ℕ) → IsImage b → (i : ℕ) → i < loads b
    → (file_offset (file_kind b) (part_read b i).address + length (part_read b i).bytes ≤ length b)
    × (part_at (length (part_read b i).bytes) (file_offset (file_kind b) (part_read b i).address) b
    ≡ (part_read b i).bytes)
unfolding part_read part_at
stands_read b image i h =
    let s = segment b i in
    let from = s.offset in
    let n = s.filesz in
    let ends = segment_in b image i (omega (arith, h, (dynamic_right b image).1)) in
    let long = length_between b from n ends in
    let offset : file_offset (file_kind b) s.vaddr ≡ from =
    offset_again (file_kind b) b s (seen b image).base_is (load_right b image i h).0 in
    let size : from + n - from ≡ n = omega arith in (
      omega (arith, offset, long, ends),
      ap (λ m. take m (drop (file_offset (file_kind b) s.vaddr) b)) (long ∙ sym size)
          ∙ ap (λ k. take (from + n - from) (drop k b)) offset,
    )

pub all_stand : (b : List ℕ) → IsImage b → AllStand (file_kind b) b (spelled b).parts
all_stand b image i p is =
    let below : i < loads b =
    omega (arith, slice_get_within (spelled b).parts i p is, length-tabled (part_read b) (loads b)) in
    let there = tabled_at (part_read b) (loads b) i below in
    let same : part_read b i ≡ p = cc in
    let P : Part → Type 0 = λ q. (file_offset (file_kind b) q.address + length q.bytes ≤ length b)
    × (part_at (length q.bytes) (file_offset (file_kind b) q.address) b ≡ q.bytes) in
    subst P same (stands_read b image i below)

-- parts that stand in a file are found by their places
pub parts_again : (kind : FileKind) (file : List ℕ) (ps : List Part) → AllStand kind file ps
    → map (part_in kind file) (map place_of ps) ≡ ps
parts_again kind file [] stand = refl
parts_again kind file (p ∷ more) stand =
    let here : part_in kind file (place_of p) ≡ p =
    ap (λ ys. record { class = p.class; address = p.address; bytes = ys }) (stand 0 p refl).1 in
    let rest = parts_again kind file more (λ i q is. stand (suc i) q is) in
    ap (λ q. q ∷ map (part_in kind file) (map place_of more)) here ∙ ap (λ qs. p ∷ qs) rest

-- the last part of an outline
last_place : (s : Spelled) → IsLoadable (outline_of s)
    → (0 < length s.parts) × (last_part (outline_of s) ≡ place_of (get_or s.parts (length s.parts - 1) past))
last_place s loadable =
    let count : length (map place_of s.parts) ≡ length s.parts = length-map s.parts place_of in
    let some : 0 < length s.parts = omega (arith, loadable.some, count) in
    let inside : length s.parts - 1 < length s.parts = omega arith in (
      some,
      ap (λ n. get_or (map place_of s.parts) (n - 1) no_part) count
          ∙ get_or-map place_of s.parts (length s.parts - 1) past no_part inside,
    )

-- a file that is cut where the last part ends: that many bytes are left, and all parts with them
pub cut_stands : (s : Spelled) (b : List ℕ) (size : ℕ) → IsLoadable (outline_of s) → AllStand s.kind b s.parts
    → size ≡ file_offset s.kind (end_of (last_part (outline_of s)))
    → (length (take size b) ≡ size) × AllStand s.kind (take size b) s.parts
cut_stands s b size loadable stand size-is =
    let o = outline_of s in
    let final = last_place s loadable in
    let n = length s.parts - 1 in
    let last = get_or s.parts n past in
    let below : n < length s.parts = omega (arith, final.0) in
    let fits = (stand n last (slice_get-get_or s.parts n past below)).0 in
    let count : length (map place_of s.parts) ≡ length s.parts = length-map s.parts place_of in
    let right = loadable.parts n (omega (arith, below, count)) in
    let last-is : part o n ≡ place_of last = get_or-map place_of s.parts n past no_part below in
    let ends = ap end_of final.1 in
    let address = ap (λ p. p.address) last-is in
    let room : size ≤ length b = omega (arith, size-is, ends, fits, right.above, address) in
    let long : length (take size b) ≡ size = length-take-le size b room in (
      long,
      λ i p is.
          let there = stand i p is in
          let within : i < length s.parts = slice_get_within s.parts i p is in
          let in-outline : i < length o.parts = omega (arith, within, count) in
          let here : part o i ≡ place_of p =
          get_or-map place_of s.parts i past no_part within ∙ ap place_of (get_or_from_slice_get s.parts i p past is) in
          let before = ends_within o i loadable in-outline in
          let at = ap (λ q. q.address) here in
          let end = ap end_of here in
          let above = (loadable.parts i in-outline).above in
          let inside : file_offset s.kind p.address + length p.bytes ≤ size =
          omega (arith, before, at, end, above, size-is) in (
            omega (arith, inside, long),
            part_at-take (length p.bytes) (file_offset s.kind p.address) size b inside
                ∙ there.1,
          ),
    )

-- the bytes of an image, cut where its last part ends
pub cut_again : (s : Spelled) (b file : List ℕ) (size : ℕ) → IsImage b → spelled b ≡ s
    → size ≡ file_offset s.kind (end_of (last_part (outline_of s))) → file ≡ take size b
    → (length file ≡ size) × (map (part_in s.kind file) (map place_of s.parts) ≡ s.parts)
cut_again s b file size image is size-is cut =
    let P : Spelled → Type 0 = λ t. AllStand t.kind b t.parts in
    let stand : AllStand s.kind b s.parts = subst P is (all_stand b image) in
    let left = cut_stands s b size (loadable_of s b image (sym is)) stand size-is in (
      ap length cut ∙ left.0,
      ap (λ f. map (part_in s.kind f) (map place_of s.parts)) cut
          ∙ parts_again s.kind (take size b) s.parts left.1,
    )
