-- The parts of an instance lie low: two words that lie in one end below 2^64.
use Rattle.std.proofs.Common.{◌≡◌, ◌∙◌, ◌+◌, ◌-◌, ◌^◌, ◌<◌, ◌≤◌, ◌==◌, ℕ, Bool, true, false, List, [], ◌∷◌, drop, fold}
use Rattle.std.proofs.Common.{length, Some, refl, sym, ap, subst, inl, arith}
use Rattle.std.specs.Prelude.{◌&&◌, if◌then◌else◌, nat_le, slice_get, slice_range}
use Rattle.std.proofs.lemmas.Bool.{false≢true, leb-true}
use Rattle.std.proofs.lemmas.List.{length-take}
use Rattle.std.proofs.lemmas.Option.{slice_get_within}
use Rattle.elf_records.specs.Laws.{length-splice}
use Rattle.elf_records.specs.declared.file_header.TheConstants.{ET_EXEC}
use Rattle.image_rules.specs.declared.rule.Rule.TheVariants.{Segment as SegmentRule}
use Rattle.image_faults.specs.Faults.{Breaks, IsImage}
use Rattle.image_faults.specs.Parts.{base, header, loads, segment}
use Rattle.image_faults.specs.Segments.{IsRightLoad}
use Rattle.image_file.specs.declared.relocation.ImageRelocation.{ImageRelocation}
use Rattle.image_file.specs.Spelled.{Part, Spelled, part, spelled}
use Rattle.image_file.specs.Tabled.{length-tabled, tabled_at}
use Rattle.loaded_modules.specs.declared.instance.Instance.{Instance}
use Rattle.loaded_modules.specs.Images.{JobImages, image_at}
use Rattle.loaded_modules.specs.Loader.{lies_in, part_bytes, relocation_bytes, with_relocation, with_written}
use Rattle.loaded_modules.specs.LoaderLaws.{bias_of, loaded_part}
use Rattle.thread_space.specs.Places.{behind}
use Rattle.thread_space.proofs.PartBytes.{behind_some, part_here}
use Rattle.loaded_modules.proofs.TlsKept.{at_most}
use Rattle.module_data.proofs.Low.{base_low, inside as same_part}

-- ** the part of an image

both : (a b : Bool) → (a && b) ≡ true → (a ≡ true) × (b ≡ true)
both true b h = (refl, h)
both false b h = absurd (false≢true h)

written_long : (t : Bool) (part : Part) (bytes : List ℕ) (place : ℕ) (w : List ℕ) → lies_in part place (length w) ≡ t
    → length bytes ≡ length part.bytes
    → length (with_written part bytes place w) ≡ length part.bytes
written_long true part bytes place w is same =
    let at = both (nat_le part.address place) (nat_le (place + length w) (part.address + length part.bytes)) is in
    let low : part.address ≤ place = leb-true part.address place at.0 in
    let high : place + length w ≤ part.address + length part.bytes =
    leb-true (place + length w) (part.address + length part.bytes) at.1 in
    rw is (length-splice (place - part.address) w bytes (omega (arith, low, high, same)) ∙ same)
written_long false part bytes place w is same = rw is same

fold_long : (m : JobImages) (image : Spelled) (x : Instance) (part : Part) (rs : List ImageRelocation) (bytes : List ℕ)
    → length bytes ≡ length part.bytes
    → length (fold (with_relocation m image x part) bytes rs) ≡ length part.bytes
fold_long m image x part [] bytes same = same
fold_long m image x part (r ∷ rs) bytes same =
    fold_long m image x part rs (with_relocation m image x part bytes r)
    (written_long (lies_in part r.place (length (relocation_bytes m image x r))) part bytes r.place
    (relocation_bytes m image x r) refl same)

pub length-part_bytes : (m : JobImages) (image : Spelled) (x : Instance) (part : Part)
    → length (part_bytes m image x part) ≡ length part.bytes
unfolding part_bytes
length-part_bytes m image x part = fold_long m image x part image.relocations part.bytes refl

-- ** where parts end

fits : (b : List ℕ) (i : ℕ) → IsRightLoad b i → (segment b i).vaddr + (segment b i).filesz ≤ base b + 2 ^ 26
fits b i right = omega (arith, right.2.0, right.3.1)

load_low : (b : List ℕ) → IsImage b → (i : ℕ) → i < loads b → (segment b i).vaddr + (segment b i).filesz < 2 ^ 27
unfolding Breaks
load_low b image i within =
    let low = at_most ((segment b i).vaddr + (segment b i).filesz) (base b + 2 ^ 26)
    (λ no. image SegmentRule i (inl (within, λ right. no (fits b i right)))) in
    omega (arith, low, base_low ((header b).e_type == ET_EXEC))

range_long : (xs : List ℕ) (from n : ℕ) → length (slice_range xs from (from + n)) ≤ n
range_long xs from n = let e : from + n - from ≡ n = omega arith in rw e (omega (arith, length-take n (drop from xs)))

found_low : (b : List ℕ) → IsImage b → (i : ℕ) (p : Part) → slice_get (spelled b).parts i ≡ Some p
    → p.address + length p.bytes < 2 ^ 27
unfolding part
found_low b image i p is =
    let within : i < loads b = let lt = slice_get_within (spelled b).parts i p is in
    let long = length-tabled (part b) (loads b) in omega (arith, lt, long) in
    let same = same_part (part b i) p (sym (tabled_at (part b) (loads b) i within) ∙ is) in
    let long = range_long b (segment b i).offset (segment b i).filesz in
    subst (λ (q : Part). q.address + length q.bytes < 2 ^ 27) same (omega (arith, load_low b image i within, long))

pub part_low : (image : Spelled) → (b : List ℕ) × (IsImage b × (image ≡ spelled b)) → (i : ℕ) (p : Part)
    → slice_get image.parts i ≡ Some p → p.address + length p.bytes < 2 ^ 27
part_low image (b, (is, spells)) i p at =
    found_low b is i p (ap (λ (s : Spelled). slice_get s.parts i) (sym spells) ∙ at)

-- ** moves

-- ** two words

pub words_low : (m : JobImages) (image : Spelled) (x : Instance) (i : ℕ) (part : Part) (address at : ℕ)
    → (b : List ℕ) × (IsImage b × (image ≡ spelled b)) → image_at m x.image ≡ Some image
    → slice_get image.parts i ≡ Some part
    → bias_of m x < 2 ^ 59 → behind (part.address + bias_of m x) address ≡ Some at
    → at + 16 ≤ length (loaded_part m x i)
    → address + 16 ≤ 2 ^ 64
words_low m image x i part address at spells there is moved begins room =
    let here = behind_some (part.address + bias_of m x) address at begins in
    let low : part.address + bias_of m x ≤ address = leb-true (part.address + bias_of m x) address here.0 in
    let long : length (loaded_part m x i) ≡ length part.bytes =
    ap (λ (bytes : List ℕ). length bytes) (part_here m image x i there part is) ∙ length-part_bytes m image x part
    in
    omega (arith, here.1, low, long, room, moved, part_low image spells i part is)
