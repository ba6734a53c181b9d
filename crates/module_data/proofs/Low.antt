-- The addresses of parts are small.
use Rattle.std.proofs.Common.{◌≡◌, ◌∙◌, ◌+◌, ◌^◌, ◌<◌, ◌≤◌, ◌==◌, ℕ, Bool, true, false, List, Option, Some, None, sym}
use Rattle.std.proofs.Common.{ap, subst, inl, arith}
use Rattle.std.specs.Prelude.{if◌then◌else◌}
use Rattle.std.specs.List.{slice_get}
use Rattle.std.proofs.lemmas.Option.{slice_get_within}
use Rattle.elf_records.specs.declared.file_header.TheConstants.{ET_EXEC}
use Rattle.image_rules.specs.declared.places.FileKind.{FileKind}
use Rattle.image_rules.specs.declared.places.FileKind.TheVariants.{Exe, Pie, Module}
use Rattle.image_rules.specs.declared.rule.Rule.TheVariants.{Segment as SegmentRule}
use Rattle.image_faults.specs.Faults.{Breaks, IsImage}
use Rattle.image_faults.specs.Parts.{base, header, loads, segment}
use Rattle.image_faults.specs.Segments.{IsRightLoad}
use Rattle.image_file.specs.Spelled.{Part, Spelled, part, spelled}
use Rattle.image_file.specs.Tabled.{length-tabled, tabled_at}
use Rattle.loaded_modules.specs.declared.instance.Instance.{Instance}
use Rattle.loaded_modules.specs.Images.{JobImages, image_at}
use Rattle.loaded_modules.specs.Loader.{bias}
use Rattle.loaded_modules.specs.LoaderLaws.{bias_in, bias_of}
use Rattle.loaded_modules.proofs.TlsKept.{at_most}

-- ** parts

pub base_low : (t : Bool) → (if t then 0x400000 else 0) ≤ 0x400000
base_low true = omega arith
base_low false = omega arith

fits : (b : List ℕ) (i : ℕ) → IsRightLoad b i → (segment b i).vaddr ≤ base b + 2 ^ 26
fits b i right = omega (arith, right.3.1)

load_low : (b : List ℕ) → IsImage b → (i : ℕ) → i < loads b → (segment b i).vaddr < 2 ^ 32
unfolding Breaks
load_low b image i within =
    let low = at_most (segment b i).vaddr (base b + 2 ^ 26)
    (λ no. image SegmentRule i (inl (within, λ right. no (fits b i right)))) in
    omega (arith, low, base_low ((header b).e_type == ET_EXEC))

pub inside : (x y : Part) → Some x ≡ Some y → x ≡ y
inside x y e = cc

found_low : (b : List ℕ) → IsImage b → (i : ℕ) (p : Part) → slice_get (spelled b).parts i ≡ Some p → p.address < 2 ^ 32
unfolding part
found_low b image i p is =
    let within : i < loads b = let lt = slice_get_within (spelled b).parts i p is in
    let long = length-tabled (part b) (loads b) in omega (arith, lt, long) in
    let same = inside (part b i) p (sym (tabled_at (part b) (loads b) i within) ∙ is) in
    subst (λ (q : Part). q.address < 2 ^ 32) same (load_low b image i within)

pub part_low : (image : Spelled) → (b : List ℕ) × (IsImage b × (image ≡ spelled b)) → (i : ℕ) (p : Part)
    → slice_get image.parts i ≡ Some p → p.address < 2 ^ 32
part_low image (b, (is, spells)) i p at =
    found_low b is i p (ap (λ (s : Spelled). slice_get s.parts i) (sym spells) ∙ at)
