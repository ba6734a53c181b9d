-- What is written of an image is a file of it.
use Rattle.std.proofs.Common.{ℕ, suc, ◌+◌, ◌-◌, ◌*◌, ◌<◌, ◌≤◌, ◌≡◌, Some, List, [], ◌∷◌, ◌++◌, length, map, take, drop}
use Rattle.std.proofs.Common.{get_or, replicate, refl, subst, sym, ap, ◌∙◌, arith, append_assoc, length-append}
use Rattle.std.specs.List.{flat_map, slice_get}
use Rattle.std.proofs.lemmas.List.{append-nil, drop_all, length-map, length-replicate, get_or-map, take_at}
use Rattle.elf_records.specs.Fields.{splice, part_at}
use Rattle.elf_records.specs.Laws.{part_again}
use Rattle.elf_records.specs.Records.{header_bytes, segment_bytes}
use Rattle.image_faults.specs.Faults.{IsImage}
use Rattle.image_file.specs.Spelled.{Part, Spelled, spelled}
use Rattle.image_writer.specs.Files.{IsFileOf}
use Rattle.image_writer.specs.Loadable.{IsLoadable, HoldsTls}
use Rattle.image_writer.specs.Outlined.{Outlined, end_of, outline_of, last_part, no_part, place_of}
use Rattle.image_writer.specs.Page.{base_of, file_offset, page, program_headers}
use Rattle.image_writer.specs.Written.{laid, written}
use Rattle.image_writer.proofs.Agreement.{reads_again}
use Rattle.image_writer.proofs.Loaded.{loadable}
use Rattle.image_writer.proofs.Headings.{length-file_header, length-segments, program_headers-count}
use Rattle.image_writer.proofs.Laying.{part_end, past, reach, reach-laid, laid-append, around, rise_at, parts_rise}
use Rattle.image_writer.proofs.FileHeader.{file_header}

-- what is put over zeros behind other bytes
pub splice_end : (old new : List ℕ) (n : ℕ) → length new ≡ n
    → splice (length old) new (old ++ replicate n 0) ≡ old ++ new
unfolding splice
splice_end old new n long =
    let zeros : List ℕ = replicate n 0 in
    let size : length zeros ≡ n = length-replicate n 0 in
    let both = length-append old zeros in
    let front : take (length old) (old ++ zeros) ≡ old = take_at old zeros (length old) refl in
    let back : drop (length old + length new) (old ++ zeros) ≡ [] =
    drop_all (length old + length new) (old ++ zeros) (omega arith) in
    rw (front, back) (ap (λ ys. old ++ ys) (append-nil new))

-- how long the page is
pub length-page : (o : Outlined) → IsLoadable o → length (page o) ≡ 4096
unfolding page
length-page o loadable =
    let H = header_bytes (file_header o) in
    let P = flat_map segment_bytes (program_headers o) in
    let Z : List ℕ = replicate (4032 - 56 * length (program_headers o)) 0 in
    let few = loadable.few in
    let count = program_headers-count o in
    let long-h = length-file_header o in
    let long-p : length P ≡ 56 * length (program_headers o) = length-segments (program_headers o) in
    let long-z : length Z ≡ 4032 - 56 * length (program_headers o) =
    length-replicate (4032 - 56 * length (program_headers o)) 0 in
    let inner = length-append P Z in
    let outer = length-append H (P ++ Z) in
    omega arith

-- where laying comes to
pub reach-end : (at : ℕ) (ps : List Part) → 0 < length ps → reach at ps ≡ part_end (get_or ps (length ps - 1) past)
reach-end at [] some = absurd (omega arith)
reach-end at (p ∷ []) some = refl
reach-end at (p ∷ (q ∷ more)) some =
    let rest = reach-end (part_end p) (q ∷ more) (omega arith) in
    let shorter : length (q ∷ more) - 1 ≡ length more = omega arith in
    let longer : length (p ∷ (q ∷ more)) - 1 ≡ suc (length more) = omega arith in
    rw longer (rw shorter at rest)

-- how long the file is
pub length-written : (s : Spelled) → IsLoadable (outline_of s)
    → length (written s) ≡ file_offset s.kind (end_of (last_part (outline_of s)))
unfolding written
length-written s loadable =
    let low = base_of s.kind in
    let count : length (map place_of s.parts) ≡ length s.parts = length-map s.parts place_of in
    let both = length-append (page (outline_of s)) (laid low s.parts) in
    let first = length-page (outline_of s) loadable in
    let rises = parts_rise s loadable in
    let come : low + length (laid low s.parts) ≡ reach low s.parts = reach-laid low s.parts rises in
    let some : 0 < length s.parts = omega (arith, loadable.some, count) in
    let end = reach-end low s.parts some in
    let inside : length s.parts - 1 < length s.parts = omega arith in
    let last : last_part (outline_of s) ≡ place_of (get_or s.parts (length s.parts - 1) past) =
    ap (λ n. get_or (map place_of s.parts) (n - 1) no_part) count
    ∙ get_or-map place_of s.parts (length s.parts - 1) past no_part inside in
    let ends = ap end_of last in
    omega (arith, both, first, come, end, ends)

-- a part stands at its offset
pub part_stands : (s : Spelled) (i : ℕ) (p : Part) → IsLoadable (outline_of s) → slice_get s.parts i ≡ Some p
    → part_at (length p.bytes) (file_offset s.kind p.address) (written s) ≡ p.bytes
unfolding written
part_stands s i p loadable is =
    let low = base_of s.kind in
    let xs = take i s.parts in
    let ys = drop (suc i) s.parts in
    let before = rise_at low s.parts i p is (parts_rise s loadable) in
    let come : low + length (laid low xs) ≡ reach low xs = reach-laid low xs before.0 in
    let begins : reach low xs ≤ p.address = before.1 in
    let gap : List ℕ = replicate (p.address - reach low xs) 0 in
    let long-gap : length gap ≡ p.address - reach low xs = length-replicate (p.address - reach low xs) 0 in
    let P = page (outline_of s) in
    let long-page = length-page (outline_of s) loadable in
    let L = laid low xs in
    let R = laid (part_end p) ys in
    let inner = length-append L gap in
    let outer = length-append P (L ++ gap) in
    let place : length (P ++ (L ++ gap)) ≡ file_offset s.kind p.address =
    omega (arith, come, begins, long-gap, long-page, inner, outer) in
    let split : P ++ laid low s.parts ≡ (P ++ (L ++ gap)) ++ (p.bytes ++ R) =
    ap (λ qs. P ++ laid low qs) (around s.parts i p is)
    ∙ ap (λ zs. P ++ zs) (laid-append low xs (p ∷ ys) ∙ sym (append_assoc L gap (p.bytes ++ R)))
    ∙ sym (append_assoc P (L ++ gap) (p.bytes ++ R)) in
    ap (part_at (length p.bytes) (file_offset s.kind p.address)) split
    ∙ part_again (file_offset s.kind p.address) (P ++ (L ++ gap)) p.bytes R place

-- what is left of a list that is written over whole
pub over_all : (n : ℕ) (new old : List ℕ) → length new ≡ n → take n (new ++ drop (length new) old) ≡ new
over_all n new old long = take_at new (drop (length new) old) n long

-- the file of an image
pub is_file : (s : Spelled) → IsLoadable (outline_of s) → IsFileOf (written s) s
unfolding written
is_file s loadable = record {
  page_is = take_at (page (outline_of s)) (laid (base_of s.kind) s.parts) 4096 (length-page (outline_of s) loadable);
  parts_are = λ i p is. part_stands s i p loadable is;
}

-- what is spelled can be loaded, and is read again of what is written
pub loadable_of : (s : Spelled) (b : List ℕ) → IsImage b → s ≡ spelled b → IsLoadable (outline_of s)
loadable_of s b image is =
    let P = λ (t : Spelled). IsLoadable (outline_of t) in
    subst P (sym is) (loadable b image)

pub again_of : (s : Spelled) (b : List ℕ) → IsImage b → s ≡ spelled b → HoldsTls (outline_of s)
    → IsImage (written s) × (spelled (written s) ≡ s)
again_of s b image is holds =
    let T = λ (t : Spelled). HoldsTls (outline_of t) in
    let F = λ (t : Spelled). IsFileOf (written s) t in
    let read = reads_again b (written s) image (subst T is holds) (subst F is (is_file s (loadable_of s b image is))) in
    (read.0, read.1 ∙ sym is)

-- the page, and the parts behind it
pub length-written-parts : (s : Spelled) → IsLoadable (outline_of s)
    → length (written s) ≡ 4096 + length (laid (base_of s.kind) s.parts)
unfolding written
length-written-parts s can =
    length-append (page (outline_of s)) (laid (base_of s.kind) s.parts)
    ∙ ap (λ n. n + length (laid (base_of s.kind) s.parts)) (length-page (outline_of s) can)

-- what is written behind other bytes, once the file was made longer by zeros
pub written_behind : (old new grown lent put : List ℕ) (n at long : ℕ) → n ≡ length new → at ≡ length old
    → length grown ≡ long → grown ≡ old ++ replicate n 0 → lent ≡ grown → put ≡ splice at new lent
    → take long (put ++ drop (length put) grown) ≡ old ++ new
written_behind old new grown lent put n at long n-is at-is long-is grew same wrote =
    let end : put ≡ old ++ new =
    wrote ∙ ap (λ k. splice k new lent) at-is ∙ ap (splice (length old) new) (same ∙ grew)
    ∙ splice_end old new n (sym n-is) in
    let padding : List ℕ = replicate n 0 in
    let zeros : length padding ≡ n = length-replicate n 0 in
    let more : length (old ++ padding) ≡ length old + length padding = length-append old padding in
    let both = length-append old new in
    let wide : length grown ≡ length (old ++ padding) = ap length grew in
    let put-long = ap length end in
    over_all long put grown (omega arith) ∙ end
