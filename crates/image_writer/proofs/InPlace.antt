-- A file that is made in place: its parts stand at their offsets already, and zeros are put between them.
use Rattle.std.proofs.Common.{ℕ, ◌+◌, ◌-◌, ◌<◌, ◌≤◌, ◌≡◌, false, Some, All, List, [], ◌++◌, length, map, take, drop}
use Rattle.std.proofs.Common.{get_or, option_map, replicate, refl, subst, sym, ap, ◌∙◌, arith, append_assoc}
use Rattle.std.proofs.Common.{length-append, length-drop}
use Rattle.std.specs.List.{slice_get}
use Rattle.std.proofs.lemmas.List.{append-nil, drop_all, drop_at, drop-drop, get_or_default, length-map}
use Rattle.std.proofs.lemmas.List.{length-replicate, length-take-le, take-append-drop}
use Rattle.std.proofs.lemmas.Option.{slice_get-get_or, slice_get-map}
use Rattle.elf_records.specs.Fields.{part_at, splice}
use Rattle.elf_records.specs.Laws.{drop-splice, length-splice}
use Rattle.image_file.specs.declared.part.PartClass.TheVariants.{Executable}
use Rattle.image_file.specs.Spelled.{Part, Spelled}
use Rattle.image_writer.specs.declared.outline.PartPlace.{PartPlace}
use Rattle.image_writer.specs.Contents.{part_in}
use Rattle.image_writer.specs.Loadable.{IsLoadable}
use Rattle.image_writer.specs.Outlined.{Outlined, end_of, outline_of, last_part, no_part}
use Rattle.image_writer.specs.Page.{base_of, file_offset}
use Rattle.image_writer.specs.Written.{laid}
use Rattle.image_writer.proofs.Filing.{length-written, length-written-parts}
use Rattle.image_writer.proofs.HeaderExtents.{ends_within}
use Rattle.image_writer.proofs.Laying.{part_place, parts_rise, put_next_part, reach, reach-laid, reach-next, rise_at}
use Rattle.image_writer.proofs.Making.{part_in-size, places-in}

-- what is put in front of bytes is put with them
pub splice_before : (at n : ℕ) (xs bytes : List ℕ) → at + length xs + n ≤ length bytes
    → splice at xs bytes ≡ splice at (xs ++ part_at n (at + length xs) bytes) bytes
unfolding splice part_at
splice_before at n xs bytes inside =
    let k = at + length xs in
    let there = take n (drop k bytes) in
    let left = length-drop k bytes in
    let long : length there ≡ n = length-take-le n (drop k bytes) (omega arith) in
    let both = length-append xs there in
    let place : at + length (xs ++ there) ≡ k + n = omega arith in
    let back : drop (at + length (xs ++ there)) bytes ≡ drop n (drop k bytes) =
    ap (λ m. drop m bytes) place ∙ sym (drop-drop n k bytes) in
    ap (λ ys. take at bytes ++ ys) (
    ap (λ ys. xs ++ ys) (sym (take-append-drop n (drop k bytes)))
    ∙ sym (append_assoc xs there (drop n (drop k bytes)))
    ∙ ap (λ ys. (xs ++ there) ++ ys) (sym back)
    )

-- bytes behind what was put stay
part_stays : (n k at : ℕ) (xs bytes : List ℕ) → at + length xs ≤ k → at ≤ length bytes
    → part_at n k (splice at xs bytes) ≡ part_at n k bytes
unfolding part_at
part_stays n k at xs bytes above inside = ap (take n) (drop-splice at k xs bytes above inside)

-- a page put over a file, and all that is behind it
pub page_over : (page rest bytes : List ℕ) → length page ≡ 4096 → length bytes ≡ 4096 + length rest
    → splice 0 page (splice 4096 rest bytes) ≡ page ++ rest
unfolding splice
page_over page rest bytes long all =
    let front : length (take 4096 bytes) ≡ 4096 = length-take-le 4096 bytes (omega arith) in
    let past : drop (4096 + length rest) bytes ≡ [] = drop_all (4096 + length rest) bytes (omega arith) in
    let whole = rest ++ drop (4096 + length rest) bytes in
    let place : 0 + length page ≡ 4096 = omega arith in
    ap (λ ys. page ++ ys) (
    ap (λ m. drop m (take 4096 bytes ++ whole)) place
    ∙ drop_at (take 4096 bytes) whole 4096 front
    ∙ ap (λ ys. rest ++ ys) past
    ∙ append-nil rest
    )

-- where a part lies, in no outline
abbrev pub no_place : PartPlace
no_place = record { class = Executable; address = 0; size = 0 }

-- an image of the parts that stand in a file
abbrev pub image_in : Outlined → List ℕ → Spelled
image_in o file = record {
  kind = o.kind;
  parts = map (part_in o.kind file) o.parts;
  array_size = o.array_size;
  got = o.got;
  tls = o.tls;
  symbols = [];
  names = [];
  relocations = [];
  is_flagged = false;
}

module _ (o : Outlined) (old : List ℕ) (loadable : IsLoadable o)
    (room : file_offset o.kind (end_of (last_part o)) ≤ length old) where
  abbrev base : ℕ
  base = base_of o.kind

  abbrev parts : List Part
  parts = map (part_in o.kind old) o.parts

  -- each part stands inside the file
  pub all_inside : All (λ (q : PartPlace). file_offset o.kind q.address + q.size ≤ length old) o.parts
  all_inside i d below =
      let right = loadable.parts i below in
      let ends = ends_within o i loadable below in
      let above = right.above in
      let P : PartPlace → Type 0 = λ q. file_offset o.kind q.address + q.size ≤ length old in
      subst P (get_or_default o.parts i no_part d below) (omega (arith, ends, above, room))

  outline_again : outline_of (image_in o old) ≡ o
  outline_again =
      let with_parts : List PartPlace
      → Outlined = λ ps. record
      { kind = o.kind; parts = ps; array_size = o.array_size; got = o.got; tls = o.tls } in
      ap with_parts (places-in o.kind old o.parts all_inside)

  again : IsLoadable (outline_of (image_in o old))
  again = subst IsLoadable (sym outline_again) loadable

  -- how many bytes the parts take behind the page
  pub size_is : 4096 + length (laid (base_of o.kind) (map (part_in o.kind old) o.parts))
      ≡ file_offset o.kind (end_of (last_part o))
  size_is =
      let s = image_in o old in
      sym (length-written-parts s again) ∙ length-written s again
      ∙ ap (λ (p : Outlined). file_offset o.kind (end_of (last_part p))) outline_again

  there : (i : ℕ) (d : PartPlace) → i < length o.parts
      → slice_get parts i ≡ Some (part_in o.kind old (get_or o.parts i d))
  there i d below =
      slice_get-map (part_in o.kind old) o.parts i
      ∙ ap (option_map (part_in o.kind old)) (slice_get-get_or o.parts i d below)

  -- what the gap before a part keeps, where putting has come to it
  pub gap_place : (out : List ℕ) (i end : ℕ) (d : PartPlace) → i < length o.parts
      → out ≡ splice 4096 (laid (base_of o.kind) (take i (map (part_in o.kind old) o.parts))) old
      → end ≡ reach (base_of o.kind) (take i (map (part_in o.kind old) o.parts))
      → (base_of o.kind ≤ end) × (end ≤ (get_or o.parts i d).address) × (end_of (get_or o.parts i d) ≤ 71303168)
      × (file_offset o.kind end + ((get_or o.parts i d).address - end) + (get_or o.parts i d).size ≤ length out)
      × (length (part_in o.kind old (get_or o.parts i d)).bytes ≡ (get_or o.parts i d).size)
  gap_place out i end d below was end-is =
      let q = get_or o.parts i d in
      let p = part_in o.kind old q in
      let is-there = there i d below in
      let inside = all_inside i d below in
      let size = part_in-size o.kind old q inside in
      let facts = part_place (image_in o old) i p base end again is-there refl end-is in
      let L = laid base (take i parts) in
      let before = rise_at base parts i p is-there (parts_rise (image_in o old) again) in
      let come : base + length L ≡ reach base (take i parts) = reach-laid base (take i parts) before.0 in
      let small : 4096 + length L ≤ length old = omega (arith, come, end-is, facts.0, facts.3, size_is, room) in
      let long : length out ≡ length old = ap length was ∙ length-splice 4096 L old small in (
        facts.0,
        facts.1,
        omega (arith, facts.2, size),
        omega (arith, facts.0, facts.1, long, inside),
        size,
      )

  -- zeros that are put into it
  pub gap_put : (out new : List ℕ) (i end : ℕ) (d : PartPlace) → i < length o.parts
      → out ≡ splice 4096 (laid (base_of o.kind) (take i (map (part_in o.kind old) o.parts))) old
      → end ≡ reach (base_of o.kind) (take i (map (part_in o.kind old) o.parts))
      → new ≡ splice (file_offset o.kind end) (replicate ((get_or o.parts i d).address - end) 0) out
      → (new ≡ splice 4096 (laid (base_of o.kind) (take (i + 1) (map (part_in o.kind old) o.parts))) old)
      × (end_of (get_or o.parts i d) ≡ reach (base_of o.kind) (take (i + 1) (map (part_in o.kind old) o.parts)))
  gap_put out new i end d below was end-is wrote =
      let q = get_or o.parts i d in
      let p = part_in o.kind old q in
      let is-there = there i d below in
      let facts = gap_place out i end d below was end-is in
      let L = laid base (take i parts) in
      let before = rise_at base parts i p is-there (parts_rise (image_in o old) again) in
      let come : base + length L ≡ reach base (take i parts) = reach-laid base (take i parts) before.0 in
      let at = file_offset o.kind end in
      let zeros : List ℕ = replicate (q.address - end) 0 in
      let count : length zeros ≡ q.address - end = length-replicate (q.address - end) 0 in
      let place : at + length zeros ≡ file_offset o.kind q.address = omega (arith, count, facts.0, facts.1) in
      let inside = all_inside i d below in
      let behind : 4096 + length L ≤ file_offset o.kind q.address = omega (arith, come, end-is, facts.0, facts.1) in
      let stays : part_at q.size (file_offset o.kind q.address) out ≡ p.bytes =
      ap (part_at q.size (file_offset o.kind q.address)) was
      ∙ part_stays q.size (file_offset o.kind q.address) 4096 L old behind (omega (arith, inside, behind)) in
      let from : at ≡ 4096 + (end - base) = omega (arith, facts.0) in
      let below-parts : i < length parts = omega (arith, below, length-map o.parts (part_in o.kind old)) in
      let all : new ≡ splice (4096 + (reach base (take i parts) - base))
      (replicate (p.address - reach base (take i parts)) 0 ++ p.bytes) out =
      wrote
      ∙ splice_before at q.size zeros out (omega (arith, count, facts.3))
      ∙ ap (λ m. splice at (zeros ++ part_at q.size m out) out) place
      ∙ ap (λ ys. splice at (zeros ++ ys) out) stays
      ∙ ap (λ m. splice m (zeros ++ p.bytes) out) from
      ∙ ap (λ e. splice (4096 + (e - base)) (replicate (q.address - e) 0 ++ p.bytes) out) end-is in (
        put_next_part base 4096 parts i p old out new is-there below-parts (parts_rise (image_in o old) again)
            (omega (arith, inside, behind)) was all,
        ap (λ n. q.address + n) (sym facts.4) ∙ reach-next base parts i p is-there below-parts,
      )
