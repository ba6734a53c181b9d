-- Each program header of a page is read as it was written: its numbers lie in the range of their types.
use Rattle.std.proofs.Common.{◌≡◌, ◌+◌, ◌-◌, ◌^◌, ◌<◌, ◌≤◌, ℕ, List, Option, Some, IfSome, length, take, refl, ap}
use Rattle.std.proofs.Common.{subst, ◌∙◌, arith}
use Rattle.std.proofs.lemmas.Nat.{pow_below}
use Rattle.elf_records.specs.FittingRecords.{FitsSegment}
use Rattle.image_rules.specs.declared.places.FileKind.{FileKind}
use Rattle.image_rules.specs.declared.places.FileKind.TheVariants.{Exe, Pie, Module}
use Rattle.image_faults.specs.Parts.{header, count, segment}
use Rattle.image_faults.specs.Segments.{IsAlignment}
use Rattle.image_file.specs.declared.part.PartClass.{PartClass}
use Rattle.image_file.specs.declared.part.PartClass.TheVariants.{Executable, ReadOnly, Writable}
use Rattle.image_file.specs.declared.part.TlsPart.{TlsPart}
use Rattle.image_writer.specs.declared.outline.PartPlace.{PartPlace}
use Rattle.image_writer.specs.Outlined.{Outlined, part, last_part, end_of}
use Rattle.image_writer.specs.Page.{base_of, flags_of, load_header, dynamic_header, tls_header, relro_header}
use Rattle.image_writer.specs.Page.{program_headers, page, header_of}
use Rattle.image_writer.specs.Loadable.{IsLoadable, HoldsTls, IsRightTlsPart, is_written, one_if_some}
use Rattle.image_writer.proofs.HeaderCounts.{last_within}
use Rattle.image_writer.proofs.HeaderRows.{length_headers, row_of_load, row_of_dynamic, row_of_tls, row_of_relro}
use Rattle.image_writer.proofs.HeaderBytes.{long_enough, header_led, segment_led}
use Rattle.image_writer.proofs.FileHeader.{file_header}

-- the base is low
pub base_low : (k : FileKind) → base_of k ≤ 0x400000
base_low Exe = omega arith
base_low Pie = omega arith
base_low Module = omega arith

-- the flags of a class are small
flags_fit : (c : PartClass) → flags_of c < 256 ^ 4
flags_fit Executable = omega arith
flags_fit ReadOnly = omega arith
flags_fit Writable = omega arith

-- each of the four headers fits
load_fits : (k : FileKind) (p : PartPlace) → end_of p ≤ base_of k + 2 ^ 26 → FitsSegment (load_header k p)
unfolding load_header
load_fits k p below =
    let low = base_low k in (
      omega arith,
      (
        flags_fit p.class,
        (omega arith, (omega arith, (omega arith, (omega arith, (omega arith, (omega arith, tt)))))),
      ),
    )

-- DYNAMIC fits
dynamic_fits : (o : Outlined) → end_of (last_part o) ≤ base_of o.kind + 2 ^ 26 → o.array_size ≤ (last_part o).size
    → FitsSegment (dynamic_header o)
unfolding dynamic_header
dynamic_fits o below within =
    let low = base_low o.kind in (
      omega arith,
      (
        omega arith,
        (omega arith, (omega arith, (omega arith, (omega arith, (omega arith, (omega arith, tt)))))),
      ),
    )

-- GNU_RELRO fits
relro_fits : (k : FileKind) (p : PartPlace) → end_of p ≤ base_of k + 2 ^ 26 → FitsSegment (relro_header k p)
unfolding relro_header
relro_fits k p below =
    let low = base_low k in (
      omega arith,
      (
        omega arith,
        (omega arith, (omega arith, (omega arith, (omega arith, (omega arith, (omega arith, tt)))))),
      ),
    )

-- an alignment is small
power_small : (k : ℕ) → k ≤ 12 → 2 ^ k < 256 ^ 8
power_small k few =
    let below : 2 ^ k < 2 ^ 13 = pow_below k 13 (omega arith) in
    omega arith

-- TLS fits
tls_fits : (k : FileKind) (t : TlsPart) → t.address ≤ base_of k + 2 ^ 26 → t.initial ≤ t.size → t.size ≤ 2 ^ 20
    → IsAlignment t.alignment
    → FitsSegment (tls_header k t)
unfolding tls_header
tls_fits k t below initial small alignment =
    let low = base_low k in
    let aligned : t.alignment < 256 ^ 8 = rw (alignment.2) (power_small alignment.0 alignment.1) in (
      omega arith,
      (
        omega arith,
        (omega arith, (omega arith, (omega arith, (omega arith, (omega arith, (aligned, tt)))))),
      ),
    )

-- what holds of a value if there is one
pub some_at : {X : Type 0} (m : Option X) (P : X → Type 0) (x : X) → m ≡ Some x → IfSome m P → P x
some_at {X} m P x is all = let Q : Option X → Type 0 = λ k. IfSome k P in subst Q is all

-- one header stands for what is there
pub one_of_some : {X : Type 0} (m : Option X) (x : X) → m ≡ Some x → one_if_some m ≡ 1
one_of_some m x is = rw is refl

-- a part ends in the range of the image
pub part_below : (o : Outlined) (i : ℕ) → IsLoadable o → i < length o.parts
    → end_of (part o i) ≤ base_of o.kind + 2 ^ 26
part_below o i loadable below = (loadable.parts i below).below

-- so does the last part
pub last_below : (o : Outlined) → IsLoadable o → end_of (last_part o) ≤ base_of o.kind + 2 ^ 26
last_below o loadable = part_below o (length o.parts - 1) loadable (omega (arith, loadable.some))

-- the part that the loader alone writes is one of them, and is written
pub got_below : (o : Outlined) (g : ℕ) → IsLoadable o → o.got ≡ Some g → g < length o.parts
got_below o g loadable is = omega (arith, loadable.got_is g is, last_within (is_written o) (length o.parts))

-- what a file says whose first 4096 bytes are the page of an image
pub record AreRead (f : List ℕ) (o : Outlined) : Type 0 where
  pub header_is : header f ≡ file_header o
  pub count_is : count f ≡ length o.parts + 1 + one_if_some o.tls + one_if_some o.got
  pub few : count f ≤ 10
  pub long : 4096 ≤ length f
  pub load_is : (i : ℕ) → i < length o.parts → segment f i ≡ load_header o.kind (part o i)
  pub dynamic_is : segment f (length o.parts) ≡ dynamic_header o
  pub tls_is : (t : TlsPart) → o.tls ≡ Some t → segment f (length o.parts + 1) ≡ tls_header o.kind t
  pub relro_is : (g : ℕ) → o.got ≡ Some g
      → segment f (length o.parts + 1 + one_if_some o.tls) ≡ relro_header o.kind (part o g)

-- the header counts the program headers
count_of : (o : Outlined) → (file_header o).e_phnum ≡ length (program_headers o)
unfolding header_of
count_of o = refl

-- a file whose first 4096 bytes are the page says all that
pub are_read : (f : List ℕ) (o : Outlined) → take 4096 f ≡ page o → IsLoadable o → HoldsTls o → AreRead f o
are_read f o leads loadable holds =
    let number = length_headers o in
    let few : length (program_headers o) ≤ 10 = omega (arith, loadable.few) in
    let head = header_led f o leads few in
    let counted : count f ≡ length (program_headers o) = ap (λ h. h.e_phnum) head ∙ count_of o in
    record {
      header_is = head;
      count_is = omega arith;
      few = omega arith;
      long = long_enough f o leads few;
      load_is = λ i below. segment_led f o i _ (dynamic_header o) leads few (omega arith)
          (row_of_load o i (dynamic_header o) below)
          (load_fits o.kind (part o i) (part_below o i loadable below));
      dynamic_is = segment_led f o (length o.parts) _ (dynamic_header o) leads few (omega arith)
          (row_of_dynamic o (dynamic_header o))
          (dynamic_fits o (last_below o loadable) loadable.array_in);
      tls_is = λ t is.
          let right = some_at o.tls (IsRightTlsPart o) t is loadable.tls_is in
          let near = some_at o.tls (λ s. s.address ≤ end_of (last_part o)) t is holds in
          let one = one_of_some o.tls t is in
          segment_led f o (length o.parts + 1) _ (dynamic_header o) leads few (omega arith)
          (row_of_tls o t (dynamic_header o) is)
          (tls_fits o.kind t (omega (arith, near, last_below o loadable)) right.initial_in right.small right.alignment);
      relro_is = λ g is.
          let one = one_of_some o.got g is in
          segment_led f o (length o.parts + 1 + one_if_some o.tls) _ (dynamic_header o) leads few (omega arith)
          (row_of_relro o g (dynamic_header o) is)
          (relro_fits o.kind (part o g) (part_below o g loadable (got_below o g loadable is)));
    }
