-- What a file that a page of headers leads is read as: its header, its program headers, and the rules that they keep.
use Rattle.std.proofs.Common.{◌≡◌, ◌+◌, ◌-◌, ◌<◌, ◌≤◌, ℕ, Bool, List, Option, Some, None, length, take, is_some, refl}
use Rattle.std.proofs.Common.{ap, arith, if◌then◌else◌}
use Rattle.std.specs.Option.{option_map}
use Rattle.elf_records.specs.declared.program_header.Segment.{Segment}
use Rattle.image_faults.specs.Parts.{header, count, segment, base, loads, last, has_tls, tls}
use Rattle.image_faults.specs.Parts.{tls_size as tls_size_read}
use Rattle.image_faults.specs.Places.{got}
use Rattle.image_faults.specs.Faults.{KeepsBelow}
use Rattle.image_file.specs.declared.part.TlsPart.{TlsPart}
use Rattle.image_file.specs.Spelled.{tls_part}
use Rattle.image_writer.specs.Outlined.{Outlined, part, last_part, end_of}
use Rattle.image_writer.specs.Page.{base_of, load_header, dynamic_header, file_offset, page}
use Rattle.image_writer.specs.Loadable.{IsLoadable, HoldsTls, one_if_some}
use Rattle.image_writer.specs.Linkable.{tls_size}
use Rattle.image_writer.proofs.HeaderReads.{are_read}
use Rattle.image_writer.proofs.HeaderFinds.{base_read, loads_read, has_tls_read, tls_read, got_read}
use Rattle.image_writer.proofs.HeaderExtents.{segment_inside}
use Rattle.image_writer.proofs.HeaderRules.{keeps_ten}
use Rattle.image_writer.proofs.FileHeader.{file_header}

pub record IsHeaded (f : List ℕ) (o : Outlined) : Type 0 where
  pub header_is : header f ≡ file_header o
  pub loads_are : loads f ≡ length o.parts
  pub load_is : (i : ℕ) → i < length o.parts → segment f i ≡ load_header o.kind (part o i)
  pub dynamic_is : segment f (length o.parts) ≡ dynamic_header o
  pub has_tls_is : has_tls f ≡ is_some o.tls
  pub tls_is : option_map tls_part (tls f) ≡ o.tls
  pub got_is : got f ≡ o.got
  pub rules : KeepsBelow 10 f
  pub count_is : count f ≡ length o.parts + 1 + one_if_some o.tls + one_if_some o.got
  pub few : count f ≤ 10
  pub long : 4096 ≤ length f
  pub base_is : base f ≡ base_of o.kind
  pub last_is : last f ≡ load_header o.kind (last_part o)
  pub tls_size_is : tls_size_read f ≡ tls_size o.tls
  pub inside : (i : ℕ) → i < count f → (segment f i).offset + (segment f i).filesz ≤ length f

-- the size of the TLS segment goes by its header
size_of : (s : Segment) (h : Bool) (m : Option TlsPart) → h ≡ is_some m
    → option_map tls_part (if h then Some s else None) ≡ m
    → (if h then s.memsz else 0) ≡ tls_size m
size_of s h None is told = rw is refl
size_of s h (Some t) is told =
    let here : Some (tls_part s) ≡ Some t = rw is at told in
    let same : tls_part s ≡ t = cc in
    rw is (ap (λ p. p.size) same)

-- a file whose first page is that of an image, and that is long enough, says just that image
pub headed : (f : List ℕ) (o : Outlined) → take 4096 f ≡ page o → IsLoadable o → HoldsTls o
    → file_offset o.kind (end_of (last_part o)) ≤ length f → IsHeaded f o
headed f o leads loadable holds long =
    let read = are_read f o leads loadable holds in
    let number = loads_read f o read in
    let has = has_tls_read f o read in
    let told = tls_read f o read in
    record {
      header_is = read.header_is;
      loads_are = number;
      load_is = read.load_is;
      dynamic_is = read.dynamic_is;
      has_tls_is = has;
      tls_is = told;
      got_is = got_read f o read loadable;
      rules = keeps_ten f o read loadable holds long;
      count_is = read.count_is;
      few = read.few;
      long = read.long;
      base_is = base_read f o read;
      last_is = rw number (read.load_is (length o.parts - 1) (omega (arith, loadable.some)));
      tls_size_is = size_of (segment f (loads f + 1)) (has_tls f) o.tls has told;
      inside = λ i below. segment_inside f o i read loadable holds long below;
    }
