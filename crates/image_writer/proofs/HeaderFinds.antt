-- What is found among the headers that a page leads: how many parts there are, whether a TLS segment and a part that
-- the loader alone writes are told, and which part that is.
use Rattle.std.proofs.Common.{◌≡◌, ◌+◌, ◌-◌, ◌<◌, ◌≤◌, ◌⊎◌, ℕ, Bool, true, false, List, Option, Some, None, is_some}
use Rattle.std.proofs.Common.{length, refl, sym, ap, ◌∙◌, arith, inl, inr, ◌==◌, ◌&&◌, nat_lt, if◌then◌else◌}
use Rattle.std.proofs.lemmas.Bool.Decides.{nat_tests}
use Rattle.std.specs.Option.{option_map}
use Rattle.elf_records.specs.declared.program_header.Segment.{Segment}
use Rattle.elf_records.specs.declared.program_header.TheConstants.{PT_LOAD, PT_DYNAMIC, PT_TLS, PT_GNU_RELRO, PF_R}
use Rattle.elf_records.specs.declared.program_header.TheConstants.{PF_W}
use Rattle.elf_records.specs.declared.file_header.TheConstants.{ET_EXEC}
use Rattle.image_rules.specs.declared.places.FileKind.{FileKind}
use Rattle.image_rules.specs.declared.places.FileKind.TheVariants.{Exe, Pie, Module}
use Rattle.image_faults.specs.Counts.{how_many, behind_last}
use Rattle.image_faults.specs.Parts.{count, segment, base, loads, has_tls, tls, has_relro, relro_place}
use Rattle.image_faults.specs.Parts.{is_writable as is_writable_header, behind_last_writable}
use Rattle.image_faults.specs.Places.{got}
use Rattle.image_file.specs.declared.part.PartClass.{PartClass}
use Rattle.image_file.specs.declared.part.PartClass.TheVariants.{Executable, ReadOnly, Writable}
use Rattle.image_file.specs.declared.part.TlsPart.{TlsPart}
use Rattle.image_file.specs.Spelled.{tls_part, is_writable}
use Rattle.image_writer.specs.declared.outline.PartPlace.{PartPlace}
use Rattle.image_writer.specs.Outlined.{Outlined, part}
use Rattle.image_writer.specs.Page.{base_of, flags_of, load_header, dynamic_header, tls_header, relro_header, header_of}
use Rattle.image_writer.specs.Loadable.{IsLoadable, is_written, one_if_some}
use Rattle.image_writer.proofs.HeaderCounts.{leading_is, many_agree, last_agree, last_none}
use Rattle.image_faults.proofs.Counts.{is_load, is_relro, last_more as last_is}
use Rattle.image_writer.proofs.HeaderReads.{AreRead}
use Rattle.image_writer.proofs.FileHeader.{file_header}

-- the address at which the image begins
base_found : (k : FileKind) (o : Outlined) → k ≡ o.kind
    → (if (file_header o).e_type == ET_EXEC then 0x400000 else 0) ≡ base_of k
unfolding header_of
base_found Exe o is = rw (← is) refl
base_found Pie o is = rw (← is) refl
base_found Module o is = rw (← is) refl

-- the base goes by the type of the file
pub base_read : (f : List ℕ) (o : Outlined) → AreRead f o → base f ≡ base_of o.kind
base_read f o read = rw (read.header_is) (base_found o.kind o refl)

-- the types of the headers
load_kind : (k : FileKind) (p : PartPlace) → (load_header k p).kind ≡ PT_LOAD
unfolding load_header
load_kind k p = refl

-- DYNAMIC is of its type
dynamic_kind : (o : Outlined) → (dynamic_header o).kind ≡ PT_DYNAMIC
unfolding dynamic_header
dynamic_kind o = refl

-- TLS is of its type
tls_kind : (k : FileKind) (t : TlsPart) → (tls_header k t).kind ≡ PT_TLS
unfolding tls_header
tls_kind k t = refl

-- GNU_RELRO is of its type
relro_kind : (k : FileKind) (p : PartPlace) → (relro_header k p).kind ≡ PT_GNU_RELRO
unfolding relro_header
relro_kind k p = refl

-- and so are they in the file: a LOAD
pub kind_of_load : (f : List ℕ) (o : Outlined) (i : ℕ) → AreRead f o → i < length o.parts → (segment f i).kind ≡ PT_LOAD
kind_of_load f o i read below = ap (λ s. s.kind) (read.load_is i below) ∙ load_kind o.kind (part o i)

-- DYNAMIC
pub kind_of_dynamic : (f : List ℕ) (o : Outlined) → AreRead f o → (segment f (length o.parts)).kind ≡ PT_DYNAMIC
kind_of_dynamic f o read = ap (λ s. s.kind) read.dynamic_is ∙ dynamic_kind o

-- TLS
pub kind_of_tls : (f : List ℕ) (o : Outlined) (t : TlsPart) → AreRead f o → o.tls ≡ Some t
    → (segment f (length o.parts + 1)).kind ≡ PT_TLS
kind_of_tls f o t read is = ap (λ s. s.kind) (read.tls_is t is) ∙ tls_kind o.kind t

-- GNU_RELRO
pub kind_of_relro : (f : List ℕ) (o : Outlined) (g : ℕ) → AreRead f o → o.got ≡ Some g
    → (segment f (length o.parts + 1 + one_if_some o.tls)).kind ≡ PT_GNU_RELRO
kind_of_relro f o g read is = ap (λ s. s.kind) (read.relro_is g is) ∙ relro_kind o.kind (part o g)

-- a number that is another passes the test for it, and one that differs does not
is_of : (x k : ℕ) → x ≡ k → (x == k) ≡ true
is_of x k is = grind (arith, nat_tests)

-- a number that is unlike k fails the test for k
is_not_of : (x y k : ℕ) → x ≡ y → (y ≡ k → ⊥) → (x == k) ≡ false
is_not_of x y k is not = grind (arith, nat_tests)

-- how many parts there are
pub loads_read : (f : List ℕ) (o : Outlined) → AreRead f o → loads f ≡ length o.parts
unfolding loads
loads_read f o read =
    leading_is (is_load f) (length o.parts) (count f)
    (λ i below. is_of (segment f i).kind PT_LOAD (kind_of_load f o i read below))
    (is_not_of (segment f (length o.parts)).kind PT_DYNAMIC PT_LOAD (kind_of_dynamic f o read) (λ e. omega arith))
    (omega (arith, read.count_is))

-- which header number i is
near : (n i : ℕ) → (i < n) ⊎ (i ≡ n) ⊎ (n < i)
near n i = grind arith

-- number i is that of TLS, if there is one
abbrev pub IsTlsAt : ℕ → Option TlsPart → ℕ → Type 0
IsTlsAt n m i = (i ≡ n + 1) × ((t : TlsPart) × (m ≡ Some t))

-- number i is that of GNU_RELRO, if there is one
abbrev pub IsRelroAt : ℕ → Option TlsPart → Option ℕ → ℕ → Type 0
IsRelroAt n m r i = (i ≡ n + 1 + one_if_some m) × ((g : ℕ) × (r ≡ Some g))

-- a header behind DYNAMIC is one of the two
pub behind : (n i : ℕ) (m : Option TlsPart) (r : Option ℕ) → n < i → i < n + 1 + one_if_some m + one_if_some r
    → IsTlsAt n m i ⊎ IsRelroAt n m r i
behind n i None None above below = absurd (omega arith)
behind n i None (Some g) above below = inr (omega arith, (g, refl))
behind n i (Some t) None above below = inl (omega arith, (t, refl))
behind n i (Some t) (Some g) above below = elim (near (n + 1) i) [
  | inl lt ↦ absurd (omega arith)
  | inr more ↦ elim more [ inl is ↦ inl (is, (t, refl)) | inr gt ↦ inr (omega arith, (g, refl)) ]
]

-- each header is one of the four
pub which : (n i : ℕ) (m : Option TlsPart) (r : Option ℕ) → i < n + 1 + one_if_some m + one_if_some r
    → (i < n) ⊎ (i ≡ n) ⊎ IsTlsAt n m i ⊎ IsRelroAt n m r i
which n i m r below = elim (near n i) [
  | inl lt ↦ inl lt
  | inr more ↦ elim more [ inl is ↦ inr (inl is) | inr gt ↦ inr (inr (behind n i m r gt below)) ]
]

-- a TLS segment is told just where there is one
tls_of_kind : (n c kind : ℕ) (m : Option TlsPart) (r : Option ℕ) → c ≡ n + 1 + one_if_some m + one_if_some r
    → ((t : TlsPart) → m ≡ Some t → kind ≡ PT_TLS) → ((g : ℕ) → m ≡ None → r ≡ Some g → kind ≡ PT_GNU_RELRO)
    → (nat_lt (n + 1) c && (kind == PT_TLS)) ≡ is_some m
tls_of_kind n c kind None None number tls relro = grind (arith, nat_tests)
tls_of_kind n c kind None (Some g) number tls relro = let is = relro g refl refl in grind (arith, nat_tests)
tls_of_kind n c kind (Some t) r number tls relro =
    let is = tls t refl in
    let more : n + 1 < c = omega arith in
    grind (arith, nat_tests)

-- no header stands for what is missing
none_of_none : (m : Option TlsPart) → m ≡ None → one_if_some m ≡ 0
none_of_none m is = rw is refl

-- so it is in the file
pub has_tls_read : (f : List ℕ) (o : Outlined) → AreRead f o → has_tls f ≡ is_some o.tls
has_tls_read f o read =
    let same = loads_read f o read in
    rw same (
    tls_of_kind (length o.parts) (count f) (segment f (length o.parts + 1)).kind o.tls o.got read.count_is
    (λ t is. kind_of_tls f o t read is)
    (λ g none is.
    let at : length o.parts + 1 + one_if_some o.tls ≡ length o.parts + 1 = omega (arith, none_of_none o.tls none) in
    (ap (λ i. (segment f i).kind) (sym at)) ∙ kind_of_relro f o g read is)
    )

-- its numbers are read
tls_numbers : (k : FileKind) (t : TlsPart) → tls_part (tls_header k t) ≡ t
unfolding tls_header
tls_numbers k t = refl

-- what is told of a TLS segment, where one is told
tls_when : (s : Segment) (h : Bool) (m : Option TlsPart) → h ≡ is_some m → ((t : TlsPart) → m ≡ Some t → tls_part s ≡ t)
    → option_map tls_part (if h then Some s else None) ≡ m
tls_when s h None is told = rw is refl
tls_when s h (Some t) is told = rw is (ap Some (told t refl))

-- the file tells the TLS segment of the image
pub tls_read : (f : List ℕ) (o : Outlined) → AreRead f o → option_map tls_part (tls f) ≡ o.tls
tls_read f o read =
    let same = loads_read f o read in
    tls_when (segment f (loads f + 1)) (has_tls f) o.tls (has_tls_read f o read)
    (λ t is. rw same (ap tls_part (read.tls_is t is) ∙ tls_numbers o.kind t))

-- a part that the loader alone writes is told just where there is one
no_relro : (f : List ℕ) (o : Outlined) → AreRead f o → o.got ≡ None → (i : ℕ) → i < count f → is_relro f i ≡ false
no_relro f o read none i below = elim (which (length o.parts) i o.tls o.got (omega (arith, read.count_is))) [
  | inl lt ↦ is_not_of (segment f i).kind PT_LOAD PT_GNU_RELRO (kind_of_load f o i read lt) (λ e. omega arith)
  | inr more ↦ elim more [
    | inl is ↦ is_not_of (segment f i).kind PT_DYNAMIC PT_GNU_RELRO (rw is (kind_of_dynamic f o read))
        (λ e. omega arith)
    | inr rest ↦ elim rest [
      | inl tls ↦ is_not_of (segment f i).kind PT_TLS PT_GNU_RELRO (rw (tls.0) (kind_of_tls f o tls.1.0 read tls.1.1))
          (λ e. omega arith)
      | inr relro ↦ absurd (let e = sym none ∙ relro.1.1 in cc)
    ]
  ]
]

-- a header was found
relro_told : (n : ℕ) → 0 < n → nat_lt 0 n ≡ true
relro_told n some = grind (arith, nat_tests)

-- no header was found
relro_untold : (n : ℕ) → n ≡ 0 → nat_lt 0 n ≡ false
relro_untold n none = grind (arith, nat_tests)

-- whether the image has such a part, by cases
relro_when : (f : List ℕ) (o : Outlined) (r : Option ℕ) → AreRead f o → o.got ≡ r → has_relro f ≡ is_some r
relro_when f o None read is =
    relro_untold (behind_last (is_relro f) (count f)) (last_none (is_relro f) (count f) (no_relro f o read is))
relro_when f o (Some g) read is =
    let at = length o.parts + 1 + one_if_some o.tls in
    let one : one_if_some o.got ≡ 1 = rw is refl in
    let number : count f ≡ at + 1 = omega (arith, read.count_is) in
    let here = last_is (is_relro f) at (is_of (segment f at).kind PT_GNU_RELRO (kind_of_relro f o g read is)) in
    relro_told (behind_last (is_relro f) (count f)) (rw number (omega (arith, here)))

-- the file tells one just where the image has one
pub has_relro_read : (f : List ℕ) (o : Outlined) → AreRead f o → has_relro f ≡ is_some o.got
has_relro_read f o read = relro_when f o o.got read refl

-- where it stands
place_when : (n : ℕ) (h : Bool) (m : Option TlsPart) → h ≡ is_some m
    → (if h then n + 2 else n + 1) ≡ n + 1 + one_if_some m
place_when n h None is = rw is (omega arith)
place_when n h (Some t) is = rw is (omega arith)

-- its number in the file
pub relro_place_read : (f : List ℕ) (o : Outlined) → AreRead f o
    → relro_place f ≡ length o.parts + 1 + one_if_some o.tls
relro_place_read f o read =
    place_when (loads f) (has_tls f) o.tls (has_tls_read f o read)
    ∙ ap (λ n. n + 1 + one_if_some o.tls) (loads_read f o read)

-- which parts are written
load_flags : (k : FileKind) (p : PartPlace) → (load_header k p).flags ≡ flags_of p.class
unfolding load_header
load_flags k p = refl

-- the flags of a LOAD in the file
pub flags_read : (f : List ℕ) (o : Outlined) (i : ℕ) → AreRead f o → i < length o.parts
    → (segment f i).flags ≡ flags_of (part o i).class
flags_read f o i read below = ap (λ s. s.flags) (read.load_is i below) ∙ load_flags o.kind (part o i)

-- the flags of writing are those of the class that may be written
written_flags : (c : PartClass) → (flags_of c == PF_R + PF_W) ≡ is_writable c
written_flags Executable = refl
written_flags ReadOnly = refl
written_flags Writable = refl

-- a part is written in the file just where it is in the image
written_read : (f : List ℕ) (o : Outlined) (i : ℕ) → AreRead f o → i < length o.parts
    → is_writable_header f i ≡ is_written o i
written_read f o i read below = ap (λ n. n == PF_R + PF_W) (flags_read f o i read below)
    ∙ written_flags (part o i).class

-- so as many of them are written
pub many_read : (f : List ℕ) (o : Outlined) (i : ℕ) → AreRead f o → i ≤ length o.parts
    → how_many (is_writable_header f) i ≡ how_many (is_written o) i
many_read f o i read within =
    many_agree (is_writable_header f) (is_written o) i (λ j below. written_read f o j read (omega arith))

-- and the last of those is the same
pub last_read : (f : List ℕ) (o : Outlined) → AreRead f o
    → behind_last_writable f ≡ behind_last (is_written o) (length o.parts)
last_read f o read =
    rw (loads_read f o read)
    (last_agree (is_writable_header f) (is_written o) (length o.parts) (λ j below. written_read f o j read below))

-- the part that the loader alone writes
got_when : (h : Bool) (n : ℕ) (r : Option ℕ) → h ≡ is_some r → ((g : ℕ) → r ≡ Some g → n ≡ g + 1)
    → (if h && nat_lt 0 n then Some (n - 1) else None) ≡ r
got_when h n None is found = rw is refl
got_when h n (Some g) is found =
    let number = found g refl in
    let some : nat_lt 0 n ≡ true = relro_told n (omega arith) in
    let less : n - 1 ≡ g = omega arith in
    rw (is, some, less) refl

-- the file tells the part that the loader alone writes
pub got_read : (f : List ℕ) (o : Outlined) → AreRead f o → IsLoadable o → got f ≡ o.got
got_read f o read loadable =
    got_when (has_relro f) (behind_last_writable f) o.got (has_relro_read f o read)
    (λ g is. last_read f o read ∙ loadable.got_is g is)
