-- What an image that was read keeps of its parts: a page of headers can tell it again.
use Rattle.std.proofs.Common.{◌≡◌, ◌≢◌, ◌+◌, ◌-◌, ◌%◌, ◌<◌, ◌≤◌, ◌⊎◌, ◌∙◌, ℕ, Bool, true, false, List, length, Option}
use Rattle.std.proofs.Common.{Some, None, refl, sym, ap, inl, inr, subst, arith}
use Rattle.std.proofs.Common.{◌==◌, ◌&&◌, nat_lt, if◌then◌else◌, is_some}
use Rattle.std.specs.Prelude.{IfSome}
use Rattle.std.proofs.lemmas.Bool.Decides.{nat_tests}
use Rattle.std.proofs.lemmas.Option.{cond_some}
use Rattle.std.specs.Option.{option_map}
use Rattle.elf_records.specs.declared.program_header.Segment.{Segment}
use Rattle.elf_records.specs.declared.program_header.TheConstants.{PT_LOAD, PT_DYNAMIC, PT_TLS, PT_GNU_RELRO, PF_X}
use Rattle.elf_records.specs.declared.program_header.TheConstants.{PF_R, PF_W}
use Rattle.image_rules.specs.declared.rule.FieldRule.TheVariants.{Count}
use Rattle.image_faults.specs.Counts.{how_many, behind_last}
use Rattle.image_faults.specs.Parts.{count, segment, loads, tls, has_tls, has_relro, relro_place, behind_last_writable}
use Rattle.image_faults.proofs.Counts.{is_load, is_relro}
use Rattle.image_faults.specs.Parts.{is_writable as is_writable_header}
use Rattle.image_faults.specs.Segments.{IsRightTls, HoldsInitialImage}
use Rattle.image_faults.specs.Places.{got}
use Rattle.image_faults.specs.Faults.{IsImage}
use Rattle.image_file.specs.declared.part.PartClass.TheVariants.{ReadOnly}
use Rattle.image_file.specs.declared.part.TlsPart.{TlsPart}
use Rattle.image_file.specs.Spelled.{class_numbered, tls_part, spelled, is_writable}
use Rattle.image_writer.specs.declared.outline.PartPlace.{PartPlace}
use Rattle.image_writer.specs.Outlined.{Outlined, outline_of, part, last_part, end_of}
use Rattle.image_writer.specs.Loadable.{IsLoadable, IsRightPart, IsRightTlsPart, HoldsInitial, is_written, one_if_some}
use Rattle.image_writer.proofs.Counted.{lead_passes, many_at_most, many_alike, last_alike, last_found}
use Rattle.image_writer.proofs.Positive.{field_right, load_right, dynamic_right, rest_right}
use Rattle.image_writer.proofs.Seen.{IsSeen, place, seen}

-- a part may be written where the flags of its header say so
written_of : (n : ℕ) → (n ≡ PF_X) ⊎ (n ≡ PF_R) ⊎ (n ≡ PF_R + PF_W) → is_writable (class_numbered n) ≡ (n == PF_R + PF_W)
written_of n class = elim class [
  | inl code ↦ rw code refl
  | inr more ↦ elim more [ inl constant ↦ rw constant refl | inr written ↦ rw written refl ]
]

-- flags that differ from those of a written part fail the test
not_written : (n : ℕ) → n ≢ PF_R + PF_W → (n == PF_R + PF_W) ≡ false
not_written n differs = grind (arith, nat_tests)

-- a test that says yes on the kind of a header
kind_passes : (n k : ℕ) → (n == k) ≡ true → n ≡ k
kind_passes n k h = grind (arith, nat_tests)

-- a number is below another, is it, or is above it
below_at_above : (i n : ℕ) → (i < n) ⊎ (i ≡ n) ⊎ (n < i)
below_at_above i n = grind arith

-- a test that a number is not zero
above_zero : (n : ℕ) → nat_lt 0 n ≡ true → 0 < n
above_zero n h = grind (arith, nat_tests)

-- a LOAD has the type of one
load_kind : (b : List ℕ) (i : ℕ) → i < loads b → (segment b i).kind ≡ PT_LOAD
unfolding loads
load_kind b i h = kind_passes (segment b i).kind PT_LOAD (lead_passes (is_load b) (count b) i h)

-- what stands at DYNAMIC's place is of that type
dynamic_kind : (b : List ℕ) → IsImage b → (i : ℕ) → i ≡ loads b → (segment b i).kind ≡ PT_DYNAMIC
dynamic_kind b image i same =
    let P : ℕ → Type 0 = λ j. (segment b j).kind ≡ PT_DYNAMIC in
    subst P (sym same) (dynamic_right b image).2

-- a header of GNU_RELRO stands behind DYNAMIC
relro_behind : (b : List ℕ) → IsImage b → (i : ℕ) → is_relro b i ≡ true → i < count b → loads b < i
relro_behind b image i relro h =
    let kind = kind_passes (segment b i).kind PT_GNU_RELRO relro in
    elim (below_at_above i (loads b)) [
      | inl load ↦ absurd (omega (arith, kind, load_kind b i load))
      | inr more ↦ elim more [
        | inl dynamic ↦ absurd (omega (arith, kind, dynamic_kind b image i dynamic))
        | inr behind ↦ behind
      ]
    ]

-- a header of GNU_RELRO stands in its place, and the last LOAD that is written is there
relro_found : (b : List ℕ) → IsImage b → has_relro b ≡ true → (relro_place b < count b) × (0 < behind_last_writable b)
relro_found b image has =
    let found = last_found (is_relro b) (count b) (above_zero (behind_last (is_relro b) (count b)) has) in
    let kind = kind_passes (segment b found.0).kind PT_GNU_RELRO found.2 in
    elim (rest_right b image found.0 (relro_behind b image found.0 found.2 found.1) found.1) [
      | inl tls ↦ absurd (omega (arith, kind, tls.1))
      | inr relro ↦ (let P : ℕ → Type 0 = λ i. i < count b in subst P relro.0 found.1, relro.2.1)
    ]

-- a place that is there just where a test says so
there_of : (r : Bool) (n : ℕ) → (r ≡ true → 0 < n) → is_some (if r && nat_lt 0 n then Some (n - 1) else None) ≡ r
there_of false n h = refl
there_of true n h = let above = h refl in let test : nat_lt 0 n ≡ true = grind (arith, nat_tests) in rw test refl

-- and which one it is
place_of_test : (r : Bool) (n g : ℕ) → (if r && nat_lt 0 n then Some (n - 1) else None) ≡ Some g → n ≡ g + 1
place_of_test false n g h = absurd (cc)
place_of_test true n g h =
    let some = cond_some (nat_lt 0 n) (n - 1) g h in
    let above = above_zero n some.0 in
    omega (arith, some.1)

-- the GOT is there just where GNU_RELRO is
got_there : (b : List ℕ) → IsImage b → is_some (got b) ≡ has_relro b
got_there b image = there_of (has_relro b) (behind_last_writable b) (λ has. (relro_found b image has).1)

-- a GOT that is there is the last LOAD that is written
got_last : (b : List ℕ) (g : ℕ) → got b ≡ Some g → behind_last_writable b ≡ g + 1
got_last b g is = place_of_test (has_relro b) (behind_last_writable b) g is

-- a test of a place and a type
both_of : (n k t : ℕ) → (nat_lt n k && (t == PT_TLS)) ≡ true → (n < k) × (t ≡ PT_TLS)
both_of n k t h = grind (arith, nat_tests)

-- the TLS segment has a header behind DYNAMIC
tls_in : (b : List ℕ) → has_tls b ≡ true → (loads b + 1 < count b) × ((segment b (loads b + 1)).kind ≡ PT_TLS)
tls_in b has = both_of (loads b + 1) (count b) (segment b (loads b + 1)).kind has

-- and it is right
tls_right : (b : List ℕ) → IsImage b → has_tls b ≡ true → IsRightTls b (segment b (loads b + 1))
tls_right b image has =
    let there = tls_in b has in
    elim (rest_right b image (loads b + 1) (omega arith) there.0) [
      | inl tls ↦ tls.2
      | inr relro ↦ absurd (omega (arith, relro.1, there.1))
    ]

-- one header, where there is something
one_of : {X : Type 0} (o : Option X) → one_if_some o ≡ (if is_some o then 1 else 0)
one_of None = refl
one_of (Some x) = refl

-- one header for TLS, where a test says so
one_of_tls : (t : Bool) (s : Segment)
    → one_if_some (option_map tls_part (if t then Some s else None)) ≡ (if t then 1 else 0)
one_of_tls false s = refl
one_of_tls true s = refl

-- headers that stand one behind the other are so many
counted : (t r : Bool) (l c : ℕ) → l < c → (t ≡ true → l + 1 < c) → (r ≡ true → (if t then l + 2 else l + 1) < c)
    → l + 1 + (if t then 1 else 0) + (if r then 1 else 0) ≤ c
counted false false l c dynamic tls relro = omega arith
counted false true l c dynamic tls relro = let last = relro refl in omega arith
counted true false l c dynamic tls relro = let last = tls refl in omega arith
counted true true l c dynamic tls relro = let last = relro refl in omega arith

-- there are headers for all that there is
headers_there : (b : List ℕ) → IsImage b
    → loads b + 1 + one_if_some (option_map tls_part (tls b)) + one_if_some (got b) ≤ count b
headers_there b image =
    let tls_one = one_of_tls (has_tls b) (segment b (loads b + 1)) in
    let got_one : one_if_some (got b) ≡ (if has_relro b then 1 else 0) = one_of (got b)
    ∙ ap (λ r. if r then 1 else 0) (got_there b image) in
    rw (tls_one, got_one)
    (counted (has_tls b) (has_relro b) (loads b) (count b) (dynamic_right b image).1 (λ has. (tls_in b has).0)
    (λ has. (relro_found b image has).0))

-- where part i begins
part_address : (b : List ℕ) (o : Outlined) → IsSeen b o → (i : ℕ) → i < loads b
    → (part o i).address ≡ (segment b i).vaddr
unfolding place
part_address b o is i h = ap (λ (p : PartPlace). p.address) (is.part_is i h)

-- how many bytes it has
part_size : (b : List ℕ) (o : Outlined) → IsSeen b o → (i : ℕ) → i < loads b → (part o i).size ≡ (segment b i).filesz
unfolding place
part_size b o is i h = ap (λ (p : PartPlace). p.size) (is.part_is i h)

-- and its class
part_class : (b : List ℕ) (o : Outlined) → IsSeen b o → (i : ℕ) → i < loads b
    → (part o i).class ≡ class_numbered (segment b i).flags
unfolding place
part_class b o is i h = ap (λ (p : PartPlace). p.class) (is.part_is i h)

-- a part is written where its header says so
written_alike : (b : List ℕ) (o : Outlined) → IsImage b → IsSeen b o → (i : ℕ) → i < loads b
    → is_written o i ≡ is_writable_header b i
written_alike b o image is i h = ap is_writable (part_class b o is i h)
    ∙ written_of (segment b i).flags (load_right b image i h).1

-- each part is right
part_right : (b : List ℕ) (o : Outlined) → IsImage b → IsSeen b o → (i : ℕ) → i < loads b → IsRightPart o i
part_right b o image is i h =
    let right = load_right b image i h in
    let at = part_address b o is i h in
    let many = part_size b o is i h in
    let low = is.base_is in
    let whole = right.2 in
    let range = right.3 in
    record {
      filled = omega (arith, many, whole.0, whole.1);
      paged = ap (λ a. a % 4096) at ∙ whole.2;
      above = omega (arith, at, low, range.0);
      below = omega (arith, at, many, low, whole.0, range.1);
      rising = elim range.2 [
        | inl first ↦ inl first
        | inr behind ↦ inr (later b o is i h behind (load_right b image (i - 1) (omega arith)).2.0)
      ];
    }
  where
    -- it begins behind the part before it
    later : (b : List ℕ) (o : Outlined) → IsSeen b o → (i : ℕ) → i < loads b
        → (segment b (i - 1)).vaddr + (segment b (i - 1)).memsz ≤ (segment b i).vaddr
        → (segment b (i - 1)).filesz ≡ (segment b (i - 1)).memsz → end_of (part o (i - 1)) ≤ (part o i).address
    later b o is i h behind whole =
        let at = part_address b o is i h in
        let before = part_address b o is (i - 1) (omega arith) in
        let many = part_size b o is (i - 1) (omega arith) in
        omega arith

-- no more parts are written than may be
few_right : (b : List ℕ) → IsImage b → how_many (is_writable_header b) (loads b) ≤ (if has_relro b then 2 else 1)
few_right b image =
    many_at_most (is_writable_header b) (loads b) (if has_relro b then 2 else 1)
    (λ i h. elim (load_right b image i h).4 [
      | inl differs ↦ inl (not_written (segment b i).flags differs)
      | inr few ↦ inr few
    ])

-- the last part by its number
last_is : (b : List ℕ) (o : Outlined) → IsSeen b o → last_part o ≡ part o (loads b - 1)
last_is b o is = ap (λ n. part o (n - 1)) is.parts_are

-- the last part is constant
last_right : (b : List ℕ) (o : Outlined) → IsImage b → IsSeen b o → (last_part o).class ≡ ReadOnly
last_right b o image is =
    let some = (dynamic_right b image).0 in
    let in_loads : loads b - 1 < loads b = omega arith in
    let constant : (segment b (loads b - 1)).flags ≡ PF_R = elim (load_right b image (loads b - 1) in_loads).5 [
      | inl differs ↦ absurd (differs (omega arith))
      | inr constant ↦ constant
    ] in
    ap (λ (p : PartPlace). p.class) (last_is b o is) ∙ part_class b o is (loads b - 1) in_loads
    ∙ ap class_numbered constant

-- the array lies in the last part
array_right : (b : List ℕ) (o : Outlined) → IsImage b → IsSeen b o → o.array_size ≤ (last_part o).size
array_right b o image is =
    let dynamic = dynamic_right b image in
    let some = dynamic.0 in
    let in_last = dynamic.5 in
    let many = ap (λ (p : PartPlace). p.size) (last_is b o is) ∙ part_size b o is (loads b - 1) (omega arith) in
    omega (arith, many, is.array_is, in_last)

-- a part that holds the initial image
holds_right : (b : List ℕ) (o : Outlined) → IsSeen b o → (s : Segment) (i : ℕ) → HoldsInitialImage b s i
    → HoldsInitial o (tls_part s) i
holds_right b o is s i holds =
    let below : i < loads b = omega (arith, holds.0) in (
      omega (arith, holds.0, is.parts_are),
      part_class b o is i below ∙ ap class_numbered holds.1,
      part_address b o is i below ∙ holds.2,
      part_size b o is i below ∙ holds.3,
    )

-- the TLS segment is right
tls_part_right : (b : List ℕ) (o : Outlined) → IsSeen b o → (s : Segment) → IsRightTls b s
    → IsRightTlsPart o (tls_part s)
tls_part_right b o is s right = record {
  placed = omega (arith, is.base_is, right.0);
  initial_in = right.1;
  filled = right.2;
  small = right.3;
  alignment = right.4;
  aligned = right.5;
  held = elim right.6 [ inl none ↦ inl none | inr found ↦ inr (found.0, holds_right b o is s found.0 found.1) ];
}

-- what holds of the TLS segment, where a test says that there is one
some_tls : (t : Bool) (s : Segment) (P : TlsPart → Type 0) → (t ≡ true → P (tls_part s))
    → IfSome (option_map tls_part (if t then Some s else None)) P
some_tls false s P h = tt
some_tls true s P h = h refl

-- and so of the one that the outline names
tls_seen : (b : List ℕ) (o : Outlined) → IsImage b → IsSeen b o → IfSome o.tls (IsRightTlsPart o)
tls_seen b o image is =
    let P : Option TlsPart → Type 0 = λ t. IfSome t (IsRightTlsPart o) in
    let s : Segment = segment b (loads b + 1) in
    subst P (sym is.tls_is)
    (some_tls (has_tls b) s (IsRightTlsPart o) (λ has. tls_part_right b o is s (tls_right b image has)))

-- there are few headers
few_headers : (b : List ℕ) (o : Outlined) → IsImage b → IsSeen b o
    → length o.parts + 1 + one_if_some o.tls + one_if_some o.got ≤ 10
few_headers b o image is =
    let there = headers_there b image in
    let few = (field_right b image Count).1 in
    let tls_same = ap (one_if_some {X = TlsPart}) is.tls_is in
    let got_same = ap (one_if_some {X = ℕ}) is.got_is in
    omega (arith, there, few, tls_same, got_same, is.parts_are)

-- few parts are written
few_parts : (b : List ℕ) (o : Outlined) → IsImage b → IsSeen b o
    → how_many (is_written o) (length o.parts) ≤ (if is_some o.got then 2 else 1)
few_parts b o image is =
    let same = many_alike (is_written o) (is_writable_header b) (loads b) (written_alike b o image is) in
    let there = ap (λ (o : Option ℕ). is_some o) is.got_is ∙ got_there b image in
    rw (is.parts_are, same, there) (few_right b image)

-- the GOT is the last part that is written
got_right : (b : List ℕ) (o : Outlined) → IsImage b → IsSeen b o → (g : ℕ) → o.got ≡ Some g
    → behind_last (is_written o) (length o.parts) ≡ g + 1
got_right b o image is g named =
    ap (behind_last (is_written o)) is.parts_are
    ∙ last_alike (is_written o) (is_writable_header b) (loads b) (written_alike b o image is)
    ∙ got_last b g (sym is.got_is ∙ named)

-- what is seen of an image can be told by a page of headers
loadable_seen : (b : List ℕ) (o : Outlined) → IsImage b → IsSeen b o → IsLoadable o
loadable_seen b o image is = record {
  some = omega (arith, is.parts_are, (dynamic_right b image).0);
  few = few_headers b o image is;
  parts = λ i h. part_right b o image is i (omega (arith, is.parts_are));
  few_written = few_parts b o image is;
  got_is = got_right b o image is;
  last_constant = last_right b o image is;
  array_in = array_right b o image is;
  tls_is = tls_seen b o image is;
}

-- an image that was read can be told by a page of headers
pub loadable : (b : List ℕ) → IsImage b → IsLoadable (outline_of (spelled b))
loadable b image = loadable_seen b (outline_of (spelled b)) image (seen b image)
