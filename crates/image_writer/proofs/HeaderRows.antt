-- Which program header is which: one for each part, and behind them DYNAMIC, TLS and GNU_RELRO.
use Rattle.std.proofs.Common.{◌≡◌, ◌+◌, ◌<◌, ℕ, suc, List, ◌∷◌, ◌++◌, Option, Some, None, length, map, slice_index_or}
use Rattle.std.proofs.Common.{refl, ◌∙◌, arith, length-append}
use Rattle.std.proofs.lemmas.List.{length-map, get_or-map, get_or_append_left, get_or_at, get_or-append-add}
use Rattle.elf_records.specs.declared.program_header.Segment.{Segment}
use Rattle.image_rules.specs.declared.places.FileKind.{FileKind}
use Rattle.image_file.specs.declared.part.TlsPart.{TlsPart}
use Rattle.image_writer.specs.Outlined.{Outlined, part, no_part}
use Rattle.image_writer.specs.Loadable.{one_if_some}
use Rattle.image_writer.specs.Page.{load_header, dynamic_header, tls_header, relro_header, tls_headers, relro_headers}
use Rattle.image_writer.specs.Page.{program_headers}

-- one header tells the TLS segment, if there is one
length_tls : (k : FileKind) (t : Option TlsPart) → length (tls_headers k t) ≡ one_if_some t
length_tls k None = refl
length_tls k (Some t) = refl

-- one tells the part that the loader alone writes, if there is one
length_relro : (o : Outlined) (g : Option ℕ) → length (relro_headers o g) ≡ one_if_some g
length_relro o None = refl
length_relro o (Some g) = refl

-- how many headers there are
length_joined : (front : List Segment) (d : Segment) (tls relro : List Segment) (n t r : ℕ) → length front ≡ n
    → length tls ≡ t → length relro ≡ r
    → length (front ++ (d ∷ (tls ++ relro))) ≡ n + 1 + t + r
length_joined front d tls relro n t r fs ts rs =
    let outer = length-append front (d ∷ (tls ++ relro)) in
    let inner = length-append tls relro in
    rw (outer) (omega arith)

-- in all, one for each part, DYNAMIC, and one for each of the two that there is
pub length_headers : (o : Outlined)
    → length (program_headers o) ≡ length o.parts + 1 + one_if_some o.tls + one_if_some o.got
unfolding program_headers
length_headers o =
    length_joined (map (load_header o.kind) o.parts) (dynamic_header o) (tls_headers o.kind o.tls)
    (relro_headers o o.got)
    (length o.parts) (one_if_some o.tls) (one_if_some o.got)
    (length-map o.parts (load_header o.kind)) (length_tls o.kind o.tls) (length_relro o o.got)

-- the header of part i
pub row_of_load : (o : Outlined) (i : ℕ) (d : Segment) → i < length o.parts
    → slice_index_or (program_headers o) i d ≡ load_header o.kind (part o i)
unfolding program_headers
row_of_load o i d below =
    let within : i < length (map (load_header o.kind) o.parts) =
    omega (arith, length-map o.parts (load_header o.kind)) in
    get_or_append_left (map (load_header o.kind) o.parts)
    (dynamic_header o ∷ (tls_headers o.kind o.tls ++ relro_headers o o.got)) d i within
    ∙ get_or-map (load_header o.kind) o.parts i no_part d below

-- DYNAMIC
pub row_of_dynamic : (o : Outlined) (d : Segment)
    → slice_index_or (program_headers o) (length o.parts) d ≡ dynamic_header o
unfolding program_headers
row_of_dynamic o d =
    get_or_at (map (load_header o.kind) o.parts) (dynamic_header o)
    (tls_headers o.kind o.tls ++ relro_headers o o.got) d (length o.parts)
    (length-map o.parts (load_header o.kind))

-- the header j + 1 behind the parts is number j of those behind DYNAMIC
behind_dynamic : (front : List Segment) (s : Segment) (rest : List Segment) (d : Segment) (n j : ℕ) → length front ≡ n
    → slice_index_or (front ++ (s ∷ rest)) (n + 1 + j) d ≡ slice_index_or rest j d
behind_dynamic front s rest d n j is =
    let further : n + 1 + j ≡ length front + suc j = omega arith in
    rw further (get_or-append-add front (s ∷ rest) (suc j) d)

-- TLS, the first of them
tls_first : (k : FileKind) (t : TlsPart) (m : Option TlsPart) (rest : List Segment) (d : Segment) → m ≡ Some t
    → slice_index_or (tls_headers k m ++ rest) 0 d ≡ tls_header k t
tls_first k t m rest d is = rw is refl

-- the header of the TLS segment stands right behind DYNAMIC
pub row_of_tls : (o : Outlined) (t : TlsPart) (d : Segment) → o.tls ≡ Some t
    → slice_index_or (program_headers o) (length o.parts + 1) d ≡ tls_header o.kind t
unfolding program_headers
row_of_tls o t d is =
    let none : length o.parts + 1 ≡ length o.parts + 1 + 0 = omega arith in
    rw none (
    behind_dynamic (map (load_header o.kind) o.parts) (dynamic_header o)
    (tls_headers o.kind o.tls ++ relro_headers o o.got) d (length o.parts) 0
    (length-map o.parts (load_header o.kind))
    ∙ tls_first o.kind t o.tls (relro_headers o o.got) d is
    )

-- GNU_RELRO, behind TLS if that is there
relro_behind : (o : Outlined) (g : ℕ) (m : Option TlsPart) (r : Option ℕ) (d : Segment) → r ≡ Some g
    → slice_index_or (tls_headers o.kind m ++ relro_headers o r) (one_if_some m) d ≡ relro_header o.kind (part o g)
relro_behind o g None r d is = rw is refl
relro_behind o g (Some t) r d is = rw is refl

-- that of the part which the loader alone writes stands last
pub row_of_relro : (o : Outlined) (g : ℕ) (d : Segment) → o.got ≡ Some g
    → slice_index_or (program_headers o) (length o.parts + 1 + one_if_some o.tls) d ≡ relro_header o.kind (part o g)
unfolding program_headers
row_of_relro o g d is =
    behind_dynamic (map (load_header o.kind) o.parts) (dynamic_header o)
    (tls_headers o.kind o.tls ++ relro_headers o o.got) d (length o.parts) (one_if_some o.tls)
    (length-map o.parts (load_header o.kind))
    ∙ relro_behind o g o.tls o.got d is
