-- A page of headers can say what the image is.
use Rattle.std.proofs.Common.{◌≡◌, ◌+◌, ◌-◌, ◌%◌, ◌^◌, ◌<◌, ◌≤◌, ◌==◌, ◌∙◌, ℕ, Bool, true, false, List, [], ◌∷◌, ◌++◌}
use Rattle.std.proofs.Common.{Option, Some, None, length, get_or, map, refl, sym, ap, subst, arith, length-append}
use Rattle.std.proofs.Common.{append_assoc}
use Rattle.std.specs.Prelude.{if◌then◌else◌, is_some}
use Rattle.std.specs.Int.{next_multiple_of}
use Rattle.std.specs.List.{All}
use Rattle.std.specs.Option.{IfSome}
use Rattle.std.proofs.lemmas.List.{get_or_push, length_push, map-append}
use Rattle.std.proofs.lemmas.List.Elements.{All-cons, All-head, All-nil, All-tail}
use Rattle.std.proofs.lemmas.Option.{same_Some, none-some}
use Rattle.image_faults.specs.Counts.{behind_last}
use Rattle.image_file.specs.declared.part.PartClass.TheVariants.{ReadOnly}
use Rattle.image_rules.specs.declared.places.FileKind.{FileKind}
use Rattle.image_writer.specs.declared.outline.PartPlace.{PartPlace}
use Rattle.image_writer.specs.Contents.{part_in, tables_address}
use Rattle.image_writer.specs.Outlined.{Outlined, end_of, last_part, no_part, outline_of, place_of}
use Rattle.image_writer.specs.Loadable.{IsLoadable, HoldsTls, one_if_some}
use Rattle.image_file.specs.Spelled.{is_writable}
use Rattle.image_writer.specs.Page.{base_of as page_base, file_offset}
use Rattle.image_writer.specs.Tables.{array_size, finished, tables, tables_part}
use Rattle.image_writer.proofs.SameBytes.{part_length}
use Rattle.link_faults.specs.ImageKinds.{base_of}
use Rattle.tls_layout.specs.Places.{tls_size}
use Rattle.tls_layout.specs.Rounding.{page_up, round_up}
use Rattle.tls_layout.proofs.LawsOfPlaces.{page_multiple}
use Rattle.tls_layout.proofs.Together.{page_up-above}
use Rattle.link_needs.specs.Linking.{Linking, layout}
use Rattle.link_needs.specs.Needs.{got_size, got_start, has_stub}
use Rattle.link_core.specs.Bytes.{file}
use Rattle.link_tables.specs.Faults.{FitsLimits}
use Rattle.link_needs.specs.Given.{IsGiven}
use Rattle.link_core.specs.Images.{contents, file_kind, got_number, got_places, places, section_places, stub_places}
use Rattle.link_core.specs.Images.{tls_part}
use Rattle.link_core.proofs.Few.{few, table_fits}
use Rattle.link_core.proofs.Lengths.{places_inside}
use Rattle.link_core.proofs.LoadsChains.{Chain, last_end, chain-append, chain_right, chain_rises, parts_end-is}
use Rattle.link_core.proofs.LoadsCounts.{last_written, many_written, one_if, written, written-append}
use Rattle.link_core.proofs.LoadsParts.{on_page, page_near}
use Rattle.link_core.proofs.LoadsPlaces.{begins_well, image_before, places_lie, sections_few, sections_written}
use Rattle.link_core.proofs.LoadsPlaces.{stub_few, stub_unwritten}
use Rattle.link_core.proofs.LoadsTables.{array_inside, array_some, tables_short}
use Rattle.link_core.proofs.LoadsTls.{outline, right_tls, same_base, segment}
use Rattle.link_core.proofs.LengthsPlaces.{got_place, stub_place}

-- ** the outline of the image

-- parts that lie in the file have their sizes
placed : (kind : FileKind) (bytes : List ℕ) (xs : List PartPlace)
    → All (λ p. file_offset kind p.address + p.size ≤ length bytes) xs
    → map place_of (map (part_in kind bytes) xs) ≡ xs
placed kind bytes [] inside = refl
placed kind bytes (p ∷ xs) inside =
    let lies = λ (q : PartPlace). file_offset kind q.address + q.size ≤ length bytes in
    let here = part_length p.size (file_offset kind p.address) bytes (All-head lies p xs inside) in
    let rest = placed kind bytes xs (All-tail lies p xs inside) in
    ap (λ n. record { class = p.class; address = p.address; size = n } ∷ map place_of (map (part_in kind bytes) xs))
    here
    ∙ ap (λ ys. p ∷ ys) rest

-- the parts of the contents lie where they are said to
pub contents_placed : (l : Linking) → IsGiven l → FitsLimits l → map place_of (contents l).parts ≡ places l
unfolding contents
contents_placed l given limits =
    placed (file_kind l.kind) (file l) (places l) (places_inside l given (table_fits l given limits))

-- where the tables lie
abbrev pub tables_place : Linking → PartPlace
tables_place l = place_of (tables_part (contents l))

-- the outline of the image is that of its parts and the tables
outline_is : (l : Linking) → IsGiven l → FitsLimits l
    → outline_of (finished (contents l)) ≡ outline l (tables_place l) (array_size (contents l))
unfolding finished contents
outline_is l given limits =
    let tail = tables_part (contents l) ∷ [] in
    let parts : map place_of ((contents l).parts ++ tail) ≡ places l ++ (tables_place l ∷ []) =
    map-append place_of (contents l).parts tail
    ∙ ap (λ xs. xs ++ (tables_place l ∷ [])) (contents_placed l given limits) in
    ap (λ xs. record {
      kind = file_kind l.kind;
      parts = xs;
      array_size = array_size (contents l);
      got = got_number l;
      tls = tls_part (layout l);
    }) parts

-- ** the tables

-- they begin at the page behind all parts
pub tables_begin : (l : Linking) → IsGiven l → FitsLimits l
    → tables_address (contents l) ≡ page_up (last_end (base_of l.kind) (places l))
unfolding contents page_up round_up
tables_begin l given limits =
    let end = parts_end-is (file_kind l.kind) (contents l).parts in
    let same : last_end (page_base (file_kind l.kind)) (map place_of (contents l).parts)
    ≡ last_end (base_of l.kind) (places l) =
    ap (λ n. last_end n (map place_of (contents l).parts)) (same_base l.kind)
    ∙ ap (last_end (base_of l.kind)) (contents_placed l given limits) in
    ap (λ n. next_multiple_of n 4096) (end ∙ same)

-- how many bytes they have
pub record IsTabled (l : Linking) : Type 0 where
  pub constant : (tables_place l).class ≡ ReadOnly
  pub address : (tables_place l).address ≡ page_up (last_end (base_of l.kind) (places l))
  pub array : array_size (contents l) ≤ (tables_place l).size
  pub filled : 0 < (tables_place l).size
  pub short : (tables_place l).size ≤ 2 ^ 25 + 1000

-- the tables are as they are said to be
pub tabled : (l : Linking) → IsGiven l → FitsLimits l → IsTabled l
unfolding tables_part contents
tabled l given limits = record {
  constant = refl;
  address = tables_begin l given limits;
  array = array_inside (contents l);
  filled = omega (arith, array_some (contents l), array_inside (contents l));
  short = tables_short l limits (few l given limits).relocations;
}

-- they are one good part more
whole_chain : (l : Linking) → IsGiven l → FitsLimits l
    → Chain (base_of l.kind) (base_of l.kind) (places l ++ (tables_place l ∷ []))
whole_chain l given limits =
    let base = base_of l.kind in
    let end = last_end base (places l) in
    let t = tabled l given limits in
    let small = (few l given limits).got in
    let lies = places_lie l limits.lawful small in
    let begins = begins_well l limits.lawful in
    let above = chain_rises base base (places l) lies.chain in
    let first = page_near (got_start l + got_size l) in
    let second = page_near end in
    let up = page_up-above end in
    let page : page_up end % 4096 ≡ 0 = on_page (page_up end) (page_multiple end) in
    chain-append base base (places l) (tables_place l ∷ []) lies.chain (
      record {
        filled = t.filled;
        paged = rw t.address page;
        above = omega (arith, t.address);
        below = omega (arith, t.address, t.short, lies.ends, begins.below);
      },
      omega (arith, t.address),
      tt,
    )

-- ** what a page of headers asks

-- a part is not written
abbrev IsConstant : PartPlace → Type 0
IsConstant p = is_writable p.class ≡ false

-- there is one at most
one_some : {X : Type 0} (x : Option X) → one_if_some x ≤ 1
one_some None = omega arith
one_some (Some x) = omega arith

-- the part of the table is written, and told besides
got_counts : (l : Linking)
    → (length (got_places l) ≤ 1) × (1 + written (got_places l) ≤ (if is_some (got_number l) then 2 else 1))
unfolding got_number
got_counts l = of_test (got_size l == 0)
  where
    of_test : (t : Bool)
        → (length (if t then [] else got_place l ∷ []) ≤ 1)
        × (1 + written (if t then [] else got_place l ∷ [])
        ≤ (if is_some (if t then None else Some (length (section_places (layout l)))) then 2 else 1))
    of_test true = (omega arith, omega arith)
    of_test false = (omega arith, omega arith)

-- a part behind others is the last
last_behind : (xs : List PartPlace) (p : PartPlace) → get_or (xs ++ (p ∷ [])) (length (xs ++ (p ∷ [])) - 1) no_part ≡ p
last_behind xs p =
    let more = length_push xs p in
    get_or_push xs p no_part (length (xs ++ (p ∷ [])) - 1) (omega arith)

-- there are six parts at most, the tables not counted
places_few : (l : Linking) → length (places l) ≤ 6
unfolding places
places_few l =
    let counts = got_counts l in
    omega (
      arith,
      counts.0,
      length-append (section_places (layout l)) (got_places l ++ stub_places l),
      length-append (got_places l) (stub_places l),
      sections_few (layout l),
      stub_few l,
    )

-- two of them are written where there is a table, else one at most
places_written : (l : Linking) → written (places l) ≤ (if is_some (got_number l) then 2 else 1)
unfolding places
places_written l =
    let counts = got_counts l in
    let first = written-append (section_places (layout l)) (got_places l ++ stub_places l) in
    let second = written-append (got_places l) (stub_places l) in
    let sections = sections_written (layout l) in
    let stub = stub_unwritten l in
    let sum : written (section_places (layout l) ++ (got_places l ++ stub_places l)) ≤ 1 + written (got_places l) =
    omega arith in
    omega (arith, sum, counts.1)

-- no part behind the table is written
stub_constant : (l : Linking) (tables : PartPlace) → tables.class ≡ ReadOnly
    → All IsConstant (stub_places l ++ (tables ∷ []))
stub_constant l tables constant = of_test (has_stub l)
  where
    of_test : (t : Bool)
        → All IsConstant ((if t then stub_place l ∷ [] else []) ++ (tables ∷ []))
    of_test true =
        All-cons IsConstant (stub_place l) (tables ∷ []) refl
        (All-cons IsConstant tables [] (ap is_writable constant) (All-nil IsConstant))
    of_test false = All-cons IsConstant tables [] (ap is_writable constant) (All-nil IsConstant)

-- where the written parts end
abbrev written_end : List PartPlace → ℕ
written_end xs = behind_last (λ i. is_writable (get_or xs i no_part).class) (length xs)

-- the table is the last of them
got_last : (l : Linking) (tables : PartPlace) (g : ℕ) → tables.class ≡ ReadOnly → got_number l ≡ Some g
    → written_end (places l ++ (tables ∷ [])) ≡ g + 1
unfolding got_number places
got_last l tables g constant is = of_test (got_size l == 0) is
  where
    of_test : (t : Bool) → (if t then None else Some (length (section_places (layout l)))) ≡ Some g
        → written_end
        ((section_places (layout l) ++ ((if t then [] else got_place l ∷ []) ++ stub_places l)) ++ (tables ∷ []))
        ≡ g + 1
    of_test true is = absurd (none-some g is)
    of_test false is =
        let same = same_Some (length (section_places (layout l))) g is in
        ap written_end (append_assoc (section_places (layout l)) (got_place l ∷ stub_places l) (tables ∷ []))
        ∙ (last_written (section_places (layout l)) (got_place l) (stub_places l ++ (tables ∷ [])) refl
        (stub_constant l tables constant)
        ∙ ap (λ n. n + 1) same)

-- the outline with the tables behind all parts
abbrev whole : Linking → Outlined
whole l = outline l (tables_place l) (array_size (contents l))

-- the outline can be told
whole_loadable : (l : Linking) → IsGiven l → FitsLimits l → IsLoadable (whole l)
whole_loadable l given limits =
    let t = tabled l given limits in
    let last = last_behind (places l) (tables_place l) in
    let more = length_push (places l) (tables_place l) in
    let base = same_base l.kind in
    let chain = whole_chain l given limits in
    let chained = subst (λ n. Chain n n (places l ++ (tables_place l ∷ []))) (sym base) chain in
    record {
      some = omega arith;
      few = omega (arith, places_few l, one_some (tls_part (layout l)), one_some (got_number l));
      parts = λ i below. chain_right (whole l) i chained below;
      few_written = (let same = many_written (places l ++ (tables_place l ∷ [])) in
          let sum = written-append (places l) (tables_place l ∷ []) in
          let none : one_if (is_writable (tables_place l).class) ≡ 0 = ap (λ c. one_if (is_writable c)) t.constant in
          let front = places_written l in
          omega (arith, same, sum, none, front));
      got_is = λ g is. got_last l (tables_place l) g t.constant is;
      last_constant = ap (λ (p : PartPlace). p.class) last ∙ t.constant;
      array_in = omega (arith, t.array, ap (λ (p : PartPlace). p.size) last);
      tls_is = right_tls l (tables_place l) (array_size (contents l)) limits.lawful;
    }

-- a page of headers can say what the image is
pub loadable : (l : Linking) → IsGiven l → FitsLimits l → IsLoadable (outline_of (finished (contents l)))
loadable l given limits = subst (λ o. IsLoadable o) (sym (outline_is l given limits)) (whole_loadable l given limits)

-- its TLS segment begins before the tables end
whole_holds_tls : (l : Linking) → IsGiven l → FitsLimits l → HoldsTls (whole l)
unfolding tls_part
whole_holds_tls l given limits = of_test (tls_size (layout l).sections == 0)
  where
    before : (segment (layout l)).address ≤ end_of (last_part (whole l))
    before =
        let t = tabled l given limits in
        let last = ap end_of (last_behind (places l) (tables_place l)) in
        let image = image_before l limits.lawful (few l given limits).got in
        omega (arith, t.address, last, image)

    of_test : (t : Bool)
        → IfSome (if t then None else Some (segment (layout l))) (λ s. s.address ≤ end_of (last_part (whole l)))
    of_test true = tt
    of_test false = before

-- the TLS segment of the image begins no further than the last part ends
pub holds_tls : (l : Linking) → IsGiven l → FitsLimits l → HoldsTls (outline_of (finished (contents l)))
holds_tls l given limits = subst (λ o. HoldsTls o) (sym (outline_is l given limits)) (whole_holds_tls l given limits)
