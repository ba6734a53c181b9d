-- A draft's file as its parts in its frame, and parts that stand at their offsets in a file.
use Rattle.std.proofs.Common.{ℕ, zero, suc, ◌+◌, ◌-◌, ◌<◌, ◌≤◌, ◌≡◌, ◌⊎◌, inl, inr, All, Some, List, [], ◌∷◌, ◌++◌}
use Rattle.std.proofs.Common.{length, map, take, drop, get_or, replicate, refl, sym, ap, ◌∙◌, arith}
use Rattle.std.specs.List.{slice_get}
use Rattle.std.proofs.lemmas.List.{append-nil, drop_all, drop-drop, length-replicate, replicate-append-replicate}
use Rattle.std.proofs.lemmas.List.{take-append-drop}
use Rattle.std.proofs.lemmas.Option.{get_or_from_slice_get}
use Rattle.std.proofs.Math.Seq.{drop-cons}
use Rattle.std.proofs.lemmas.List.Elements.{All-cons}
use Rattle.elf_records.specs.Fields.{part_at, splice}
use Rattle.image_faults.specs.Faults.{IsImage}
use Rattle.image_file.specs.Spelled.{Part, spelled}
use Rattle.image_rules.specs.declared.places.FileKind.{FileKind}
use Rattle.image_writer.specs.declared.draft.Draft.{Draft}
use Rattle.image_writer.specs.declared.outline.PartPlace.{PartPlace}
use Rattle.image_writer.specs.Contents.{contents_of, part_in, parts_end, tables_address}
use Rattle.image_writer.specs.Frames.{AreInside, back_of, front_of, outline_told}
use Rattle.image_writer.specs.Laws.{IsBetween, Rise}
use Rattle.image_writer.specs.Linkable.{IsLinkable}
use Rattle.image_writer.specs.Loadable.{HoldsTls, IsLoadable}
use Rattle.image_writer.specs.Outlined.{end_of}
use Rattle.image_writer.specs.Page.{base_of, file_offset, page}
use Rattle.image_writer.specs.Tables.{finished, tables, tables_part}
use Rattle.image_writer.specs.Told.{next_page, places_end, IsRelocationFitting, IsSymbolFitting}
use Rattle.image_writer.specs.Written.{laid, written}
use Rattle.image_writer.proofs.Filing.{is_file, written_behind}
use Rattle.image_writer.proofs.Finishing.{address-is, fitting, loadable_told, outline-is, tables_told, tls_told}
use Rattle.image_writer.proofs.Laying.{laid-append, reach}
use Rattle.image_writer.proofs.Linked.{stands_for}
use Rattle.image_writer.proofs.Making.{part_in-size, parts_end-in}

-- a draft that can be linked has a frame
pub has_frame : (d : Draft) (file : List ℕ) → IsLinkable (contents_of d file) → AreInside d file
    → IsLoadable (outline_told d) × HoldsTls (outline_told d)
has_frame d file linkable inside =
    (loadable_told d file inside linkable, tls_told d file inside linkable)

-- laying comes to the end of the last part
reach_end : (kind : FileKind) (ps : List Part) → reach (base_of kind) ps ≡ parts_end kind ps
reach_end kind [] = refl
reach_end kind (p ∷ []) = refl
reach_end kind (p ∷ (q ∷ more)) = reach_end kind (q ∷ more)

pub frames_hold : (d : Draft) (file : List ℕ) → AreInside d file
    → written (finished (contents_of d file))
    ≡ front_of d ++ (laid (base_of d.kind) (contents_of d file).parts ++ back_of d)
unfolding written finished tables_part
frames_hold d file inside =
    let c = contents_of d file in
    let base = base_of d.kind in
    let end : reach base c.parts ≡ places_end d.kind d.parts.now =
    reach_end d.kind c.parts ∙ parts_end-in d.kind file d.parts.now inside in
    ap (λ o. page o ++ laid base (c.parts ++ (tables_part c ∷ []))) (outline-is d file inside)
    ∙ ap (λ ys. front_of d ++ ys) (
    laid-append base c.parts (tables_part c ∷ [])
    ∙ ap (λ ys. laid base c.parts ++ ys) (
    ap (λ n. replicate (tables_address c - n) 0 ++ (tables c ++ [])) end
    ∙ ap (λ n. replicate (n - places_end d.kind d.parts.now) 0 ++ (tables c ++ [])) (address-is d file inside)
    ∙ ap (λ ys. replicate (next_page d - places_end d.kind d.parts.now) 0 ++ ys)
    (append-nil (tables c) ∙ tables_told d file inside)
    )
    )

pub read_again : (d : Draft) (file : List ℕ) → IsLinkable (contents_of d file)
    → All IsSymbolFitting d.symbols.now → All IsRelocationFitting d.relocations.now
    → IsImage (written (finished (contents_of d file)))
    × (spelled (written (finished (contents_of d file))) ≡ finished (contents_of d file))
read_again d file linkable symbols relocations =
    let c = contents_of d file in
    stands_for c (written (finished c)) linkable (fitting d file symbols relocations)
    (is_file (finished c) linkable.loadable)

-- what is put into bytes that were made of zeros, after some of them
pub put_behind : (empty grown lent put new : List ℕ) (gap n long : ℕ) → empty ≡ [] → n ≡ length new
    → length grown ≡ long → grown ≡ empty ++ replicate (gap + n) 0 → lent ≡ grown → put ≡ splice gap new lent
    → take long (put ++ drop (length put) grown) ≡ replicate gap 0 ++ new
put_behind empty grown lent put new gap n long none n-is long-is grew same wrote =
    written_behind (replicate gap 0) new grown lent put n gap long n-is (sym (length-replicate gap 0)) long-is
    (grew ∙ ap (λ ys. ys ++ replicate (gap + n) 0) none ∙ sym (replicate-append-replicate gap n 0)) same wrote

-- where places come to from an address
abbrev come_to : ℕ → List PartPlace → ℕ
come_to at [] = at
come_to at (p ∷ more) = come_to (end_of p) more

come_to-end : (kind : FileKind) (places : List PartPlace) → come_to (base_of kind) places ≡ places_end kind places
come_to-end kind [] = refl
come_to-end kind (p ∷ []) = refl
come_to-end kind (p ∷ (q ∷ more)) = come_to-end kind (q ∷ more)

come_to-behind : (at : ℕ) (places : List PartPlace) → Rise at places → at ≤ come_to at places
come_to-behind at [] rise = omega arith
come_to-behind at (p ∷ more) rise =
    let begins = rise.0 in
    let rest = come_to-behind (end_of p) more rise.1 in
    omega arith

-- a byte before an address is in no part behind it
none_before : (kind : FileKind) (at k : ℕ) (places : List PartPlace) → k < file_offset kind at → Rise at places
    → IsBetween kind places k
none_before kind at k [] before rise = λ i d below. absurd (omega arith)
none_before kind at k (p ∷ more) before rise =
    let begins = rise.0 in
    All-cons (λ (q : PartPlace). (k < file_offset kind q.address) ⊎ (file_offset kind q.address + q.size ≤ k)) p more
    (inl (omega arith)) (none_before kind (end_of p) k more (omega arith) rise.1)

-- a run of a list whose items are zero
zero_run : (n from : ℕ) (xs : List ℕ) → from + n ≤ length xs
    → ((k : ℕ) → from ≤ k → k < from + n → slice_get xs k ≡ Some 0) → take n (drop from xs) ≡ replicate n 0
zero_run zero from xs within are = refl
zero_run (suc n) from xs within are =
    let here : get_or xs from 0 ≡ 0 = get_or_from_slice_get xs from 0 0 (are from (omega arith) (omega arith)) in
    ap (take (suc n)) (drop-cons xs from 0 (omega arith))
    ∙ ap (λ y. y ∷ take n (drop (suc from) xs)) here
    ∙ ap (λ ys. 0 ∷ ys)
    (zero_run n (suc from) xs (omega arith) (λ k above below. are k (omega (arith, above)) (omega (arith, below))))

-- from an address on
in_place : (kind : FileKind) (file : List ℕ) (at : ℕ) (places : List PartPlace) → base_of kind ≤ at → Rise at places
    → length file ≡ file_offset kind (come_to at places)
    → ((k : ℕ) → file_offset kind at ≤ k → k < length file → IsBetween kind places k → slice_get file k ≡ Some 0)
    → drop (file_offset kind at) file ≡ laid at (map (part_in kind file) places)
unfolding part_at
in_place kind file at [] low rise ends gaps = drop_all (file_offset kind at) file (omega (arith, ends))
in_place kind file at (p ∷ more) low rise ends gaps =
    let begins = rise.0 in
    let from = file_offset kind at in
    let to = file_offset kind p.address in
    let gap = p.address - at in
    let behind = come_to-behind (end_of p) more rise.1 in
    let inside : to + p.size ≤ length file = omega (arith, ends, behind, low, begins) in
    let up : from + gap ≡ to = omega (arith, low, begins) in
    let over : to + p.size ≡ file_offset kind (end_of p) = omega (arith, low, begins) in
    let zeros : take gap (drop from file) ≡ replicate gap 0 =
    zero_run gap from file (omega arith) (λ k above below.
    gaps k above (omega arith) (none_before kind p.address k (p ∷ more) (omega arith) (omega arith, rise.1))) in
    let apart : (k : ℕ) → file_offset kind (end_of p) ≤ k → IsBetween kind more k → IsBetween kind (p ∷ more) k =
    λ k above between.
    All-cons (λ (q : PartPlace). (k < file_offset kind q.address) ⊎ (file_offset kind q.address + q.size ≤ k)) p more
    (inr (omega (arith, above, over))) between in
    let rest = in_place kind file (end_of p) more (omega (arith, low, begins)) rise.1 ends
    (λ k above below between. gaps k (omega (arith, above, low, begins)) below (apart k above between)) in
    sym (take-append-drop gap (drop from file))
    ∙ ap (λ ys. ys ++ drop gap (drop from file)) zeros
    ∙ ap (λ ys. replicate gap 0 ++ ys) (
    drop-drop gap from file
    ∙ ap (λ n. drop n file) up
    ∙ sym (take-append-drop p.size (drop to file))
    ∙ ap (λ ys. take p.size (drop to file) ++ ys) (
    drop-drop p.size to file
    ∙ ap (λ n. drop n file) over
    ∙ rest
    ∙ ap (λ n. laid (p.address + n) (map (part_in kind file) more)) (sym (part_in-size kind file p inside))
    )
    )

pub parts_in_place : (kind : FileKind) (file : List ℕ) (places : List PartPlace) → Rise (base_of kind) places
    → length file ≡ file_offset kind (places_end kind places)
    → ((k : ℕ) → 4096 ≤ k → k < length file → IsBetween kind places k → slice_get file k ≡ Some 0)
    → drop 4096 file ≡ laid (base_of kind) (map (part_in kind file) places)
parts_in_place kind file places rise ends gaps =
    let first : file_offset kind (base_of kind) ≡ 4096 = omega arith in
    ap (λ n. drop n file) (sym first)
    ∙ in_place kind file (base_of kind) places (omega arith) rise
    (ends ∙ ap (file_offset kind) (sym (come_to-end kind places)))
    (λ k above below between. gaps k (omega (arith, above, first)) below between)
