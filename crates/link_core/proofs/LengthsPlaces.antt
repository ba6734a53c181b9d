-- The parts of an image lie one behind another, from the base on.
use Rattle.std.proofs.Common.{◌≡◌, ◌+◌, ◌-◌, ◌≤◌, ◌∙◌, ◌++◌, ℕ, zero, suc, Bool, true, false, List, [], ◌∷◌, inl, inr}
use Rattle.std.proofs.Common.{refl, sym, ap, subst, arith}
use Rattle.std.specs.Prelude.{◌==◌, if◌then◌else◌, nat_lt}
use Rattle.std.specs.List.{All}
use Rattle.std.proofs.lemmas.Bool.{cases_lt, le-ltb, lt-ltb}
use Rattle.object_faults.specs.declared.class.SectionClass.TheVariants as class
use Rattle.image_file.specs.declared.part.PartClass.{PartClass}
use Rattle.image_file.specs.declared.part.PartClass.TheVariants.{Executable, ReadOnly, Writable}
use Rattle.image_rules.specs.declared.places.FileKind.{FileKind}
use Rattle.image_writer.specs.declared.outline.PartPlace.{PartPlace}
use Rattle.image_writer.specs.Page.{base_of as base_in_file}
use Rattle.image_writer.specs.Told.{places_end}
use Rattle.link_faults.specs.declared.image_kind.ImageKind.{ImageKind}
use Rattle.link_faults.specs.declared.image_kind.ImageKind.TheVariants.{Exe}
use Rattle.link_faults.specs.ImageKinds.{base_of}
use Rattle.tls_layout.specs.declared.extent.Extent.{Extent}
use Rattle.tls_layout.specs.Places.{executable, read_only, room, tls_image, writable}
use Rattle.tls_layout.specs.Sections.{Layout}
use Rattle.tls_layout.proofs.LawsOfPlaces.{classes_follow}
use Rattle.tls_layout.proofs.Together.{page_up-above}
use Rattle.placed_sections.specs.Laws.{end_or, sections_end}
use Rattle.link_needs.specs.Linking.{Linking, layout}
use Rattle.link_needs.specs.Needs.{got_size, got_start, has_stub, stub_start}
use Rattle.link_core.specs.Images.{file_kind, filled, got_places, places, section_places, stub_places}

-- ** parts one behind another

-- where parts end that begin at or after a place; there, where there are none
abbrev pub end_from : ℕ → List PartPlace → ℕ
end_from from [] = from
end_from from (p ∷ more) = end_from (p.address + p.size) more

-- each begins no earlier than the one before it ends
abbrev pub Follow : ℕ → List PartPlace → Type 0
Follow from [] = Unit {0}
Follow from (p ∷ more) = (from ≤ p.address) × Follow (p.address + p.size) more

pub follow-append : (from : ℕ) (ps qs : List PartPlace) → Follow from ps → Follow (end_from from ps) qs
    → Follow from (ps ++ qs)
follow-append from [] qs front back = back
follow-append from (p ∷ ps) qs front back = (front.0, follow-append (p.address + p.size) ps qs front.1 back)

pub follow-at : (from end : ℕ) (ps qs : List PartPlace) → Follow from ps → end_from from ps ≡ end → Follow end qs
    → Follow from (ps ++ qs)
follow-at from end ps qs front e back = follow-append from ps qs front (subst (λ n. Follow n qs) (sym e) back)

pub end_from-append : (from : ℕ) (ps qs : List PartPlace) → end_from from (ps ++ qs) ≡ end_from (end_from from ps) qs
end_from-append from [] qs = refl
end_from-append from (p ∷ ps) qs = end_from-append (p.address + p.size) ps qs

pub end_from-above : (from : ℕ) (ps : List PartPlace) → Follow from ps → from ≤ end_from from ps
end_from-above from [] follow = omega arith
end_from-above from (p ∷ ps) follow = omega (arith, end_from-above (p.address + p.size) ps follow.1, follow.0)

-- a part lies between two places
abbrev pub LiesBetween : ℕ → ℕ → PartPlace → Type 0
LiesBetween from end p = (from ≤ p.address) × (p.address + p.size ≤ end)

pub lie_between : (from : ℕ) (ps : List PartPlace) → Follow from ps → All (LiesBetween from (end_from from ps)) ps
lie_between from [] follow k d below = absurd (omega arith)
lie_between from (p ∷ ps) follow zero d below = (follow.0, end_from-above (p.address + p.size) ps follow.1)
lie_between from (p ∷ ps) follow (suc k) d below =
    let later = lie_between (p.address + p.size) ps follow.1 k d (omega arith) in
    (omega (arith, later.0, follow.0), later.1)

-- where the last of them ends
pub places_end-is : (kind : FileKind) (ps : List PartPlace) → places_end kind ps ≡ end_from (base_in_file kind) ps
places_end-is kind [] = refl
places_end-is kind (p ∷ []) = refl
places_end-is kind (p ∷ (q ∷ more)) = places_end-is kind (q ∷ more)

-- ** a class of sections

filled_end : (class : PartClass) (x : Extent) (from : ℕ) → end_from from (filled class x) ≡ end_or x from
filled_end class x from = elim (cases_lt x.start x.end) [
  | inl some ↦ rw (lt-ltb x.start x.end some) (omega arith)
  | inr none ↦ rw (le-ltb x.start x.end none) refl
]

filled_follows : (class : PartClass) (x : Extent) (from : ℕ) → from ≤ x.start → Follow from (filled class x)
filled_follows class x from low = of_test (nat_lt x.start x.end)
  where
    of_test : (t : Bool) → Follow from
        (if t then record { class = class; address = x.start; size = x.end - x.start } ∷ [] else [])
    of_test true = (low, tt)
    of_test false = tt

-- the next class begins no earlier
in_time : (x : Extent) (from next : ℕ) → from ≤ next → x.end ≤ next → end_or x from ≤ next
in_time x from next low late = of_test (nat_lt x.start x.end)
  where
    of_test : (t : Bool) → (if t then x.end else from) ≤ next
    of_test true = late
    of_test false = low

-- the sections of a layout as parts: they follow, and end where the file of sections does, before the room
pub record AreParts (p : Layout) : Type 0 where
  pub follow : Follow (base_of p.kind) (section_places p)
  pub ends : end_from (base_of p.kind) (section_places p) ≡ sections_end p
  pub before : sections_end p ≤ room p.kind p.sections

pub are_parts : (p : Layout) → AreParts p
unfolding section_places sections_end
are_parts p =
    let f = classes_follow p in
    let x1 = executable p.kind p.sections in
    let x2 = read_only p.kind p.sections in
    let x3 = tls_image p.kind p.sections in
    let x4 = writable p.kind p.sections in
    let up1 : x1.start ≤ x1.end = f.rise class.Executable in
    let up2 : x2.start ≤ x2.end = f.rise class.ReadOnly in
    let up3 : x3.start ≤ x3.end = f.rise (class.Tls true) in
    let up4 : x4.start ≤ x4.end = f.rise (class.Writable true) in
    let base = base_of p.kind in
    let e1 = end_or x1 base in
    let e2 = end_or x2 e1 in
    let e3 = end_or x3 e2 in
    let t2 : e1 ≤ x2.start = in_time x1 base x2.start (omega (arith, f.first, f.second)) f.second in
    let t3 : e2 ≤ x3.start = in_time x2 e1 x3.start (omega (arith, f.third)) f.third in
    let t4 : e3 ≤ x4.start = in_time x3 e2 x4.start (omega (arith, f.fourth)) f.fourth in
    let last : x4.end ≤ room p.kind p.sections = f.last in
    let d4 = filled Writable x4 in
    let d3 = filled ReadOnly x3 in
    let d2 = filled ReadOnly x2 in
    let d1 = filled Executable x1 in
    let n1 = filled_end Executable x1 base in
    let n2 = filled_end ReadOnly x2 e1 in
    let n3 = filled_end ReadOnly x3 e2 in
    let n4 = filled_end Writable x4 e3 in
    let s4 : Follow e3 d4 = filled_follows Writable x4 e3 t4 in
    let s3 : Follow e2 (d3 ++ d4) = follow-at e2 e3 d3 d4 (filled_follows ReadOnly x3 e2 t3) n3 s4 in
    let s2 : Follow e1 (d2 ++ (d3 ++ d4)) = follow-at e1 e2 d2 (d3 ++ d4) (filled_follows ReadOnly x2 e1 t2) n2 s3 in
    let s1 : Follow base d1 = filled_follows Executable x1 base (omega (arith, f.first)) in
    record {
      follow = follow-at base e1 d1 (d2 ++ (d3 ++ d4)) s1 n1 s2;
      ends = end_from-append base d1 (d2 ++ (d3 ++ d4)) ∙ ap (λ n. end_from n (d2 ++ (d3 ++ d4))) n1
          ∙ end_from-append e1 d2 (d3 ++ d4) ∙ ap (λ n. end_from n (d3 ++ d4)) n2
          ∙ end_from-append e2 d3 d4 ∙ ap (λ n. end_from n d4) n3
          ∙ n4;
      before = in_time x4 e3 (room p.kind p.sections) (omega (arith, t4, up4, last)) last;
    }

-- ** all parts

-- where the table lies, and the stub
abbrev pub got_place : Linking → PartPlace
got_place l = record { class = Writable; address = got_start l; size = got_size l }

abbrev pub stub_place : Linking → PartPlace
stub_place l = record { class = Executable; address = stub_start l; size = 6 }

-- where the table ends, or the sections where there is none
abbrev pub got_end : Linking → ℕ
got_end l = if got_size l == 0 then sections_end (layout l) else got_start l + got_size l

-- where the last part ends
abbrev pub last_end : Linking → ℕ
last_end l = if has_stub l then stub_start l + 6 else got_end l

pub got_end-before : (l : Linking) → got_end l ≤ stub_start l
got_end-before l =
    let before = (are_parts (layout l)).before in
    let page = page_up-above (got_start l + got_size l) in
    of_test (got_size l == 0) before page
  where
    of_test : (t : Bool) → sections_end (layout l) ≤ got_start l → got_start l + got_size l ≤ stub_start l
        → (if t then sections_end (layout l) else got_start l + got_size l) ≤ stub_start l
    of_test true before page = omega arith
    of_test false before page = page

pub got_start-after : (l : Linking) → sections_end (layout l) ≤ got_start l
got_start-after l = (are_parts (layout l)).before

-- the table begins above the base
pub base_before : (l : Linking) → base_of l.kind ≤ got_start l
base_before l =
    let s = are_parts (layout l) in
    let up = end_from-above (base_of l.kind) (section_places (layout l)) s.follow in
    omega (arith, s.ends, s.before)

-- the parts follow, from the base up to their end
pub record FollowUpTo (l : Linking) : Type 0 where
  pub follow : Follow (base_of l.kind) (places l)
  pub ends : end_from (base_of l.kind) (places l) ≡ last_end l

pub all_follow : (l : Linking) → FollowUpTo l
unfolding places
all_follow l =
    let base = base_of l.kind in
    let x = section_places (layout l) in
    let s = are_parts (layout l) in
    let g = got (got_size l == 0) s.before in
    let t = stub (has_stub l) (got_end-before l) in
    let rest : Follow (sections_end (layout l)) (got_places l ++ stub_places l) =
    follow-at (sections_end (layout l)) (got_end l) (got_places l) (stub_places l) g.0 g.1 t.0 in
    record {
      follow = follow-at base (sections_end (layout l)) x (got_places l ++ stub_places l) s.follow s.ends rest;
      ends = end_from-append base x (got_places l ++ stub_places l)
          ∙ ap (λ n. end_from n (got_places l ++ stub_places l)) s.ends
          ∙ end_from-append (sections_end (layout l)) (got_places l) (stub_places l)
          ∙ ap (λ n. end_from n (stub_places l)) g.1
          ∙ t.1;
    }
  where
    got : (test : Bool) → sections_end (layout l) ≤ got_start l
        → Follow (sections_end (layout l)) (if test then [] else got_place l ∷ [])
        × (end_from (sections_end (layout l)) (if test then [] else got_place l ∷ [])
        ≡ (if test then sections_end (layout l) else got_start l + got_size l))
    got true before = (tt, refl)
    got false before = ((before, tt), refl)

    stub : (test : Bool) → got_end l ≤ stub_start l
        → Follow (got_end l) (if test then stub_place l ∷ [] else [])
        × (end_from (got_end l) (if test then stub_place l ∷ [] else [])
        ≡ (if test then stub_start l + 6 else got_end l))
    stub true before = ((before, tt), refl)
    stub false before = (tt, refl)

-- an image begins at one place, whatever says so
pub same_base : (kind : ImageKind) → base_in_file (file_kind kind) ≡ base_of kind
same_base Exe = refl
same_base kind = refl
