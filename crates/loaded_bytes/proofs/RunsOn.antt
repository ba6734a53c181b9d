-- No instruction that begins outside the room has a byte of it: what is run there, the stub, begins behind the table.
use Rattle.std.proofs.Common.{◌≡◌, ◌+◌, ◌*◌, ◌<◌, ◌≤◌, ◌⊎◌, ◌==◌, ◌&&◌, ◌^◌, ◌∙◌, ℕ, suc, Bool, true, false, List, []}
use Rattle.std.proofs.Common.{◌∷◌, ◌++◌, Option, Some, None, map, inl}
use Rattle.std.proofs.Common.{inr, refl, sym, ap, arith, if◌then◌else◌}
use Rattle.std.specs.Prelude.{IsSome, nat_le, nat_lt}
use Rattle.std.specs.List.{All, Contains, flat_map, list_any}
use Rattle.std.proofs.lemmas.Bool.Decides.{nat_tests}
use Rattle.std.proofs.lemmas.List.Elements.{All-append, All-cons, All-contains, All-nil}
use Rattle.std.proofs.lemmas.List.Elements.{Contains-append_left, Contains-append_right}
use Rattle.got_pairs.specs.declared.need.Need.{Need}
use Rattle.got_pairs.specs.declared.need.Need.TheVariants.{ModulePair, SymbolPair, Descriptor, SymbolWord}
use Rattle.got_pairs.specs.declared.need.Need.TheVariants.{AddressWord, RuntimeWord}
use Rattle.got_pairs.specs.Needs.{size_of, start_of, total_size}
use Rattle.got_pairs.specs.Needs.{entries as entries_of}
use Rattle.guest_operands.specs.declared.space.Access.TheVariants.{Run}
use Rattle.guest_operands.specs.Ranges.{Range, byte_in}
use Rattle.image_file.specs.declared.part.PartClass.TheVariants as part_class
use Rattle.image_file.specs.Spelled.{Part}
use Rattle.image_writer.specs.declared.outline.PartPlace.{PartPlace}
use Rattle.image_writer.specs.Contents.{part_in}
use Rattle.image_writer.specs.Tables.{tables_part}
use Rattle.link_core.specs.Bytes.{file}
use Rattle.link_core.specs.Images.{contents, file_kind, got_places, image_of, stub_places}
use Rattle.link_faults.specs.ImageKinds.{base_of}
use Rattle.link_needs.proofs.Reached.{stubs_have_their_word, table_some}
use Rattle.link_needs.specs.Linking.{Linking, layout}
use Rattle.link_needs.specs.Needs.{any_stub_call, calls, calls_stub, entries, got_size, got_start, has_stub, is_kept}
use Rattle.link_needs.specs.Needs.{is_stub_call, needs, site_needs, stub_start}
use Rattle.loaded_modules.specs.declared.instance.Instance.{Instance}
use Rattle.object_faults.specs.declared.class.SectionClass.TheVariants.{Executable}
use Rattle.sequence_forms.specs.declared.forms.Form.{Form}
use Rattle.sequence_forms.specs.declared.forms.Form.TheVariants.{Gd, Ld}
use Rattle.sequence_forms.specs.declared.places.Site.{Site}
use Rattle.thread_blocks.specs.JobLoads.{job_loads, parts_from}
use Rattle.tls_layout.proofs.Rounds.{round_up-above, round_up-multiple}
use Rattle.tls_layout.specs.Places.{room}
use Rattle.tls_layout.specs.Rounding.{page_up}
use Rattle.whole_meaning.specs.Spots.{bias_of, in_room}
use Rattle.loaded_bytes.specs.Apart.{NoneRunsOn}
use Rattle.loaded_bytes.specs.Laws.{IsInstanceOf, images_of}
use Rattle.loaded_bytes.proofs.Classes.{class_below}
use Rattle.loaded_bytes.proofs.Data.{rest}
use Rattle.loaded_bytes.proofs.Elsewhere.{Found, bounds, one, split, where_found}
use Rattle.loaded_bytes.proofs.Ranges.{still}
use Rattle.loaded_bytes.proofs.Still.{fixed_is}
use Rattle.image_names.specs.Functions.{is_code}

module _ (l : Linking) where
  -- ** the stub lies on a later page than the table, which is not empty

  page_next : (z s : ℕ) → 0 < s → page_up z + 4096 ≤ page_up (page_up z + s)
  unfolding page_up
  page_next z s some =
      let first = round_up-multiple z 4096 (omega arith) in
      let second = round_up-multiple (page_up z + s) 4096 (omega arith) in
      let above = round_up-above (page_up z + s) 4096 in
      pages first.0 second.0 (page_up z) (page_up (page_up z + s)) first.1 second.1 (omega (arith, above, some))
    where
      pages : (q t a b : ℕ) → a ≡ 4096 * q → b ≡ 4096 * t → a < b → a + 4096 ≤ b
      pages q t a b first second less = omega arith

  stub_behind : has_stub l ≡ true → room (layout l).kind (layout l).sections + 4096 ≤ stub_start l
  unfolding room
  stub_behind e = page_next _ (got_size l) (table_some l RuntimeWord (stubs_have_their_word l e))

  -- ** all that is added begins behind the first bytes of the room, where it is run

  abbrev IsBehind : PartPlace → Type 0
  IsBehind p = is_code p.class ≡ true → room (layout l).kind (layout l).sections + 15 ≤ p.address

  abbrev IsPartBehind : Part → Type 0
  IsPartBehind p = is_code p.class ≡ true → room (layout l).kind (layout l).sections + 15 ≤ p.address

  got_behind : All IsBehind (got_places l)
  got_behind = of_test (got_size l == 0)
    where
      of_test : (t : Bool)
          → All IsBehind (if t then []
          else record { class = part_class.Writable; address = got_start l; size = got_size l } ∷ [])
      of_test true = All-nil IsBehind
      of_test false =
          All-cons IsBehind (record { class = part_class.Writable; address = got_start l; size = got_size l }) []
          (λ e. absurd (cc))
          (All-nil IsBehind)

  stub_places_behind : All IsBehind (stub_places l)
  stub_places_behind = of_test (has_stub l) refl
    where
      of_test : (t : Bool) → has_stub l ≡ t
          → All IsBehind (if t then record { class = part_class.Executable; address = stub_start l; size = 6 } ∷ []
          else [])
      of_test true e =
          let far = stub_behind e in
          All-cons IsBehind (record { class = part_class.Executable; address = stub_start l; size = 6 }) []
          (λ code. omega (arith, far)) (All-nil IsBehind)
      of_test false e = All-nil IsBehind

  mapped : (ps : List PartPlace) → All IsBehind ps → All IsPartBehind (map (part_in (file_kind l.kind) (file l)) ps)
  mapped [] all = All-nil IsPartBehind
  mapped (p ∷ ps) all =
      All-cons IsPartBehind (part_in (file_kind l.kind) (file l) p) (map (part_in (file_kind l.kind) (file l)) ps)
      (all 0 p (omega arith)) (mapped ps (λ k d below. all (suc k) d (omega (arith, below))))

  tables_behind : IsPartBehind (tables_part (contents l))
  unfolding tables_part
  tables_behind e = absurd (cc)

  pub rest_behind : All IsPartBehind (map (part_in (file_kind l.kind) (file l)) (got_places l ++ stub_places l)
      ++ (tables_part (contents l) ∷ []))
  rest_behind =
      All-append IsPartBehind (map (part_in (file_kind l.kind) (file l)) (got_places l ++ stub_places l))
      (tables_part (contents l) ∷ [])
      (mapped (got_places l ++ stub_places l)
      (All-append IsBehind (got_places l) (stub_places l) got_behind stub_places_behind))
      (All-cons IsPartBehind (tables_part (contents l)) [] tables_behind (All-nil IsPartBehind))

-- ** what is run

module _ (ls : List Linking) (l : Linking) (x : Instance) (is : IsInstanceOf ls l x) (place byte : ℕ) where
  behind : (n : ℕ) (ps : List Part) → All (IsPartBehind l) ps → Found ls l x is Run place byte n ps
      → room (layout l).kind (layout l).sections + 15 + bias_of l.kind x.number ≤ place
  behind n [] all e = absurd (cc)
  behind n (p ∷ ps) all e = elim (split ls l x is Run place byte n (p ∷ []) ps e) [
    | inl here ↦
        let found = one ls l x is Run place byte n p here in
        let at = bounds ls l x is Run place byte n p found in
        let low : room (layout l).kind (layout l).sections + 15 ≤ p.address = all 0 p (omega arith) found.allowed in
        omega (arith, at.0, low)
    | inr there ↦ behind (n + 1) ps (λ k d below. all (suc k) d (omega (arith, below))) there
  ]

  -- it is code, or far in the room
  run_where : Found ls l x is Run place byte 0 (image_of l).parts
      → (place < room (layout l).kind (layout l).sections + bias_of l.kind x.number)
      ⊎ (room (layout l).kind (layout l).sections + 15 + bias_of l.kind x.number ≤ place)
  run_where e = elim (where_found ls l x is Run place byte e) [
    | inl here ↦
        let below = class_below (layout l) Executable in
        inl (let at = here.2.1 in let high = here.2.2.1 in omega (arith, below, at, high))
    | inr past ↦ elim past [
      | inl here ↦ let no = here.1.allowed in absurd (cc)
      | inr past ↦ elim past [
        | inl here ↦ let no = here.1.allowed in absurd (cc)
        | inr here ↦ inr (behind here.0 (rest ls l x) (rest_behind l) here.1)
      ]
    ]
  ]

in_bounds : (low high place : ℕ) → (nat_le low place && nat_lt place high) ≡ true → (low ≤ place) × (place < high)
in_bounds low high place e = grind (arith, nat_tests)

out_of_bounds : (low high place k : ℕ) → (nat_le low place && nat_lt place high) ≡ false → place + k < high
    → place < low
out_of_bounds low high place k e below = grind (arith, nat_tests)

-- the law
pub none_runs_on : NoneRunsOn
unfolding in_room
none_runs_on ls l x place k is few outside inside = of_found
    (byte_in Run ((job_loads (images_of ls)).fixed x) (place + k)) refl
  where
    of_found : (found : Option ℕ) → byte_in Run ((job_loads (images_of ls)).fixed x) (place + k) ≡ found → found ≡ None
    of_found None e = refl
    of_found (Some byte) e =
        let low : ℕ = room (layout l).kind (layout l).sections + bias_of l.kind x.number in
        let high : ℕ = base_of l.kind + 2 ^ 26 + bias_of l.kind x.number in
        let there = in_bounds low high (place + k) inside in
        let before = out_of_bounds low high place k outside there.1 in
        let found : byte_in Run (still (parts_from (images_of ls) (image_of l) x 0 (image_of l).parts)) (place + k)
        ≡ Some byte =
        sym (ap (λ (ranges : List (Range ℕ)). byte_in Run ranges (place + k)) (fixed_is ls l x is.image)) ∙ e in
        elim (run_where ls l x is (place + k) byte found) [
          | inl code ↦ absurd (omega (arith, code, there.0))
          | inr far ↦ absurd (omega (arith, far, before, few))
        ]
