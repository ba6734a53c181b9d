-- The field of a relocation that has a byte outside all sequences: it lies outside them whole, holds a value, and is
-- loaded as that value's bytes.
use Rattle.std.proofs.Common.{◌≡◌, ◌≢◌, ◌∙◌, ◌+◌, ◌-◌, ◌<◌, ◌≤◌, ◌==◌, ◌&&◌, ℕ, Bool, true, false, List, [], length}
use Rattle.std.proofs.Common.{Option}
use Rattle.std.proofs.Common.{Some, None, inl, inr, refl, sym, ap, subst, arith, if◌then◌else◌}
use Rattle.std.specs.Prelude.{nat_le, nat_lt, slice_get, slice_index_or, unwrap_or}
use Rattle.std.specs.List.{Contains, find}
use Rattle.std.proofs.lemmas.Bool.{le-leb, lt-ltb}
use Rattle.std.proofs.lemmas.Bool.Decides.{nat_tests}
use Rattle.std.proofs.lemmas.List.Elements.{All-contains}
use Rattle.std.proofs.lemmas.Option.{slice_get-get_or}
use Rattle.elf_object.specs.declared.relocation.Relocation.{Relocation}
use Rattle.elf_object.specs.Laws.{table_of_kept}
use Rattle.elf_object.specs.Lent.{kept_relocation_table, relocation_target, relocations, relocations_in, section_class}
use Rattle.elf_object.specs.Relocations.{field_width}
use Rattle.elf_records.specs.declared.relocation.RelocationKind.TheVariants.{Nothing}
use Rattle.guest_operands.specs.declared.space.Access.TheVariants.{Run}
use Rattle.guest_operands.specs.Ranges.{byte_in}
use Rattle.link_core.proofs.Few.{table_fits}
use Rattle.link_core.proofs.LengthsInside.{is_object}
use Rattle.link_core.proofs.StandingPlaces.{IsIn, field_in}
use Rattle.link_core.proofs.Together.{together}
use Rattle.link_core.proofs.TogetherSites.{first_within, own_relocation, second_within}
use Rattle.link_core.specs.Faults.{Links, Overflows}
use Rattle.link_core.specs.Laws.{HasNoStray}
use Rattle.link_needs.specs.Given.{IsGiven}
use Rattle.link_needs.specs.Linking.{Linking, binding, object, place, sites_at}
use Rattle.link_needs.specs.Values.{field, is_replaced}
use Rattle.loaded_bytes.proofs.FieldBytes.{loaded_is}
use Rattle.link_core.proofs.StandingFields.{shared}
use Rattle.loaded_bytes.proofs.Finds.{found_is, none_found, none_passes}
use Rattle.loaded_bytes.proofs.Meant.{same_lists}
use Rattle.loaded_bytes.proofs.Sections.{sections_stand}
use Rattle.loaded_bytes.proofs.Still.{code_loaded}
use Rattle.loaded_bytes.proofs.Values.{CallsNone, IsBound, bound_is}
use Rattle.loaded_bytes.specs.Bytes.{loaded_field}
use Rattle.loaded_bytes.specs.Laws.{IsInstanceOf, images_of}
use Rattle.loaded_modules.specs.declared.instance.Instance.{Instance}
use Rattle.object_faults.specs.declared.class.SectionClass.TheVariants.{Executable}
use Rattle.object_faults.specs.Firsts.{nonzero}
use Rattle.sequence_forms.specs.declared.places.Site.{Site}
use Rattle.sequence_match.proofs.Sections.{fields_apart, target_of_table}
use Rattle.sequence_match.specs.Faults.{IsGetter, IsOfSequence, IsSite, code_of}
use Rattle.sequence_match.specs.Sites.{Covers, IsEntry, IsSiteOf}
use Rattle.thread_blocks.specs.JobLoads.{job_loads}
use Rattle.tls_relocs.specs.declared.fields.Field.{Field}
use Rattle.tls_relocs.specs.declared.fields.Field.TheVariants.{Empty}
use Rattle.tls_relocs.specs.Fields.{field_bytes}
use Rattle.tls_symbols.proofs.Walked.{held_is}
use Rattle.tls_symbols.specs.Faults.{held_in}
use Rattle.whole_meaning.specs.Bytes.{covers}
use Rattle.whole_meaning.specs.Code.{is_in_site}
use Rattle.whole_meaning.specs.Spots.{bias_of}
use Rattle.tied_meaning.specs.Ties.{HasFourBytes}

-- ** tests

pub covers_so : (k : ℕ) (r : Relocation) → covers k r ≡ true → Covers r k
covers_so k r e = grind (arith, nat_tests)

pub covered_so : (k : ℕ) (r : Relocation) → Covers r k → covers k r ≡ true
covered_so k r inside = rw (le-leb r.offset k inside.0, lt-ltb k (r.offset + field_width r.kind) inside.1) refl

-- what a site that has byte k of section t is
pub record HasByte (t k : ℕ) (site : Site) : Type 0 where
  pub section : site.section ≡ t
  pub from : site.start ≤ k
  pub to : k < site.start + site.len

pub has_byte : (t k : ℕ) (site : Site) → is_in_site t k site ≡ true → HasByte t k site
has_byte t k site e =
    let x = tests site.section t site.start k (site.start + site.len) e in
    record { section = x.0; from = x.1; to = x.2 }
  where
    tests : (a b c d e : ℕ) → ((a == b) && (nat_le c d && nat_lt d e)) ≡ true → (a ≡ b) × (c ≤ d) × (d < e)
    tests a b c d e h = grind (arith, nat_tests)

byte_had : (t k : ℕ) (site : Site) → HasByte t k site → is_in_site t k site ≡ true
byte_had t k site h = tests site.section t site.start k (site.start + site.len) h.section h.from h.to
  where
    tests : (a b c d e : ℕ) → a ≡ b → c ≤ d → d < e → ((a == b) && (nat_le c d && nat_lt d e)) ≡ true
    tests a b c d e x y z = grind (arith, nat_tests)

-- ** one field

module _ (l : Linking) (given : IsGiven l) (links : Links l) (stray : HasNoStray l) (o t k : ℕ)
    (there : o < length l.objects) (r : Relocation) (has : Contains (relocations (object l o) t) r)
    (inside : Covers r k)
    (outside : find (is_in_site t k) (sites_at l o) ≡ None) where
  entry : IsEntry (relocations (object l o) t) has.0 r
  entry = slice_get-get_or (relocations (object l o) t) has.0 r has.1 ∙ ap Some has.2

  some_kind : r.kind ≢ Nothing
  some_kind none =
      let width : field_width r.kind ≡ 0 = ap field_width none in omega (arith, inside.0, inside.1, width)

  no_site : (site : Site) → Contains (sites_at l o) site → HasByte t k site → ⊥
  no_site site own at = none_passes (is_in_site t k) (sites_at l o) site outside own (byte_had t k site at)

  -- a sequence of the section is one of the object's
  no_sequence : (e : ℕ) (site : Site)
      → IsSiteOf (code_of (object l o) t) (relocations (object l o) t) (IsGetter (object l o)) e site
      → site.start ≤ k → k < site.start + site.len → ⊥
  no_sequence e site is from to =
      let own : Site = record site { section = t } in
      let same : IsSiteOf (code_of (object l o) t) (relocations (object l o) t) (IsGetter (object l o)) e own = record {
        spelled = is.spelled;
        first = is.first;
        earliest = is.earliest;
        second = is.second;
        len_is = is.len_is;
        reg_is = is.reg_is;
      } in
      no_site own ((given.are_sites o there).every own (e, same)) (record { section = refl; from = from; to = to })

  alone : CallsNone (object l o) t has.0
  alone e site is second =
      let within = second_within (code_of (object l o) t) (relocations (object l o) t)
      (IsGetter (object l o)) e has.0 k r
      site is second entry inside in
      no_sequence e site is within.0 within.1

  -- the section has a table of relocations
  table : 0 < kept_relocation_table (object l o) t
  unfolding relocations_in
  table = of_table (kept_relocation_table (object l o) t) has
    where
      test : (n : ℕ) → nat_lt 0 n ≡ true → 0 < n
      test n e = grind (arith, nat_tests)

      of_test : (n : ℕ) (x : Bool) (xs : List Relocation) → nat_lt 0 n ≡ x → Contains (if x then xs else []) r → 0 < n
      of_test n true xs e has = test n e
      of_test n false xs e has = absurd (omega (arith, has.1))

      of_table : (n : ℕ) → Contains (relocations_in (object l o) n) r → 0 < n
      of_table n has = of_test n (nat_lt 0 n) _ refl has

  -- it is of no type that stands in sequences alone
  pub not_of_sequence : IsOfSequence r.kind → ⊥
  not_of_sequence of =
      (stray o there).0 (kept_relocation_table (object l o) t) has.0 (
        table,
        (
          t,
          refl,
          (
            r,
            entry,
            of,
            λ site is.
                let within = first_within (code_of (object l o) t) (relocations (object l o) t)
                (IsGetter (object l o)) has.0 k
                r site is entry inside in
                no_sequence has.0 site is within.0 within.1,
          ),
        ),
      )

  pub bound : IsBound l r.kind (binding l o r)
  bound = bound_is l given links stray o t r there has some_kind alone

  -- at each of its bytes it is the one that is found
  pub found_at : (j : ℕ) → Covers r j → find (covers j) (relocations (object l o) t) ≡ Some r
  found_at j here = of_found (find (covers j) (relocations (object l o) t)) refl
    where
      of_found : (found : Option Relocation) → find (covers j) (relocations (object l o) t) ≡ found
          → find (covers j) (relocations (object l o) t) ≡ Some r
      of_found None e = absurd (none_passes (covers j) (relocations (object l o) t) r e has (covered_so j r here))
      of_found (Some y) e =
          let f = found_is (covers j) (relocations (object l o) t) y e in
          e ∙ ap Some (shared (relocations (object l o) t) r y j
          (fields_apart (object l o) (is_object l o given there) t)
          has f.among here (covers_so j y f.passes))

  -- it is not replaced by that of a sequence
  pub stays : is_replaced l o r ≡ false
  stays = of_test (is_replaced l o r) refl
    where
      of_test : (b : Bool) → is_replaced l o r ≡ b → is_replaced l o r ≡ false
      of_test false e = e
      of_test true e =
          let found = (together l o t r given links stray there has).inside e k inside in
          absurd (no_site found.0 found.1.own
          (record { section = found.1.section; from = found.1.from; to = found.1.to }))

  -- none of its bytes lies in a sequence
  pub none_inside : (j : ℕ) → Covers r j → find (is_in_site t j) (sites_at l o) ≡ None
  none_inside j here =
      none_found (is_in_site t j) (sites_at l o) (λ site own passes.
      let at = has_byte t j site passes in
      let is : IsSite (object l o) site = All-contains (IsSite (object l o)) (sites_at l o) site
      (given.are_sites o there).only own in
      let S : ℕ → Type 0 = λ s. IsSiteOf (code_of (object l o) s) (relocations (object l o) s) (IsGetter (object l o))
      is.0 site in
      in_site site is.0 (subst S at.section is.1) at)
    where
      in_site : (site : Site) (e : ℕ)
          → IsSiteOf (code_of (object l o) t) (relocations (object l o) t) (IsGetter (object l o)) e site
          → HasByte t j site → ⊥
      in_site site e is at =
          let code = code_of (object l o) t in
          let xs = relocations (object l o) t in
          let getter = IsGetter (object l o) in
          elim (own_relocation code xs getter
          (fields_apart (object l o) (is_object l o given there) t) e has.0 j r site is
          entry here at.from at.to) [
            | inl first ↦
                let S : ℕ → Type 0 = λ n. IsSiteOf (code_of (object l o) t) (relocations (object l o) t)
                (IsGetter (object l o)) n site in
                let within = first_within code xs getter has.0 k r site (subst S first is) entry inside in
                no_sequence has.0 site (subst S first is) within.0 within.1
            | inr second ↦
                let within = second_within code xs getter e has.0 k r site is second entry inside in
                no_sequence e site is within.0 within.1
          ]

  -- it holds its value
  target : relocation_target (object l o) (kept_relocation_table (object l o) t) ≡ t
  target = target_of_table (object l o) t table

  lies : IsIn l given (table_fits l given links.sound.limits) o t r.offset (field_width r.kind)
  lies = field_in l given (table_fits l given links.sound.limits) o t r there has

  held : held_in (object l o) (kept_relocation_table (object l o) t) ≡ relocations (object l o) t
  held = (held_is (object l o) (kept_relocation_table (object l o) t) t (ap nonzero target ∙ some t lies.lies.some)).0
    where
      test : (n : ℕ) → 0 < n → (n == 0) ≡ false
      test n above = grind (arith, nat_tests)

      some : (n : ℕ) → 0 < n → nonzero n ≡ Some n
      some n above = rw (test n above) refl

  pub value : (f : Field) × (field l o t r ≡ Some f)
  value = of_value (field l o t r) refl
    where
      fault : field l o t r ≡ None → Overflows l o (kept_relocation_table (object l o) t) has.0
      fault none =
          let at : slice_get (held_in (object l o) (kept_relocation_table (object l o) t)) has.0 ≡ Some r =
          ap (λ xs. slice_get xs has.0) held ∙ entry in
          (there, table, (table_of_kept (object l o) t table).1.0.1, rw (at, target, none) (stays, refl))

      of_value : (found : Option Field) → field l o t r ≡ found → (f : Field) × (field l o t r ≡ Some f)
      of_value None e = absurd (links.fits o (kept_relocation_table (object l o) t) has.0 (fault e))
      of_value (Some f) e = (f, e)

  -- ** in an instance

  module _ (ls : List Linking) (x : Instance) (is : IsInstanceOf ls l x)
      (code_here : section_class (object l o) t ≡ Some Executable) where
    -- byte j of the field
    pub loaded : (j : ℕ) → j < field_width r.kind
        → byte_in Run ((job_loads (images_of ls)).fixed x) (place l o t r.offset + j + bias_of l.kind x.number)
        ≡ Some (slice_index_or (field_bytes (unwrap_or (loaded_field l (bias_of l.kind x.number) o t r) Empty)) j 0)
    loaded j below =
        let at = lies.address in
        let n = r.offset + j in
        let stands = sections_stand l (bias_of l.kind x.number) Executable o t at n given links tt
        (record { there = there; class_is = code_here; address_is = lies.lies.address_is })
        (omega (arith, below, lies.fits)) in
        let index : n - r.offset ≡ j = omega arith in
        let where_is : place l o t r.offset + j + bias_of l.kind x.number ≡ at + n + bias_of l.kind x.number =
        omega (arith, lies.place_is) in
        ap (byte_in Run ((job_loads (images_of ls)).fixed x)) where_is
        ∙ code_loaded ls l x (at + n) is stands.0
        ∙ ap Some (stands.1
        ∙ loaded_is l given links stray o t n there r has stays (omega arith) (omega (arith, below))
        (bias_of l.kind x.number)
        ∙ ap (λ i. slice_index_or
        (field_bytes (unwrap_or (loaded_field l (bias_of l.kind x.number) o t r) Empty)) i 0) index)

    -- all four of a field of four
    pub four_loaded : (at : ℕ) (four : List ℕ) (f : Field) → field_width r.kind ≡ 4 → length (field_bytes f) ≡ 4
        → loaded_field l (bias_of l.kind x.number) o t r ≡ Some f
        → at ≡ place l o t r.offset + bias_of l.kind x.number → HasFourBytes (job_loads (images_of ls)) x at four
        → four ≡ field_bytes f
    four_loaded at four f wide long is_field here bytes =
        same_lists four (field_bytes f) (omega (arith, bytes.long, long)) (λ j below.
        let index : at + j ≡ place l o t r.offset + j + bias_of l.kind x.number = omega (arith, here) in
        sym (bytes.there j (omega (arith, below, bytes.long)))
        ∙ ap (byte_in Run ((job_loads (images_of ls)).fixed x)) index
        ∙ loaded j (omega (arith, below, bytes.long, wide))
        ∙ ap (λ found. Some (slice_index_or (field_bytes (unwrap_or found Empty)) j 0)) is_field
        ∙ sym (slice_get-get_or (field_bytes f) j 0 (omega (arith, below, bytes.long, long))))
