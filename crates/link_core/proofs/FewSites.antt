-- Each sequence, each address field and each address of an object has a relocation of its own.
use Rattle.std.proofs.Common.{◌≡◌, ◌+◌, ◌-◌, ◌*◌, ◌<◌, ◌≤◌, ◌∙◌, ℕ, zero, suc, Bool, true, false, cond, List, [], ◌∷◌}
use Rattle.std.proofs.Common.{◌++◌, Option, Some, filter, length, get_or, if◌then◌else◌, refl, sym, ap, subst, inl, inr}
use Rattle.std.proofs.Common.{arith}
use Rattle.std.specs.Prelude.{sum_by}
use Rattle.std.specs.List.{Contains, flat_map, range_with_len, slice_get}
use Rattle.std.proofs.lemmas.List.{length-append}
use Rattle.std.proofs.lemmas.List.Elements.{Contains-append_right}
use Rattle.std.proofs.lemmas.List.FromFn.{get_or-range_with_len, length-range_with_len}
use Rattle.std.proofs.lemmas.List.Sums.{sum_by-cons}
use Rattle.std.proofs.lemmas.Bool.{cases_lt}
use Rattle.std.proofs.lemmas.Option.{same_Some}
use Rattle.elf_records.specs.declared.relocation.RelocationKind.{RelocationKind}
use Rattle.elf_records.specs.declared.relocation.RelocationKind.TheVariants.{Nothing}
use Rattle.elf_records.specs.RowLaws.{is_of_sequence}
use Rattle.elf_object.specs.declared.relocation.Relocation.{Relocation}
use Rattle.elf_object.specs.Lent.{relocations}
use Rattle.elf_object.specs.Object.{section_count}
use Rattle.elf_object.specs.Counts.{own_count}
use Rattle.sequence_forms.specs.declared.forms.Form.{Form}
use Rattle.sequence_forms.specs.declared.forms.Form.TheVariants.{Gd}
use Rattle.sequence_forms.specs.declared.places.Site.{Site}
use Rattle.sequence_match.specs.Faults.{AreSites, Before, IsGetter, IsSite, code_of}
use Rattle.sequence_forms.specs.Forms.{row}
use Rattle.sequence_match.specs.Sites.{IsSiteOf}
use Rattle.sequence_match.proofs.ApartSites.{sites_apart}
use Rattle.sequence_match.proofs.Rows.{first_inside}
use Rattle.sequence_match.proofs.Sections.{code_past, code_zero}
use Rattle.link_faults.specs.declared.binding.Binding.{Binding}
use Rattle.link_faults.specs.declared.binding.Binding.TheVariants.{Here}
use Rattle.tls_symbols.proofs.SectionUses.{but_first, none_in_zero}
use Rattle.link_needs.specs.Linking.{Linking, binding}
use Rattle.link_needs.specs.Needs.{address_fields, address_needs, is_address_kind, object_needs, own_word}
use Rattle.link_needs.specs.Needs.{section_needs}
use Rattle.link_tables.specs.Dynamic.{field_relocations, is_absolute, object_relocations, section_relocations}
use Rattle.link_core.proofs.FewLists.{contains_flat, length-each, length-sorted_by, no_longer}

-- ** the first relocations of sequences

first_opens : (form : Form) → is_of_sequence (row form).first ≡ true
unfolding row
first_opens Gd = refl
first_opens form = refl

-- those of section t, each by the section and its number, from number e on
abbrev openers : ℕ → ℕ → List Relocation → List (ℕ × ℕ)
openers t e [] = []
openers t e (r ∷ rs) = cond (is_of_sequence r.kind) ((t, e) ∷ openers t (e + 1) rs) (openers t (e + 1) rs)

-- a relocation of these types is among them
is_opener : (t e k : ℕ) (rs : List Relocation) (r : Relocation) → slice_get rs k ≡ Some r → is_of_sequence r.kind ≡ true
    → Contains (openers t e rs) (t, e + k)
is_opener t e k [] r is opening = cc
is_opener t e zero (x ∷ rs) r is opening =
    let same : x ≡ r = same_Some x r is in
    let O : Relocation → Type 0 = λ y. is_of_sequence y.kind ≡ true in
    let here : is_of_sequence x.kind ≡ true = subst O (sym same) opening in
    let start : e + 0 ≡ e = omega arith in
    let P : Bool → Type 0 = λ b. Contains (cond b ((t, e) ∷ openers t (e + 1) rs) (openers t (e + 1) rs)) (t, e + 0) in
    subst P (sym here) (0, omega arith, ap (λ n. (t, n)) (sym start))
is_opener t e (suc k) (x ∷ rs) r is opening =
    let later : Contains (openers t (e + 1) rs) (t, (e + 1) + k) = is_opener t (e + 1) k rs r is opening in
    let same : (e + 1) + k ≡ e + suc k = omega arith in
    let P : ℕ → Type 0 = λ n. Contains (openers t (e + 1) rs) (t, n) in
    elim (is_of_sequence x.kind) as (λ b.
    Contains (cond b ((t, e) ∷ openers t (e + 1) rs) (openers t (e + 1) rs)) (t, e + suc k)) [
      | true ↦ Contains-append_right ((t, e) ∷ []) (openers t (e + 1) rs) (t, e + suc k) (subst P same later)
      | false ↦ subst P same later
    ]

module _ (b : List ℕ) where
  -- those of all sections
  abbrev all_openers : List (ℕ × ℕ)
  all_openers = flat_map (λ t. openers t 0 (relocations b t)) (range_with_len 1 (section_count b - 1))

  -- a sequence begins with this relocation
  abbrev BeginsWith : Site → ℕ × ℕ → Type 0
  BeginsWith site place =
      (site.section ≡ place.0)
      × IsSiteOf (code_of b site.section) (relocations b site.section) (IsGetter b) place.1 site

  -- it lies in one of the sections
  in_section : (site : Site) → IsSite b site → (0 < site.section) × (site.section < section_count b)
  in_section site is = (above site.section refl, below)
    where
      cells : length (row site.form).cells ≤ length (code_of b site.section)
      cells = omega (arith, is.1.spelled.inside)

      some : 0 < length (code_of b site.section)
      some = omega (arith, cells, first_inside site.form)

      above : (s : ℕ) → s ≡ site.section → 0 < s
      above zero e =
          let none : length (code_of b site.section) ≡ 0 =
          ap (λ s. length (code_of b s)) (sym e) ∙ ap length (code_zero b) in
          absurd (omega (arith, none, some))
      above (suc s) e = omega arith

      below : site.section < section_count b
      below = elim (cases_lt site.section (section_count b)) [
        | inl less ↦ less
        | inr past ↦
            let none : length (code_of b site.section) ≡ 0 = ap length (code_past b site.section past) in
            absurd (omega (arith, none, some))
      ]

  -- a sequence begins with one of them
  begins : (site : Site) → IsSite b site → (place : ℕ × ℕ) × Contains all_openers place × BeginsWith site place
  begins site is =
      let first = is.1.first in
      let inside = in_section site is in
      let t = site.section in
      let kind : is_of_sequence first.0.kind ≡ true = ap is_of_sequence first.2.kind_is ∙ first_opens site.form in
      let there : get_or (range_with_len 1 (section_count b - 1)) (t - 1) t ≡ t =
      (let low : t - 1 < section_count b - 1 = omega (arith, inside.0, inside.1) in
      let back : 1 + (t - 1) ≡ t = omega (arith, inside.0) in
      get_or-range_with_len 1 (section_count b - 1) (t - 1) t low ∙ back) in
      let long : length (range_with_len 1 (section_count b - 1)) ≡ section_count b - 1 =
      length-range_with_len 1 (section_count b - 1) in (
        (t, is.0),
        contains_flat (λ s. openers s 0 (relocations b s)) (range_with_len 1 (section_count b - 1)) t (t, is.0) (t - 1)
            (omega (arith, long, inside.0, inside.1)) there (own t is.0 (relocations b t) first.0 first.1 kind),
        (refl, is.1),
      )
    where
      own : (t e : ℕ) (rs : List Relocation) (r : Relocation) → slice_get rs e ≡ Some r → is_of_sequence r.kind ≡ true
          → Contains (openers t 0 rs) (t, e)
      own t e rs r at opening =
          let same : 0 + e ≡ e = omega arith in
          let P : ℕ → Type 0 = λ n. Contains (openers t 0 rs) (t, n) in subst P same (is_opener t 0 e rs r at opening)

  -- two that begin with one relocation are one
  one_first : (p q : Site) (place : ℕ × ℕ) → BeginsWith p place → BeginsWith q place → p ≡ q
  one_first p q place a c =
      let section : p.section ≡ q.section = a.0 ∙ sym c.0 in
      let first = a.1.first in
      let other = c.1.first in
      let entries : slice_get (relocations b p.section) place.1 ≡ slice_get (relocations b q.section) place.1 =
      ap (λ s. slice_get (relocations b s) place.1) section in
      let same : first.0 ≡ other.0 = same_Some first.0 other.0 (sym first.1 ∙ (entries ∙ other.1)) in
      let offsets : first.0.offset ≡ other.0.offset = ap (λ r. r.offset) same in
      sites_apart b p q first.0.offset (place.1, a.1) (place.1, c.1) section
      (omega (arith, first.2.offset_is))
      (omega (arith, first.2.offset_is, first_inside p.form, a.1.len_is))
      (omega (arith, offsets, other.2.offset_is))
      (omega (arith, offsets, other.2.offset_is, first_inside q.form, c.1.len_is))

  -- so there are as many at least
  few_sites : (sites : List Site) → AreSites b sites → length sites ≤ length all_openers
  few_sites sites are =
      no_longer BeginsWith one_first sites all_openers (λ i j d less h same. apart _ _ (are.rising i j d less h) same)
      (λ k d h. begins _ (are.only k d h))
    where
      apart : (p q : Site) → Before p q → p ≡ q → ⊥
      apart p q (inl section) same = let e : p.section ≡ q.section = ap (λ s. s.section) same in absurd (omega arith)
      apart p q (inr (_, start)) same = let e : p.start ≡ q.start = ap (λ s. s.start) same in absurd (omega arith)

-- ** each kind of relocation

-- no type is of two of the three kinds
one_kind : (kind : RelocationKind)
    → cond (is_of_sequence kind) 1 0 + (cond (is_address_kind kind) 1 0 + cond (is_absolute kind) 1 0) ≤ 1
one_kind Nothing = omega arith
one_kind kind = omega arith

module _ (l : Linking) (o : ℕ) where
  -- of a section's relocations
  of_relocations : (t e : ℕ) (rs : List Relocation)
      → length (openers t e rs)
      + (length (filter (λ r. is_address_kind r.kind) rs) + length (flat_map (field_relocations l o t) rs)) ≤ length rs
  of_relocations t e [] = omega arith
  of_relocations t e (r ∷ rs) =
      by (is_of_sequence r.kind) (is_address_kind r.kind) (is_absolute r.kind) (one_kind r.kind) _ _ _ _ _ _
      (of_relocations t (e + 1) rs)
    where
      by : {X Y Z : Type 0} (p q s : Bool) → cond p 1 0 + (cond q 1 0 + cond s 1 0) ≤ 1
          → (x : X) (xs : List X) (y : Y) (ys : List Y) (z : Z) (zs : List Z)
          → length xs + (length ys + length zs) ≤ length rs
          → length (cond p (x ∷ xs) xs) + (length (cond q (y ∷ ys) ys) + length ((if s then z ∷ [] else []) ++ zs))
          ≤ length (r ∷ rs)
      by true true s one x xs y ys z zs h = absurd (omega arith)
      by true false true one x xs y ys z zs h = absurd (omega arith)
      by true false false one x xs y ys z zs h = omega arith
      by false true true one x xs y ys z zs h = absurd (omega arith)
      by false true false one x xs y ys z zs h = omega arith
      by false false true one x xs y ys z zs h = omega arith
      by false false false one x xs y ys z zs h = omega arith

  -- an address field asks for at most one word
  own_word-le : (bound : Option Binding) → length (own_word l bound) ≤ 1
  own_word-le (Some (Here found)) = omega arith
  own_word-le bound = omega arith

  section_needs-le : (b : List ℕ) (t : ℕ)
      → length (section_needs l o b t) ≤ length (filter (λ r. is_address_kind r.kind) (relocations b t))
  section_needs-le b t =
      let each : length (section_needs l o b t) ≤ 1 * length (address_fields b t) =
      length-each (address_needs l o) 1 (λ r. own_word-le (binding l o r)) (address_fields b t) in
      let fields = filter (λ (r : Relocation). is_address_kind r.kind) (relocations b t) in
      omega (arith, each, length-sorted_by (λ r. r.offset) fields)

  -- of some sections
  of_sections : (b : List ℕ) (ts : List ℕ)
      → length (flat_map (λ t. openers t 0 (relocations b t)) ts)
      + (length (flat_map (section_needs l o b) ts) + length (flat_map (section_relocations l o b) ts))
      ≤ sum_by (λ t. length (relocations b t)) ts
  of_sections b [] = omega arith
  of_sections b (t ∷ ts) = omega (
    arith,
    length-append (openers t 0 (relocations b t)) (flat_map (λ s. openers s 0 (relocations b s)) ts),
    length-append (section_needs l o b t) (flat_map (section_needs l o b) ts),
    length-append (section_relocations l o b t) (flat_map (section_relocations l o b) ts),
    sum_by-cons (λ s. length (relocations b s)) t ts,
    section_needs-le b t,
    of_relocations t 0 (relocations b t),
    of_sections b ts,
  )

-- ** an object

needs_but_first : (l : Linking) (o : ℕ) (b : List ℕ)
    → object_needs l o b ≡ flat_map (section_needs l o b) (range_with_len 1 (section_count b - 1))
unfolding object_needs
needs_but_first l o b = but_first (section_needs l o b) (section_count b) (rw (none_in_zero b) refl)

relocations_but_first : (l : Linking) (o : ℕ) (b : List ℕ)
    → object_relocations l o b ≡ flat_map (section_relocations l o b) (range_with_len 1 (section_count b - 1))
unfolding object_relocations
relocations_but_first l o b = but_first (section_relocations l o b) (section_count b) (rw (none_in_zero b) refl)

-- of an object
pub of_object : (l : Linking) (o : ℕ) (b : List ℕ) (sites : List Site) → AreSites b sites
    → length sites + (length (object_needs l o b) + length (object_relocations l o b)) ≤ own_count b
unfolding own_count
of_object l o b sites are = omega (
  arith,
  few_sites b sites are,
  ap length (needs_but_first l o b),
  ap length (relocations_but_first l o b),
  of_sections l o b (range_with_len 1 (section_count b - 1)),
)
