-- What the cell of a byte says of it.
use Rattle.std.proofs.Common.{◌≡◌, ◌+◌, ◌-◌, ◌<◌, ◌≤◌, ℕ, zero, suc, Bool, true, false, List, [], ◌∷◌, Option, None}
use Rattle.std.proofs.Common.{Some, length, refl, subst, arith}
use Rattle.std.specs.Prelude.{◌==◌, cond, if◌then◌else◌, option_map, slice_get, slice_index_or, unwrap_or}
use Rattle.std.specs.List.{All, find}
use Rattle.std.proofs.lemmas.Bool.Decides.{nat_tests}
use Rattle.std.proofs.lemmas.Option.{get_or_from_slice_get, slice_get_within}
use Rattle.elf_object.specs.declared.relocation.Relocation.{Relocation}
use Rattle.elf_object.specs.Lent.{relocations, section_class}
use Rattle.elf_object.specs.Object.{section_count}
use Rattle.link_needs.specs.Given.{IsGiven}
use Rattle.link_needs.specs.Plans.{IsUsable}
use Rattle.link_needs.specs.Linking.{Linking, object, sites_at}
use Rattle.link_needs.proofs.UsableSites.{usable}
use Rattle.meant_images.specs.declared.entries.Entry.{Entry}
use Rattle.meant_images.specs.declared.entries.Entry.TheVariants.{Usual}
use Rattle.meant_images.specs.declared.kept.KeptObject.{KeptObject}
use Rattle.meant_images.specs.declared.painting.Cell.{Cell}
use Rattle.meant_images.specs.CodeCells.{Shows, cell_from, code_cell, field_cell, no_cell, site_cell}
use Rattle.meant_images.specs.Entries.{IsFieldEntry, IsSiteEntry, mark_by, sequence_by}
use Rattle.meant_images.specs.Kept.{AreEntries, KeepAll}
use Rattle.object_faults.specs.declared.class.SectionClass.TheVariants.{Executable}
use Rattle.sequence_forms.specs.declared.places.Site.{Site}
use Rattle.whole_meaning.specs.Bytes.{covers}
use Rattle.whole_meaning.specs.Code.{is_in_site, no_variable, relocated_mark, sequence_with, site_mark, variable_for}
use Rattle.whole_meaning.specs.declared.sequences.Sequence.{Sequence}
use Rattle.meant_images.proofs.Starts.{IsLong, covers_by, form_short, starting, starts_found}

module _ (ls : List Linking) (l : Linking) (o : ℕ) (entries : List Entry) where
  -- what a cell leads to
  abbrev entry_of : Cell → Entry
  entry_of cell = slice_index_or entries cell.entry Usual

  -- it says of byte k what a relocation's field is
  record SaysField (k : ℕ) (found : Option Relocation) (cell : Cell) : Type 0 where
    there : cell.entry < length entries
    marked : (bias : ℕ) → mark_by bias (entry_of cell) cell.byte ≡ relocated_mark l bias o k found
    begins : (image number place : ℕ) → sequence_by image number place (entry_of cell) cell.byte ≡ None

  abbrev EachField : List Relocation → ℕ → Type 0
  EachField rs first = (i : ℕ) (r : Relocation) → slice_get rs i ≡ Some r
      → (it : Entry) × ((slice_get entries (first + i) ≡ Some it) × IsFieldEntry l o r it)

  here_field : (first k : ℕ) (r : Relocation) (it : Entry) → slice_get entries first ≡ Some it → IsFieldEntry l o r it
      → SaysField k (Some r) (cell_from first r.offset k)
  here_field first k r it at is =
      let got : slice_index_or entries first Usual ≡ it = get_or_from_slice_get entries first it Usual at in
      record {
        there = slice_get_within entries first it at;
        marked = λ bias. rw got (is.marked bias k);
        begins = λ image number place. rw got (is.begins image number place (k - r.offset));
      }

  says_fields : (first : ℕ) (rs : List Relocation) (k : ℕ) → AreEntries entries → EachField rs first
      → SaysField k (find (covers k) rs) (field_cell first rs k no_cell)
  says_fields first [] k are each =
      let got : slice_index_or entries 0 Usual ≡ Usual = get_or_from_slice_get entries 0 Usual Usual are.first in
      record {
        there = slice_get_within entries 0 Usual are.first;
        marked = λ bias. rw got refl;
        begins = λ image number place. rw got refl;
      }
  says_fields first (r ∷ more) k are each = by_cover (covers k r) (says_fields (first + 1) more k are later)
    where
      here : SaysField k (Some r) (cell_from first r.offset k)
      here =
          let it = each 0 r refl in
          let same : first + 0 ≡ first = omega arith in
          here_field first k r it.0 (subst (λ n. slice_get entries n ≡ Some it.0) same it.1.0) it.1.1

      later : EachField more (first + 1)
      later i x is =
          let it = each (suc i) x is in
          let same : first + suc i ≡ first + 1 + i = omega arith in
          (it.0, (subst (λ n. slice_get entries n ≡ Some it.0) same it.1.0, it.1.1))

      by_cover : (t : Bool) → SaysField k (find (covers k) more) (field_cell (first + 1) more k no_cell)
          → SaysField k (cond t (Some r) (find (covers k) more))
          (if t then cell_from first r.offset k else field_cell (first + 1) more k no_cell)
      by_cover true rest = here
      by_cover false rest = rest

  -- a sequence as it is meant
  abbrev meant : ℕ → ℕ → ℕ → Site → Sequence
  meant image number place site =
      sequence_with ls image number place site (unwrap_or (variable_for ls image number l o site site.form) no_variable)

  -- it says of byte k what a sequence is, or else a field
  record SaysSite (k : ℕ) (site : Option Site) (field : Option Relocation) (cell : Cell) : Type 0 where
    there : cell.entry < length entries
    marked : (bias : ℕ) → mark_by bias (entry_of cell) cell.byte
        ≡ site_mark l bias site (relocated_mark l bias o k field)
    begins : (image number place : ℕ) → sequence_by image number place (entry_of cell) cell.byte
        ≡ option_map (meant image number place) (starting k site)

  abbrev EachSite : List Site → ℕ → Type 0
  EachSite sites first = (i : ℕ) (site : Site) → slice_get sites i ≡ Some site
      → (it : Entry) × ((slice_get entries (first + i) ≡ Some it) × IsSiteEntry ls l o site it)

  begins_at : (k image number place : ℕ) (site : Site) (it : Entry) (t : Bool) → IsSiteEntry ls l o site it
      → site.start ≤ k
      → (site.start == k) ≡ t
      → sequence_by image number place it (k - site.start)
      ≡ option_map (meant image number place) (if t then Some site else None)
  begins_at k image number place site it true is from here =
      let same : site.start ≡ k = grind (arith, nat_tests) in
      let none : k - site.start ≡ 0 = omega arith in
      rw none (is.begins image number place)
  begins_at k image number place site it false is from here =
      let other : site.start ≡ k → ⊥ = grind (arith, nat_tests) in
      is.goes_on image number place (k - site.start) (omega (arith, from, other))

  here_site : (first s k : ℕ) (site : Site) (field : Option Relocation) (it : Entry) → slice_get entries first ≡ Some it
      → IsSiteEntry ls l o site it → is_in_site s k site ≡ true
      → SaysSite k (Some site) field (cell_from first site.start k)
  here_site first s k site field it at is covered =
      let got : slice_index_or entries first Usual ≡ it = get_or_from_slice_get entries first it Usual at in
      record {
        there = slice_get_within entries first it at;
        marked = λ bias. rw got (is.marked bias (k - site.start));
        begins = λ image number place. rw got
            (begins_at k image number place site it (site.start == k) is (covers_by s k site covered).from refl);
      }

  says_sites : (first : ℕ) (sites : List Site) (s k : ℕ) (field : Option Relocation) (other : Cell)
      → SaysField k field other
      → EachSite sites first → SaysSite k (find (is_in_site s k) sites) field (site_cell first sites s k other)
  says_sites first [] s k field other says each =
      record { there = says.there; marked = says.marked; begins = says.begins }
  says_sites first (site ∷ more) s k field other says each =
      by_cover (is_in_site s k site) refl (says_sites (first + 1) more s k field other says later)
    where
      here : is_in_site s k site ≡ true → SaysSite k (Some site) field (cell_from first site.start k)
      here covered =
          let it = each 0 site refl in
          let same : first + 0 ≡ first = omega arith in
          here_site first s k site field it.0 (subst (λ n. slice_get entries n ≡ Some it.0) same it.1.0) it.1.1 covered

      later : EachSite more (first + 1)
      later i x is =
          let it = each (suc i) x is in
          let same : first + suc i ≡ first + 1 + i = omega arith in
          (it.0, (subst (λ n. slice_get entries n ≡ Some it.0) same it.1.0, it.1.1))

      by_cover : (t : Bool) → is_in_site s k site ≡ t
          → SaysSite k (find (is_in_site s k) more) field (site_cell (first + 1) more s k other)
          → SaysSite k (cond t (Some site) (find (is_in_site s k) more)) field
          (if t then cell_from first site.start k else site_cell (first + 1) more s k other)
      by_cover true covered rest = here covered
      by_cover false covered rest = rest

-- ** a byte of code

some_at : {X : Type 0} (xs : List X) (n : ℕ) → n < length xs → (x : X) × (slice_get xs n ≡ Some x)
some_at [] n inside = absurd (omega (arith, inside))
some_at (x ∷ xs) zero inside = (x, refl)
some_at (x ∷ xs) (suc n) inside = some_at xs n (omega (arith, inside))

long_sites : (l : Linking) (o : ℕ) → IsGiven l → o < length l.objects → All (IsLong (object l o)) (sites_at l o)
long_sites l o given there i d inside =
    let site = slice_index_or (sites_at l o) i d in
    let ok : IsUsable (object l o) site = usable l o given there i d inside in
    record {
      site_is = (given.are_sites o there).only i d inside;
      long = let whole = ok.whole in let short = form_short site.form in omega (arith, whole, short.0);
    }

pub code_shows : (ls : List Linking) (l : Linking) (entries : List Entry) (kept : List KeptObject) (o s k : ℕ)
    → IsGiven l
    → AreEntries entries → KeepAll ls l entries kept (length l.objects) → o < length l.objects
    → s < section_count (object l o)
    → section_class (object l o) s ≡ Some Executable
    → Shows ls l entries (Some (record { object = o; section = s; within = k })) (code_cell kept l o s k)
unfolding code_cell
code_shows ls l entries kept o s k given are keep there within code =
    let it = some_at kept o (let count = keep.count in omega (arith, there, count)) in
    let keeps = keep.each o it.0 it.1 in
    let fields = keeps.fields s within code in
    let sites = keeps.sites in
    let rs = relocations (object l o) s in
    let says = says_fields ls l o entries _ rs k are (λ i r is. fields.each i r (slice_get_within rs i r is) is) in
    let all = says_sites ls l o entries it.0.sites (sites_at l o) s k _ _ says
    (λ i site is. sites.each i site (slice_get_within (sites_at l o) i site is) is) in
    let begun = starts_found (object l o) s k (sites_at l o) (long_sites l o given there) in
    rw it.1 (record {
      there = all.there;
      marked = all.marked;
      begins = λ image number place. rw begun (all.begins image number place);
    })
