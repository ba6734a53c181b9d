-- The list of all sections, an object at a time.
use Rattle.std.proofs.Common.{◌≡◌, ℕ, ◌+◌, ◌<◌, List, [], ◌∷◌, ◌++◌, length, slice_index, get_or, take, map, All}
use Rattle.std.proofs.Common.{Option, Some, None, refl, sym, ap, ◌∙◌, arith}
use Rattle.std.specs.Prelude.{sum}
use Rattle.std.specs.List.{range_with_len, flat_map}
use Rattle.std.proofs.lemmas.List.{append_assoc, append-nil, take_more, take-map, map_push, length-append, length-map}
use Rattle.std.proofs.lemmas.List.{take_all}
use Rattle.std.proofs.lemmas.List.Sums.{sum_by-cons}
use Rattle.std.proofs.lemmas.List.Concat.{flat_map-append}
use Rattle.std.proofs.lemmas.List.Elements.{All-map}
use Rattle.std.proofs.lemmas.List.FromFn.{length-map-range_with_len, map-range_with_len_more}
use Rattle.object_faults.specs.declared.class.SectionClass.{SectionClass}
use Rattle.elf_object.specs.Lent.{section_class, section_size, section_alignment}
use Rattle.elf_object.specs.Lawful.{IsKeptAs}
use Rattle.elf_object.specs.LawsOfSections.{kept_as}
use Rattle.elf_object.specs.Faults.{IsObject}
use Rattle.elf_object.specs.Object.{section_count}
use Rattle.tls_layout.specs.declared.sections.Section.{Section}
use Rattle.tls_layout.specs.Sections.{seen_as, section_of, sections_of, all_sections, section_counts, IsOrdinary}
use Rattle.tls_layout.specs.declared.section_list.SectionList.{SectionList}
use Rattle.tls_layout.specs.Passes.{AreFirsts}
use Rattle.tls_layout.specs.Lists.{IsListOf}

-- ---- the sections of one object

pub ordinary_section : (b : List ℕ) → IsObject b → (s : ℕ) → IsOrdinary (section_of b s)
unfolding section_of
ordinary_section b object s = of_class (section_class b s) (kept_as b object s)
  where
    of_class : (class : Option SectionClass) → ((c : SectionClass) → class ≡ Some c → IsKeptAs b s c)
        → IsOrdinary (seen_as class (section_size b s) (section_alignment b s))
    of_class None kept = (omega arith, (0, omega arith, refl))
    of_class (Some c) kept = let is = kept c refl in (is.small, is.aligned)

pub ordinary_sections : (b : List ℕ) → IsObject b → All IsOrdinary (sections_of b)
unfolding sections_of
ordinary_sections b object =
    All-map IsOrdinary (section_of b) (range_with_len 0 (section_count b)) (λ k d l. ordinary_section b object _)

pub sections_more : (b : List ℕ) (start now : List Section) (n : ℕ) (x : Section)
    → now ≡ start ++ map (section_of b) (range_with_len 0 n) → x ≡ section_of b n
    → now ++ x ∷ [] ≡ start ++ map (section_of b) (range_with_len 0 (n + 1))
sections_more b start now n x is here =
    rw (is, here, map-range_with_len_more (section_of b) 0 n n (omega arith))
    (append_assoc start (map (section_of b) (range_with_len 0 n)) (section_of b n ∷ []))

pub sections_all : (b : List ℕ) (start now : List Section) (n : ℕ) → n ≡ section_count b
    → now ≡ start ++ map (section_of b) (range_with_len 0 n) → now ≡ start ++ sections_of b
unfolding sections_of
sections_all b start now n e is = rw (is, e) refl

pub length-sections_of : (b : List ℕ) → length (sections_of b) ≡ section_count b
unfolding sections_of
length-sections_of b = length-map-range_with_len (section_of b) 0 (section_count b)

-- ---- those of all objects

pub length-all_sections : (objects : List (List ℕ)) → length (all_sections objects) ≡ sum (section_counts objects)
unfolding all_sections section_counts
length-all_sections [] = refl
length-all_sections (b ∷ bs) =
    let rest : length (flat_map sections_of bs) ≡ sum (map section_count bs) = length-all_sections bs in
    length-append (sections_of b) (flat_map sections_of bs)
    ∙ (rw (length-sections_of b, rest) (sym (sum_by-cons (λ x. x) (section_count b) (map section_count bs))))

pub all_sections-more : (objects : List (List ℕ)) (i : ℕ) (b : List ℕ) (now next : List Section) → i < length objects
    → b ≡ get_or objects i b
    → now ≡ all_sections (take i objects) → next ≡ now ++ sections_of b → next ≡ all_sections (take (i + 1) objects)
unfolding all_sections
all_sections-more objects i b now next l item is more =
    rw (
      more,
      is,
      take_more objects i b l,
      ← item,
      flat_map-append sections_of (take i objects) (b ∷ []),
      append-nil (sections_of b),
    ) refl

pub section_counts-more : (objects : List (List ℕ)) (i : ℕ) (b : List ℕ) (now : List ℕ) → i < length objects
    → b ≡ get_or objects i b
    → now ≡ section_counts (take i objects) → now ++ section_count b ∷ [] ≡ section_counts (take (i + 1) objects)
unfolding section_counts
section_counts-more objects i b now l item is =
    rw (is, take_more objects i b l, ← item, map_push section_count (take i objects) b) refl

pub all_none : (objects : List (List ℕ)) → ([] ≡ all_sections (take 0 objects)) × ([] ≡ section_counts (take 0 objects))
unfolding all_sections section_counts
all_none objects = (refl, refl)

-- once all objects were seen
pub are_firsts : (objects : List (List ℕ)) (counts firsts : List ℕ) → counts ≡ section_counts objects
    → length firsts ≡ length objects
    → ((o : ℕ) → o < length objects → slice_index firsts o ≡ length (all_sections (take o objects)))
    → AreFirsts counts firsts
unfolding section_counts
are_firsts objects counts firsts e len is =
    let same : length counts ≡ length objects = ap length e ∙ length-map objects section_count in
    record {
      len = len ∙ sym same;
      sums = λ o l. is o (omega arith)
          ∙ (length-all_sections (take o objects) ∙ rw (e, take-map section_count o objects) refl);
    }

pub is_list : (objects : List (List ℕ)) (list : SectionList) (i : ℕ) → i ≡ length objects
    → list.sections.items ≡ all_sections (take i objects)
    → list.counts.items ≡ section_counts (take i objects) → All IsOrdinary list.sections.items
    → length list.firsts.items ≡ i
    → ((o : ℕ) → o < i → slice_index list.firsts.items o ≡ length (all_sections (take o objects)))
    → IsListOf objects list
is_list objects list i e sections counts ordinary len firsts =
    let all = take_all i objects (omega arith) in
    let sections_are = sections ∙ ap all_sections all in
    let counts_are = counts ∙ ap section_counts all in
    record {
      sections_are = sections_are;
      counts_are = counts_are;
      ordinary = ordinary;
      firsts_are = are_firsts objects list.counts.items list.firsts.items counts_are (len ∙ e)
          (λ o l. firsts o (omega arith));
      total = rw (counts_are, sections_are) (sym (length-all_sections objects));
    }
