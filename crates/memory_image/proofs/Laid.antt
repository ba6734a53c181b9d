-- A table that is laid section by section is that of the class.
use Rattle.std.proofs.Common.{◌≡◌, ◌<◌, ◌≤◌, ◌+◌, ◌-◌, ℕ, List, [], ◌++◌, true, false, None, Some, length, take, refl}
use Rattle.std.proofs.Common.{sym, ap, ◌∙◌, arith, replicate, map, slice_index}
use Rattle.std.specs.Prelude.{◌^◌, sum}
use Rattle.std.specs.List.{range_with_len}
use Rattle.std.proofs.lemmas.List.{get_or-map, length-map, take_all}
use Rattle.std.proofs.lemmas.List.FromFn.{length-map-range_with_len}
use Rattle.std.proofs.lemmas.List.Sums.{sum_by_more}
use Rattle.elf_object.specs.Lent.{section_class, section_size}
use Rattle.elf_object.specs.Object.{section_count}
use Rattle.object_faults.specs.declared.class.SectionClass.{SectionClass}
use Rattle.object_faults.specs.declared.class.SectionClass.TheVariants.{Executable, ReadOnly, Tls, Writable}
use Rattle.link_needs.specs.Linking.{Linking, layout, object}
use Rattle.tls_layout.specs.Places.{extent_for}
use Rattle.tls_layout.specs.Places.{IsLawful, end_of}
use Rattle.tls_layout.specs.Sections.{Layout, is_class, section_at, section_counts}
use Rattle.tls_layout.proofs.Ends.{end_of-all, end_of-none, end_of-rises}
use Rattle.tls_layout.proofs.Bounds.{extent_bounds}
use Rattle.tls_layout.proofs.LawsOfPlaces.{classes_follow, group_end, within}
use Rattle.tls_layout.proofs.Listed.{length-all_sections}
use Rattle.tls_layout.proofs.Together.{ascend}
use Rattle.whole_meaning.specs.Spots.{begin_of, spot_at, spot_from, spot_in}
use Rattle.memory_image.specs.Laying.{HasRange, IsOfClass, cell_of, cells_from, class_cells, end_before, laid_before}
use Rattle.memory_image.specs.Laying.{section_cells}
use Rattle.memory_image.proofs.RangeLists.{map_constant, map_more, map_same}
use Rattle.memory_image.proofs.Placing.{begins_after, end_after, end_moves, end_skips, gap_at, number, placed_at, rises}
use Rattle.memory_image.proofs.Placing.{section_stands}

pub extent_rises : (class : SectionClass) (q : Layout) → (extent_for class q).start ≤ (extent_for class q).end
extent_rises class q = (classes_follow q).rise class

pub extent_low : (class : SectionClass) (q : Layout) → IsLawful q → (extent_for class q).end ≤ 2 ^ 25
extent_low class q lawful = let bounds = extent_bounds class q lawful in omega arith

module _ (l : Linking) (class : SectionClass) where
  abbrev pub p : Layout
  p = layout l

  abbrev pub start : ℕ
  start = (extent_for class p).start

  -- the number of a section among all
  abbrev pub nth : ℕ → ℕ → ℕ
  nth o s = number l.kind l.objects class o s

  abbrev pub ends : ℕ → ℕ
  ends n = end_after l.kind l.objects class n

  end_is : (o s : ℕ) → end_before l class o s ≡ ends (nth o s)
  unfolding end_before
  end_is o s = refl

  end_next : (o s : ℕ) → end_before l class o (s + 1) ≡ ends (nth o s + 1)
  unfolding end_before
  end_next o s = let same : sum (take o p.counts) + (s + 1) ≡ sum (take o p.counts) + s + 1 = omega arith in
      ap ends same

  end_rises : (o s : ℕ) → start ≤ end_before l class o s
  unfolding end_before
  end_rises o s = end_of-rises class start (take (nth o s) p.sections)

  -- an object's last section is followed by the first of the next object
  end_next_object : (o : ℕ) → o < length l.objects
      → end_before l class o (section_count (object l o)) ≡ end_before l class (o + 1) 0
  unfolding end_before section_counts
  end_next_object o there =
      let count : slice_index p.counts o ≡ section_count (object l o) =
      get_or-map section_count l.objects o [] 0 there in
      let len : length p.counts ≡ length l.objects = length-map l.objects section_count in
      let more = sum_by_more (λ x. x) p.counts o 0 (omega arith) in
      let same : sum (take o p.counts) + section_count (object l o) ≡ sum (take (o + 1) p.counts) + 0 = omega arith in
      ap ends same

  end_first : start ≡ end_before l class 0 0
  unfolding end_before
  end_first = end_of-none class start p.sections

  few : length p.counts ≤ length l.objects
  unfolding section_counts
  few = let len : length (section_counts l.objects) ≡ length l.objects = length-map l.objects section_count in
      omega arith

  -- no section comes behind the last object's
  none_behind : length p.sections ≤ nth (length l.objects) 0
  none_behind =
      let counts : take (length l.objects) p.counts ≡ p.counts = take_all (length l.objects) p.counts few in
      let all : length p.sections ≡ sum p.counts = length-all_sections l.objects in
      let same : sum (take (length l.objects) p.counts) ≡ sum p.counts = ap sum counts in
      omega arith

  pub all_inside : HasRange class → end_of class start p.sections ≤ (extent_for class p).end
  all_inside range = by_class class range
    where
      by_class : (class : SectionClass) → HasRange class
          → end_of class (extent_for class p).start p.sections ≤ (extent_for class p).end
      by_class Executable range = let e = group_end p.kind p.sections Executable refl in omega (arith, e)
      by_class ReadOnly range = let e = group_end p.kind p.sections ReadOnly refl in omega (arith, e)
      by_class (Tls true) range = let e = group_end p.kind p.sections (Tls true) refl in omega (arith, e)
      by_class (Tls false) range = absurd range
      by_class (Writable true) range =
          let e = group_end p.kind p.sections (Writable true) refl in
          let w = ascend p.kind p.sections in
          omega (arith, e, w.to_zero)
      by_class (Writable false) range = absurd range

  pub end_inside : HasRange class → end_before l class (length l.objects) 0 ≤ (extent_for class p).end
  unfolding end_before
  end_inside range =
      let all : ends (nth (length l.objects) 0) ≡ end_of class start p.sections =
      end_of-all class start p.sections (nth (length l.objects) 0) none_behind in
      let inside = all_inside range in
      omega arith

module _ {A : Type 0} (cell : ℕ → ℕ → ℕ → A) (l : Linking) (class : SectionClass) (gap : A) where
  abbrev cells : ℕ → ℕ → List A
  cells a n = cells_from cell l class gap a n

  cells_more : (a b n m : ℕ) → b ≡ a + n → cells a (n + m) ≡ cells a n ++ cells b m
  unfolding cells_from
  cells_more a b n m e = map_more (λ address. cell_of cell gap (spot_in l class address)) a b n m e

  length_cells : (a n : ℕ) → length (cells a n) ≡ n
  unfolding cells_from
  length_cells a n = length-map-range_with_len (λ address. cell_of cell gap (spot_in l class address)) a n

  pub length_class : length (class_cells cell l class gap)
      ≡ (extent_for class (layout l)).end - (extent_for class (layout l)).start
  length_class = length_cells (extent_for class (layout l)).start
      ((extent_for class (layout l)).end - (extent_for class (layout l)).start)

  no_cells : (a n : ℕ) → n ≡ 0 → [] ≡ cells a n
  unfolding cells_from
  no_cells a n e = rw e refl

  gap_cells : (a n : ℕ) → ((x : ℕ) → a ≤ x → x < a + n → spot_from (layout l) class 0 l.objects x ≡ None)
      → cells a n ≡ replicate n gap
  unfolding cells_from spot_in
  gap_cells a n none =
      map_constant (λ address. cell_of cell gap (spot_in l class address)) gap a n
      (λ x above below. ap (cell_of cell gap) (none x above below))

  own_cells : (o s a n : ℕ) → a ≡ begin_of (layout l) o s
      → ((x : ℕ) → a ≤ x → x < a + n → spot_from (layout l) class 0 l.objects x ≡ Some (spot_at (layout l) o x s))
      → cells a n ≡ map (cell o s) (range_with_len 0 n)
  unfolding cells_from spot_in
  own_cells o s a n begins stands =
      map_same (λ address. cell_of cell gap (spot_in l class address)) (cell o s) a 0 n (λ k x y below at to.
      let within : x - begin_of (layout l) o s ≡ y = omega arith in
      ap (cell_of cell gap) (stands x (omega arith) (omega arith)) ∙ ap (cell o s) within)

  pub section_laid : (o s : ℕ) (t t' t'' : List A) → HasRange class → IsOfClass l class o s
      → t ≡ laid_before cell l class gap o s
      → t' ≡ t ++ replicate (begin_of (layout l) o s - (extent_for class (layout l)).start - length t) gap
      → t'' ≡ t' ++ section_cells cell l o s
      → t'' ≡ laid_before cell l class gap o (s + 1)
  section_laid o s t t' t'' range is e e' e'' =
      let here = placed_at l.kind l.objects class range o s is.object_there is.section_there is.class_is in
      let now = end_is l class o s in
      let next : end_before l class o (s + 1) ≡ begin_of (layout l) o s + section_size (object l o) s =
      end_next l class o s ∙ end_moves l.kind l.objects class o s (nth l class o s) here in
      let low = end_rises l class o s in
      let after = begins_after l.kind l.objects class o s (nth l class o s) here in
      let first = (extent_for class (layout l)).start in
      let end = end_before l class o s in
      let begin = begin_of (layout l) o s in
      let size = section_size (object l o) s in
      let long : length t ≡ end - first = ap length e ∙ length_cells first (end - first) in
      let padded : cells end (begin - end) ≡ replicate (begin - first - length t) gap =
      gap_cells end (begin - end)
      (λ x above below. gap_at l.kind l.objects class range (nth l class o s) x (omega arith)
      (λ o' s' m there le. let up = rises l.kind l.objects class o s (nth l class o s) o' s' m here there le in
      omega arith))
      ∙ ap (λ n. replicate n gap) (same end begin first (length t) low now after long) in
      let own : cells begin size ≡ section_cells cell l o s =
      own_cells o s begin size refl
      (λ x above below. section_stands l.kind l.objects class range o s x is.object_there is.section_there is.class_is above below) in
      let one = cells_more first end (end - first) (begin - end) (omega arith) in
      let two = cells_more first begin ((end - first) + (begin - end)) size (omega arith) in
      let all : end_before l class o (s + 1) - first ≡ (end - first) + (begin - end) + size = omega arith in
      joined (cells first) _ _ _ _ _ _ _ _ all two one padded own e e' e''
    where
      same : (end begin first n : ℕ) → first ≤ end → end ≡ ends l class (nth l class o s)
          → ends l class (nth l class o s) ≤ begin → n ≡ end - first → begin - end ≡ begin - first - n
      same end begin first n low now after long = omega arith

      joined : (f : ℕ → List A) (n m j k : ℕ) (w x y z : List A) → n ≡ m → f m ≡ f j ++ w → f j ≡ f k ++ x → x ≡ y
          → w ≡ z
          → t ≡ f k → t' ≡ t ++ y → t'' ≡ t' ++ z → t'' ≡ f n
      joined f n m j k w x y z a b c d e g h i = cc

  pub section_skipped : (o s : ℕ) → o < length l.objects → s < section_count (object l o)
      → is_class class (section_class (object l o) s) ≡ false
      → laid_before cell l class gap o s ≡ laid_before cell l class gap o (s + 1)
  section_skipped o s there below other =
      let same : end_before l class o s ≡ end_before l class o (s + 1) =
      end_is l class o s ∙ sym (end_next l class o s ∙ end_skips l.kind l.objects class o s there below other) in
      ap (λ end. cells (extent_for class (layout l)).start (end - (extent_for class (layout l)).start)) same

  pub object_laid : (o n : ℕ) → o < length l.objects → n ≡ section_count (object l o)
      → laid_before cell l class gap o n ≡ laid_before cell l class gap (o + 1) 0
  object_laid o n there all =
      ap (λ end. cells (extent_for class (layout l)).start (end - (extent_for class (layout l)).start))
      (ap (end_before l class o) all ∙ end_next_object l class o there)

  pub none_laid : [] ≡ laid_before cell l class gap 0 0
  none_laid =
      let first = end_first l class in
      no_cells (extent_for class (layout l)).start (end_before l class 0 0 - (extent_for class (layout l)).start)
      (omega arith)

  pub class_laid : (n : ℕ) (t t' : List A) → HasRange class → n ≡ length l.objects
      → t ≡ laid_before cell l class gap n 0
      → t' ≡ t ++ replicate ((extent_for class (layout l)).end - (extent_for class (layout l)).start - length t) gap
      → t' ≡ class_cells cell l class gap
  class_laid n t t' range all e e' =
      let first = (extent_for class (layout l)).start in
      let last = (extent_for class (layout l)).end in
      let end = end_before l class (length l.objects) 0 in
      let low = end_rises l class (length l.objects) 0 in
      let high = end_inside l class range in
      let now : t ≡ cells first (end - first) = e ∙ ap (λ m. laid_before cell l class gap m 0) all in
      let long : length t ≡ end - first = ap length now ∙ length_cells first (end - first) in
      let padded : cells end (last - end) ≡ replicate (last - first - length t) gap =
      gap_cells end (last - end)
      (λ x above below. gap_at l.kind l.objects class range (nth l class (length l.objects) 0) x
      (omega (arith, end_is l class (length l.objects) 0))
      (λ o s m there le. absurd (past m there.is le)))
      ∙ ap (λ k. replicate k gap) (same end last first (length t) low long) in
      let one = cells_more first end (end - first) (last - end) (omega arith) in
      let whole : last - first ≡ (end - first) + (last - end) = omega arith in
      joined (cells first) _ _ _ _ _ whole one padded now e'
    where
      past : (m : ℕ) → (section_at (layout l).sections m).class ≡ Some class → nth l class (length l.objects) 0 ≤ m → ⊥
      past m is le =
          let inside = within (layout l).sections m class is in
          let none = none_behind l class in
          omega arith

      same : (end last first n : ℕ) → first ≤ end → n ≡ end - first → last - end ≡ last - first - n
      same end last first n low long = omega arith

      joined : (f : ℕ → List A) (n m k : ℕ) (x y : List A) → n ≡ m → f m ≡ f k ++ x → x ≡ y → t ≡ f k → t' ≡ t ++ y
          → t' ≡ f n
      joined f n m k x y a b c d e = cc
