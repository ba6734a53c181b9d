-- The classes of an image lie behind each other, from the base to where its sections end.
use Rattle.std.proofs.Common.{◌≡◌, ◌<◌, ◌≤◌, ◌⊎◌, ℕ, true, false, inl, inr, refl, arith}
use Rattle.std.proofs.lemmas.Bool.{cases_lt, lt-ltb, le-ltb}
use Rattle.memory_image.specs.Laying.{HasRange}
use Rattle.link_faults.specs.ImageKinds.{base_of}
use Rattle.object_faults.specs.declared.class.SectionClass.{SectionClass}
use Rattle.object_faults.specs.declared.class.SectionClass.TheVariants.{Executable, ReadOnly, Tls, Writable}
use Rattle.placed_sections.specs.Laws.{end_or, sections_end}
use Rattle.tls_layout.specs.declared.extent.Extent.{Extent}
use Rattle.tls_layout.specs.Places.{extent_for}
use Rattle.tls_layout.specs.Places.{room}
use Rattle.tls_layout.specs.Sections.{Layout}
use Rattle.tls_layout.proofs.LawsOfPlaces.{classes_follow, has_address}

-- in which order they lie
abbrev pub rank : SectionClass → ℕ
rank Executable = 0
rank ReadOnly = 1
rank (Tls initial) = 2
rank (Writable initial) = 3

-- two of one rank are the same, or data with bytes and data without
pub same_rank : (c d : SectionClass) → HasRange c → has_address d ≡ true → rank c ≡ rank d
    → (d ≡ c) ⊎ ((c ≡ Writable true) × (d ≡ Writable false))
same_rank Executable Executable held has e = inl refl
same_rank ReadOnly ReadOnly held has e = inl refl
same_rank (Tls true) (Tls true) held has e = inl refl
same_rank (Tls true) (Tls false) held has e = absurd (cc)
same_rank (Tls false) d held has e = absurd held
same_rank (Writable true) (Writable true) held has e = inl refl
same_rank (Writable true) (Writable false) held has e = inr (refl, refl)
same_rank (Writable false) d held has e = absurd held
same_rank c d held has e = absurd (omega arith)

module _ (p : Layout) where
  first : (extent_for Executable p).start ≡ base_of p.kind
  first = (classes_follow p).first

  one : (extent_for Executable p).end ≤ (extent_for ReadOnly p).start
  one = (classes_follow p).second

  two : (extent_for ReadOnly p).end ≤ (extent_for (Tls true) p).start
  two = (classes_follow p).third

  three : (extent_for (Tls true) p).end ≤ (extent_for (Writable true) p).start
  three = (classes_follow p).fourth

  code : (extent_for Executable p).start ≤ (extent_for Executable p).end
  code = (classes_follow p).rise Executable

  constants : (extent_for ReadOnly p).start ≤ (extent_for ReadOnly p).end
  constants = (classes_follow p).rise ReadOnly

  image : (extent_for (Tls true) p).start ≤ (extent_for (Tls true) p).end
  image = (classes_follow p).rise (Tls true)

  -- one of a lower rank ends before
  pub class_before : (c d : SectionClass) → rank c < rank d → (extent_for c p).end ≤ (extent_for d p).start
  class_before Executable Executable lt = absurd (omega arith)
  class_before Executable ReadOnly lt = one
  class_before Executable (Tls initial) lt = omega (arith, one, constants, two)
  class_before Executable (Writable initial) lt = omega (arith, one, constants, two, image, three)
  class_before ReadOnly Executable lt = absurd (omega arith)
  class_before ReadOnly ReadOnly lt = absurd (omega arith)
  class_before ReadOnly (Tls initial) lt = two
  class_before ReadOnly (Writable initial) lt = omega (arith, two, image, three)
  class_before (Tls initial) Executable lt = absurd (omega arith)
  class_before (Tls initial) ReadOnly lt = absurd (omega arith)
  class_before (Tls initial) (Tls other) lt = absurd (omega arith)
  class_before (Tls initial) (Writable other) lt = three
  class_before (Writable initial) Executable lt = absurd (omega arith)
  class_before (Writable initial) ReadOnly lt = absurd (omega arith)
  class_before (Writable initial) (Tls other) lt = absurd (omega arith)
  class_before (Writable initial) (Writable other) lt = absurd (omega arith)

  -- each begins at or above the base
  pub class_above : (c : SectionClass) → base_of p.kind ≤ (extent_for c p).start
  class_above Executable = omega (arith, first)
  class_above ReadOnly = omega (arith, first, code, one)
  class_above (Tls initial) = omega (arith, first, code, one, constants, two)
  class_above (Writable initial) = omega (arith, first, code, one, constants, two, image, three)

-- ** the sections end no earlier than a class that has bytes

end_of_some : (x : Extent) (rest : ℕ) → x.start < x.end → end_or x rest ≡ x.end
end_of_some x rest some = rw (lt-ltb x.start x.end some) refl

end_rises : (x : Extent) (rest : ℕ) → rest ≤ x.start → rest ≤ end_or x rest
end_rises x rest before = elim (cases_lt x.start x.end) [
  | inl some ↦ rw (lt-ltb x.start x.end some) (omega arith)
  | inr none ↦ rw (le-ltb x.start x.end none) (omega arith)
]

end_below : (x : Extent) (rest next : ℕ) → rest ≤ next → x.end ≤ next → end_or x rest ≤ next
end_below x rest next before inside = elim (cases_lt x.start x.end) [
  | inl some ↦ rw (lt-ltb x.start x.end some) inside
  | inr none ↦ rw (le-ltb x.start x.end none) before
]

pub class_ends : (p : Layout) (c : SectionClass) → (extent_for c p).start < (extent_for c p).end
    → (extent_for c p).end ≤ sections_end p
unfolding sections_end
class_ends p c some = of_class c some
  where
    x : Extent
    x = extent_for Executable p

    r : Extent
    r = extent_for ReadOnly p

    t : Extent
    t = extent_for (Tls true) p

    w : Extent
    w = extent_for (Writable true) p

    end_x : ℕ
    end_x = end_or x (base_of p.kind)

    end_r : ℕ
    end_r = end_or r end_x

    end_t : ℕ
    end_t = end_or t end_r

    x_early : end_x ≤ r.start
    x_early =
        end_below x (base_of p.kind) r.start (omega (arith, first p, code p, one p)) (one p)

    r_early : end_r ≤ t.start
    r_early = end_below r end_x t.start (omega (arith, x_early, constants p, two p)) (two p)

    t_early : end_t ≤ w.start
    t_early = end_below t end_r w.start (omega (arith, r_early, image p, three p)) (three p)

    r_rises : end_x ≤ end_r
    r_rises = end_rises r end_x x_early

    t_rises : end_r ≤ end_t
    t_rises = end_rises t end_r r_early

    w_rises : end_t ≤ end_or w end_t
    w_rises = end_rises w end_t t_early

    of_class : (c : SectionClass) → (extent_for c p).start < (extent_for c p).end
        → (extent_for c p).end ≤ end_or w end_t
    of_class Executable some =
        let is = end_of_some x (base_of p.kind) some in omega (arith, is, r_rises, t_rises, w_rises)
    of_class ReadOnly some = let is = end_of_some r end_x some in omega (arith, is, t_rises, w_rises)
    of_class (Tls initial) some = let is = end_of_some t end_r some in omega (arith, is, w_rises)
    of_class (Writable initial) some = let is = end_of_some w end_t some in omega (arith, is)

-- each class ends before the room
pub class_below : (p : Layout) (c : SectionClass) → (extent_for c p).end ≤ room p.kind p.sections
class_below p c = of_class c
  where
    last : (extent_for (Writable true) p).end ≤ room p.kind p.sections
    last = (classes_follow p).last

    rise : (extent_for (Writable true) p).start ≤ (extent_for (Writable true) p).end
    rise = (classes_follow p).rise (Writable true)

    of_class : (c : SectionClass) → (extent_for c p).end ≤ room p.kind p.sections
    of_class Executable = let before = class_before p Executable (Writable true) (omega arith) in omega
        (arith, before, rise, last)
    of_class ReadOnly = let before = class_before p ReadOnly (Writable true) (omega arith) in omega
        (arith, before, rise, last)
    of_class (Tls initial) =
        let before = class_before p (Tls initial) (Writable true) (omega arith) in omega (arith, before, rise, last)
    of_class (Writable initial) = last
