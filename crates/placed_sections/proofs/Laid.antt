-- Sections in the order of the file.
use Rattle.std.proofs.Common.{◌≡◌, ◌<◌, ◌≤◌, ◌+◌, ◌-◌, ℕ, suc, Bool, true, false, List, [], ◌∷◌, ◌++◌, length, map}
use Rattle.std.proofs.Common.{drop, refl, sym, ap, ◌∙◌, append_assoc, append-nil, arith}
use Rattle.std.proofs.Math.Seq.{drop-cons}
use Rattle.std.proofs.lemmas.List.{map-append}
use Rattle.std.specs.Prelude.{◌&&◌, slice_index_or, nat_lt, if◌then◌else◌}
use Rattle.std.specs.List.{flat_map, range_with_len}
use Rattle.object_faults.specs.declared.class.SectionClass.{SectionClass}
use Rattle.object_faults.specs.declared.class.SectionClass.TheVariants.{Executable, ReadOnly, Tls, Writable}
use Rattle.elf_object.specs.Lent.{section_class, section_size}
use Rattle.elf_object.specs.Object.{section_count}
use Rattle.tls_layout.specs.Places.{extent_for}
use Rattle.tls_layout.specs.Sections.{Layout, is_class}
use Rattle.placed_sections.specs.declared.part.PlacedPart.{PlacedPart}
use Rattle.placed_sections.specs.Files.{placed, placed_class, placed_section, placed_object, placed_from, end_mark}
use Rattle.placed_sections.specs.Files.{classes}

-- numbers from a to n: the first, and those behind it
range_first : (a n : ℕ) → a < n → range_with_len a (n - a) ≡ a ∷ range_with_len (a + 1) (n - (a + 1))
range_first a n h = let step : n - a ≡ suc (n - (a + 1)) = omega arith in ap (range_with_len a) step

range_none : (a n : ℕ) → n ≤ a → range_with_len a (n - a) ≡ []
range_none a n h = let step : n - a ≡ 0 = omega arith in ap (range_with_len a) step

module _ {X : Type 0} (made : PlacedPart → X) (p : Layout) (class : SectionClass) (o : ℕ) (b : List ℕ) (parts : List X)
  where
    -- section a, and then those behind it
    pub sections_step : (a n : ℕ) → a < n
        → (parts ++ placed_section made p class o b a)
        ++ flat_map (placed_section made p class o b) (range_with_len (a + 1) (n - (a + 1)))
        ≡ parts ++ flat_map (placed_section made p class o b) (range_with_len a (n - a))
    sections_step a n h =
        rw (range_first a n h) (append_assoc parts (placed_section made p class o b a)
        (flat_map (placed_section made p class o b) (range_with_len (a + 1) (n - (a + 1)))))

    pub sections_end : (a n : ℕ) → n ≤ a
        → parts ++ flat_map (placed_section made p class o b) (range_with_len a (n - a)) ≡ parts
    sections_end a n h = rw (range_none a n h) (append-nil parts)

    -- the sections of an object, and then those of the objects behind it
    pub objects_step : (more : List (List ℕ))
        → (parts ++ placed_object made p class o b) ++ placed_from made p class (o + 1) more ≡ parts
        ++ placed_from made p class o (b ∷ more)
    objects_step more = append_assoc parts (placed_object made p class o b) (placed_from made p class (o + 1) more)

-- the object at a place, and those behind it
pub drop_here : {X : Type 0} (xs : List X) (n : ℕ) (d : X) → n < length xs
    → drop n xs ≡ slice_index_or xs n d ∷ drop (n + 1) xs
drop_here xs n d h = let next : suc n ≡ n + 1 = omega arith in
    drop-cons xs n d h ∙ ap (λ m. slice_index_or xs n d ∷ drop m xs) next

-- the classes one behind another are all sections
pub classes_placed : {X : Type 0} (made : PlacedPart → X) (p : Layout) (objects : List (List ℕ))
    → ((((([] ++ placed_class made p objects Executable) ++ placed_class made p objects ReadOnly)
    ++ placed_class made p objects (Tls true)) ++ placed_class made p objects (Writable true))
    ++ placed_class made p objects (Writable false))
    ≡ placed made p objects
unfolding placed
classes_placed {X} made p objects =
    in_order (placed_class made p objects Executable) (placed_class made p objects ReadOnly)
    (placed_class made p objects (Tls true)) (placed_class made p objects (Writable true))
    (placed_class made p objects (Writable false))
  where
    in_order : (a b c d e : List X) → ((((([] ++ a) ++ b) ++ c) ++ d) ++ e) ≡ a ++ (b ++ (c ++ (d ++ (e ++ []))))
    in_order a b c d e =
        append_assoc ((a ++ b) ++ c) d e ∙ append_assoc (a ++ b) c (d ++ e) ∙ append_assoc a b (c ++ (d ++ e))
        ∙ ap (λ x. a ++ (b ++ (c ++ (d ++ x)))) (sym (append-nil e))

-- ** what is made of sections, made into something else

maps : {A X Y : Type 0} (h : X → Y) (f : A → List X) (g : A → List Y) → ((a : A) → map h (f a) ≡ g a) → (xs : List A)
    → map h (flat_map f xs) ≡ flat_map g xs
maps h f g each [] = refl
maps h f g each (x ∷ xs) =
    map-append h (f x) (flat_map f xs) ∙ ap (λ l. l ++ map h (flat_map f xs)) (each x)
    ∙ ap (λ l. g x ++ l) (maps h f g each xs)

module _ {X Y : Type 0} (h : X → Y) (made : PlacedPart → X) (p : Layout) where
  one_or_none : (t : Bool) (part : PlacedPart)
      → map h (if t then made part ∷ [] else []) ≡ (if t then h (made part) ∷ [] else [])
  one_or_none true part = refl
  one_or_none false part = refl

  section_map : (class : SectionClass) (o : ℕ) (b : List ℕ) (s : ℕ)
      → map h (placed_section made p class o b s) ≡ placed_section (λ part. h (made part)) p class o b s
  section_map class o b s = one_or_none (is_class class (section_class b s) && nat_lt 0 (section_size b s)) _

  object_map : (class : SectionClass) (o : ℕ) (b : List ℕ)
      → map h (placed_object made p class o b) ≡ placed_object (λ part. h (made part)) p class o b
  unfolding placed_object
  object_map class o b =
      maps h (placed_section made p class o b) (placed_section (λ part. h (made part)) p class o b)
      (section_map class o b) (range_with_len 0 (section_count b))

  from_map : (class : SectionClass) (o : ℕ) (more : List (List ℕ))
      → map h (placed_from made p class o more) ≡ placed_from (λ part. h (made part)) p class o more
  from_map class o [] = refl
  from_map class o (b ∷ more) =
      map-append h (placed_object made p class o b) (placed_from made p class (o + 1) more)
      ∙ ap (λ l. l ++ map h (placed_from made p class (o + 1) more)) (object_map class o b)
      ∙ ap (λ l. placed_object (λ part. h (made part)) p class o b ++ l) (from_map class (o + 1) more)

  mark_map : (class : SectionClass) → map h (end_mark made p class) ≡ end_mark (λ part. h (made part)) p class
  mark_map (Writable initial) = refl
  mark_map Executable = let x = extent_for Executable p in one_or_none (nat_lt x.start x.end) _
  mark_map ReadOnly = let x = extent_for ReadOnly p in one_or_none (nat_lt x.start x.end) _
  mark_map (Tls initial) = let x = extent_for (Tls initial) p in one_or_none (nat_lt x.start x.end) _

  class_map : (objects : List (List ℕ)) (class : SectionClass)
      → map h (placed_class made p objects class) ≡ placed_class (λ part. h (made part)) p objects class
  class_map objects class =
      map-append h (placed_from made p class 0 objects) (end_mark made p class)
      ∙ ap (λ l. l ++ map h (end_mark made p class)) (from_map class 0 objects)
      ∙ ap (λ l. placed_from (λ part. h (made part)) p class 0 objects ++ l) (mark_map class)

  pub placed_map : (objects : List (List ℕ)) → map h (placed made p objects) ≡ placed (λ part. h (made part)) p objects
  unfolding placed
  placed_map objects = maps h (placed_class made p objects) (placed_class (λ part. h (made part)) p objects)
      (class_map objects) classes
