-- The addresses of a layout are the only ones of their kind.
use Rattle.std.proofs.Common.{◌≡◌, ◌⊎◌, ◌∙◌, ◌+◌, ◌*◌, ◌<◌, ◌≤◌, ℕ, Bool, true, false, List, Option, Some, None, refl}
use Rattle.std.proofs.Common.{sym, ap, subst, inl, inr, arith}
use Rattle.object_faults.specs.declared.class.SectionClass.{SectionClass}
use Rattle.object_faults.specs.declared.class.SectionClass.TheVariants.{Executable, ReadOnly, Tls, Writable}
use Rattle.link_faults.specs.declared.image_kind.ImageKind.{ImageKind}
use Rattle.link_faults.specs.declared.image_kind.ImageKind.TheVariants.{Exe, Pie, Start, Late}
use Rattle.link_faults.specs.ImageKinds.{base_of}
use Rattle.tls_layout.specs.declared.sections.Section.{Section}
use Rattle.tls_layout.specs.Places.{address_at, end_of, executable, initial_data, place_in, read_only, room, tls_image}
use Rattle.tls_layout.specs.Places.{zero_data}
use Rattle.tls_layout.specs.Rounding.{page_up}
use Rattle.tls_layout.specs.Sections.{section_at}
use Rattle.tls_layout.proofs.Ends.{end_of-rises}
use Rattle.layout_laws.specs.Layout.{AddressesAreOnly, AreAligned, ArePlaces, IsLeast, IsPastAll, IsPastClasses}
use Rattle.layout_laws.specs.Layout.{RoomIsLeast, LiesAt, StandsBefore, class_number, has_address, is_zeros}
use Rattle.layout_laws.proofs.Found.{Has, all_below, ends, lies_there, next_page, round_up-over, rounded}
use Rattle.layout_laws.proofs.Only.{only, same_places}

module _ (kind : ImageKind) (sections : List Section) (aligned : AreAligned sections) where
  abbrev f : ℕ → Option ℕ
  f = address_at kind sections

  -- where the sections of a class go on from
  from : SectionClass → ℕ
  from Executable = (executable kind sections).start
  from ReadOnly = (read_only kind sections).start
  from (Tls initial) = (tls_image kind sections).start
  from (Writable true) = (initial_data kind sections).start
  from (Writable false) = (zero_data kind sections).start

  address_is : (class : SectionClass) → has_address class ≡ true → (k : ℕ) → (section_at sections k).class ≡ Some class
      → f k ≡ Some (place_in class (from class) sections k)
  unfolding address_at from
  address_is Executable has k here = rw here refl
  address_is ReadOnly has k here = rw here refl
  address_is (Tls true) has k here = rw here refl
  address_is (Tls false) has k here = cc
  address_is (Writable true) has k here = rw here refl
  address_is (Writable false) has k here = rw here refl

  no_address : (class : SectionClass) → has_address class ≡ false → (k : ℕ) → (section_at sections k).class ≡ Some class
      → f k ≡ None
  unfolding address_at
  no_address Executable has k here = cc
  no_address ReadOnly has k here = cc
  no_address (Tls true) has k here = cc
  no_address (Tls false) has k here = rw here refl
  no_address (Writable initial) has k here = cc

  dropped_is : (k : ℕ) → (section_at sections k).class ≡ None → f k ≡ None
  unfolding address_at
  dropped_is k here = rw here refl

  has_of : (class : SectionClass) → has_address class ≡ true
      → Has has_address (base_of kind) sections f class (from class)
  has_of class has = record { at = address_is class has }

  none_some : {a : ℕ} {o : Option ℕ} → o ≡ None → o ≡ Some a → ⊥
  none_some x y = let same = sym x ∙ y in cc

  -- of each class before the last, only one kind has addresses
  alone_at : (class : SectionClass) → has_address class ≡ true → class_number class ≤ 3
      → (i other : ℕ) (c : SectionClass)
      → (section_at sections i).class ≡ Some c → f i ≡ Some other → class_number c ≡ class_number class → c ≡ class
  alone_at Executable has few i other Executable at there same = refl
  alone_at ReadOnly has few i other ReadOnly at there same = refl
  alone_at (Tls true) has few i other (Tls true) at there same = refl
  alone_at (Tls true) has few i other (Tls false) at there same =
      absurd (none_some (no_address (Tls false) refl i at) there)
  alone_at (Tls false) has few i other c at there same = cc
  alone_at (Writable initial) has few i other c at there same = absurd (omega (arith, few))
  alone_at Executable has few i other ReadOnly at there same = absurd (omega (arith, same))
  alone_at Executable has few i other (Tls x) at there same = absurd (omega (arith, same))
  alone_at Executable has few i other (Writable x) at there same = absurd (omega (arith, same))
  alone_at ReadOnly has few i other Executable at there same = absurd (omega (arith, same))
  alone_at ReadOnly has few i other (Tls x) at there same = absurd (omega (arith, same))
  alone_at ReadOnly has few i other (Writable x) at there same = absurd (omega (arith, same))
  alone_at (Tls true) has few i other Executable at there same = absurd (omega (arith, same))
  alone_at (Tls true) has few i other ReadOnly at there same = absurd (omega (arith, same))
  alone_at (Tls true) has few i other (Writable x) at there same = absurd (omega (arith, same))

  abbrev Begins : SectionClass → ℕ → Type 0
  Begins class start = IsLeast 4096 (IsPastClasses has_address (base_of kind) sections f class) start

  base_page : (k : ImageKind) → (q : ℕ) × (base_of k ≡ q * 4096)
  base_page Exe = (1024, refl)
  base_page Pie = (0, refl)
  base_page Start = (0, refl)
  base_page Late = (0, refl)

  -- ** where classes begin

  first_number : (c : SectionClass) → class_number c < 1 → ⊥
  first_number Executable less = absurd (omega (arith, less))
  first_number ReadOnly less = absurd (omega (arith, less))
  first_number (Tls x) less = absurd (omega (arith, less))
  first_number (Writable x) less = absurd (omega (arith, less))

  first : Begins Executable (from Executable)
  unfolding executable from
  first = record {
    times = (base_page kind).0;
    multiple = (base_page kind).1;
    holds = (omega arith, λ i other c at there less. absurd (first_number c less));
    least = λ fewer past. past.0;
  }

  second : Begins ReadOnly (from ReadOnly)
  unfolding read_only executable from
  second = next_page has_address (base_of kind) sections f Executable ReadOnly (from Executable) refl
      (has_of Executable refl)
      (alone_at Executable refl (omega arith)) first

  third : (initial : Bool) → Begins (Tls initial) (from (Tls initial))
  unfolding tls_image read_only from
  third initial = next_page has_address (base_of kind) sections f ReadOnly (Tls initial) (from ReadOnly) refl
      (has_of ReadOnly refl)
      (alone_at ReadOnly refl (omega arith)) second

  fourth : (initial : Bool) → Begins (Writable initial) (from (Writable true))
  unfolding initial_data tls_image from
  fourth initial = next_page has_address (base_of kind) sections f (Tls true) (Writable initial) (from (Tls true)) refl
      (has_of (Tls true) refl)
      (alone_at (Tls true) refl (omega arith)) (third true)

  -- ** where sections lie

  abbrev Lies : SectionClass → ℕ → Type 0
  Lies class k = (section_at sections k).class ≡ Some class
      → LiesAt has_address (base_of kind) sections f class k (place_in class (from class) sections k)

  -- what stands before a section, where only its kind does
  alone_before : (class : SectionClass) → has_address class ≡ true → class_number class ≤ 3
      → (k i other : ℕ) (c : SectionClass)
      → (section_at sections i).class ≡ Some c → f i ≡ Some other → StandsBefore c i class k
      → ((c ≡ class) × (i < k)) ⊎ (other + (section_at sections i).size ≤ from class)
  alone_before class has few k i other c at there (number, which) =
      let same = alone_at class has few i other c at there number in inl (same, before which same)
    where
      before : ((is_zeros c ≡ false) × (is_zeros class ≡ true)) ⊎ ((is_zeros c ≡ is_zeros class) × (i < k)) → c ≡ class
          → i < k
      before (inl zeros) same =
          absurd (let twice : true ≡ false = sym zeros.1 ∙ (ap is_zeros (sym same) ∙ zeros.0) in cc)
      before (inr less) same = less.1

  lies_alone : (class : SectionClass) → has_address class ≡ true → class_number class ≤ 3 → Begins class (from class)
      → (k : ℕ) → Lies class k
  lies_alone class has few begins k here = record {
    start = from class;
    begins = begins;
    lies = lies_there has_address (base_of kind) sections f class (from class) (from class) k here (aligned k)
        (has_of class has) (omega arith)
        (alone_before class has few k) (λ m h. h.0);
  }

  -- data with bytes come first, and zeros after all of them
  data_before : (k i other : ℕ) (c : SectionClass) → (section_at sections i).class ≡ Some c → f i ≡ Some other
      → StandsBefore c i (Writable true) k
      → ((c ≡ Writable true) × (i < k)) ⊎ (other + (section_at sections i).size ≤ from (Writable true))
  data_before k i other (Writable true) at there (number, inl zeros) = cc
  data_before k i other (Writable true) at there (number, inr less) = inl (refl, less.1)
  data_before k i other (Writable false) at there (number, inl zeros) = cc
  data_before k i other (Writable false) at there (number, inr less) = cc
  data_before k i other Executable at there (number, which) = absurd (omega (arith, number))
  data_before k i other ReadOnly at there (number, which) = absurd (omega (arith, number))
  data_before k i other (Tls x) at there (number, which) = absurd (omega (arith, number))

  zeros_begin : from (Writable false) ≡ end_of (Writable true) (from (Writable true)) sections
  unfolding zero_data initial_data from
  zeros_begin = refl

  data_end : (i other : ℕ) → (section_at sections i).class ≡ Some (Writable true) → f i ≡ Some other
      → other + (section_at sections i).size ≤ from (Writable false)
  data_end i other at there =
      subst (λ (n : ℕ). other + (section_at sections i).size ≤ n) (sym zeros_begin)
      (ends has_address (base_of kind) sections f (Writable true) (from (Writable true))
      (has_of (Writable true) refl) i other at there)

  zeros_before : (k i other : ℕ) (c : SectionClass) → (section_at sections i).class ≡ Some c → f i ≡ Some other
      → StandsBefore c i (Writable false) k
      → ((c ≡ Writable false) × (i < k)) ⊎ (other + (section_at sections i).size ≤ from (Writable false))
  zeros_before k i other (Writable true) at there (number, which) = inr (data_end i other at there)
  zeros_before k i other (Writable false) at there (number, inl zeros) = cc
  zeros_before k i other (Writable false) at there (number, inr less) = inl (refl, less.1)
  zeros_before k i other Executable at there (number, which) = absurd (omega (arith, number))
  zeros_before k i other ReadOnly at there (number, which) = absurd (omega (arith, number))
  zeros_before k i other (Tls x) at there (number, which) = absurd (omega (arith, number))

  lies : (class : SectionClass) → has_address class ≡ true → (k : ℕ) → Lies class k
  lies Executable has k = lies_alone Executable refl (omega arith) first k
  lies ReadOnly has k = lies_alone ReadOnly refl (omega arith) second k
  lies (Tls true) has k = lies_alone (Tls true) refl (omega arith) (third true) k
  lies (Tls false) has k = cc
  lies (Writable true) has k = λ here. record {
    start = from (Writable true);
    begins = fourth true;
    lies = lies_there has_address (base_of kind) sections f (Writable true) (from (Writable true))
        (from (Writable true)) k here (aligned k)
        (has_of (Writable true) refl) (omega arith) (data_before k) (λ m h. h.0);
  }
  lies (Writable false) has k = λ here. record {
    start = from (Writable true);
    begins = fourth false;
    lies = lies_there has_address (base_of kind) sections f (Writable false) (from (Writable true))
        (from (Writable false)) k here (aligned k)
        (has_of (Writable false) refl)
        (subst (λ (n : ℕ). from (Writable true) ≤ n) (sym zeros_begin)
        (end_of-rises (Writable true) (from (Writable true)) sections))
        (zeros_before k)
        (λ m h. subst (λ (n : ℕ). n ≤ m) (sym zeros_begin)
        (all_below (Writable true) (from (Writable true)) sections m h.0
        (λ j here. h.1 j _ (Writable true) here (address_is (Writable true) refl j here) (refl, inl (refl, refl)))));
  }

  pub are_places : ArePlaces has_address (base_of kind) sections f
  are_places = record {
    placed = λ k class here has.
        (place_in class (from class) sections k, (address_is class has k here, lies class has k here));
    others = λ k class here none. no_address class none k here;
    dropped = dropped_is;
  }

  -- ** the room

  past_all : (i other : ℕ) (c : SectionClass) → (section_at sections i).class ≡ Some c → f i ≡ Some other
      → other + (section_at sections i).size ≤ (zero_data kind sections).end
  unfolding zero_data from
  past_all i other c at there = of c at
    where
      data_start : from (Writable true) ≤ from (Writable false)
      data_start = subst (λ (n : ℕ). from (Writable true) ≤ n) (sym zeros_begin)
          (end_of-rises (Writable true) (from (Writable true)) sections)

      zeros_end : from (Writable false) ≤ end_of (Writable false) (from (Writable false)) sections
      zeros_end = end_of-rises (Writable false) (from (Writable false)) sections

      earlier : (c : SectionClass) → (section_at sections i).class ≡ Some c → class_number c < 4
          → other + (section_at sections i).size ≤ end_of (Writable false) (from (Writable false)) sections
      earlier c at less = let low = (fourth true).holds.1 i other c at there less in
          omega (arith, low, data_start, zeros_end)

      of : (c : SectionClass) → (section_at sections i).class ≡ Some c
          → other + (section_at sections i).size ≤ end_of (Writable false) (from (Writable false)) sections
      of Executable at = earlier Executable at (omega arith)
      of ReadOnly at = earlier ReadOnly at (omega arith)
      of (Tls x) at = earlier (Tls x) at (omega arith)
      of (Writable true) at = let low = data_end i other at there in omega (arith, low, zeros_end)
      of (Writable false) at =
          ends has_address (base_of kind) sections f (Writable false) (from (Writable false))
          (has_of (Writable false) refl) i other at there

  past_each : (i other : ℕ) → f i ≡ Some other → other + (section_at sections i).size ≤ (zero_data kind sections).end
  past_each i other there = of (section_at sections i).class refl
    where
      of : (c : Option SectionClass) → (section_at sections i).class ≡ c
          → other + (section_at sections i).size ≤ (zero_data kind sections).end
      of None at = absurd (none_some (dropped_is i at) there)
      of (Some c) at = past_all i other c at there

  base_low : base_of kind ≤ (zero_data kind sections).end
  unfolding zero_data from
  base_low =
      let first = (fourth true).holds.0 in
      let data_start : from (Writable true) ≤ from (Writable false) =
      subst (λ (n : ℕ). from (Writable true) ≤ n) (sym zeros_begin)
      (end_of-rises (Writable true) (from (Writable true)) sections) in
      omega (arith, first, data_start, end_of-rises (Writable false) (from (Writable false)) sections)

  room_need : (fewer : ℕ) → IsPastAll kind sections (fewer * 4096) → (zero_data kind sections).end ≤ fewer * 4096
  unfolding zero_data from
  room_need fewer past =
      let start : from (Writable true) ≤ fewer * 4096 =
      (fourth true).least fewer (past.0, λ i other c at there less. past.1 i other there) in
      let zeros : from (Writable false) ≤ fewer * 4096 = subst (λ (n : ℕ). n ≤ fewer * 4096) (sym zeros_begin)
      (all_below (Writable true) (from (Writable true)) sections (fewer * 4096) start
      (λ j here. past.1 j _ (address_is (Writable true) refl j here))) in
      all_below (Writable false) (from (Writable false)) sections (fewer * 4096) zeros
      (λ j here. past.1 j _ (address_is (Writable false) refl j here))

  pub room_least : IsLeast 4096 (IsPastAll kind sections) (room kind sections)
  unfolding room page_up
  room_least =
      let over = round_up-over (zero_data kind sections).end 4096 (omega arith) in
      rounded 4096 (zero_data kind sections).end (IsPastAll kind sections) (omega arith) (
        omega (arith, base_low, over),
        λ k other there. let past = past_each k other there in
            omega (arith, past, over),
      ) room_need

pub room_is : RoomIsLeast
room_is kind sections aligned = room_least kind sections aligned

pub addresses_only : AddressesAreOnly
addresses_only kind sections aligned place = (
  λ are. only has_address (base_of kind) sections place (address_at kind sections) are
      (are_places kind sections aligned),
  λ same. same_places has_address (base_of kind) sections place (address_at kind sections) same
      (are_places kind sections aligned),
)
