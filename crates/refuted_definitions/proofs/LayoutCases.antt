-- The laws fix where sections lie: one over a wrong definition would make it the same, and here it is not.
use Rattle.std.proofs.Common.{◌≡◌, ◌<◌, ◌≤◌, ℕ, zero, suc, Bool, true, false, List, [], ◌∷◌, Option, Some, None, refl}
use Rattle.std.proofs.Common.{ap, subst, arith}
use Rattle.std.specs.Prelude.{◌==◌, slice_get}
use Rattle.object_faults.specs.declared.class.SectionClass.{SectionClass}
use Rattle.object_faults.specs.declared.class.SectionClass.TheVariants.{Executable, ReadOnly, Tls, Writable}
use Rattle.link_faults.specs.declared.image_kind.ImageKind.{ImageKind}
use Rattle.link_faults.specs.declared.image_kind.ImageKind.TheVariants.{Late}
use Rattle.tls_layout.specs.declared.sections.Section.{Section}
use Rattle.tls_layout.specs.declared.statics.TlsSize.{TlsSize}
use Rattle.tls_layout.specs.Places.{address_at, address_by, end_after, end_of, executable, initial_data, initial_tls}
use Rattle.tls_layout.specs.Places.{offset_at}
use Rattle.tls_layout.specs.Places.{place_in, read_only, tls_alignment, tls_image, zero_data, zero_tls}
use Rattle.tls_layout.specs.Rounding.{page_up, round_up}
use Rattle.tls_layout.specs.Sections.{section_at}
use Rattle.tls_layout.specs.Statics.{tls_offset}
use Rattle.layout_laws.specs.Layout.{AddressesAreOnly, AreAligned, BlocksAreOnly, OffsetsAreOnly, SegmentsAreLeast}
use Rattle.refuted_definitions.specs.Layout.{AddressesAreOnlyBy, BlocksAreOnlyBy, LayoutsAreRefuted, OffsetsAreOnlyBy}
use Rattle.refuted_definitions.specs.Layout.{SegmentsAreLeastBy, address_by as copy_by, last_alignment}
use Rattle.refuted_definitions.specs.Layout.{offset_from_start, offset_without_size}

-- ** examples

abbrev section : SectionClass → ℕ → ℕ → Section
section class size alignment = record { class = Some class; size = size; alignment = alignment }

abbrev pair : SectionClass → ℕ → ℕ → SectionClass → List Section
pair first size alignment second = section first size alignment ∷ section second 1 1 ∷ []

aligned : (first : SectionClass) (size alignment : ℕ) (second : SectionClass) → 0 < alignment
    → AreAligned (pair first size alignment second)
aligned first size alignment second some zero = some
aligned first size alignment second some (suc zero) = omega arith
aligned first size alignment second some (suc (suc k)) = omega arith

abbrev block : TlsSize
block = record { size = 4; alignment = 4 }

block_aligned : (m : ℕ) (tls : TlsSize) → slice_get (block ∷ []) m ≡ Some tls → 0 < tls.alignment
block_aligned zero tls is = let e : block ≡ tls = cc in subst (λ (tls : TlsSize). 0 < tls.alignment) e (omega arith)
block_aligned (suc m) tls is = absurd cc

abbrev is_place : ℕ → Option ℕ → Bool
is_place place None = false
is_place place (Some other) = other == place

-- ** where a law over a wrong definition leads

module _ (law : AddressesAreOnly) (wrong_at : ImageKind → List Section → ℕ → Option ℕ)
    (wrong : AddressesAreOnlyBy wrong_at) where
  same_address : (first : SectionClass) (size alignment : ℕ) (second : SectionClass) → 0 < alignment
      → wrong_at Late (pair first size alignment second) 1 ≡ address_at Late (pair first size alignment second) 1
  same_address first size alignment second some =
      let sections = pair first size alignment second in
      let are = aligned first size alignment second some in
      (law Late sections are (wrong_at Late sections)).0
      ((wrong Late sections are (wrong_at Late sections)).1 (λ k. refl)) 1

module _ (law : OffsetsAreOnly) (wrong_at : List Section → ℕ → Option ℕ) (wrong : OffsetsAreOnlyBy wrong_at) where
  same_offset : wrong_at (pair (Tls true) 1 1 (Tls false)) 1 ≡ offset_at (pair (Tls true) 1 1 (Tls false)) 1
  same_offset =
      let sections = pair (Tls true) 1 1 (Tls false) in
      let are = aligned (Tls true) 1 1 (Tls false) (omega arith) in
      (law sections are (wrong_at sections)).0 ((wrong sections are (wrong_at sections)).1 (λ k. refl)) 1

module _ (law : BlocksAreOnly) (wrong_offset : List TlsSize → ℕ → ℕ) (wrong : BlocksAreOnlyBy wrong_offset) where
  same_block : wrong_offset (block ∷ []) 1 ≡ tls_offset (block ∷ []) 1
  same_block = (law (block ∷ []) block_aligned (wrong_offset (block ∷ []))).0
      ((wrong (block ∷ []) block_aligned (wrong_offset (block ∷ []))).1 (λ m low. refl)) 1 (omega arith)

-- the statement is the law's
right_segments : SegmentsAreLeast → SegmentsAreLeastBy tls_alignment
right_segments law = law

no_last : SegmentsAreLeastBy last_alignment → ⊥
unfolding end_of initial_tls zero_tls round_up
no_last wrong =
    let some : 0 < 2 = omega arith in
    let is : 8 ≤ 1 = (wrong (pair (Tls true) 1 8 (Tls true))).greatest some 0 8 (true, (refl, refl)) in
    omega (arith, is)

same_by : (class : Option SectionClass) (kind : ImageKind) (sections : List Section) (k : ℕ)
    → copy_by end_after page_up page_up (Writable true) class kind sections k ≡ address_by class kind sections k
unfolding end_of executable initial_data place_in read_only tls_image zero_data
same_by (Some Executable) kind sections k = refl
same_by (Some ReadOnly) kind sections k = refl
same_by (Some (Tls true)) kind sections k = refl
same_by (Some (Tls false)) kind sections k = refl
same_by (Some (Writable true)) kind sections k = refl
same_by (Some (Writable false)) kind sections k = refl
same_by None kind sections k = refl

pub layouts_refuted : AddressesAreOnly → OffsetsAreOnly → BlocksAreOnly → LayoutsAreRefuted
unfolding address_at end_of executable initial_data initial_tls offset_at place_in read_only tls_image zero_data
    zero_tls page_up round_up tls_offset
layouts_refuted addresses offsets blocks = record {
  copy = λ kind sections k. same_by (section_at sections k).class kind sections k;
  pages_are_half = λ wrong.
      let e : false ≡ true = ap (is_place 4096)
      (same_address addresses _ wrong Executable 1 1 ReadOnly (omega arith)) in cc;
  constants_follow_code = λ wrong.
      let e : false ≡ true = ap (is_place 4096)
      (same_address addresses _ wrong Executable 1 1 ReadOnly (omega arith)) in cc;
  empty_sections_do_not_count = λ wrong.
      let e : false ≡ true = ap (is_place 1)
      (same_address addresses _ wrong Executable 1 4 Executable (omega arith)) in cc;
  zeros_before_data = λ wrong.
      let e : false ≡ true = ap (is_place 2)
      (same_address addresses _ wrong (Writable true) 2 1 (Writable false) (omega arith)) in cc;
  segment_begins_with_zeros = λ wrong.
      let e : false ≡ true = ap (is_place 1) (same_offset offsets offset_from_start wrong) in cc;
  alignment_is_the_last_ones = no_last;
  blocks_take_no_room = λ wrong.
      let e : false ≡ true = ap (λ (place : ℕ). place == 4) (same_block blocks offset_without_size wrong) in cc;
}
