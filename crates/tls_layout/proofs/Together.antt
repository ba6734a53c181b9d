-- What the passes leave together, and how the ends of the classes lie.
use Rattle.std.proofs.Common.{◌≡◌, ℕ, ◌+◌, ◌*◌, ◌<◌, ◌≤◌, ◌^◌, Bool, true, false, List, length, get_or, take, replicate}
use Rattle.std.proofs.Common.{max, Option, Some, None, refl, sym, subst, arith, inl, inr}
use Rattle.std.specs.Prelude.{fold, if◌then◌else◌, All}
use Rattle.std.proofs.lemmas.Bool.{cases_lt}
use Rattle.std.proofs.lemmas.List.{get_or-replicate, get_or_past, length-replicate}
use Rattle.std.proofs.lemmas.List.Sums.{fold_more}
use Rattle.object_faults.specs.declared.class.SectionClass.{SectionClass}
use Rattle.object_faults.specs.declared.class.SectionClass.TheVariants.{Executable, ReadOnly, Tls, Writable}
use Rattle.elf_records.specs.Alignments.{IsAlignment}
use Rattle.link_faults.specs.declared.image_kind.ImageKind.{ImageKind}
use Rattle.link_faults.specs.declared.image_kind.ImageKind.TheVariants.{Exe, Pie, Start, Late}
use Rattle.link_faults.specs.ImageKinds.{base_of}
use Rattle.tls_layout.specs.declared.sections.Section.{Section}
use Rattle.tls_layout.specs.declared.extent.Extent.{Extent}
use Rattle.tls_layout.specs.Rounding.{round_up, page_up}
use Rattle.tls_layout.specs.Sections.{section_at, is_class, dropped, IsOrdinary}
use Rattle.elf_object.specs.Lent.{is_tls_class}
use Rattle.tls_layout.specs.Places.{end_of, place_in, extent_of, executable, read_only, tls_image, initial_data}
use Rattle.tls_layout.specs.Places.{zero_data, span, address_by, address_at, initial_tls, zero_tls, tls_size}
use Rattle.tls_layout.specs.Places.{offset_by, offset_at, next_alignment}
use Rattle.tls_layout.specs.Passes.{GivesPlaces, HaveNone, AreAddresses, AreOffsets}
use Rattle.tls_layout.proofs.Rounds.{round_up-above}
use Rattle.tls_layout.proofs.Ends.{end_of-rises}

-- ---- pages

pub page_up-above : (n : ℕ) → n ≤ page_up n
unfolding page_up
page_up-above n = round_up-above n 4096

-- a page begins at the least multiple of 4,096
pub page_up-least : (n q : ℕ) → n ≤ 4096 * q → page_up n ≤ 4096 * q
unfolding page_up round_up
page_up-least n q le = omega arith

pub page_limit : (kind : ImageKind) (n : ℕ) → n ≤ base_of kind + 2 ^ 24 → page_up n ≤ base_of kind + 2 ^ 24
page_limit Exe n le = page_up-least n 5120 le
page_limit Pie n le = page_up-least n 4096 le
page_limit Start n le = page_up-least n 4096 le
page_limit Late n le = page_up-least n 4096 le

-- ---- no places

-- ---- offsets

past_section : (sections : List Section) (k : ℕ) → length sections ≤ k → section_at sections k ≡ dropped
past_section sections k past = get_or_past sections k dropped past

pub are_offsets : (sections : List Section) (old mid new : List (Option ℕ)) (i : ℕ) → length new ≡ length sections
    → HaveNone old
    → i ≡ end_of (Tls true) 0 sections → GivesPlaces (Tls true) 0 sections old mid
    → GivesPlaces (Tls false) i sections mid new → AreOffsets sections new
unfolding offset_at initial_tls zero_tls
are_offsets sections old mid new i len none e first second k = elim (cases_lt k (length sections)) [
  | inl below ↦ rw (second k below, first k below, none k, e) (by_class (section_at sections k).class)
  | inr past ↦ rw (get_or_past new k None (omega arith), past_section sections k past) refl
]
  where
    by_class : (class : Option SectionClass)
        → (if is_class (Tls false) class then Some (place_in (Tls false) (end_of (Tls true) 0 sections) sections k) else
        if is_class (Tls true) class then Some (place_in (Tls true) 0 sections k) else None)
        ≡ offset_by class sections k
    by_class None = refl
    by_class (Some Executable) = refl
    by_class (Some ReadOnly) = refl
    by_class (Some (Tls true)) = refl
    by_class (Some (Tls false)) = refl
    by_class (Some (Writable true)) = refl
    by_class (Some (Writable false)) = refl

pub is_tls_size : (sections : List Section) (x y : Extent) → x ≡ extent_of (Tls true) 0 sections
    → y ≡ extent_of (Tls false) x.end sections → y.end ≡ tls_size sections
unfolding initial_tls zero_tls
is_tls_size sections x y e f = rw (f, e) refl

-- ---- addresses

pub are_addresses : (kind : ImageKind) (sections : List Section) (a0 a1 a2 a3 a4 a5 : List (Option ℕ)) (e r t w z : ℕ)
    → length a5 ≡ length sections → HaveNone a0
    → e ≡ (executable kind sections).start → r ≡ (read_only kind sections).start → t ≡ (tls_image kind sections).start
    → w ≡ (initial_data kind sections).start → z ≡ (zero_data kind sections).start
    → GivesPlaces Executable e sections a0 a1 → GivesPlaces ReadOnly r sections a1 a2
    → GivesPlaces (Tls true) t sections a2 a3
    → GivesPlaces (Writable true) w sections a3 a4 → GivesPlaces (Writable false) z sections a4 a5
    → AreAddresses kind sections a5
unfolding address_at
are_addresses kind sections a0 a1 a2 a3 a4 a5 e r t w z len none es rs ts ws zs p1 p2 p3 p4 p5 k =
    elim (cases_lt k (length sections)) [
      | inl below ↦ rw (p5 k below, p4 k below, p3 k below, p2 k below, p1 k below, none k, es, rs, ts, ws, zs)
          (by_class (section_at sections k).class)
      | inr past ↦ rw (get_or_past a5 k None (omega arith), past_section sections k past) refl
    ]
  where
    by_class : (class : Option SectionClass)
        → (if is_class (Writable false) class
        then Some (place_in (Writable false) (zero_data kind sections).start sections k) else
        if is_class (Writable true) class
        then Some (place_in (Writable true) (initial_data kind sections).start sections k) else
        if is_class (Tls true) class then Some (place_in (Tls true) (tls_image kind sections).start sections k) else
        if is_class ReadOnly class then Some (place_in ReadOnly (read_only kind sections).start sections k) else
        if is_class Executable class then Some (place_in Executable (executable kind sections).start sections k)
        else None)
        ≡ address_by class kind sections k
    by_class None = refl
    by_class (Some Executable) = refl
    by_class (Some ReadOnly) = refl
    by_class (Some (Tls true)) = refl
    by_class (Some (Tls false)) = refl
    by_class (Some (Writable true)) = refl
    by_class (Some (Writable false)) = refl

-- ---- what exceeds the limit of the TLS segment

pub tls_beyond_initial : (sections : List Section) (n : ℕ) → n < end_of (Tls true) 0 sections → n < tls_size sections
unfolding initial_tls zero_tls
tls_beyond_initial sections n h = omega (arith, end_of-rises (Tls false) (end_of (Tls true) 0 sections) sections)

pub tls_beyond : (sections : List Section) (n : ℕ) (x : Extent) → x ≡ extent_of (Tls true) 0 sections
    → n < end_of (Tls false) x.end sections → n < tls_size sections
unfolding initial_tls zero_tls
tls_beyond sections n x e h = let P : Extent → Type 0 = λ y. n < end_of (Tls false) y.end sections in subst P e h

-- ---- the greatest alignment

pub power_more : (greatest : ℕ) (section : Section) → IsAlignment greatest → IsOrdinary section
    → IsAlignment (next_alignment greatest section)
power_more greatest section power ordinary = of_test (is_tls_class section.class)
  where
    of_max : (a b : ℕ) → IsAlignment a → IsAlignment b → IsAlignment (max a b)
    of_max a b p q = elim (cases_lt a b) [
      | inl below ↦ let e : max a b ≡ b = omega arith in rw e q
      | inr above ↦ let e : max a b ≡ a = omega arith in rw e p
    ]

    of_test : (t : Bool) → IsAlignment (if t then max greatest section.alignment else greatest)
    of_test true = of_max greatest section.alignment power ordinary.1
    of_test false = power

pub greatest_power : (sections : List Section) (i greatest : ℕ) (d : Section) → i < length sections
    → All IsOrdinary sections → IsAlignment greatest
    → IsAlignment (next_alignment greatest (get_or sections i d))
greatest_power sections i greatest d l ordinary power = power_more greatest (get_or sections i d) power (ordinary i d l)

pub greatest_more : (sections : List Section) (i greatest r : ℕ) (d : Section) → i < length sections
    → greatest ≡ fold next_alignment 1 (take i sections)
    → r ≡ next_alignment greatest (get_or sections i d) → r ≡ fold next_alignment 1 (take (i + 1) sections)
greatest_more sections i greatest r d l e is = rw (fold_more next_alignment 1 sections i d l, ← e) is

-- ---- the classes one after another

pub is_executable : (kind : ImageKind) (sections : List Section) (base : ℕ) (x : Extent) → base ≡ base_of kind
    → x ≡ extent_of Executable base sections → x ≡ executable kind sections
unfolding executable
is_executable kind sections base x e is = rw (is, e) refl

pub is_read_only : (kind : ImageKind) (sections : List Section) (x y : Extent) (p : ℕ) → x ≡ executable kind sections
    → p ≡ page_up x.end
    → y ≡ extent_of ReadOnly p sections → y ≡ read_only kind sections
unfolding read_only
is_read_only kind sections x y p e page is = rw (is, page, e) refl

pub is_tls_image : (kind : ImageKind) (sections : List Section) (x y : Extent) (p : ℕ) → x ≡ read_only kind sections
    → p ≡ page_up x.end
    → y ≡ extent_of (Tls true) p sections → y ≡ tls_image kind sections
unfolding tls_image
is_tls_image kind sections x y p e page is = rw (is, page, e) refl

pub is_initial_data : (kind : ImageKind) (sections : List Section) (x y : Extent) (p : ℕ) → x ≡ tls_image kind sections
    → p ≡ page_up x.end
    → y ≡ extent_of (Writable true) p sections → y ≡ initial_data kind sections
unfolding initial_data
is_initial_data kind sections x y p e page is = rw (is, page, e) refl

pub is_zero_data : (kind : ImageKind) (sections : List Section) (x y : Extent) → x ≡ initial_data kind sections
    → y ≡ extent_of (Writable false) x.end sections → y ≡ zero_data kind sections
unfolding zero_data
is_zero_data kind sections x y e is = rw (is, e) refl

-- each class begins at or after the end of the one before, and ends at or after its start
pub record Rise (kind : ImageKind) (sections : List Section) : Type 0 where
  pub base : (executable kind sections).start ≡ base_of kind
  pub executable_up : (executable kind sections).start ≤ (executable kind sections).end
  pub constants : (read_only kind sections).start ≡ page_up (executable kind sections).end
  pub read_only_up : (read_only kind sections).start ≤ (read_only kind sections).end
  pub image : (tls_image kind sections).start ≡ page_up (read_only kind sections).end
  pub tls_up : (tls_image kind sections).start ≤ (tls_image kind sections).end
  pub written : (initial_data kind sections).start ≡ page_up (tls_image kind sections).end
  pub initial : (initial_data kind sections).start ≤ (initial_data kind sections).end
  pub zeros : (zero_data kind sections).start ≡ (initial_data kind sections).end
  pub zero : (zero_data kind sections).start ≤ (zero_data kind sections).end

pub rise : (kind : ImageKind) (sections : List Section) → Rise kind sections
unfolding executable read_only tls_image initial_data zero_data
rise kind sections = record {
  base = refl;
  executable_up = end_of-rises Executable (base_of kind) sections;
  constants = refl;
  read_only_up = end_of-rises ReadOnly (read_only kind sections).start sections;
  image = refl;
  tls_up = end_of-rises (Tls true) (tls_image kind sections).start sections;
  written = refl;
  initial = end_of-rises (Writable true) (initial_data kind sections).start sections;
  zeros = refl;
  zero = end_of-rises (Writable false) (initial_data kind sections).end sections;
}

-- the classes rise from the base to the end of the last one
pub record Ascend (kind : ImageKind) (sections : List Section) : Type 0 where
  pub first : base_of kind ≤ (executable kind sections).end
  pub second : (executable kind sections).end ≤ (read_only kind sections).start
  pub third : (read_only kind sections).end ≤ (tls_image kind sections).start
  pub fourth : (tls_image kind sections).end ≤ (initial_data kind sections).start
  pub to_read_only : (executable kind sections).end ≤ (zero_data kind sections).end
  pub to_tls : (read_only kind sections).end ≤ (zero_data kind sections).end
  pub to_data : (tls_image kind sections).end ≤ (zero_data kind sections).end
  pub to_zero : (initial_data kind sections).end ≤ (zero_data kind sections).end

pub ascend : (kind : ImageKind) (sections : List Section) → Ascend kind sections
ascend kind sections =
    let r = rise kind sections in
    let p1 = page_up-above (executable kind sections).end in
    let p2 = page_up-above (read_only kind sections).end in
    let p3 = page_up-above (tls_image kind sections).end in
    record {
      first = omega (arith, r.base, r.executable_up);
      second = omega (arith, r.constants);
      third = omega (arith, r.image);
      fourth = omega (arith, r.written);
      to_read_only = omega (
        arith,
        r.constants,
        r.read_only_up,
        r.image,
        r.tls_up,
        r.written,
        r.initial,
        r.zeros,
        r.zero,
      );
      to_tls = omega (arith, r.image, r.tls_up, r.written, r.initial, r.zeros, r.zero);
      to_data = omega (arith, r.written, r.initial, r.zeros, r.zero);
      to_zero = omega (arith, r.zeros, r.zero);
    }

-- what ends past the limit makes the whole span too large
pub span_beyond : (kind : ImageKind) (sections : List Section) (base e : ℕ) → base ≡ base_of kind → base + 2 ^ 24 < e
    → e ≤ (zero_data kind sections).end
    → 2 ^ 24 < span kind sections
span_beyond kind sections base e b h le = omega arith

-- where each pass ends, it ends at or before the last one
pub before_last : (kind : ImageKind) (sections : List Section) (class : SectionClass) (p n : ℕ) (x : Extent)
    → extent_of class p sections ≡ x → x.end ≤ n → end_of class p sections ≤ n
before_last kind sections class p n x e le = let P : Extent → Type 0 = λ y. y.end ≤ n in subst P (sym e) le

pub limit_kept : (kind : ImageKind) (base n p : ℕ) → base ≡ base_of kind → n ≤ base + 2 ^ 24 → p ≡ page_up n
    → p ≤ base + 2 ^ 24
limit_kept kind base n p b le e = rw (e, b) (page_limit kind n (omega arith))
