-- How large things may be.
use Rattle.std.proofs.Common.{◌<◌, ◌≤◌, ℕ, List, inl, inr, refl, arith}
use Rattle.std.proofs.Math.Pow.{pow_mono}
use Rattle.elf_records.specs.Alignments.{IsAlignment}
use Rattle.elf_records.specs.declared.program_header.Segment.{Segment}
use Rattle.image_faults.specs.Segments.{IsRightTls}
use Rattle.guest_operands.specs.Access.{fetch_of}
use Rattle.object_rules.specs.declared.fault.FaultKind.TheVariants.{TooLarge}
use Rattle.object_faults.specs.Classes.{IsKeptSection}
use Rattle.object_faults.specs.Faults.{Stands}
use Rattle.object_faults.specs.Parts.{IsTable, section}
use Rattle.constant_laws.specs.Sizes.{ImagesAreSmall, InstructionsAreShort, LinksAreSmall, ObjectsAreSmall}

no_more : (n : ℕ) → IsAlignment n → n ≤ 4096
no_more n is = let small = pow_mono is.1 in omega (arith, small, is.2)

long_section : (bytes : List ℕ) (s : ℕ) → IsKeptSection bytes s → 1048576 < (section bytes s).size
    → Stands TooLarge bytes s 0
unfolding Stands
long_section bytes s kept long = (refl, inl (kept, omega (arith, long)))

long_table : (bytes : List ℕ) (s : ℕ) → IsTable bytes s → 25165824 < (section bytes s).size → Stands TooLarge bytes s 0
unfolding Stands
long_table bytes s table long = (refl, inr (inl table, omega (arith, long)))

short_section : (bytes : List ℕ) (s : ℕ) → (section bytes s).size ≤ 1048576 → Stands TooLarge bytes s 0 → ⊥
unfolding Stands
short_section bytes s short stands = elim stands.1 [
  | inl long ↦ let above = long.1 in absurd (omega (arith, short, above))
  | inr long ↦ let above = long.1 in absurd (omega (arith, short, above))
]

short_table : (bytes : List ℕ) (s : ℕ) → (IsKeptSection bytes s → ⊥) → (section bytes s).size ≤ 25165824
    → Stands TooLarge bytes s 0 → ⊥
unfolding Stands
short_table bytes s dropped short stands = elim stands.1 [
  | inl long ↦ dropped long.0
  | inr long ↦ let above = long.1 in absurd (omega (arith, short, above))
]

pub objects_are : ObjectsAreSmall
objects_are = record {
  page = (12, omega arith, refl);
  no_more = no_more;
  long_section = long_section;
  short_section = short_section;
  long_table = long_table;
  short_table = short_table;
}

pub links_are : LinksAreSmall
links_are = record {
  ordinary = λ class size alignment. (λ is. is, λ is. is);
  lawful = λ p. (
    λ is. (is.ordinary, is.small_tls, is.small_span),
    λ is. record { ordinary = is.0; small_tls = is.1; small_span = is.2 },
  );
  crowded = λ l. (λ is. is, λ is. is);
}

storage : (bytes : List ℕ) (s : Segment) → IsRightTls bytes s
    → (s.memsz ≤ 1048576) × IsRightTls bytes (record s { memsz = 1048576 })
storage bytes s is = (
  is.3,
  (is.0, omega (arith, is.1, is.3), omega arith, omega arith, is.4, is.5, is.6),
)

pub images_are : ImagesAreSmall
images_are = record {
  range = λ bytes. (λ is. (is.0, is.1), λ is. (is.0, is.1, inl refl));
  storage = storage;
  info = λ info. (
    λ is. (is.small, is.aligned, is.page),
    λ is. record { small = is.0; aligned = is.1; page = is.2 },
  );
  infos = λ infos. (
    λ are. (are.some, are.few, are.each, are.late_last),
    λ are. record { some = are.0; few = are.1; late_last = are.3; each = are.2 },
  );
  legal = λ infos last_offset events. (
    λ is. (is.images, is.low, is.each),
    λ is. record { images = is.0; low = is.1; each = is.2 },
  );
  instances = refl;
  surplus = refl;
}

pub instructions_are : InstructionsAreShort
unfolding fetch_of
instructions_are memory place = refl
