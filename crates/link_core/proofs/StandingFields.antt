-- What the fields of relocations make of a byte of a section.
use Rattle.std.proofs.Common.{◌≡◌, ◌+◌, ◌<◌, ◌≤◌, ◌&&◌, ◌∙◌, ℕ, Bool, true, false, not, List, Option, Some, None}
use Rattle.std.proofs.Common.{IsSome, length, inl, inr, refl, sym, ap, subst, arith}
use Rattle.std.specs.Prelude.{fold, nat_le, nat_lt, slice_get, unwrap_or, if◌then◌else◌}
use Rattle.std.specs.List.{Contains, find}
use Rattle.std.proofs.lemmas.Bool.{cases_lt}
use Rattle.std.proofs.lemmas.Bool.Decides.{nat_tests}
use Rattle.std.proofs.lemmas.Option.{same_Some, slice_get-get_or}
use Rattle.elf_object.specs.declared.relocation.Relocation.{Relocation}
use Rattle.elf_object.specs.Laws.{class_in_table, table_of_kept}
use Rattle.elf_object.specs.Lent.{kept_relocation_table, relocations, section_size}
use Rattle.elf_object.specs.Relocations.{field_width}
use Rattle.sequence_match.specs.Code.{AreApart}
use Rattle.sequence_match.specs.Sites.{Covers}
use Rattle.sequence_match.proofs.Sections.{fields_apart, target_of_table}
use Rattle.tls_relocs.specs.declared.fields.Field.{Field}
use Rattle.tls_relocs.specs.declared.fields.Field.TheVariants.{Empty}
use Rattle.tls_relocs.specs.Fields.{field_bytes}
use Rattle.tls_symbols.specs.Faults.{held_in}
use Rattle.link_needs.specs.Linking.{Linking, object}
use Rattle.link_core.specs.Bytes.{with_field, with_value}
use Rattle.link_tables.specs.Faults.{Links, Overflows}
use Rattle.link_needs.specs.Given.{IsGiven}
use Rattle.link_core.specs.Meant.{field_byte, is_in_field}
use Rattle.link_needs.specs.Values.{field, is_replaced}
use Rattle.link_core.proofs.GotRelocationsSites.{held_of}
use Rattle.link_core.proofs.LengthsKept.{IsExact, field_exact, field_few}
use Rattle.link_core.proofs.LengthsInside.{field_fits, is_object, is_relocated, table_some}
use Rattle.link_core.proofs.StandingSteps.{Has, Writes, byte_of, inside_is, one_writes, outside_is}
use Rattle.link_core.proofs.StandingSteps.{splice_fills, splice_leaves}

-- two that share a byte are one
pub shared : (xs : List Relocation) (x y : Relocation) (k : ℕ) → AreApart xs → Contains xs x → Contains xs y
    → Covers x k → Covers y k → y ≡ x
shared xs x y k apart first next covers again = elim (cases_lt first.0 next.0) [
  | inl less ↦ absurd (apart first.0 next.0 k x y (entry x first) (entry y next) less covers again)
  | inr most ↦ elim (cases_lt next.0 first.0) [
    | inl less ↦ absurd (apart next.0 first.0 k y x (entry y next) (entry x first) less again covers)
    | inr least ↦
        let here : next.0 ≡ first.0 = omega arith in
        let there : Some y ≡ Some x = sym (entry y next) ∙ ap (slice_get xs) here ∙ entry x first in
        same_Some y x there
  ]
]
  where
    entry : (z : Relocation) (has : Contains xs z) → slice_get xs has.0 ≡ Some z
    entry z has = slice_get-get_or xs has.0 z has.1 ∙ ap Some has.2

-- what the test of a field says
covers_true : (a e k : ℕ) (s : Bool) → ((nat_le a k && nat_lt k e) && not s) ≡ true → (a ≤ k) × (k < e)
covers_true a e k s h = grind (arith, nat_tests)

module _ (l : Linking) (given : IsGiven l) (links : Links l) (o t k : ℕ) (there : o < length l.objects) where
  abbrev b : List ℕ
  b = object l o

  abbrev rs : List Relocation
  rs = relocations (object l o) t

  -- every field that holds its value is as wide as its type says
  exact : (r : Relocation) → IsExact (field_width r.kind) (field l o t r)
  unfolding field
  exact r = field_exact r.kind _ r.addend _ _

  -- every field holds its value
  field_some : (r : Relocation) → Contains rs r → is_replaced l o r ≡ false → IsSome (field l o t r)
  field_some r has own = of_value (field l o t r) refl
    where
      s : ℕ
      s = kept_relocation_table b t

      table : 0 < s
      table = (table_some b s r has).0

      some : 0 < t
      some =
          let found = is_relocated b (is_object l o given there) t r has in
          let is = found.class_is in
          (class_in_table b t (rw is refl)).0

      fault : field l o t r ≡ None → Overflows l o s has.0
      fault none =
          let target = target_of_table b t table in
          let entry : slice_get (held_in b s) has.0 ≡ Some r =
          ap (λ xs. slice_get xs has.0) (held_of b t s some target)
          ∙ slice_get-get_or rs has.0 r has.1 ∙ ap Some has.2 in
          (there, table, (table_of_kept b t table).1.0.1, rw (entry, target, none) (own, refl))

      of_value : (value : Option Field) → field l o t r ≡ value → IsSome value
      of_value None e = absurd (links.fits o s has.0 (fault e))
      of_value (Some value) e = refl

  -- the byte of a field
  abbrev field_value : Relocation → ℕ
  field_value r = field_byte l o t k (Some r) 0

  -- what one makes of the byte
  each_field : (r : Relocation) → Contains rs r
      → Writes (section_size (object l o) t) k field_value (is_in_field l o k) (with_field l o t) r
  each_field r has byte now was =
      of_tests (nat_le r.offset k && nat_lt k (r.offset + field_width r.kind)) (is_replaced l o r) refl refl
    where
      n : ℕ
      n = section_size (object l o) t

      bytes : List ℕ
      bytes = field_bytes (unwrap_or (field l o t r) Empty)

      fits : r.offset + field_width r.kind ≤ n
      fits = field_fits l o t r given there has

      few : length bytes ≤ field_width r.kind
      few = field_few l o t r

      of_tests : (c x : Bool) → (nat_le r.offset k && nat_lt k (r.offset + field_width r.kind)) ≡ c
          → is_replaced l o r ≡ x
          → Has n k (if c && not x then field_byte l o t k (Some r) 0 else byte)
          (if x then now else with_value r.offset (field l o t r) now)
      of_tests true true covers e = was
      of_tests false true covers e = was
      of_tests true false covers e =
          let within = inside_is r.offset (r.offset + field_width r.kind) k covers in
          let long : length bytes ≡ field_width r.kind = exact r (field_some r has e) in
          splice_fills n k r.offset bytes (omega (arith, fits, few)) within.0 (omega (arith, within.1, long)) now was.0
      of_tests false false covers e =
          splice_leaves n k r.offset bytes (omega (arith, fits, few))
          (outside_is r.offset (field_width r.kind) (length bytes) k few covers) byte now was

  -- one alone has the byte
  field_alone : (x y : Relocation) → Contains rs x → Contains rs y → is_in_field l o k x ≡ true
      → is_in_field l o k y ≡ true → y ≡ x
  field_alone x y has among first again =
      shared rs x y k (fields_apart b (is_object l o given there) t) has among
      (covers_true x.offset (x.offset + field_width x.kind) k (is_replaced l o x) first)
      (covers_true y.offset (y.offset + field_width y.kind) k (is_replaced l o y) again)

  -- what all of them make of it
  pub fields_write : (byte : ℕ) (now : List ℕ) → Has (section_size (object l o) t) k byte now
      → Has (section_size (object l o) t) k
      (field_byte l o t k (find (is_in_field l o k) (relocations (object l o) t)) byte)
      (fold (with_field l o t) now (relocations (object l o) t))
  fields_write byte now was =
      subst (λ x. Has (section_size b t) k x (fold (with_field l o t) now rs)) (meant (find (is_in_field l o k) rs))
      (one_writes (section_size b t) k field_value (is_in_field l o k) (with_field l o t) rs field_alone each_field byte
      now was)
    where
      meant : (found : Option Relocation) → byte_of field_value found byte ≡ field_byte l o t k found byte
      meant None = refl
      meant (Some r) = refl
