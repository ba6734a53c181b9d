-- The program with local dynamic code and a descriptor, in both settings: what each place of it is, and that what is
-- loaded there is what is meant. Of the 29 places of its code each is computed, and of 8 bytes of its initial image.
use Rattle.std.proofs.Common.{◌≡◌, ◌∙◌, ◌+◌, ◌-◌, ◌&&◌, ◌||◌, ◌==◌, ◌⊎◌, ℕ, ℤ, Bool, true, false, Option, Some, None}
use Rattle.std.proofs.Common.{refl, sym, ap, inl, inr, arith}
use Rattle.std.specs.Prelude.{is_none, nat_lt, option_and_then}
use Rattle.std.proofs.lemmas.Bool.{agree_below, agree_below_at, and_parts, cases_Bool, eqb-true, le-ltb, ltb-true}
use Rattle.std.proofs.lemmas.Bool.{or_cases}
use Rattle.guest_machine.specs.Ranges.{byte_in}
use Rattle.guest_operands.specs.declared.space.Access.TheVariants.{Read, Run}
use Rattle.job_meaning.specs.declared.values.Byte.{Byte}
use Rattle.job_meaning.specs.declared.values.Byte.TheVariants.{Value, Hidden, Part}
use Rattle.job_meaning.specs.Marked.{code_byte}
use Rattle.link_needs.specs.Linking.{Linking}
use Rattle.object_faults.specs.declared.class.SectionClass.{SectionClass}
use Rattle.object_faults.specs.declared.class.SectionClass.TheVariants.{Executable}
use Rattle.thread_blocks.specs.SpaceLaws.{FoundAlike}
use Rattle.tied_meaning.specs.Codes.{AreBothThere, SameCodeByte}
use Rattle.tied_meaning.specs.Numbers.{SameByte}
use Rattle.whole_meaning.specs.declared.marks.Mark.{Mark}
use Rattle.whole_meaning.specs.declared.marks.Mark.TheVariants.{Usual, Offset, Address, Inside}
use Rattle.whole_meaning.specs.declared.sequences.Sequence.{Sequence}
use Rattle.whole_meaning.specs.Spots.{moved_spot, spot_in}
use Rattle.whole_meaning.specs.Code.{sequence_in, spot_mark}
use Rattle.closed_jobs.specs.LocalCode.{program, links}
use Rattle.closed_jobs.specs.LocalSites.{app, setting}
use Rattle.closed_jobs.proofs.LocalLoads.{m, q}
use Rattle.closed_jobs.proofs.LocalPlaces.{in_code, in_image, in_room, no_code, none_read, none_run, room_is}
use Rattle.closed_jobs.proofs.Ranges.{above_between, between}

-- ** outside of code nothing is marked, and no sequence begins

spot_outside : (relax : Bool) (address : ℕ) → in_code address ≡ false
    → spot_in (program relax) Executable address ≡ None
unfolding m
spot_outside true address e = rw e refl
spot_outside false address e = rw e refl

-- a program at fixed addresses is not moved
unmoved : (l : Linking) (class : SectionClass) (place : ℕ) → moved_spot l class 0 place ≡ spot_in l class place
unmoved l class place =
    let none : nat_lt place 0 ≡ false = le-ltb place 0 (omega arith) in
    let same : place - 0 ≡ place = omega arith in
    rw (none, same) refl

none_there : (relax : Bool) (place : ℕ) → in_code place ≡ false → moved_spot (program relax) Executable 0 place ≡ None
none_there relax place e = unmoved (program relax) Executable place ∙ spot_outside relax place e

mark_is : (relax : Bool) (place : ℕ)
    → (m relax).mark app place ≡ spot_mark (program relax) 0 (moved_spot (program relax) Executable 0 place)
unfolding m
mark_is relax place = refl

sequence_is : (relax : Bool) (place : ℕ) → (m relax).sequence app place
    ≡ option_and_then (sequence_in (links relax) 1 1 (program relax) place)
    (moved_spot (program relax) Executable 0 place)
unfolding m
sequence_is relax place = refl

mark_outside : (relax : Bool) (place : ℕ) → in_code place ≡ false → (m relax).mark app place ≡ Usual
mark_outside relax place e = mark_is relax place ∙ ap (spot_mark (program relax) 0) (none_there relax place e)

sequence_outside : (relax : Bool) (place : ℕ) → in_code place ≡ false → (m relax).sequence app place ≡ None
sequence_outside relax place e = sequence_is relax place
    ∙ ap (option_and_then (sequence_in (links relax) 1 1 (program relax) place)) (none_there relax place e)

-- ** the bytes of code, in each place of it

abbrev are_both_there : Option ℕ → Option ℕ → Bool
are_both_there None a' = false
are_both_there (Some a) None = false
are_both_there (Some a) (Some a') = true

abbrev is_same_byte : Option ℕ → Option ℕ → Bool
is_same_byte None None = true
is_same_byte None (Some a') = false
is_same_byte (Some a) None = false
is_same_byte (Some a) (Some a') = a' == a

-- `SameCodeByte`, as a test
abbrev is_same_code : Mark → Option ℕ → Option ℕ → Bool
is_same_code Usual a a' = is_same_byte a a'
is_same_code (Offset number byte) a a' = nat_lt byte 4 && are_both_there a a'
is_same_code (Address number addend byte) a a' = nat_lt byte 4 && are_both_there a a'
is_same_code Inside a a' = are_both_there a a'

both_there : (a a' : Option ℕ) → are_both_there a a' ≡ true → AreBothThere a a'
both_there None a' e = absurd cc
both_there (Some a) None e = absurd cc
both_there (Some a) (Some a') e = tt

same_byte : (a a' : Option ℕ) → is_same_byte a a' ≡ true → a' ≡ a
same_byte None None e = refl
same_byte None (Some a') e = absurd cc
same_byte (Some a) None e = absurd cc
same_byte (Some a) (Some a') e = ap Some (eqb-true a' a e)

same_code : (mark : Mark) (a a' : Option ℕ) → is_same_code mark a a' ≡ true → SameCodeByte mark a a'
same_code Usual a a' e = same_byte a a' e
same_code (Offset number byte) a a' e =
    let parts = and_parts (nat_lt byte 4) (are_both_there a a') e in
    (ltb-true byte 4 parts.0, both_there a a' parts.1)
same_code (Address number addend byte) a a' e =
    let parts = and_parts (nat_lt byte 4) (are_both_there a a') e in
    (ltb-true byte 4 parts.0, both_there a a' parts.1)
same_code Inside a a' e = both_there a a' e

meant_code : Bool → ℕ → Option ℕ
meant_code relax place = option_and_then code_byte (byte_in Run ((m relax).loads.fixed app) place)

fits_code : Bool → ℕ → Bool
fits_code relax place =
    is_same_code ((m relax).mark app place) (meant_code relax place) (byte_in Run ((q relax).fixed app) place)

code_fits : (relax : Bool) → agree_below (λ k. fits_code relax (0x400000 + k)) (λ k. true) 29 ≡ true
unfolding m q meant_code fits_code
code_fits true = refl
code_fits false = refl

-- a test that each place of code passes
in_all_code : (test : ℕ → Bool) → agree_below (λ k. test (0x400000 + k)) (λ k. true) 29 ≡ true → (place : ℕ)
    → in_code place ≡ true → test place ≡ true
in_all_code test all place inside =
    let b = between 0x400000 0x40001d place inside in
    let sum : 0x400000 + (place - 0x400000) ≡ place = omega (arith, b.0) in
    ap test (sym sum)
    ∙ agree_below_at (λ k. test (0x400000 + k)) (λ k. true) 29 (place - 0x400000) all (omega (arith, b.0, b.1))

pub code : (relax : Bool) (place : ℕ) → (m relax).room app place ≡ false
    → SameCodeByte ((m relax).mark app place)
    (option_and_then code_byte (byte_in Run ((m relax).loads.fixed app) place))
    (byte_in Run ((q relax).fixed app) place)
unfolding meant_code fits_code
code relax place not_room = elim (cases_Bool (in_code place)) [
  | inl inside ↦ same_code ((m relax).mark app place) (meant_code relax place) (byte_in Run ((q relax).fixed app) place)
      (in_all_code (fits_code relax) (code_fits relax) place inside)
  | inr not_here ↦
      let none = none_run relax place not_here (sym (room_is relax place) ∙ not_room) in
      rw (mark_outside relax place not_here, none.0, none.1) refl
]

-- ** the bytes of the initial image

number_in : Option Byte → Option ℕ
number_in None = None
number_in (Some (Value number)) = Some number
number_in (Some Hidden) = None
number_in (Some (Part token k)) = None

-- `FoundAlike` of values, as a test
abbrev is_found : Option Byte → Option ℕ → Bool
is_found None None = true
is_found None (Some b') = false
is_found (Some b) None = false
is_found (Some (Value number)) (Some b') = (b' == number) && nat_lt number 256
is_found (Some Hidden) (Some b') = false
is_found (Some (Part token k)) (Some b') = false

found_alike : (relax : Bool) (b : Option Byte) (b' : Option ℕ) → is_found b b' ≡ true
    → FoundAlike (SameByte (setting relax)) b b'
found_alike relax None None e = tt
found_alike relax None (Some b') e = absurd cc
found_alike relax (Some b) None e = absurd cc
found_alike relax (Some (Value number)) (Some b') e =
    let parts = and_parts (b' == number) (nat_lt number 256) e in
    (eqb-true b' number parts.0, ltb-true number 256 parts.1)
found_alike relax (Some Hidden) (Some b') e = absurd cc
found_alike relax (Some (Part token k)) (Some b') e = absurd cc

fits_image : Bool → ℕ → Bool
fits_image relax place =
    is_found (byte_in Read ((m relax).loads.fixed app) place) (byte_in Read ((q relax).fixed app) place)

image_fits : (relax : Bool) → agree_below (λ k. fits_image relax (0x401000 + k)) (λ k. true) 8 ≡ true
unfolding m q fits_image
image_fits true = refl
image_fits false = refl

pub reads : (relax : Bool) (place : ℕ) → (m relax).room app place ≡ false
    → FoundAlike (SameByte (setting relax)) (byte_in Read ((m relax).loads.fixed app) place)
    (byte_in Read ((q relax).fixed app) place)
unfolding fits_image
reads relax place not_room = elim (cases_Bool (in_image place)) [
  | inl inside ↦
      let b = between 0x401000 0x401008 place inside in
      let sum : 0x401000 + (place - 0x401000) ≡ place = omega (arith, b.0) in
      found_alike relax (byte_in Read ((m relax).loads.fixed app) place) (byte_in Read ((q relax).fixed app) place)
      (ap (fits_image relax) (sym sum) ∙ agree_below_at (λ k. fits_image relax (0x401000 + k)) (λ k. true) 8
      (place - 0x401000) (image_fits relax) (omega (arith, b.0, b.1)))
  | inr not_here ↦
      let none = none_read relax place not_here (sym (room_is relax place) ∙ not_room) in
      rw (none.0, none.1) tt
]

-- ** fields

-- all fields are one, of four bytes from 0x40000e on
abbrev is_of_field : ℕ → Mark → Bool
is_of_field place Usual = true
is_of_field place (Offset number byte) = (number == 4) && (place == 0x40000e + byte)
is_of_field place (Address number addend byte) = false
is_of_field place Inside = true

fits_field : Bool → ℕ → Bool
fits_field relax place = is_of_field place ((m relax).mark app place)

fields_fit : (relax : Bool) → agree_below (λ k. fits_field relax (0x400000 + k)) (λ k. true) 29 ≡ true
unfolding m fits_field
fields_fit true = refl
fields_fit false = refl

marked : (relax : Bool) (place : ℕ) → is_of_field place ((m relax).mark app place) ≡ true
unfolding fits_field
marked relax place = elim (cases_Bool (in_code place)) [
  | inl inside ↦ in_all_code (fits_field relax) (fields_fit relax) place inside
  | inr not_here ↦ rw (mark_outside relax place not_here) refl
]

pub offset_there : (relax : Bool) (place number byte : ℕ) → (m relax).mark app place ≡ Offset number byte
    → (number ≡ 4) × (place ≡ 0x40000e + byte)
offset_there relax place number byte e =
    let test : ((number == 4) && (place == 0x40000e + byte)) ≡ true = rw e at (marked relax place) in
    let parts = and_parts (number == 4) (place == 0x40000e + byte) test in
    (eqb-true number 4 parts.0, eqb-true place (0x40000e + byte) parts.1)

pub no_address : (relax : Bool) (place number byte : ℕ) (addend : ℤ)
    → (m relax).mark app place ≡ Address number addend byte → ⊥
no_address relax place number byte addend e = let test : false ≡ true = rw e at (marked relax place) in absurd cc

-- in the room nothing is code
pub room_unmarked : (relax : Bool) (place : ℕ) → (m relax).room app place ≡ true
    → (byte_in Run ((m relax).loads.fixed app) place ≡ None) × ((m relax).mark app place ≡ Usual)
room_unmarked relax place e =
    let inside : in_room place ≡ true = sym (room_is relax place) ∙ e in
    let b = between 0x402000 0x4400000 place inside in
    let not_here : in_code place ≡ false = above_between 0x400000 0x40001d place (omega (arith, b.0)) in
    (no_code relax place inside, mark_outside relax place not_here)

-- ** sequences

-- one begins at three places
abbrev is_begin : ℕ → Bool
is_begin place = (place == 0x400000) || ((place == 0x400013) || (place == 0x40001a))

abbrev begins_there : ℕ → Option Sequence → Bool
begins_there place found = is_begin place || is_none found

fits_sequence : Bool → ℕ → Bool
fits_sequence relax place = begins_there place ((m relax).sequence app place)

sequences_fit : (relax : Bool) → agree_below (λ k. fits_sequence relax (0x400000 + k)) (λ k. true) 29 ≡ true
unfolding m fits_sequence
sequences_fit true = refl
sequences_fit false = refl

abbrev pub BeginsThere : ℕ → Type 0
BeginsThere place = (place ≡ 0x400000) ⊎ ((place ≡ 0x400013) ⊎ (place ≡ 0x40001a))

begins : (place : ℕ) (s : Sequence) (o : Option Sequence) → o ≡ Some s → begins_there place o ≡ true → BeginsThere place
begins place s o e test = elim (or_cases (is_begin place) (is_none o) test) [
  | inl there ↦ elim (or_cases (place == 0x400000) ((place == 0x400013) || (place == 0x40001a)) there) [
    | inl first ↦ inl (eqb-true place 0x400000 first)
    | inr more ↦ elim (or_cases (place == 0x400013) (place == 0x40001a) more) [
      | inl second ↦ inr (inl (eqb-true place 0x400013 second))
      | inr third ↦ inr (inr (eqb-true place 0x40001a third))
    ]
  ]
  | inr none ↦ let no : false ≡ true = rw e at none in absurd cc
]

pub sequence_places : (relax : Bool) (place : ℕ) (s : Sequence) → (m relax).sequence app place ≡ Some s
    → BeginsThere place
unfolding fits_sequence
sequence_places relax place s e = elim (cases_Bool (in_code place)) [
  | inl inside ↦ begins place s ((m relax).sequence app place) e
      (in_all_code (fits_sequence relax) (sequences_fit relax) place inside)
  | inr not_here ↦ let no : None ≡ Some s = sym (sequence_outside relax place not_here) ∙ e in absurd cc
]
