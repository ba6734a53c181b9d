-- Why a step is unclean: the table of causes, a row for each, of a step where no sequence begins; and their order.
use Rattle.std.specs.Prelude.{◌≡◌, ◌⊎◌, ℕ, ◌<◌, ◌≤◌, ◌==◌, Bool, true, false, List, [], ◌∷◌, length, take, Option, Some}
use Rattle.std.specs.Prelude.{None}
use Rattle.std.specs.List.{list_any}
use Rattle.address_map.specs.Map.{return_place}
use Rattle.amd64_subset.specs.declared.instr.Decoded.{Decoded}
use Rattle.amd64_subset.specs.Beginning.{begins_of}
use Rattle.amd64_subset.specs.Decoding.{decoded}
use Rattle.guest_arithmetic.specs.declared.cause.Cause.{Cause}
use Rattle.guest_arithmetic.specs.declared.cause.Cause.TheVariants as cause
use Rattle.guest_operands.specs.declared.state.State.{State}
use Rattle.guest_operands.specs.Access.{Accesses, fetch_of}
use Rattle.job_meaning.specs.declared.values.Byte.{Byte}
use Rattle.job_meaning.specs.declared.values.Flag.{Flag}
use Rattle.job_meaning.specs.declared.values.Flag.TheVariants.{Truth, Unsettled}
use Rattle.job_meaning.specs.declared.values.Token.TheVariants.{Base, Descriptor}
use Rattle.job_meaning.specs.declared.values.Word.{Word}
use Rattle.job_meaning.specs.declared.values.Word.TheVariants.{Number, Undefined, Marked}
use Rattle.job_meaning.specs.Reading.{completed, place_at}
use Rattle.whole_meaning.specs.declared.marks.Mark.{Mark}
use Rattle.whole_meaning.specs.declared.marks.Mark.TheVariants.{Usual, Offset, Address, Inside}
use Rattle.cause_laws.specs.Operands.{allows, number_in}
use Rattle.cause_laws.specs.Steps.{places_of, used_flags, words_of}

-- ** values and marks by their kind

abbrev pub is_undefined : Word → Bool
is_undefined (Number number) = false
is_undefined Undefined = true
is_undefined (Marked token) = false

abbrev pub is_base : Word → Bool
is_base (Number number) = false
is_base Undefined = false
is_base (Marked (Base block)) = true
is_base (Marked (Descriptor instance symbol)) = false

abbrev pub is_descriptor : Word → Bool
is_descriptor (Number number) = false
is_descriptor Undefined = false
is_descriptor (Marked (Base block)) = false
is_descriptor (Marked (Descriptor instance symbol)) = true

abbrev pub is_undefined_flag : Flag → Bool
is_undefined_flag (Truth truth) = false
is_undefined_flag Unsettled = true

abbrev pub is_of_sequence : Mark → Bool
is_of_sequence Usual = false
is_of_sequence (Offset number byte) = false
is_of_sequence (Address number addend byte) = false
is_of_sequence Inside = true

abbrev pub is_of_field : Mark → Bool
is_of_field Usual = false
is_of_field (Offset number byte) = true
is_of_field (Address number addend byte) = true
is_of_field Inside = false

-- ** the table

module _ {M : Type 0} (acc : Accesses M Byte) (state : State Word Flag) (memory : M) where
  -- the bytes of code from the thread's place on, and the instruction that they begin with
  abbrev pub fetched : List ℕ
  fetched = fetch_of acc memory state.place

  abbrev pub instruction : Option Decoded
  instruction = decoded fetched

module _ (mark : ℕ → Mark) (state : State Word Flag) where
  -- an instruction may cover byte k, where it has this mark
  abbrev pub is_covered : Option Decoded → ℕ → Mark → Bool
  is_covered it k Usual = true
  is_covered None k met = false
  is_covered (Some it) k met = allows mark state it k met

-- bytes: those of code from the thread's place on
module _ (mark : ℕ → Mark) (state : State Word Flag) (bytes : List ℕ) where
  -- the bytes before byte k alone neither spell an instruction nor rule one out
  abbrev pub is_read_to : ℕ → Bool
  is_read_to k = begins_of (take k bytes)

  -- the instruction that the bytes spell, whatever stands in place of missing ones, may cover byte k
  abbrev pub may_cover : ℕ → Bool
  may_cover k = is_covered mark state (completed bytes) k (mark (place_at state.place k))

  -- reading stops before byte k: it is the first one asked for that may not be covered
  pub record StopsReading (k : ℕ) : Type 0 where
    pub within : k ≤ length bytes
    pub asked : is_read_to k ≡ true
    pub not_covered : may_cover k ≡ false
    pub before : (j : ℕ) → j < k → is_read_to j ≡ true → may_cover j ≡ true

-- left: whether a step is left
module _ {M : Type 0} (acc : Accesses M Byte) (mark : ℕ → Mark) (shut : ℕ → Bool) (state : State Word Flag) (memory : M)
    (left : Bool) where
  abbrev pub StopsAt : ℕ → Type 0
  StopsAt k = StopsReading mark state (fetched acc state memory) k

  abbrev pub read : Option Decoded
  read = instruction acc state memory

  -- the rows, of a step at the thread's place
  abbrev pub Stands : Cause → Type 0
  Stands cause.Inside = (k : ℕ) × (StopsAt k × (is_of_sequence (mark (place_at state.place k)) ≡ true))
  Stands cause.Field = (k : ℕ) × (StopsAt k × (is_of_field (mark (place_at state.place k)) ≡ true))
  Stands cause.Linker = (shut state.place ≡ true) ⊎ (list_any shut (places_of acc mark state memory read) ≡ true)
  Stands cause.Undefined = list_any is_undefined (words_of acc mark state memory read) ≡ true
  Stands cause.Flags = list_any is_undefined_flag (used_flags acc mark state memory read) ≡ true
  Stands cause.Base = list_any is_base (words_of acc mark state memory read) ≡ true
  Stands cause.Descriptor = list_any is_descriptor (words_of acc mark state memory read) ≡ true
  Stands cause.Answer = ⊥
  Stands cause.Steps = left ≡ false

  -- where the call has returned there is no step, and its answer is asked for
  abbrev pub StandsOver : Cause → Type 0
  StandsOver cause.Answer = number_in state.registers.rax ≡ None
  StandsOver why = ⊥

  abbrev pub RowIf : Bool → Cause → Type 0
  RowIf true why = StandsOver why
  RowIf false why = Stands why

  -- the call has returned where the thread is at the address to which it returns
  abbrev pub Row : Cause → Type 0
  Row why = RowIf (state.place == return_place) why

-- ** the order

abbrev pub order : List Cause
order = cause.Inside ∷ cause.Field ∷ cause.Linker ∷ cause.Undefined ∷ cause.Flags ∷ cause.Base ∷ cause.Descriptor
    ∷ cause.Answer ∷ cause.Steps ∷ []

-- a cause is the first in a list whose row holds
abbrev pub IsFirst : (Cause → Type 0) → List Cause → Cause → Type 0
IsFirst Row [] why = ⊥
IsFirst Row (first ∷ more) why = (Row first × (first ≡ why)) ⊎ ((Row first → ⊥) × IsFirst Row more why)
