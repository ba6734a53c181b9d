-- A thread's memory: its stack, its own blocks, and the bytes that can be read or run and that no thread writes.
use Rattle.std.specs.Prelude.{◌≡◌, ℕ, ◌-◌, Bool, true, false, List, [], ◌∷◌, ◌++◌, slice_set, ok_or, option_and_then}
use Rattle.std.specs.Prelude.{if◌then◌else◌}
use Rattle.guest_operands.specs.declared.space.Access.TheVariants.{Read, Write, Run}
use Rattle.guest_machine.specs.Access.{Refused, Accesses, reached}
use Rattle.guest_machine.specs.Ranges.{Range, AddressSpace, grants, byte_in, with_byte}
use Rattle.guest_machine.specs.Run.{Next, Goes, Ends, Looks, Outcome, Ended, Waits, Stepping}
use Rattle.guest_arithmetic.specs.Values.{Operations}

-- E: an event, B: a byte
pub record Space (E B : Type 0) : Type 0 where
  -- the events at the thread's last look
  pub seen : List E
  -- the stack's bytes, from an address on that never changes
  pub stack : List B
  -- the thread's TLS blocks
  pub own : List (Range B)

abbrev pub stack_range : {B : Type 0} → ℕ → List B → Range B
stack_range start stack = record { start = start; bytes = stack; readable = true; writable = true; runnable = false }

-- start: where the stack begins; fixed: the ranges after these events that no thread writes
module _ {E B : Type 0} (start : ℕ) (fixed : List E → List (Range B)) where
  -- all ranges of the thread; the first one that allows an access decides
  abbrev pub ranges_of : Space E B → List (Range B)
  ranges_of space = stack_range start space.stack ∷ (space.own ++ fixed space.seen)

  abbrev pub address_space_of : Space E B → AddressSpace B
  address_space_of space = record { ranges = ranges_of space; fields = [] }

-- a byte written to the stack, or else to a block
abbrev pub put_byte : {E B : Type 0} → ℕ → Space E B → ℕ → B → Space E B
put_byte start space place byte =
    if grants Write (stack_range start space.stack) place
    then record space { stack = slice_set space.stack (place - start) byte }
    else record space { own = with_byte space.own place byte }

-- the accesses that such a memory offers
unfoldable pub space_accesses : {W F E B : Type 0} → Operations W F B → ℕ → (List E → List (Range B))
    → Accesses (Space E B) B
space_accesses ops start fixed = record {
  byte = λ space place. ok_or (byte_in Read (ranges_of start fixed space) place) Refused;
  writes = λ space place. reached (λ byte. tt) (ok_or (byte_in Write (ranges_of start fixed space) place) Refused);
  put = λ space place byte. put_byte start space place byte;
  code = λ space place. option_and_then ops.code (byte_in Run (ranges_of start fixed space) place);
}

-- no offset field begins anywhere
abbrev pub no_field : {M : Type 0} → M → ℕ → Bool
no_field memory place = false

-- ---- one memory as the image of another

module _ {S S' : Type 0} (image : S → S') where
  abbrev pub next_image : Next S → Next S'
  next_image (Goes s) = Goes (image s)
  next_image (Ends stop) = Ends stop
  next_image (Looks s) = Looks (image s)

  abbrev pub outcome_image : Outcome S → Outcome S'
  outcome_image (Ended stop n s) = Ended stop n (image s)
  outcome_image (Waits n s) = Waits n (image s)

  -- each step of the one is a step of the other from its image
  pub record IsRunImage (x : Stepping S) (y : Stepping S') : Type 0 where
    pub over : (s : S) → y.over (image s) ≡ x.over s
    pub step : (s : S) → y.step (image s) ≡ next_image (x.step s)
    pub spent : (s : S) → y.spent (image s) ≡ x.spent s
