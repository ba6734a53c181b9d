-- A memory some of whose bytes are closed.
use Rattle.std.specs.Prelude.{ℕ, Bool, true, false, Result, Err}
use Rattle.guest_operands.specs.Access.{Accesses, Refusal, Shut}

-- an access, unless its byte is closed
abbrev pub unless_shut : {A : Type 0} → Bool → Result A Refusal → Result A Refusal
unless_shut true access = Err Shut
unless_shut false access = access

-- the same memory with some bytes closed
abbrev pub closed : {M B : Type 0} → (M → ℕ → Bool) → Accesses M B → Accesses M B
closed shut acc = record {
  byte = λ memory place. unless_shut (shut memory place) (acc.byte memory place);
  writes = λ memory place. unless_shut (shut memory place) (acc.writes memory place);
  put = acc.put;
  code = acc.code;
}
