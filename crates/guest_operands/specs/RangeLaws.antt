-- What a space does to bytes, as contracts and laws say it.
use Rattle.std.specs.Prelude.{◌≡◌, ℕ, ◌==◌, Bool, true, false, Option, Result, Ok, Err, ok_or, option_and_then}
use Rattle.std.specs.List.{list_any}
use Rattle.guest_operands.specs.declared.space.Access.TheVariants.{Read, Write, Run}
use Rattle.guest_operands.specs.declared.space.Size.{Size}
use Rattle.guest_operands.specs.Access.{Refusal, Refused, Accesses, reached, bytes_in, load_of, store_of}
use Rattle.guest_arithmetic.specs.Values.{Operations}
use Rattle.guest_operands.specs.Ranges.{AddressSpace, byte_in, with_byte}

-- the accesses that such a memory offers
unfoldable pub range_accesses : {W F B : Type 0} → Operations W F B → Accesses (AddressSpace B) B
range_accesses ops = record {
  byte = λ memory place. ok_or (byte_in Read memory.ranges place) Refused;
  writes = λ memory place. reached (λ byte. tt) (ok_or (byte_in Write memory.ranges place) Refused);
  put = λ memory place byte. record memory { ranges = with_byte memory.ranges place byte };
  code = λ memory place. option_and_then ops.code (byte_in Run memory.ranges place);
}

-- whether an offset field begins at a place
unfoldable pub is_field_of : {B : Type 0} → AddressSpace B → ℕ → Bool
is_field_of memory place = list_any (λ field. field == place) memory.fields

-- the result of a load, made or refused
abbrev pub Loads : {W F B : Type 0} → Operations W F B → Option W → AddressSpace B → ℕ → Size → Type 0
Loads ops result memory address size =
    ok_or result Refused ≡ load_of ops (range_accesses ops) memory address (bytes_in size)

-- the result of a store: done as defined, or refused with nothing changed
abbrev pub StoresAs : {M : Type 0} → Bool → M → M → Result M Refusal → Type 0
StoresAs true old new next = next ≡ Ok new
StoresAs false old new next = (next ≡ Err Refused) × (new ≡ old)

abbrev pub Stores : {W F B : Type 0} → Operations W F B → Bool → AddressSpace B → AddressSpace B → ℕ → Size → W → Type 0
Stores ops result old new address size word =
    StoresAs result old new (store_of ops (range_accesses ops) old address (bytes_in size) word)
