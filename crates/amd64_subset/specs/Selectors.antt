-- ModRM and SIB: which operands they select, and what follows them (Intel's manual, volume 2, 2.1.3 to 2.1.5, tables
-- 2-2 and 2-3).
use Rattle.std.specs.Prelude.{ℕ, ◌+◌, ◌/◌, ◌%◌, Bool, true, false, List, [], ◌∷◌, Option, Some, None, Ok, Err}
use Rattle.std.specs.Prelude.{is_some, unwrap_or, ok_or, option_and_then, not, nat_lt, ◌&&◌, ◌||◌, ◌==◌, if◌then◌else◌}
use Rattle.amd64_words.specs.declared.register.Register.{Register}
use Rattle.amd64_subset.specs.declared.operand.Base.{Base}
use Rattle.amd64_subset.specs.declared.operand.Base.TheVariants as base
use Rattle.amd64_subset.specs.declared.operand.Scale.{Scale}
use Rattle.amd64_subset.specs.declared.operand.Scale.TheVariants as scale
use Rattle.amd64_subset.specs.declared.operand.Index.{Index}
use Rattle.amd64_subset.specs.declared.operand.Memory.{Memory}
use Rattle.amd64_subset.specs.declared.operand.Operand.{Operand}
use Rattle.amd64_subset.specs.declared.operand.Operand.TheVariants as operand
use Rattle.amd64_subset.specs.declared.fault.Fault.TheVariants.{Short, Wrong}
use Rattle.amd64_subset.specs.declared.prefix.Prefixes.{Prefixes}
use Rattle.amd64_words.specs.declared.size.Size.{Size}
use Rattle.amd64_words.specs.declared.size.Size.TheVariants as size
use Rattle.amd64_subset.specs.declared.row.Row.{Row}
use Rattle.amd64_subset.specs.declared.row.Action.{Action}
use Rattle.amd64_subset.specs.declared.row.Action.TheVariants.{StoreByte, LoadAddress, ExtendByte}
use Rattle.amd64_subset.specs.declared.selectors.Selectors.{Selectors}
use Rattle.amd64_subset.specs.Number.{count_of}
use Rattle.amd64_subset.specs.Register.{extended}
use Rattle.amd64_subset.specs.Prefix.{bits_of}
use Rattle.amd64_subset.specs.Row.{action_of}
use Rattle.amd64_subset.specs.Reading.{Read, ◌>>=◌}

-- a SIB byte follows: the operand lies in memory, and 100 stands in place of a base
abbrev pub has_sib : ℕ → Bool
has_sib modrm = not (modrm / 64 == 3) && (modrm % 8 == 4)

-- the least number of displacement bytes that follow
abbrev pub least_displacement : ℕ → ℕ
least_displacement modrm = if modrm / 64 == 1 then 1 else if modrm / 64 == 2 then 4 else 0

-- The low byte of the register with these three bits can be an operand: without REX, 4 to 7 would be %ah to %bh.
abbrev pub byte_register : Prefixes → ℕ → Bool
byte_register prefixes low = nat_lt low 4 || is_some prefixes.rex

-- the action may have a register as its operand
abbrev pub allows_register : Action → Prefixes → ℕ → Bool
allows_register StoreByte prefixes low = false
allows_register LoadAddress prefixes low = false
allows_register ExtendByte prefixes low = byte_register prefixes low
allows_register action prefixes low = true

-- the action may have a memory operand beside the register with these three bits
abbrev pub allows_memory : Action → Prefixes → ℕ → Bool
allows_memory StoreByte prefixes low = byte_register prefixes low
allows_memory action prefixes low = true

-- the action may have these operands
unfoldable pub allowed : Action → Prefixes → ℕ → Bool
allowed action prefixes modrm =
    if modrm / 64 == 3 then not prefixes.thread_pointer && allows_register action prefixes (modrm % 8)
    else allows_memory action prefixes ((modrm / 8) % 8)

-- the size of the displacement that follows
unfoldable pub displacement_size : Selectors → Size
displacement_size selectors =
    if selectors.modrm / 64 == 1 then size.One
    else if selectors.modrm / 64 == 2 then size.Four
    else if selectors.modrm / 64 == 3 then size.Zero
    else if unwrap_or selectors.sib selectors.modrm % 8 == 5 then size.Four
    else size.Zero

abbrev pub register_in : Prefixes → Selectors → Register
register_in prefixes selectors = extended ((selectors.modrm / 8) % 8) (bits_of prefixes).register

-- the base that ModRM names, or SIB if there is one; in mode 0, 101 means no register
abbrev pub base_in : ℕ → Bool → Option ℕ → Base
base_in modrm high None =
    if (modrm / 64 == 0) && (modrm % 8 == 5) then base.NextInstruction else base.Register (extended (modrm % 8) high)
base_in modrm high (Some sib) =
    if (modrm / 64 == 0) && (sib % 8 == 5) then base.Absolute else base.Register (extended (sib % 8) high)

abbrev pub scale_of : ℕ → Scale
scale_of number =
    if number == 0 then scale.One
    else if number == 1 then scale.Two
    else if number == 2 then scale.Four
    else scale.Eight

-- the index that a SIB byte names; 100 without REX.X means none
abbrev pub index_of : ℕ → Bool → Option Index
index_of sib high =
    if ((sib / 8) % 8 == 4) && not high
    then None
    else Some (record { register = extended ((sib / 8) % 8) high; scale = scale_of (sib / 64) })

-- the memory operand that modes 0 to 2 name
unfoldable pub memory_in : Prefixes → Selectors → Memory
memory_in prefixes selectors = record {
  from_thread_pointer = prefixes.thread_pointer;
  base = base_in selectors.modrm (bits_of prefixes).base selectors.sib;
  index = option_and_then (λ sib. index_of sib (bits_of prefixes).index) selectors.sib;
}

-- the register or the memory operand that ModRM's rm field names
abbrev pub operand_in : Prefixes → Selectors → Operand
operand_in prefixes selectors =
    if selectors.modrm / 64 == 3 then operand.Register (extended (selectors.modrm % 8) (bits_of prefixes).base)
    else operand.InMemory (memory_in prefixes selectors)

unfoldable pub sib_at : ℕ → Size → List ℕ → Read (Option ℕ)
sib_at modrm behind bytes = if not (has_sib modrm) then Ok (None, bytes) else first bytes
  where
    first : List ℕ → Read (Option ℕ)
    first [] = Err (Short (1 + least_displacement modrm + count_of behind))
    first (sib ∷ rest) = Ok (Some sib, rest)

unfoldable pub selectors_at : Prefixes → Row → Size → List ℕ → Read (Action × Selectors)
selectors_at prefixes row behind [] = Err (Short (1 + count_of behind))
selectors_at prefixes row behind (modrm ∷ rest) = do
  action ← ok_or (action_of row ((modrm / 8) % 8)) Wrong
  if not (allowed action prefixes modrm) then Err Wrong else (do
    sib ← sib_at modrm behind rest
    Ok ((action, record { modrm = modrm; sib = sib.0 }), sib.1))
