-- Which bytes spell an instruction: whole lists of bytes, by the parts that they consist of (Intel's manual, volume 2,
-- figure 2-1): prefixes, REX, opcode, ModRM, SIB, displacement, immediate.
use Rattle.std.specs.Prelude.{◌≡◌, ℕ, suc, ◌+◌, ◌/◌, ◌%◌, ◌<◌, ◌≤◌, Bool, true, List, [], ◌∷◌, ◌++◌, length, Option}
use Rattle.std.specs.Prelude.{Some, None, IfSome, is_some, ◌&&◌, ◌||◌, ◌==◌, if◌then◌else◌}
use Rattle.std.specs.Option.{option_map, option_to_list}
use Rattle.std.specs.List.{list_any, list_all}
use Rattle.amd64_subset.specs.declared.instr.Operation.TheVariants as operation
use Rattle.amd64_subset.specs.declared.instr.Decoded.{Decoded}
use Rattle.amd64_subset.specs.declared.prefix.Rex.{Rex}
use Rattle.amd64_subset.specs.declared.prefix.Prefixes.{Prefixes}
use Rattle.amd64_words.specs.declared.size.Size.{Size}
use Rattle.amd64_words.specs.declared.size.Size.TheVariants as size
use Rattle.amd64_subset.specs.declared.row.Row.{Row}
use Rattle.amd64_subset.specs.declared.row.Row.TheVariants as row
use Rattle.amd64_subset.specs.declared.row.Action.{Action}
use Rattle.amd64_subset.specs.declared.meaning.Body.{Body}
use Rattle.amd64_subset.specs.Number.{count_of, signed_of}
use Rattle.amd64_subset.specs.Prefix.{rex_of, bits_of}
use Rattle.amd64_subset.specs.Row.{row_of, escaped_row_of, takes, action_of}
use Rattle.amd64_subset.specs.Selectors.{has_sib, allowed, displacement_size}
use Rattle.amd64_subset.specs.Meaning.{width_of, alone_body, numbered_body, operand_body}
use Rattle.amd64_subset.specs.Decoding.{placed}

-- a prefix that stands before REX
abbrev pub is_mark : ℕ → Bool
is_mark byte = ((byte == 0x64) || (byte == 0x66)) || (byte == 0x2e)

-- how many FS prefixes there are
abbrev pub fs_count : List ℕ → ℕ
fs_count [] = 0
fs_count (byte ∷ bytes) = if byte == 0x64 then suc (fs_count bytes) else fs_count bytes

-- the prefixes, in any order, FS at most once
abbrev pub AreMarks : List ℕ → Type 0
AreMarks marks = (list_all is_mark marks ≡ true) × (fs_count marks ≤ 1)

-- the prefixes before the opcode
abbrev pub prefixes_of : List ℕ → Option ℕ → Prefixes
prefixes_of marks rex = record {
  thread_pointer = list_any (λ byte. byte == 0x64) marks;
  operand_size = list_any (λ byte. byte == 0x66) marks;
  code_segment = list_any (λ byte. byte == 0x2e) marks;
  rex = option_map rex_of rex;
}

-- the row of an opcode's own bytes
unfoldable pub named : Rex → List ℕ → Option Row
named rex (a ∷ []) = row_of rex a
named rex (a ∷ b ∷ []) = if a == 0x0f then escaped_row_of b else None
named rex (a ∷ b ∷ c ∷ d ∷ []) =
    if (((a == 0xf3) && (b == 0x0f)) && (c == 0x1e)) && (d == 0xfa) then Some row.EndBranch else None
named rex bytes = None

-- ModRM, SIB if ModRM calls for one, a displacement as long as they say, and an immediate of this size
pub record IsOperated (prefixes : Prefixes) (row : Row) (size : Size) (bytes : List ℕ) (body : Body) : Type 0 where
  pub modrm : ℕ
  pub sib : Option ℕ
  pub displacement : List ℕ
  pub immediate : List ℕ
  pub action : Action
  pub whole : bytes ≡ modrm ∷ (option_to_list sib ++ (displacement ++ immediate))
  pub action-is : action_of row ((modrm / 8) % 8) ≡ Some action
  pub allows : allowed action prefixes modrm ≡ true
  pub has_sib : is_some sib ≡ has_sib modrm
  pub displacement-length : length displacement ≡ count_of (displacement_size (record { modrm = modrm; sib = sib }))
  pub immediate-length : length immediate ≡ count_of size
  pub body-is : body ≡ operand_body action prefixes (record { modrm = modrm; sib = sib }) size (record {
    displacement = signed_of (displacement_size (record { modrm = modrm; sib = sib })) displacement;
    immediate = signed_of size immediate;
  })

-- what follows an opcode, row by row
abbrev pub HasBody : Prefixes → Row → List ℕ → Body → Type 0
HasBody prefixes (row.Alone operation) bytes body = (bytes ≡ []) × (body ≡ alone_body operation)
HasBody prefixes row.Nop bytes body = (bytes ≡ []) × (body ≡ alone_body (operation.Nop None))
HasBody prefixes row.EndBranch bytes body = (bytes ≡ []) × (body ≡ alone_body (operation.Nop None))
HasBody prefixes (row.Number action size) bytes body =
    (length bytes ≡ count_of size) × (body ≡ numbered_body action (width_of prefixes) size (signed_of size bytes))
HasBody prefixes (row.Register action) bytes body = IsOperated prefixes (row.Register action) size.Zero bytes body
HasBody prefixes (row.Group group size) bytes body = IsOperated prefixes (row.Group group size) size bytes body

-- the parts of an instruction: prefixes, REX, opcode, and what follows it
pub record HasParts (bytes : List ℕ) (body : Body) : Type 0 where
  pub marks : List ℕ
  pub rex : Option ℕ
  pub opcode : List ℕ
  pub row : Row
  pub rest : List ℕ
  pub whole : bytes ≡ marks ++ (option_to_list rex ++ (opcode ++ rest))
  pub are_marks : AreMarks marks
  pub is_rex : IfSome rex (λ byte. byte / 16 ≡ 4)
  pub row-is : named (bits_of (prefixes_of marks rex)) opcode ≡ Some row
  pub takes : takes row (prefixes_of marks rex) ≡ true
  pub has_body : HasBody (prefixes_of marks rex) row rest body

-- the bytes, at most 15, spell the instruction
pub record Spells (bytes : List ℕ) (decoded : Decoded) : Type 0 where
  pub body : Body
  pub short : length bytes ≤ 15
  pub parts : HasParts bytes body
  pub decoded-is : decoded ≡ placed (length bytes) body

-- a four-byte field that begins here lies within this many bytes, and not at their start
abbrev pub HasField : ℕ → ℕ → Type 0
HasField len at = (0 < at) × (at + 4 ≤ len)

-- an instruction has 1 to 15 bytes, and its fields lie in them
pub record IsPlaced (decoded : Decoded) : Type 0 where
  pub some : 0 < decoded.len
  pub most : decoded.len ≤ 15
  pub disp : IfSome decoded.disp (HasField decoded.len)
  pub imm : IfSome decoded.imm (HasField decoded.len)

-- the number in a four-byte field, sign-extended
abbrev pub field_of : List ℕ → ℕ
field_of bytes = signed_of size.Four bytes

-- the same instruction with another displacement, or with another immediate
abbrev pub with_displacement : ℕ → Decoded → Decoded
with_displacement number decoded = record decoded { instr = record decoded.instr { displacement = number } }

abbrev pub with_immediate : ℕ → Decoded → Decoded
with_immediate number decoded = record decoded { instr = record decoded.instr { immediate = number } }
