-- Reading an instruction from left to right.
use Rattle.std.specs.Prelude.{ℕ, ◌-◌, List, [], ◌∷◌, length, take, Option, Some, None, Ok, Err, ◌==◌, if◌then◌else◌}
use Rattle.amd64_subset.specs.declared.fault.Fault.TheVariants.{Short, Wrong}
use Rattle.amd64_subset.specs.declared.instr.Operation.TheVariants as operation
use Rattle.amd64_subset.specs.declared.instr.Decoded.{Decoded}
use Rattle.amd64_subset.specs.declared.prefix.Prefixes.{Prefixes}
use Rattle.amd64_words.specs.declared.size.Size.{Size}
use Rattle.amd64_words.specs.declared.size.Size.TheVariants as size
use Rattle.amd64_subset.specs.declared.row.Row.{Row}
use Rattle.amd64_subset.specs.declared.row.Row.TheVariants as row
use Rattle.amd64_subset.specs.declared.meaning.Body.{Body}
use Rattle.amd64_subset.specs.Prefix.{bits_of, least_opcode, least_escaped, prefixes_at}
use Rattle.amd64_subset.specs.Row.{row_of, escaped_row_of, takes}
use Rattle.amd64_subset.specs.Selectors.{displacement_size, selectors_at}
use Rattle.amd64_subset.specs.Meaning.{width_of, alone_body, numbered_body, operand_body}
use Rattle.amd64_subset.specs.Reading.{Read, ◌>>=◌, numbers_at}

-- the row that an opcode names, if it may follow the prefixes
abbrev pub accepted_at : Prefixes → Option Row → List ℕ → Read Row
accepted_at prefixes None rest = Err Wrong
accepted_at prefixes (Some row) rest = if takes row prefixes then Ok (row, rest) else Err Wrong

-- the three bytes after f3 in endbr64
unfoldable pub end_branch_at : Prefixes → List ℕ → Read Row
end_branch_at prefixes bytes = if takes row.EndBranch prefixes then three bytes else Err Wrong
  where
    three : List ℕ → Read Row
    three [] = Err (Short 3)
    three (a ∷ []) = if a == 0x0f then Err (Short 2) else Err Wrong
    three (a ∷ b ∷ []) = if a == 0x0f then (if b == 0x1e then Err (Short 1) else Err Wrong) else Err Wrong
    three (a ∷ b ∷ c ∷ rest) =
        if a == 0x0f
        then (if b == 0x1e then (if c == 0xfa then Ok (row.EndBranch, rest) else Err Wrong) else Err Wrong)
        else Err Wrong

unfoldable pub escaped_at : Prefixes → List ℕ → Read Row
escaped_at prefixes [] = Err (Short (least_escaped prefixes))
escaped_at prefixes (opcode ∷ rest) = accepted_at prefixes (escaped_row_of opcode) rest

unfoldable pub row_at : Prefixes → List ℕ → Read Row
row_at prefixes [] = Err (Short (least_opcode prefixes))
row_at prefixes (opcode ∷ rest) =
    if opcode == 0x0f then escaped_at prefixes rest
    else if opcode == 0xf3 then end_branch_at prefixes rest
    else accepted_at prefixes (row_of (bits_of prefixes) opcode) rest

unfoldable pub operated_at : Prefixes → Row → Size → List ℕ → Read Body
operated_at prefixes row size bytes = do
  selected ← selectors_at prefixes row size bytes
  numbers ← numbers_at (displacement_size selected.0.1) size selected.1
  Ok (operand_body selected.0.0 prefixes selected.0.1 size numbers.0, numbers.1)

unfoldable pub body_at : Prefixes → Row → List ℕ → Read Body
body_at prefixes (row.Alone operation) bytes = Ok (alone_body operation, bytes)
body_at prefixes row.Nop bytes = Ok (alone_body (operation.Nop None), bytes)
body_at prefixes row.EndBranch bytes = Ok (alone_body (operation.Nop None), bytes)
body_at prefixes (row.Number action wide) bytes = do
  numbers ← numbers_at size.Zero wide bytes
  Ok (numbered_body action (width_of prefixes) wide numbers.0.immediate, numbers.1)
body_at prefixes (row.Register action) bytes = operated_at prefixes (row.Register action) size.Zero bytes
body_at prefixes (row.Group group wide) bytes = operated_at prefixes (row.Group group wide) wide bytes

-- one instruction, of any length, and the bytes after it
unfoldable pub instruction_at : List ℕ → Read Body
instruction_at bytes = do
  prefixes ← prefixes_at bytes
  row ← row_at prefixes.0 prefixes.1
  body_at prefixes.0 row.0 row.1

-- where a field begins that starts this many bytes before the end
abbrev pub before : ℕ → Option ℕ → Option ℕ
before end None = None
before end (Some back) = Some (end - back)

-- an instruction of this length
abbrev pub placed : ℕ → Body → Decoded
placed len body = record { instr = body.instr; len = len; disp = before len body.disp; imm = before len body.imm }

-- what was decoded from this many bytes
abbrev pub finished : ℕ → Read Body → Option Decoded
finished size (Err fault) = None
finished size (Ok read) = Some (placed (size - length read.1) read.0)

-- the instruction at the front of the bytes
unfoldable pub decoded : List ℕ → Option Decoded
decoded bytes = finished (length (take 15 bytes)) (instruction_at (take 15 bytes))
