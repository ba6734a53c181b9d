-- What stands before an opcode (Intel's manual, volume 2, 2.1.1 and 2.2.1).
use Rattle.std.specs.Prelude.{ℕ, ◌/◌, ◌%◌, Bool, true, false, List, [], ◌∷◌, Some, None, Ok, Err, is_none, unwrap_or}
use Rattle.std.specs.Prelude.{not, ◌&&◌, ◌||◌, ◌==◌, if◌then◌else◌}
use Rattle.amd64_subset.specs.declared.fault.Fault.TheVariants.{Short, Wrong}
use Rattle.amd64_subset.specs.declared.prefix.Rex.{Rex}
use Rattle.amd64_subset.specs.declared.prefix.Prefixes.{Prefixes}
use Rattle.amd64_subset.specs.Reading.{Read, ◌>>=◌}

-- the bits W, R, X, B of a byte from 0x40 to 0x4f
abbrev pub rex_of : ℕ → Rex
rex_of byte = record {
  wide = (byte / 8) % 2 == 1;
  register = (byte / 4) % 2 == 1;
  index = (byte / 2) % 2 == 1;
  base = byte % 2 == 1;
}

abbrev pub no_bits : Rex
no_bits = record { wide = false; register = false; index = false; base = false }

abbrev pub no_prefixes : Prefixes
no_prefixes = record { thread_pointer = false; operand_size = false; code_segment = false; rex = None }

-- the bits of REX, all clear if there is no REX
abbrev pub bits_of : Prefixes → Rex
bits_of prefixes = unwrap_or prefixes.rex no_bits

-- only a nop may follow
abbrev pub takes_only_nops : Prefixes → Bool
takes_only_nops prefixes = prefixes.code_segment || (prefixes.operand_size && not (bits_of prefixes).wide)

abbrev pub has_none : Prefixes → Bool
has_none prefixes =
    ((not prefixes.thread_pointer && not prefixes.operand_size) && not prefixes.code_segment) && is_none prefixes.rex

-- The least number of bytes still missing. Where REX may still come: 48 8b 00 after 64 and 66, 8b 00 after 64, 90
-- after 66 or 2e, c3.
abbrev pub least_opening : Prefixes → ℕ
least_opening prefixes = if prefixes.thread_pointer then (if prefixes.operand_size then 3 else 2) else 1

-- Where an opcode must come: 0f 1f 00, 8b 00, c3.
abbrev pub least_opcode : Prefixes → ℕ
least_opcode prefixes = if takes_only_nops prefixes then 3 else if prefixes.thread_pointer then 2 else 1

-- After 0f: 1f 00, b6 00, 0b.
abbrev pub least_escaped : Prefixes → ℕ
least_escaped prefixes = if takes_only_nops prefixes || prefixes.thread_pointer then 2 else 1

-- the prefixes before REX, added to those that were read
abbrev pub marks_at : Prefixes → List ℕ → Read Prefixes
marks_at prefixes [] = Ok (prefixes, [])
marks_at prefixes (byte ∷ rest) =
    if byte == 0x64 then
    (if prefixes.thread_pointer || prefixes.code_segment
    then Err Wrong
    else marks_at (record prefixes { thread_pointer = true }) rest)
    else if byte == 0x66 then marks_at (record prefixes { operand_size = true }) rest
    else if byte == 0x2e then
    (if prefixes.thread_pointer then Err Wrong else marks_at (record prefixes { code_segment = true }) rest)
    else Ok (prefixes, byte ∷ rest)

-- these prefixes, unless no instruction may have them
abbrev pub possible_at : Prefixes → List ℕ → Read Prefixes
possible_at prefixes rest =
    if prefixes.thread_pointer && takes_only_nops prefixes then Err Wrong else Ok (prefixes, rest)

unfoldable pub rex_at : Prefixes → List ℕ → Read Prefixes
rex_at marks [] = Err (Short (least_opening marks))
rex_at marks (first ∷ rest) =
    if first / 16 == 4
    then possible_at (record marks { rex = Some (rex_of first) }) rest
    else possible_at marks (first ∷ rest)

unfoldable pub prefixes_at : List ℕ → Read Prefixes
prefixes_at bytes = do
  marks ← marks_at no_prefixes bytes
  rex_at marks.0 marks.1
