-- Which bytes are a proper prefix of a spelling.
use Rattle.std.specs.Prelude.{ℕ, ◌+◌, Bool, false, List, length, Ok, Err, nat_lt, nat_le}
use Rattle.std.specs.Prelude.{if◌then◌else◌}
use Rattle.amd64_subset.specs.declared.fault.Fault.TheVariants.{Short, Wrong}
use Rattle.amd64_subset.specs.declared.meaning.Body.{Body}
use Rattle.amd64_subset.specs.Reading.{Read}
use Rattle.amd64_subset.specs.Decoding.{instruction_at}

-- with this many bytes read, some are missing, and there is room for them
abbrev pub has_room : ℕ → Read Body → Bool
has_room len (Err (Short missing)) = nat_le (len + missing) 15
has_room len (Err Wrong) = false
has_room len (Ok read) = false

-- the same as a function of the list
unfoldable pub begins_of : List ℕ → Bool
begins_of bytes = if nat_lt (length bytes) 15 then has_room (length bytes) (instruction_at bytes) else false
