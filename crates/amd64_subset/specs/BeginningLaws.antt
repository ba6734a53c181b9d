-- Bytes that begin a spelling, as laws say it.
use Rattle.std.specs.Prelude.{◌≡◌, ℕ, ◌<◌, true, List, ◌++◌, length, nat_lt}
use Rattle.std.specs.List.{list_all}
use Rattle.amd64_subset.specs.declared.instr.Decoded.{Decoded}
use Rattle.amd64_subset.specs.Spelling.{Spells}

-- the bytes are a proper prefix of a spelling: with some more they spell an instruction
pub record BeginsSpelling (bytes : List ℕ) : Type 0 where
  pub more : List ℕ
  pub decoded : Decoded
  pub some : 0 < length more
  pub are_bytes : list_all (λ byte. nat_lt byte 256) more ≡ true
  pub spells : Spells (bytes ++ more) decoded
