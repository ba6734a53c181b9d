-- The inputs of a job's meaning: what is loaded of its images, the marks of their code, and which addresses are the
-- linker's own.
use Rattle.std.specs.Prelude.{ℕ, Bool, Option}
use Rattle.job_meaning.specs.declared.values.Byte.{Byte}
use Rattle.loaded_modules.specs.declared.instance.Instance.{Instance}
use Rattle.thread_blocks.specs.Instances.{Loads}
use Rattle.whole_meaning.specs.declared.marks.Mark.{Mark}
use Rattle.whole_meaning.specs.declared.sequences.Sequence.{Sequence}

pub record Meaning : Type 0 where
  pub loads : Loads Byte
  -- the mark of an address of an instance's code
  pub mark : Instance → ℕ → Mark
  -- the sequence that begins at an address of an instance's code, if one does
  pub sequence : Instance → ℕ → Option Sequence
  -- whether the linker may put what it makes for an instance at this address
  pub room : Instance → ℕ → Bool
