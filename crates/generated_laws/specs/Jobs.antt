-- The job that the generated text spells.
use Rattle.std.specs.Prelude.{ℕ, List, [], ◌∷◌, ◌++◌, codes, map}
use Rattle.std.specs.List.{range_with_len}
use Rattle.generated_job.specs.Generated.{function_name, object_name}
use Rattle.job_text.specs.Jobs.{JobParts}
use Rattle.job_text.specs.declared.thread_lines.Action.TheVariants.{Call, Open, Close, Peek}
use Rattle.job_text.specs.declared.thread_lines.ThreadLine.{ThreadLine}
use Rattle.link_faults.specs.declared.image_kind.ImageKind.TheVariants.{Exe, Late}

-- a call of a function of the program, and of the module's
abbrev pub program_call_line : ℕ → ThreadLine
program_call_line i = record { image = 1; action = Call (function_name i) 0 0 0 }

abbrev pub module_call_line : ℕ → ThreadLine
module_call_line i = record { image = 2; action = Call (codes "f") i 0 0 }

unfoldable pub opener_lines : ℕ → List ThreadLine
opener_lines n = record { image = 2; action = Open } ∷ map program_call_line (range_with_len 1 n)

unfoldable pub closer_lines : ℕ → List ThreadLine
closer_lines n =
    map module_call_line (range_with_len 1 n)
    ++ (record { image = 2; action = Peek (codes "v") 4 } ∷ record { image = 2; action = Close } ∷ [])

-- the program and the module, and the lines of two threads
unfoldable pub generated_parts : ℕ → JobParts
generated_parts n = record {
  images =
      record { name = codes "app"; kind = Exe; objects = map object_name (range_with_len 1 n) }
      ∷ record { name = codes "plug"; kind = Late; objects = codes "p.o" ∷ [] } ∷ [];
  mentions = 1 ∷ 2 ∷ [];
  fuel = 100000;
  order = [];
  lines = opener_lines n ∷ closer_lines n ∷ [];
}
