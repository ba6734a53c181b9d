-- A text, and the job that it derives.
use Rattle.std.specs.Prelude.{ℕ, List, [], ◌∷◌, codes}
use Rattle.job_text.specs.Jobs.{JobParts}
use Rattle.job_text.specs.declared.thread_lines.Action.TheVariants.{Call, Open}
use Rattle.link_faults.specs.declared.image_kind.ImageKind.TheVariants.{Late, Pie}
use Rattle.job_grammar_laws.specs.Derived.{Derives}

abbrev pub example_text : List ℕ
example_text = codes "image plug late plugin.o\nimage app pie main.o\n1 open plug\n1 call plug bump 16 0 0\n"

-- the program is image 1, though the text names it second
abbrev pub example_job : JobParts
example_job = record {
  images = record { name = codes "app"; kind = Pie; objects = codes "main.o" ∷ [] }
      ∷ record { name = codes "plug"; kind = Late; objects = codes "plugin.o" ∷ [] } ∷ [];
  mentions = 2 ∷ 1 ∷ [];
  fuel = 100000;
  order = [];
  lines = (record { image = 2; action = Open }
      ∷ record { image = 2; action = Call (codes "bump") 16 0 0 } ∷ []) ∷ [];
}

abbrev pub ExampleIsDerived : Type 0
ExampleIsDerived = Derives example_text example_job
