-- What each line of a generated text adds.
use Rattle.std.proofs.Common.{◌≡◌, ◌∙◌, ℕ, ◌<◌, true, false, not, nat_le, nat_lt, List, [], ◌∷◌, ◌++◌}
use Rattle.std.proofs.Common.{Option, Some, None, codes, length, map, unwrap_or, refl, ap, arith}
use Rattle.std.specs.List.{list_any}
use Rattle.std.proofs.lemmas.Bool.{le-leb, le-ltb}
use Rattle.std.proofs.lemmas.List.{map_push}
use Rattle.job_text.specs.Drafts.{Declared, nothing_declared, slot_among}
use Rattle.job_text.specs.DraftLaws.{declared}
use Rattle.job_text.specs.Grammar.{heading_of, is_short_name, kind_heading, verb_heading}
use Rattle.job_text.specs.Jobs.{number_of, numbered_line}
use Rattle.job_text.specs.LineEffects.{with_image}
use Rattle.job_text.specs.Numbers.{number, numeral}
use Rattle.job_text.specs.declared.images.Image.{Image}
use Rattle.job_text.specs.declared.thread_lines.Action.TheVariants.{Call, Open, Close, Peek}
use Rattle.job_text.specs.declared.thread_lines.ThreadLine.{ThreadLine}
use Rattle.link_faults.specs.declared.image_kind.ImageKind.TheVariants.{Exe, Late}
use Rattle.generated_laws.proofs.TextLines.{Adds}

-- ** the words of the lines

abbrev pub program_words : List (List ℕ) → List (List ℕ)
program_words objects = codes "image" ∷ codes "app" ∷ codes "exe" ∷ objects

abbrev pub module_words : List (List ℕ)
module_words = codes "image" ∷ codes "plug" ∷ codes "late" ∷ codes "p.o" ∷ []

abbrev pub threads_words : List (List ℕ)
threads_words = codes "threads" ∷ codes "2" ∷ []

abbrev pub open_words : List (List ℕ)
open_words = codes "1" ∷ codes "open" ∷ codes "plug" ∷ []

abbrev pub program_call_words : List ℕ → List (List ℕ)
program_call_words name =
    codes "1" ∷ codes "call" ∷ codes "app" ∷ name ∷ codes "0" ∷ codes "0" ∷ codes "0" ∷ []

abbrev pub module_call_words : List ℕ → List (List ℕ)
module_call_words digits =
    codes "2" ∷ codes "call" ∷ codes "plug" ∷ codes "f" ∷ digits ∷ codes "0" ∷ codes "0" ∷ []

abbrev pub peek_words : List (List ℕ)
peek_words = codes "2" ∷ codes "peek" ∷ codes "plug" ∷ codes "v" ∷ codes "4" ∷ []

abbrev pub close_words : List (List ℕ)
close_words = codes "2" ∷ codes "close" ∷ codes "plug" ∷ []

-- ** what is declared

-- what a function takes behind a number
abbrev Taken : {A B : Type 0} → (ℕ → A → B) → Type 0
Taken {A} f = A

-- the slots and the plans of a draft: their types have no names outside their crate
abbrev pub Slot : Type 0
Slot = Taken number_of

abbrev pub Plan : Type 0
Plan = Taken numbered_line

abbrev pub program : List (List ℕ) → Image
program objects = record { name = codes "app"; kind = Exe; objects = objects }

abbrev pub module_image : Image
module_image = record { name = codes "plug"; kind = Late; objects = codes "p.o" ∷ [] }

-- the images and the two threads, with the lines of each
abbrev pub state : List (List ℕ) → List Slot → List Plan → List Plan → Declared
state objects mentions first second =
    declared (Some (program objects)) [] (module_image ∷ []) mentions true None None (first ∷ second ∷ [])

-- lines, with the numbers of their images
abbrev pub shown : List Plan → List ThreadLine
shown plans = map (numbered_line 0) plans

-- a line of these words has no fault, and tells a thread one thing more
pub record Tells (d : Declared) (number : ℕ) (words : List (List ℕ)) (with_plans : List Plan → Declared)
    (old : List Plan) (line : ThreadLine) : Type 0 where
  pub now : List Plan
  pub adds : Adds d number words (with_plans now)
  pub told : shown now ≡ shown old ++ line ∷ []

-- ** images

abbrev pub with_program : List (List ℕ) → Declared
with_program objects = with_image (program objects) Exe nothing_declared

pub program_adds : (objects : List (List ℕ)) → 0 < length objects
    → list_any (λ word. not (is_short_name word)) objects ≡ false
    → Adds nothing_declared 1 (program_words objects) (with_program objects)
unfolding heading_of kind_heading slot_among
program_adds objects some few =
    let count : ℕ = length (program_words objects) in
    let long : nat_lt count 3 ≡ false = le-ltb count 3 (omega arith) in
    let enough : nat_le 4 count ≡ true = le-leb 4 count (omega arith) in
    record {
      faultless = rw (long, enough, few) refl;
      effect = rw long refl;
    }

abbrev pub with_module : List (List ℕ) → Declared
with_module objects = with_image module_image Late (with_program objects)

pub module_adds : (objects : List (List ℕ)) → Adds (with_program objects) 2 module_words (with_module objects)
unfolding heading_of kind_heading slot_among
module_adds objects = record { faultless = refl; effect = refl }

pub threads_add : (objects : List (List ℕ))
    → Adds (with_module objects) 3 threads_words (state objects (with_module objects).mentions [] [])
unfolding heading_of number numeral
threads_add objects = record { faultless = refl; effect = refl }

-- ** lines of threads

module _ (objects : List (List ℕ)) (mentions : List Slot) (first second : List Plan) (place : ℕ)
    (early : nat_lt 65536 place ≡ false) where
  abbrev before : Declared
  before = state objects mentions first second

  abbrev pub with_first : List Plan → Declared
  with_first plans = state objects mentions plans second

  abbrev pub with_second : List Plan → Declared
  with_second plans = state objects mentions first plans

  pub open_tells : Tells before place open_words with_first first (record { image = 2; action = Open })
  unfolding heading_of verb_heading slot_among number numeral
  open_tells = record {
    now = _;
    adds = record { faultless = rw early refl; effect = refl };
    told = map_push (numbered_line 0) first _;
  }

  pub program_call_tells : (name : List ℕ) → nat_le (length name) 255 ≡ true
      → Tells before place (program_call_words name) with_first first (record { image = 1; action = Call name 0 0 0 })
  unfolding heading_of verb_heading slot_among number numeral
  program_call_tells name few = record {
    now = _;
    adds = record { faultless = rw (early, few) refl; effect = refl };
    told = map_push (numbered_line 0) first _;
  }

  pub module_call_tells : (digits : List ℕ) (value : ℕ) → number digits ≡ Some value
      → Tells before place (module_call_words digits) with_second second
      (record { image = 2; action = Call (codes "f") value 0 0 })
  unfolding heading_of verb_heading slot_among number numeral
  module_call_tells digits value is = record {
    now = _;
    adds = record { faultless = rw (early, is) refl; effect = refl };
    told =
        map_push (numbered_line 0) second _
        ∙ ap (λ (x : ℕ). shown second ++ record { image = 2; action = Call (codes "f") x 0 0 } ∷ [])
        (ap (λ (o : Option ℕ). unwrap_or o 0) is);
  }

  pub peek_tells : Tells before place peek_words with_second second (record { image = 2; action = Peek (codes "v") 4 })
  unfolding heading_of verb_heading slot_among number numeral
  peek_tells = record {
    now = _;
    adds = record { faultless = rw early refl; effect = refl };
    told = map_push (numbered_line 0) second _;
  }

  pub close_tells : Tells before place close_words with_second second (record { image = 2; action = Close })
  unfolding heading_of verb_heading slot_among number numeral
  close_tells = record {
    now = _;
    adds = record { faultless = rw early refl; effect = refl };
    told = map_push (numbered_line 0) second _;
  }
