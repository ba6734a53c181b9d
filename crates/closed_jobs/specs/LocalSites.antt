-- The sites of the program with Local Dynamic code and a descriptor: its sequences and its offset field, and the
-- linker's choices for them.
use Rattle.std.specs.Prelude.{◌≡◌, ℕ, ◌+◌, ◌-◌, ◌%◌, ◌^◌, ◌&&◌, ◌==◌, Bool, List, Some, None, if◌then◌else◌}
use Rattle.amd64_subset.specs.Spelling.{field_of}
use Rattle.amd64_words.specs.declared.register.Register.TheVariants.{Rax}
use Rattle.job_meaning.specs.declared.values.Block.{Block}
use Rattle.job_meaning.specs.declared.values.Token.TheVariants.{Base, Descriptor}
use Rattle.loaded_modules.specs.declared.instance.Instance.{Instance}
use Rattle.sequence_forms.specs.declared.forms.Form.TheVariants.{Ld, DescLea, DescCall}
use Rattle.thread_blocks.specs.Instances.{Loads}
use Rattle.tied_meaning.specs.Numbers.{Setting, IsMade, base_number}
use Rattle.tied_meaning.specs.Sites.{Stands}
use Rattle.tied_meaning.specs.Ties.{HasFourBytes}
use Rattle.whole_meaning.specs.declared.marks.Mark.TheVariants.{Offset}
use Rattle.whole_meaning.specs.declared.sequences.Sequence.{Sequence}
use Rattle.whole_meaning.specs.Meanings.{Meaning}

-- ** the setting

-- the program's block begins 8 bytes below the thread pointer
abbrev pub app : Instance
app = record { image = 1; number = 1; id = 1; offset = Some 8 }

-- x is symbol 1 of object 1
abbrev pub x_symbol : ℕ
x_symbol = 2 ^ 56 + 1

-- rewritten: bases are thread pointers, and the descriptor of x is its distance. Kept: bases are the blocks'
-- addresses, and the descriptor is its entry's address in the table
abbrev pub setting : Bool → Setting
setting relax = record {
  known = λ number. if number == 1 then Some app else None;
  descriptor = λ instance symbol. if relax then 2 ^ 64 - 4 else 0x402010;
  makes_descriptor = λ instance symbol. (instance == 1) && (symbol == x_symbol);
  counts_from_pointer = relax;
}

-- ** the meaning

abbrev pub base : Sequence
base = record { form = Ld; next = 0x40000c; register = Rax; instance = 1; symbol = 0; target = 1; offset = 0 }

abbrev pub lea : Sequence
lea =
    record { form = DescLea; next = 0x40001a; register = Rax; instance = 1; symbol = x_symbol; target = 1; offset = 4 }

abbrev pub call : Sequence
call =
    record { form = DescCall; next = 0x40001c; register = Rax; instance = 1; symbol = x_symbol; target = 1; offset = 4 }

-- ** the ties

-- the meaning has a sequence at this address, and the code there does what the sequence means
pub record IsTiedSite (g : Setting) (m : Meaning) (q : Loads ℕ) (place : ℕ) (s : Sequence) : Type 0 where
  pub meant : m.sequence app place ≡ Some s
  pub stands : Stands g q app place s

-- the meaning has a field at this address, and the field there leads from each thread's base to the same address
pub record IsTiedField (g : Setting) (m : Meaning) (q : Loads ℕ) (place number : ℕ) : Type 0 where
  pub meant : m.mark app place ≡ Offset number 0
  pub moves : (four : List ℕ) → HasFourBytes q app place four
      → (block : Block) → IsMade g (Base block) → block.instance ≡ app.number
      → (block.start + number) % 2 ^ 64 ≡ (base_number g block + field_of four) % 2 ^ 64

pub record AreTiedSites (g : Setting) (m : Meaning) (q : Loads ℕ) : Type 0 where
  pub base : IsTiedSite g m q 0x400000 base
  pub field : IsTiedField g m q 0x40000e 4
  pub lea : IsTiedSite g m q 0x400013 lea
  pub call : IsTiedSite g m q 0x40001a call
  -- no step makes the descriptor of another symbol
  pub other : IsMade g (Descriptor 1 0) → ⊥
