-- A step that is plain: xor %ecx, %eax, where nothing is known of %rbx.
use Rattle.std.specs.Prelude.{ℕ, Bool, true, false, [], ◌∷◌, None}
use Rattle.guest_arithmetic.specs.Plain.{plain_operations}
use Rattle.guest_operands.specs.declared.state.State.{State}
use Rattle.guest_operands.specs.Ranges.{Range}
use Rattle.guest_operands.specs.State.{start_of}
use Rattle.guest_operands.specs.Use.{left}
use Rattle.job_meaning.specs.declared.values.Byte.{Byte}
use Rattle.job_meaning.specs.declared.values.Byte.TheVariants.{Value}
use Rattle.job_meaning.specs.declared.values.Flag.{Flag}
use Rattle.job_meaning.specs.declared.values.Word.{Word}
use Rattle.job_meaning.specs.declared.values.Word.TheVariants.{Number, Undefined}
use Rattle.whole_meaning.specs.declared.marks.Mark.TheVariants.{Usual}
use Rattle.whole_meaning.specs.Meanings.{Meaning}
use Rattle.whole_meaning.specs.Threads.{Meant, ops}
use Rattle.step_laws.specs.Plain.{HasNumbers, IsPlain}

-- a meaning of no image, and a thread that holds two bytes of code
unfoldable pub meaning : Meaning
meaning = record {
  loads = record {
    infos = [];
    last_offset = 0;
    function = λ x name. None;
    variable = λ image name. None;
    fixed = λ x. [];
    tables = λ x. [];
    shared = λ x. None;
    block = λ x. [];
  };
  mark = λ x place. Usual;
  sequence = λ x place. None;
  room = λ x place. false;
}

unfoldable pub code : Range Byte
code = record {
  start = 0x400000;
  bytes = Value 0x31 ∷ Value 0xc8 ∷ [];
  readable = false;
  writable = false;
  runnable = true;
}

-- %rdi, %rsi and %rdx are numbers, and nothing is known of %rbx
unfoldable pub state : State Word Flag
state = let s = start_of ops 0x400000 0 (Number 1) (Number 2) (Number 3) in
    record s { registers = record s.registers { rbx = Undefined } }

-- a machine with any number in %rbx
unfoldable pub machine : State ℕ Bool
machine = let s = start_of plain_operations 0x400000 0 1 2 3 in record s { registers = record s.registers { rbx = 7 } }

unfoldable pub held : Meant
held = record { after = left state (record { seen = []; stack = []; own = code ∷ [] }); owners = []; asked = None }

abbrev pub ExampleIsPlain : Type 0
ExampleIsPlain = HasNumbers held.after.state machine × IsPlain meaning 1 held machine
