-- Laws of the meaning.
use Rattle.std.specs.Prelude.{◌≡◌, ◌<◌, ◌^◌, ℕ, true, false, Ok}
use Rattle.address_map.specs.Map.{pointer_of}
use Rattle.guest_operands.specs.declared.state.State.{State}
use Rattle.guest_operands.specs.Use.{After, plus}
use Rattle.job_meaning.specs.declared.values.Flag.{Flag}
use Rattle.job_meaning.specs.declared.values.Word.{Word}
use Rattle.job_meaning.specs.declared.values.Word.TheVariants.{Number}
use Rattle.link_faults.specs.declared.symbol_ref.SymbolRef.{SymbolRef}
use Rattle.loaded_modules.specs.declared.instance.Instance.{Instance}
use Rattle.sequence_forms.specs.declared.forms.Form.{Form}
use Rattle.sequence_forms.specs.declared.forms.Form.TheVariants.{Gd, GdInd, DescCall}
use Rattle.thread_blocks.specs.declared.asked.Asked.{Asked}
use Rattle.thread_blocks.specs.Instances.{Loads}
use Rattle.thread_blocks.specs.RunTime.{answer_word}
use Rattle.whole_meaning.specs.Code.{definition_number}
use Rattle.whole_meaning.specs.Sequences.{Stack, does}
use Rattle.whole_meaning.specs.declared.sequences.Sequence.{Sequence}
use Rattle.whole_meaning.specs.Threads.{Memory}

-- the forms of a General Dynamic sequence
abbrev pub IsGeneral : Form → Type 0
IsGeneral Gd = Unit {0}
IsGeneral GdInd = Unit {0}
IsGeneral form = ⊥

-- a General Dynamic sequence leaves in %rax what the call of a descriptor leaves there for the same offset in the same
-- block, plus the thread pointer, if both are done
abbrev pub AnswersAgree : Type 0
AnswersAgree = (stack : Stack Memory) (thread start : ℕ) (form : Form) (general descriptor : Sequence)
    (state state' : State Word Flag) (memory memory' : Memory) (after after' : After Word Flag Memory)
    → IsGeneral form → general.offset ≡ descriptor.offset → state'.thread_pointer < 2 ^ 64
    → does stack general thread start form state memory ≡ Ok after
    → does stack descriptor thread start DescCall state' memory' ≡ Ok after'
    → (distance : ℕ) × (after'.state.registers.rax ≡ Number distance)
    × (after.state.registers.rax ≡ Number (plus distance state'.thread_pointer))

-- the run time does so too: `__tls_get_addr` returns what a descriptor's function returns, plus the thread pointer
abbrev pub RunTimeAnswersAgree : Type 0
RunTimeAnswersAgree = (l : Loads ℕ) (thread : ℕ) (general descriptor : Asked) (x : Instance)
    → pointer_of thread < 2 ^ 64 → general.offset ≡ descriptor.offset
    → general.is_descriptor ≡ false → descriptor.is_descriptor ≡ true
    → plus (answer_word l thread descriptor x) (pointer_of thread) ≡ answer_word l thread general x

-- no two symbols of images have the same number, if an image has fewer than 2^32 objects and an object fewer than 2^24
-- symbols
abbrev pub NumbersAreOwn : Type 0
NumbersAreOwn = (image image' : ℕ) (x y : SymbolRef) → x.object < 2 ^ 32 → y.object < 2 ^ 32
    → x.symbol < 2 ^ 24 → y.symbol < 2 ^ 24 → definition_number image x ≡ definition_number image' y
    → (image ≡ image') × (x.object ≡ y.object) × (x.symbol ≡ y.symbol)
