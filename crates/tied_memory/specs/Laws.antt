-- What a thread reads, if loads are tied.
use Rattle.std.specs.Prelude.{◌≡◌, ◌≤◌, ◌<◌, ◌^◌, ℕ, List, Some, Ok}
use Rattle.address_map.specs.Map.{pointer_of}
use Rattle.amd64_subset.specs.declared.instr.Decoded.{Decoded}
use Rattle.amd64_subset.specs.Decoding.{decoded}
use Rattle.guest_arithmetic.specs.Plain.{plain_operations}
use Rattle.guest_machine.specs.Access.{fetch_of, load_of}
use Rattle.loaded_modules.specs.declared.instance.Instance.{Instance}
use Rattle.module_table.specs.declared.events.Event.{Event}
use Rattle.thread_blocks.specs.Held.{Owner}
use Rattle.thread_blocks.specs.Instances.{Loads, numbered_instance}
use Rattle.thread_blocks.specs.RunTime.{thread_accesses}
use Rattle.thread_blocks.specs.Spaces.{Space}
use Rattle.whole_meaning.specs.Meanings.{Meaning}
use Rattle.tied_meaning.specs.Numbers.{Setting}
use Rattle.tied_meaning.specs.Sites.{HasInstruction, HasWord}
use Rattle.tied_meaning.specs.Ties.{AreTied}
use Rattle.tied_memory.specs.Places.{AreInPlace}

-- the property holds for each thread, in any memory with all written ranges in place, whatever the owners of its
-- ranges, and whatever history the job ends with
abbrev pub OfThreads : (Loads ℕ → ℕ → Space Event ℕ → Type 0) → Type 0
OfThreads Reads = (g : Setting) (m : Meaning) (q : Loads ℕ) (history : List Event) (thread : ℕ)
    → AreTied g m q history → 1 ≤ thread
    → (owners : List Owner) (space : Space Event ℕ) → AreInPlace g q history thread owners space → Reads q thread space

abbrev pub InstructionsAreFetched : Type 0
InstructionsAreFetched = OfThreads (λ q thread space. (x : Instance)
    → numbered_instance q space.seen x.number ≡ Some x
    → (place : ℕ) (d : Decoded) → HasInstruction q x place d
    → decoded (fetch_of (thread_accesses q thread) space place) ≡ Some d)

abbrev pub WordsAreLoaded : Type 0
WordsAreLoaded = OfThreads (λ q thread space. (x : Instance)
    → numbered_instance q space.seen x.number ≡ Some x
    → (address word : ℕ) → HasWord q x address word → word < 2 ^ 64
    → load_of plain_operations (thread_accesses q thread) space address 8 ≡ Ok word)

-- for the first 64 threads: a much later one has its pointer past 2^64
abbrev pub PointersAreLoaded : Type 0
PointersAreLoaded = OfThreads (λ q thread space. thread ≤ 64
    → load_of plain_operations (thread_accesses q thread) space (pointer_of thread) 8 ≡ Ok (pointer_of thread))
