-- What a section has in memory.
use Rattle.std.proofs.Common.{◌≡◌, ◌+◌, ◌-◌, ◌<◌, ◌≤◌, ◌&&◌, ℕ, Bool, true, false, List, [], length, slice_range, drop}
use Rattle.std.proofs.Common.{Option, Some, None, if◌then◌else◌, arith, length-append, length-take}
use Rattle.std.proofs.lemmas.List.{length-replicate}
use Rattle.object_faults.specs.declared.class.SectionClass.{SectionClass}
use Rattle.object_faults.specs.declared.class.SectionClass.TheVariants.{Executable, ReadOnly, Tls, Writable}
use Rattle.elf_object.specs.Parts.{section, is_section}
use Rattle.elf_object.specs.Classes.{class_of, kept_of, kept_class}
use Rattle.elf_object.specs.Lent.{section_class, section_size, section_bytes}
use Rattle.tls_relocs.specs.Laid.{zeros}
use Rattle.placed_sections.specs.Files.{memory_bytes}

short : (b : List ℕ) (at n : ℕ) → length (slice_range b at (at + n)) ≤ n
short b at n = omega (arith, length-take (at + n - at) (drop at b))

short_if : (t u : Bool) (b : List ℕ) (at n : ℕ)
    → length (if t && u then slice_range b at (at + n) else []) ≤ (if t then n else 0)
short_if true true b at n = short b at n
short_if true false b at n = omega arith
short_if false u b at n = omega arith

-- the bytes of a section in its file are no more than those in memory
pub no_longer : (b : List ℕ) (s : ℕ) → length (section_bytes b s) ≤ section_size b s
unfolding section_bytes section_size
no_longer b s = short_if (is_section b s) _ b (section b s).offset (section b s).size

pub long_as_memory : (b : List ℕ) (s : ℕ) → length (memory_bytes b s) ≡ section_size b s
long_as_memory b s =
    let short = no_longer b s in
    let pad : length (zeros (section_size b s - length (section_bytes b s)))
    ≡ section_size b s - length (section_bytes b s) =
    length-replicate (section_size b s - length (section_bytes b s)) 0 in
    omega (arith, length-append (section_bytes b s) (zeros (section_size b s - length (section_bytes b s))))

-- a section that programs write has bytes
written : (t : Bool) (class : Option SectionClass) (n : ℕ) (initial : Bool)
    → (if t then kept_of class n else None) ≡ Some (Writable initial) → 0 < (if t then n else 0)
written true (Some (Writable first)) n initial e = grind arith
written true None n initial e = cc
written true (Some Executable) n initial e = cc
written true (Some ReadOnly) n initial e = cc
written true (Some (Tls first)) n initial e = cc
written false class n initial e = cc

pub written_some : (b : List ℕ) (s : ℕ) (initial : Bool) → section_class b s ≡ Some (Writable initial)
    → 0 < section_size b s
unfolding section_class section_size kept_class
written_some b s initial e = written (is_section b s) (class_of (section b s)) (section b s).size initial e
