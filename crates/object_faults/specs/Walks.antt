-- The result of one walk over relocations.
use Rattle.std.specs.Prelude.{◌+◌, ◌≤◌, ◌⊎◌, ℕ, List, Option, Some, None}
use Rattle.object_rules.specs.declared.fault.FaultKind.TheVariants.{RelocSymbol, RelocKind, RelocRange}
use Rattle.object_faults.specs.declared.walk.Walk.{Walk}
use Rattle.object_faults.specs.declared.walk.Walk.TheVariants.{Faulty, Scattered, Rising}
use Rattle.object_faults.specs.Parts.{section, rela}
use Rattle.object_faults.specs.Relocations.{IsReloc, width_at}
use Rattle.object_faults.specs.Faults.{Stands}

-- entry e of section r is at fault by itself: its symbol, its type or the range of its field
abbrev pub IsFaulty : List ℕ → ℕ → ℕ → Type 0
IsFaulty b r e = Stands RelocSymbol b r e ⊎ Stands RelocKind b r e ⊎ Stands RelocRange b r e

-- no entry of section r is at fault by itself
abbrev pub IsFaultless : List ℕ → ℕ → Type 0
IsFaultless b r = (e : ℕ) → IsFaulty b r e → ⊥

-- where the field of entry e of section r ends
abbrev pub end_at : List ℕ → ℕ → ℕ → ℕ
end_at b r e = (rela b r e).offset + width_at b r e

-- each field of section r begins no earlier than the one before it ended
abbrev pub Rise : List ℕ → ℕ → Type 0
Rise b r = (e : ℕ) → IsReloc b r (e + 1) → end_at b r e ≤ (rela b r (e + 1)).offset

-- the result of the walk over section r
abbrev pub Tells : List ℕ → ℕ → Walk → Type 0
Tells b r Faulty = (e : ℕ) × IsFaulty b r e
Tells b r Scattered = IsFaultless b r × (Rise b r → ⊥)
Tells b r Rising = IsFaultless b r × Rise b r

-- where the relocations of section r do not rise, their target has at most n bytes
abbrev pub HasRoomToMark : List ℕ → ℕ → ℕ → Type 0
HasRoomToMark b r n = (e : ℕ) → IsReloc b r e → (Rise b r → ⊥) → (section b (section b r).info).size ≤ n

-- section r has an entry at fault, or none, and n bytes are enough to mark what its fields fill, unless they rise
abbrev pub IsMarkedBy : List ℕ → ℕ → Option ℕ → Type 0
IsMarkedBy b r None = (e : ℕ) × IsFaulty b r e
IsMarkedBy b r (Some n) = IsFaultless b r × HasRoomToMark b r n

-- so for all sections
abbrev pub AreMarkedBy : List ℕ → Option ℕ → Type 0
AreMarkedBy b None = (r : ℕ) × ((e : ℕ) × IsFaulty b r e)
AreMarkedBy b (Some n) = ((r : ℕ) → IsFaultless b r) × ((r : ℕ) → HasRoomToMark b r n)
