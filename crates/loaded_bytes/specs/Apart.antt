-- Two loaded instances lie apart, and no instruction runs on into what a linker added.
use Rattle.std.specs.Prelude.{◌≡◌, ◌≢◌, ◌+◌, ◌<◌, ◌⊎◌, ℕ, true, false, List, Some, None}
use Rattle.guest_operands.specs.declared.space.Access.{Access}
use Rattle.guest_operands.specs.declared.space.Access.TheVariants.{Run}
use Rattle.guest_operands.specs.Ranges.{Range, byte_in, holds}
use Rattle.link_faults.specs.ImageKinds.{is_moved}
use Rattle.link_needs.specs.Linking.{Linking}
use Rattle.loaded_modules.specs.declared.instance.Instance.{Instance}
use Rattle.thread_blocks.specs.JobLoads.{job_loads}
use Rattle.whole_meaning.specs.Spots.{bias_of, in_room}
use Rattle.loaded_bytes.specs.Laws.{IsInstanceOf, images_of}

-- some byte of the instance lies at the address: one that no thread writes, or data
abbrev pub IsLoadedAt : List Linking → Instance → ℕ → Type 0
IsLoadedAt ls x place =
    ((access : Access) × (byte : ℕ) × (byte_in access ((job_loads (images_of ls)).fixed x) place ≡ Some byte))
    ⊎ ((range : Range ℕ) × ((job_loads (images_of ls)).shared x ≡ Some range) × (holds range place ≡ true))

-- two instances with different numbers lie apart; a job has one program, and all other images can be moved
abbrev pub InstancesLieApart : Type 0
InstancesLieApart = (ls : List Linking) (l m : Linking) (x y : Instance) (place : ℕ)
    → IsInstanceOf ls l x → IsInstanceOf ls m y → x.number ≢ y.number
    → (is_moved l.kind ≡ true) ⊎ (is_moved m.kind ≡ true)
    → IsLoadedAt ls x place → IsLoadedAt ls y place → ⊥

-- an instruction has at most 15 bytes; none that begins outside the room has a byte in it, since the room begins with
-- a table, which can't be run
abbrev pub NoneRunsOn : Type 0
NoneRunsOn = (ls : List Linking) (l : Linking) (x : Instance) (place k : ℕ) → IsInstanceOf ls l x → k < 15
    → in_room l (bias_of l.kind x.number) place ≡ false → in_room l (bias_of l.kind x.number) (place + k) ≡ true
    → byte_in Run ((job_loads (images_of ls)).fixed x) (place + k) ≡ None
