-- Spaces as laws compare them.
use Rattle.std.specs.Prelude.{◌≡◌, ℕ, false, List, [], ◌∷◌, Option, Some, None, Result, Ok, Err}
use Rattle.guest_operands.specs.declared.stop.Stop.{Stop}
use Rattle.guest_machine.specs.Access.{Accesses}
use Rattle.guest_machine.specs.Follow.{All2}
use Rattle.guest_machine.specs.Ranges.{Range}
use Rattle.guest_machine.specs.Use.{After, left}
use Rattle.thread_blocks.specs.Spaces.{Space}

abbrev pub NoneWritable : {B : Type 0} → List (Range B) → Type 0
NoneWritable [] = Unit {0}
NoneWritable (range ∷ ranges) = (range.writable ≡ false) × NoneWritable ranges

-- each access to the one gives what the access to its image gives
pub record IsImage {M M' B : Type 0} (acc : Accesses M B) (acc' : Accesses M' B) (image : M → M') : Type 0 where
  pub byte : (m : M) (place : ℕ) → acc'.byte (image m) place ≡ acc.byte m place
  pub writes : (m : M) (place : ℕ) → acc'.writes (image m) place ≡ acc.writes m place
  pub put : (m : M) (place : ℕ) (byte : B) → acc'.put (image m) place byte ≡ image (acc.put m place byte)
  pub code : (m : M) (place : ℕ) → acc'.code (image m) place ≡ acc.code m place

abbrev pub after_of : {W F M M' : Type 0} → (M → M') → After W F M → After W F M'
after_of image after = left after.state (image after.memory)

abbrev pub mapped : {W F M M' : Type 0} → (M → M') → Result (After W F M) Stop → Result (After W F M') Stop
mapped image (Ok after) = Ok (after_of image after)
mapped image (Err stop) = Err stop

-- ---- two memories, part by part

-- R: the relation between bytes
pub record SameRange {B B' : Type 0} (R : B → B' → Type 0) (range : Range B) (range' : Range B') : Type 0 where
  pub start : range'.start ≡ range.start
  pub readable : range'.readable ≡ range.readable
  pub writable : range'.writable ≡ range.writable
  pub runnable : range'.runnable ≡ range.runnable
  pub bytes : All2 R range.bytes range'.bytes

-- what is found at an address on the two sides
abbrev pub FoundAlike : {B B' : Type 0} → (B → B' → Type 0) → Option B → Option B' → Type 0
FoundAlike R None None = Unit {0}
FoundAlike R None (Some b') = ⊥
FoundAlike R (Some b) None = ⊥
FoundAlike R (Some b) (Some b') = R b b'

abbrev pub NoneRunnable : {B : Type 0} → List (Range B) → Type 0
NoneRunnable [] = Unit {0}
NoneRunnable (range ∷ ranges) = (range.runnable ≡ false) × NoneRunnable ranges

pub record SameSpace {E B B' : Type 0} (R : B → B' → Type 0) (space : Space E B) (space' : Space E B') : Type 0 where
  pub seen : space'.seen ≡ space.seen
  pub stack : All2 R space.stack space'.stack
  pub own : All2 (SameRange R) space.own space'.own
