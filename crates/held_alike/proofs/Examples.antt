-- The example of the crate's essay: thread 1 of a program with 8 bytes of thread-local storage, which hold the base of
-- the thread's own block, as an image with rewritten local dynamic code has it, and as one with kept code has it.
use Rattle.std.proofs.Common.{◌==◌, ℕ, Bool, true, false, List, [], ◌∷◌, Some, None, map, refl}
use Rattle.std.specs.Prelude.{if◌then◌else◌}
use Rattle.std.proofs.lemmas.List.Elements.{All-cons, All-nil}
use Rattle.guest_arithmetic.specs.Values.{digit}
use Rattle.guest_machine.specs.Follow.{All2}
use Rattle.job_meaning.specs.declared.values.Byte.{Byte}
use Rattle.job_meaning.specs.declared.values.Byte.TheVariants.{Part}
use Rattle.job_meaning.specs.declared.values.Token.{Token}
use Rattle.job_meaning.specs.declared.values.Token.TheVariants.{Base}
use Rattle.loaded_modules.specs.declared.instance.Instance.{Instance}
use Rattle.thread_blocks.specs.Held.{Block, Owned}
use Rattle.thread_blocks.specs.Instances.{Loads, block_range}
use Rattle.tied_meaning.specs.Numbers.{Setting, IsMade, SameByte, number_for}
use Rattle.tied_meaning.specs.Threads.{IsPlaced}
use Rattle.held_alike.specs.Held.{SameHeld}

-- the program's block begins 8 bytes below the thread pointer
abbrev program : Instance
program = record { image = 1; number = 1; id = 1; offset = Some 8 }

abbrev setting : Bool → Setting
setting rewritten = record {
  known = λ number. if number == 1 then Some program else None;
  descriptor = λ instance symbol. 0;
  makes_descriptor = λ instance symbol. false;
  counts_from_pointer = rewritten;
}

-- of the image nothing is asked but how long a block is
abbrev loads : Loads ℕ
loads = record {
  infos = [];
  last_offset = 8;
  function = λ x name. None;
  variable = λ image name. None;
  fixed = λ x. [];
  tables = λ x. [];
  shared = λ x. None;
  block = λ x. 0 ∷ 0 ∷ 0 ∷ 0 ∷ 0 ∷ 0 ∷ 0 ∷ 0 ∷ [];
}

abbrev own_base : Token
own_base = Base (record { thread = 1; instance = 1; start = 0x13ffffffff8 })

-- the block with these bytes
abbrev held : {B : Type 0} → List B → List (Owned B)
held bytes = record { owner = record { kind = Block; instance = 1 }; range = block_range 1 program bytes } ∷ []

abbrev meant : List Byte
meant = Part own_base 0 ∷ Part own_base 1 ∷ Part own_base 2 ∷ Part own_base 3 ∷ Part own_base 4 ∷ Part own_base 5
    ∷ Part own_base 6 ∷ Part own_base 7 ∷ []

is_made : (rewritten : Bool) → IsMade (setting rewritten) own_base
is_made rewritten = (program, (refl, refl))

-- the token's number, byte by byte
abbrev bytes_of_base : Bool → List ℕ → List ℕ
bytes_of_base rewritten ks = map (digit (number_for (setting rewritten) own_base)) ks

same_bytes : (rewritten : Bool) (ks : List ℕ)
    → All2 (SameByte (setting rewritten)) (map (Part own_base) ks) (bytes_of_base rewritten ks)
same_bytes rewritten [] = tt
same_bytes rewritten (k ∷ ks) = ((refl, is_made rewritten), same_bytes rewritten ks)

abbrev all_bytes : List ℕ
all_bytes = 0 ∷ 1 ∷ 2 ∷ 3 ∷ 4 ∷ 5 ∷ 6 ∷ 7 ∷ []

-- the two are held alike: of one owner, at one place, and as many as a block of the program has
same_held : (rewritten : Bool)
    → SameHeld (setting rewritten) loads 1 (held meant) (held (bytes_of_base rewritten all_bytes))
same_held rewritten = (
  (
    record {
      owner = refl;
      range = record {
        start = refl;
        readable = refl;
        writable = refl;
        runnable = refl;
        bytes = same_bytes rewritten all_bytes;
      };
    },
    tt,
  ),
  All-cons (IsPlaced (setting rewritten) loads 1) _ [] (program, (refl, (refl, refl)))
      (All-nil (IsPlaced (setting rewritten) loads 1)),
)

-- the thread pointer, 0x14000000000, where local dynamic code is rewritten
in_rewritten : SameHeld (setting true) loads 1 (held meant) (held (0 ∷ 0 ∷ 0 ∷ 0 ∷ 0x40 ∷ 1 ∷ 0 ∷ 0 ∷ []))
in_rewritten = same_held true

-- where the block begins, 0x13ffffffff8, where it is kept
in_kept : SameHeld (setting false) loads 1 (held meant) (held (0xf8 ∷ 0xff ∷ 0xff ∷ 0xff ∷ 0x3f ∷ 1 ∷ 0 ∷ 0 ∷ []))
in_kept = same_held false

-- and the bytes of the one are not those of the other
not_both : SameHeld (setting true) loads 1 (held meant)
    (held (0xf8 ∷ 0xff ∷ 0xff ∷ 0xff ∷ 0x3f ∷ 1 ∷ 0 ∷ 0 ∷ [])) → ⊥
not_both same = let first = same.0.0.range.bytes.0.0 in cc
