-- The example of the crate's essay: a program with 8 bytes of thread-local storage, x at offset 4 in them, and the field
-- of x@dtpoff, as it is kept and as it is rewritten.
use Rattle.std.proofs.Common.{◌≡◌, ◌+◌, ◌-◌, ◌%◌, ◌^◌, ◌==◌, ℕ, Bool, true, false, Some, None, refl, ap, ◌∙◌, arith}
use Rattle.std.specs.Prelude.{if◌then◌else◌}
use Rattle.address_map.specs.Map.{owner_at, pointer_of}
use Rattle.job_meaning.specs.declared.values.Block.{Block}
use Rattle.job_meaning.specs.declared.values.Token.TheVariants.{Base}
use Rattle.loaded_modules.specs.declared.instance.Instance.{Instance}
use Rattle.thread_blocks.specs.Instances.{block_start}
use Rattle.tied_meaning.specs.Numbers.{Setting, IsMade, SameField, number_for}

-- the program's block begins 8 bytes below the thread pointer
program : Instance
program = record { image = 1; number = 1; id = 1; offset = Some 8 }

-- nothing else is loaded, and no descriptor is made
setting : Bool → Setting
setting counts = record {
  known = λ number. if number == 1 then Some program else None;
  descriptor = λ instance symbol. 0;
  makes_descriptor = λ instance symbol. false;
  counts_from_pointer = counts;
}

-- its block of thread 1
first_block : Block
first_block = record { thread = 1; instance = 1; start = 0x13ffffffff8 }

-- the number of its base, kept and rewritten
kept_base : number_for (setting false) (Base first_block) ≡ 0x13ffffffff8
unfolding setting first_block
kept_base = refl

rewritten_base : number_for (setting true) (Base first_block) ≡ 0x14000000000
unfolding setting first_block
rewritten_base = refl

first_is_made : (counts : Bool) → IsMade (setting counts) (Base first_block)
unfolding setting first_block program
first_is_made counts = (program, (refl, refl))

-- ** the field, at 0x400012 in the program's code, for the blocks of all threads

-- whatever has number 1 is the program
found : (n : ℕ) (x : Instance) → n ≡ 1 → (if n == 1 then Some program else None) ≡ Some x → x ≡ program
found n x e f =
    let here : Some program ≡ Some x = rw e at f in
    let same = here in cc

-- where such a block begins
start_is : (counts : Bool) (block : Block) → IsMade (setting counts) (Base block) → block.instance ≡ 1
    → block.start ≡ pointer_of block.thread - 8
unfolding setting program
start_is counts block made own =
    made.1.1 ∙ ap (λ (x : Instance). block_start block.thread x) (found block.instance made.0 own made.1.0)

-- kept it is 4, which is added to where the block begins
kept_field : SameField (setting false) (Some 0x400012) None 4 4
unfolding setting
kept_field = (refl, λ block made own. refl)

-- rewritten it is -4, which is added to the thread pointer
moved : (instance start thread : ℕ) → instance ≡ 1 → start ≡ pointer_of thread - 8
    → (start + 4) % 2 ^ 64 ≡ ((if instance == 1 then pointer_of thread else start) + 0xfffffffffffffffc) % 2 ^ 64
moved instance start thread e f = rw (e, f) (omega arith)

rewritten_field : SameField (setting true) (Some 0x400012) None 4 0xfffffffffffffffc
unfolding setting owner_at
rewritten_field = (
  refl,
  λ block made own. moved block.instance block.start block.thread own (start_is true block made own),
)
