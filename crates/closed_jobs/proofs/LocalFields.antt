-- The offset field of the program with local dynamic code and a descriptor, rewritten and kept: what stands there leads
-- from each thread's base to one address.
use Rattle.std.proofs.Common.{◌≡◌, ◌∙◌, ◌+◌, ◌-◌, ◌%◌, ◌^◌, ◌==◌, ℕ, Bool, true, false, List, Some, None, refl, ap}
use Rattle.std.proofs.Common.{arith}
use Rattle.std.specs.Prelude.{codes, if◌then◌else◌}
use Rattle.address_map.specs.Map.{pointer_of}
use Rattle.amd64_subset.specs.Spelling.{field_of}
use Rattle.amd64_words.specs.Number.{signed_of}
use Rattle.job_meaning.specs.declared.values.Block.{Block}
use Rattle.job_meaning.specs.declared.values.Token.TheVariants.{Base}
use Rattle.loaded_modules.specs.declared.instance.Instance.{Instance}
use Rattle.thread_blocks.specs.Instances.{block_start}
use Rattle.tied_meaning.specs.Numbers.{IsMade, base_number}
use Rattle.tied_meaning.specs.Ties.{HasFourBytes}
use Rattle.closed_jobs.specs.LocalSites.{app, setting}
use Rattle.elf_records.specs.Digits.{bytes_of_digits}
use Rattle.closed_jobs.proofs.Closed.{four-of}
use Rattle.closed_jobs.proofs.LocalLoads.{q}

-- the four bytes that stand there: 4, and -4
kept_field : (four : List ℕ) → HasFourBytes (q false) app 0x40000e four → four ≡ bytes_of_digits (codes "04000000")
unfolding q
kept_field four is =
    four-of four 4 0 0 0 is.long (is.there 0 (omega arith)) (is.there 1 (omega arith))
    (is.there 2 (omega arith)) (is.there 3 (omega arith))

rewritten_field : (four : List ℕ) → HasFourBytes (q true) app 0x40000e four → four ≡ bytes_of_digits (codes "fcffffff")
unfolding q
rewritten_field four is =
    four-of four 0xfc 0xff 0xff 0xff is.long (is.there 0 (omega arith)) (is.there 1 (omega arith))
    (is.there 2 (omega arith)) (is.there 3 (omega arith))

found : (n : ℕ) (x : Instance) → n ≡ 1 → (if n == 1 then Some app else None) ≡ Some x → x ≡ app
found n x e f =
    let here : Some app ≡ Some x = rw e at f in
    let same = here in cc

-- where a block of the program begins
start_is : (relax : Bool) (block : Block) → IsMade (setting relax) (Base block) → block.instance ≡ 1
    → block.start ≡ pointer_of block.thread - 8
start_is relax block made own =
    made.1.1 ∙ ap (λ (x : Instance). block_start block.thread x) (found block.instance made.0 own made.1.0)

moved : (instance start thread field : ℕ) → instance ≡ 1 → start ≡ pointer_of thread - 8 → field ≡ 2 ^ 64 - 4
    → (start + 4) % 2 ^ 64 ≡ ((if instance == 1 then pointer_of thread else start) + field) % 2 ^ 64
moved instance start thread field e f h = rw (e, f, h) (omega arith)

pub moves : (relax : Bool) (four : List ℕ) → HasFourBytes (q relax) app 0x40000e four
    → (block : Block) → IsMade (setting relax) (Base block) → block.instance ≡ 1
    → (block.start + 4) % 2 ^ 64 ≡ (base_number (setting relax) block + field_of four) % 2 ^ 64
unfolding signed_of
moves false four is block made own =
    let field : field_of four ≡ 4 = ap field_of (kept_field four is) in
    rw field refl
moves true four is block made own =
    let field : field_of four ≡ 2 ^ 64 - 4 = ap field_of (rewritten_field four is) in
    moved block.instance block.start block.thread (field_of four) own (start_is true block made own) field
