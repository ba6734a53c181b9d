-- The rewritten program with local dynamic code and a descriptor: what stands at its sites does what is meant there.
use Rattle.std.proofs.Common.{◌≡◌, ◌-◌, ◌%◌, ◌^◌, ℕ, true, Some, None, refl, sym, subst, arith}
use Rattle.std.specs.Prelude.{codes}
use Rattle.address_map.specs.Map.{pointer_of}
use Rattle.amd64_subset.specs.declared.instr.Operation.TheVariants.{Nop}
use Rattle.amd64_words.specs.declared.register.Register.TheVariants.{Rax}
use Rattle.loaded_modules.specs.declared.instance.Instance.{Instance}
use Rattle.relax_sites.specs.declared.choices.Choice.TheVariants.{DescLe, LdLe}
use Rattle.sequence_forms.specs.Forms.{row}
use Rattle.sequence_laws.specs.Instructions.{displaced, immediate, load, of_thread, plain, set}
use Rattle.thread_blocks.specs.Instances.{Loads, block_start}
use Rattle.tied_meaning.specs.Sites.{IsDistance, Stands}
use Rattle.guest_machine.specs.Use.{plus}
use Rattle.whole_meaning.specs.Sequences.{variable_distance}
use Rattle.closed_jobs.specs.LocalSites.{app, setting, base, lea, call}
use Rattle.elf_records.specs.Digits.{bytes_of_digits}
use Rattle.closed_jobs.proofs.Closed.{instruction}
use Rattle.closed_jobs.proofs.LocalLoads as local
use Rattle.closed_jobs.proofs.Sites.{written}

abbrev q : Loads ℕ
q = local.q true

pub base_stands : Stands (setting true) q app 0x400000 base
unfolding local.q row
base_stands = written (setting true) q app 0x400000 base (refl, refl) refl refl refl LdLe 0 0
    (displaced 12 8 (load Rax of_thread) 0) refl
    (instruction q app 0x400000 (bytes_of_digits (codes "66666664488b042500000000"))
    (displaced 12 8 (load Rax of_thread) 0) refl refl) refl (omega arith) refl

pub lea_stands : Stands (setting true) q app 0x400013 lea
unfolding local.q row
lea_stands = written (setting true) q app 0x400013 lea tt refl refl refl DescLe 0 (2 ^ 64 - 4)
    (immediate 7 3 (set Rax) (2 ^ 64 - 4)) refl
    (instruction q app 0x400013 (bytes_of_digits (codes "48c7c0fcffffff"))
    (immediate 7 3 (set Rax) (2 ^ 64 - 4)) refl refl) refl (omega arith) (refl, refl)

-- only the program has number 1
only : (y : Instance) → Some app ≡ Some y → y ≡ app
only y e = cc

-- x is 4 bytes below each thread pointer
distance : IsDistance (setting true) call ((2 ^ 64 - 4) % 2 ^ 64)
distance thread y few known =
    let d : (2 ^ 64 - 4) % 2 ^ 64 ≡ plus (plus (pointer_of thread - 8) 4) (2 ^ 64 - pointer_of thread) = omega arith in
    subst (λ z. (2 ^ 64 - 4) % 2 ^ 64 ≡ variable_distance call (block_start thread z) (pointer_of thread))
    (sym (only y known)) d

pub call_stands : Stands (setting true) q app 0x40001a call
unfolding local.q row
call_stands = written (setting true) q app 0x40001a call tt refl refl refl DescLe 0 0 (plain 2 (Nop None)) refl
    (instruction q app 0x40001a (bytes_of_digits (codes "6690")) (plain 2 (Nop None)) refl refl)
    refl (omega arith) (λ made. distance)
