-- The kept program with local dynamic code and a descriptor: what stands at its sites does what is meant there.
use Rattle.std.proofs.Common.{◌+◌, ◌-◌, ◌*◌, ◌^◌, ℕ, false, refl, inl, arith}
use Rattle.std.specs.Prelude.{codes}
use Rattle.amd64_subset.specs.declared.instr.Operation.TheVariants.{Jump, LoadAddress, Call}
use Rattle.amd64_subset.specs.declared.instr.Target.TheVariants.{Relative, Indirect}
use Rattle.amd64_subset.specs.declared.instr.Width.TheVariants.{Quad}
use Rattle.amd64_subset.specs.declared.operand.Operand.TheVariants.{InMemory}
use Rattle.amd64_words.specs.declared.register.Register.TheVariants.{Rax, Rdi}
use Rattle.sequence_forms.specs.Forms.{row}
use Rattle.sequence_laws.specs.Instructions.{displaced, plain, of_next, of_register, call_through}
use Rattle.thread_blocks.specs.Instances.{Loads}
use Rattle.tied_meaning.specs.Sites.{Stands}
use Rattle.closed_jobs.specs.LocalSites.{app, setting, base, lea, call}
use Rattle.elf_records.specs.Digits.{bytes_of_digits}
use Rattle.closed_jobs.proofs.Closed.{instruction, word}
use Rattle.closed_jobs.proofs.LocalLoads as local
use Rattle.closed_jobs.proofs.Sites.{kept}

abbrev q : Loads ℕ
q = local.q false

pub base_stands : Stands (setting false) q app 0x400000 base
unfolding local.q row
base_stands = kept (setting false) q app 0x400000 base (refl, refl) refl refl refl (
  refl,
  (
    0x1ff9,
    (
      0x2ff4,
      record {
        code = (
          instruction q app 0x400000 (bytes_of_digits (codes "488d3df91f0000"))
              (displaced 7 3 (LoadAddress Quad Rdi of_next) 0x1ff9) refl refl,
          (
            instruction q app 0x400007 (bytes_of_digits (codes "e8f42f0000"))
                (plain 5 (Call (Relative 0x2ff4))) refl refl,
            tt,
          ),
        );
        pair = record {
          table = refl;
          id = 1;
          names = inl (omega arith, (omega arith, refl));
          low = omega arith;
          first = word q app 0x402000 1 refl;
          second = word q app 0x402008 0 refl;
        };
        stub = 0x403000;
        far = 2 ^ 64 - 0xfe6;
        goes = refl;
        jumps = instruction q app 0x403000 (bytes_of_digits (codes "ff251af0ffff"))
            (displaced 6 2 (Jump (Indirect (InMemory of_next))) (2 ^ 64 - 0xfe6)) refl refl;
        word = word q app 0x402020 0x1000 refl;
      },
    ),
  ),
)

pub lea_stands : Stands (setting false) q app 0x400013 lea
unfolding local.q row
lea_stands = kept (setting false) q app 0x400013 lea tt refl refl refl (
  0x1ff6,
  record {
    code = (
      instruction q app 0x400013 (bytes_of_digits (codes "488d05f61f0000"))
          (displaced 7 3 (LoadAddress Quad Rax of_next) 0x1ff6) refl refl,
      tt,
    );
    made = refl;
    number = refl;
  },
)

pub call_stands : Stands (setting false) q app 0x40001a call
unfolding local.q row
call_stands = kept (setting false) q app 0x40001a call tt refl refl refl (record {
  code = (
    instruction q app 0x40001a (bytes_of_digits (codes "ff10"))
        (plain 2 (call_through (of_register Rax))) refl refl,
    tt,
  );
  low = omega arith;
  descriptor = λ made. record {
    table = refl;
    id = 1;
    names = inl (omega arith, (omega arith, refl));
    small = (omega arith, omega arith);
    first = word q app 0x402010 0x1800 refl;
    second = word q app 0x402018 (1 * 2 ^ 32 + 4) refl;
  };
})
