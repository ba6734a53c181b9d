-- The example of the crate's essay: a program with 8 bytes of thread-local storage, x at offset 4 in them, and a
-- general dynamic sequence for x, as it is kept and as it is rewritten. What each law asks of a sequence's place holds
-- of both.
use Rattle.std.proofs.Common.{if◌then◌else◌, ◌≡◌, ◌+◌, ◌-◌, ◌^◌, ◌<◌, ◌≤◌, ◌==◌, ℕ, zero, suc, true, false, List, []}
use Rattle.std.proofs.Common.{◌∷◌, Option, Some, None, refl, subst, inl, inr, arith}
use Rattle.std.specs.Prelude.{slice_get}
use Rattle.address_map.specs.Map.{pointer_of}
use Rattle.amd64_subset.specs.declared.instr.Decoded.{Decoded}
use Rattle.amd64_subset.specs.Beginning.{begins_of}
use Rattle.amd64_subset.specs.Decoding.{end_branch_at, escaped_at, row_at, operated_at, body_at, instruction_at}
use Rattle.amd64_subset.specs.Decoding.{decoded}
use Rattle.amd64_subset.specs.Meaning.{numbered_body, operation_of, operand_body}
use Rattle.amd64_subset.specs.Number.{signed_of}
use Rattle.amd64_subset.specs.Prefix.{rex_at, prefixes_at}
use Rattle.amd64_subset.specs.Reading.{numbers_at}
use Rattle.amd64_subset.specs.Register.{register_of, number_of}
use Rattle.amd64_subset.specs.Row.{condition_of, fixed_row_of, row_of, escaped_row_of, arithmetic_of, shift_of}
use Rattle.amd64_subset.specs.Row.{group_action, takes}
use Rattle.amd64_subset.specs.Selectors.{allowed, displacement_size, memory_in, sib_at, selectors_at}
use Rattle.amd64_words.specs.declared.register.Register.TheVariants.{Rax}
use Rattle.guest_arithmetic.specs.Values.{digit}
use Rattle.guest_machine.specs.Ranges.{Range, byte_in}
use Rattle.guest_operands.specs.declared.space.Access.TheVariants.{Read, Run}
use Rattle.loaded_modules.specs.declared.instance.Instance.{Instance}
use Rattle.relax_sites.specs.declared.choices.Choice.TheVariants.{GdLe}
use Rattle.sequence_forms.specs.declared.forms.Form.TheVariants.{Gd}
use Rattle.sequence_forms.specs.Forms.{row}
use Rattle.thread_blocks.specs.Instances.{Loads, block_start}
use Rattle.whole_meaning.specs.declared.sequences.Sequence.{Sequence}
use Rattle.whole_meaning.specs.Sequences.{variable_distance}
use Rattle.tied_meaning.specs.Numbers.{Setting}
use Rattle.tied_meaning.specs.Sites.{HasInstruction, HasWord, Stands}

-- ** what is loaded

-- the program's block begins 8 bytes below the thread pointer
abbrev program : Instance
program = record { image = 1; number = 1; id = 1; offset = Some 8 }

-- nothing else is loaded, and no descriptor is made
abbrev known_here : ℕ → Option Instance
known_here number = if number == 1 then Some program else None

abbrev setting : Setting
setting = record {
  known = known_here;
  descriptor = λ instance symbol. 0;
  makes_descriptor = λ instance symbol. false;
  counts_from_pointer = false;
}

abbrev code : List ℕ → Range ℕ
code bytes = record { start = 0x400000; readable = true; writable = false; runnable = true; bytes = bytes }

-- the pair of x, module 1 and offset 4, and the word that holds the run time's place
abbrev table : Range ℕ
table = record {
  start = 0x401000;
  readable = true;
  writable = false;
  runnable = false;
  bytes = 1 ∷ 0 ∷ 0 ∷ 0 ∷ 0 ∷ 0 ∷ 0 ∷ 0 ∷ 4 ∷ 0 ∷ 0 ∷ 0 ∷ 0 ∷ 0 ∷ 0 ∷ 0 ∷ 0 ∷ 0x10 ∷ 0 ∷ 0 ∷ 0 ∷ 0 ∷ 0 ∷ 0 ∷ [];
}

abbrev loads : List (Range ℕ) → Loads ℕ
loads fixed = record {
  infos = record { late = false; statics = true; size = 8; align = 4 } ∷ [];
  last_offset = 8;
  function = λ x name. None;
  variable = λ image name. None;
  fixed = λ x. fixed;
  tables = λ x. table ∷ [];
  shared = λ x. None;
  block = λ x. 0 ∷ 0 ∷ 0 ∷ 0 ∷ 0 ∷ 0 ∷ 0 ∷ 0 ∷ [];
}

-- lea 0xff8(%rip), %rdi; call the stub; and behind it the stub, jmp *0xffa(%rip)
abbrev kept : Loads ℕ
kept = loads (code (0x66 ∷ 0x48 ∷ 0x8d ∷ 0x3d ∷ 0xf8 ∷ 0x0f ∷ 0 ∷ 0 ∷ 0x66 ∷ 0x66 ∷ 0x48 ∷ 0xe8 ∷ 0 ∷ 0 ∷ 0 ∷ 0
    ∷ 0xff ∷ 0x25 ∷ 0xfa ∷ 0x0f ∷ 0 ∷ 0 ∷ []) ∷ table ∷ [])

-- mov %fs:0, %rax; lea -4(%rax), %rax
abbrev rewritten : Loads ℕ
rewritten = loads (code (0x64 ∷ 0x48 ∷ 0x8b ∷ 0x04 ∷ 0x25 ∷ 0 ∷ 0 ∷ 0 ∷ 0 ∷ 0x48 ∷ 0x8d ∷ 0x80 ∷ 0xfc ∷ 0xff ∷ 0xff
    ∷ 0xff ∷ []) ∷ [])

-- what is meant there, in both
abbrev of_x : Sequence
of_x = record { form = Gd; next = 0x400010; register = Rax; instance = 1; symbol = 0; target = 1; offset = 4 }

-- ** what stands at its places

abbrev Upto : ℕ → (ℕ → Option ℕ) → (ℕ → Option ℕ) → Type 0
Upto zero f g = Unit {0}
Upto (suc n) f g = (f 0 ≡ g 0) × Upto n (λ k. f (suc k)) (λ k. g (suc k))

below : (n : ℕ) (f g : ℕ → Option ℕ) → Upto n f g → (k : ℕ) → k < n → f k ≡ g k
below zero f g all k low = absurd (omega (arith, low))
below (suc n) f g all zero low = all.0
below (suc n) f g all (suc k) low = below n (λ k. f (suc k)) (λ k. g (suc k)) all.1 k (omega (arith, low))

word : (q : Loads ℕ) (address n : ℕ)
    → Upto 8 (λ k. byte_in Read (q.fixed program) (address + k)) (λ k. Some (digit n k)) → HasWord q program address n
word q address n all k low =
    below 8 (λ k. byte_in Read (q.fixed program) (address + k)) (λ k. Some (digit n k)) all k low

instruction : (q : Loads ℕ) (place : ℕ) (d : Decoded) (bytes : List ℕ) → decoded bytes ≡ Some d
    → Upto d.len (λ k. byte_in Run (q.fixed program) (place + k)) (λ k. slice_get bytes k)
    → HasInstruction q program place d
instruction q place d bytes read all = record {
  bytes = bytes;
  read = read;
  there = below d.len (λ k. byte_in Run (q.fixed program) (place + k)) (λ k. slice_get bytes k) all;
}

kept_stands : Stands setting kept program 0x400000 of_x
unfolding begins_of end_branch_at escaped_at row_at operated_at body_at instruction_at decoded numbered_body
    operation_of operand_body signed_of rex_at prefixes_at numbers_at register_of number_of condition_of fixed_row_of
    row_of escaped_row_of arithmetic_of shift_of group_action takes allowed displacement_size memory_in sib_at
    selectors_at row
kept_stands = record {
  base = tt;
  own = refl;
  ends = refl;
  asked = inl refl;
  stands = inl (
    0xff8,
    (
      0,
      record {
        code = (
          instruction kept 0x400000 _ (0x66 ∷ 0x48 ∷ 0x8d ∷ 0x3d ∷ 0xf8 ∷ 0x0f ∷ 0 ∷ 0 ∷ []) refl
              (refl, (refl, (refl, (refl, (refl, (refl, (refl, (refl, tt)))))))),
          (
            instruction kept 0x400008 _ (0x66 ∷ 0x66 ∷ 0x48 ∷ 0xe8 ∷ 0 ∷ 0 ∷ 0 ∷ 0 ∷ []) refl
                (refl, (refl, (refl, (refl, (refl, (refl, (refl, (refl, tt)))))))),
            tt,
          ),
        );
        pair = record {
          table = refl;
          id = 1;
          names = inl (omega arith, (omega arith, refl));
          low = omega arith;
          first = word kept 0x401000 1 (refl, (refl, (refl, (refl, (refl, (refl, (refl, (refl, tt))))))));
          second = word kept 0x401008 4 (refl, (refl, (refl, (refl, (refl, (refl, (refl, (refl, tt))))))));
        };
        stub = 0x400010;
        far = 0xffa;
        goes = refl;
        jumps = instruction kept 0x400010 _ (0xff ∷ 0x25 ∷ 0xfa ∷ 0x0f ∷ 0 ∷ 0 ∷ []) refl
            (refl, (refl, (refl, (refl, (refl, (refl, tt))))));
        word = word kept 0x401010 0x1000 (refl, (refl, (refl, (refl, (refl, (refl, (refl, (refl, tt))))))));
      },
    ),
  );
}

-- x is 4 bytes below the thread pointer, in each thread
distance : (thread : ℕ) (y : Instance) → thread ≤ 64 → known_here 1 ≡ Some y
    → 2 ^ 64 - 4 ≡ variable_distance of_x (block_start thread y) (pointer_of thread)
distance thread y high known =
    let same : program ≡ y = cc in
    subst (λ (z : Instance). 2 ^ 64 - 4 ≡ variable_distance of_x (block_start thread z) (pointer_of thread)) same
    (omega (arith, high))

rewritten_stands : Stands setting rewritten program 0x400000 of_x
unfolding begins_of end_branch_at escaped_at row_at operated_at body_at instruction_at decoded numbered_body
    operation_of operand_body signed_of rex_at prefixes_at numbers_at register_of number_of condition_of fixed_row_of
    row_of escaped_row_of arithmetic_of shift_of group_action takes allowed displacement_size memory_in sib_at
    selectors_at row
rewritten_stands = record {
  base = tt;
  own = refl;
  ends = refl;
  asked = inl refl;
  stands = inr (
    GdLe,
    (
      0,
      (
        2 ^ 64 - 4,
        (
          record {
            code = (
              instruction rewritten 0x400000 _ (0x64 ∷ 0x48 ∷ 0x8b ∷ 0x04 ∷ 0x25 ∷ 0 ∷ 0 ∷ 0 ∷ 0 ∷ []) refl
                  (refl, (refl, (refl, (refl, (refl, (refl, (refl, (refl, (refl, tt))))))))),
              (
                instruction rewritten 0x400009 _ (0x48 ∷ 0x8d ∷ 0x80 ∷ 0xfc ∷ 0xff ∷ 0xff ∷ 0xff ∷ []) refl
                    (refl, (refl, (refl, (refl, (refl, (refl, (refl, tt))))))),
                tt,
              ),
            );
            program = refl;
            early = omega arith;
          },
          λ thread y high known. distance thread y high known,
        ),
      ),
    ),
  );
}
