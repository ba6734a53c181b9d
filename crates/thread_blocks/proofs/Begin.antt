-- A call begins alike over related values, since one definition serves both.
use Rattle.std.proofs.Common.{ℕ, zero, suc, ◌+◌, ◌-◌, ◌≤◌, false, refl, arith}
use Rattle.address_map.specs.Map.{pointer_of, return_place, stack_end, stack_size}
use Rattle.guest_machine.specs.Access.{bytes_from}
use Rattle.guest_machine.specs.Follow.{All2, Alike, IsFollowed, SameState}
use Rattle.guest_machine.specs.State.{start_of}
use Rattle.guest_arithmetic.specs.Values.{Operations}
use Rattle.thread_blocks.specs.MachineTurns.{zeros, word_bytes, fresh_stack, pointer_word, call_start}
use Rattle.thread_blocks.specs.SpaceLaws.{SameRange}
use Rattle.thread_blocks.proofs.Spaces.{all2-append}

module _ {W F B W' F' B' : Type 0} (same : Alike W F B W' F' B') (ops : Operations W F B) (ops' : Operations W' F' B')
    (followed : IsFollowed same ops ops')
    (zero_byte : same.byte (ops.byte 0) (ops'.byte 0)) where
  bytes-same : (size k : ℕ) (w : W) (w' : W') → same.word w w' → k + size ≤ 8
      → All2 same.byte (bytes_from ops w k size) (bytes_from ops' w' k size)
  bytes-same zero k w w' h fits = tt
  bytes-same (suc size) k w w' h fits =
      (followed.byte_of w w' h k (omega arith), bytes-same size (k + 1) w w' h (omega arith))

  zeros-same : (count : ℕ) → All2 same.byte (zeros (ops.byte 0) count) (zeros (ops'.byte 0) count)
  unfolding zeros
  zeros-same zero = tt
  zeros-same (suc count) = (zero_byte, zeros-same count)

  pub stack_alike : All2 same.byte (fresh_stack ops) (fresh_stack ops')
  stack_alike =
      all2-append same.byte (zeros (ops.byte 0) (stack_size - 8)) (word_bytes ops return_place)
      (zeros (ops'.byte 0) (stack_size - 8)) (word_bytes ops' return_place) (zeros-same (stack_size - 8))
      (bytes-same 8 0 (ops.word return_place) (ops'.word return_place) (followed.word return_place) (omega arith))

  pub pointer_word_alike : (thread : ℕ) → SameRange same.byte (pointer_word ops thread) (pointer_word ops' thread)
  pointer_word_alike thread = record {
    start = refl;
    readable = refl;
    writable = refl;
    runnable = refl;
    bytes = bytes-same 8 0 (ops.word (pointer_of thread)) (ops'.word (pointer_of thread))
        (followed.word (pointer_of thread)) (omega arith);
  }

  pub call_start_alike : (thread place a b c : ℕ)
      → SameState same (call_start ops thread place a b c) (call_start ops' thread place a b c)
  unfolding start_of
  call_start_alike thread place a b c = let none = followed.word 0 in let clear = followed.flag false in record {
    registers = record {
      rax = none;
      rcx = none;
      rdx = followed.word c;
      rbx = none;
      rsp = followed.word (stack_end thread - 8);
      rbp = none;
      rsi = followed.word b;
      rdi = followed.word a;
      r8 = none;
      r9 = none;
      r10 = none;
      r11 = none;
      r12 = none;
      r13 = none;
      r14 = none;
      r15 = none;
    };
    flags = record { zero = clear; sign = clear; carry = clear; overflow = clear };
    place = refl;
    thread_pointer = refl;
  }
