-- Plain numbers: a word is a number below 2^64, a flag a truth value, a byte a number below 256.
use Rattle.std.specs.Prelude.{ℕ, ◌+◌, ◌%◌, ◌^◌, Bool, Some, Ok}
use Rattle.guest_arithmetic.specs.Values.{Operations, number_from, digit}

unfoldable pub plain_operations : Operations ℕ Bool ℕ
plain_operations = record {
  word = λ number. number % 2 ^ 64;
  number_of = λ word. Ok word;
  unknown = 0;
  flag = λ truth. truth;
  truth_of = λ flag. Ok flag;
  unsettled = λ flag. flag;
  moved = λ word field place. Ok ((word + field) % 2 ^ 64);
  misused = λ number. Ok number;
  byte = λ number. number;
  code = λ byte. Some byte;
  joined = λ bytes. number_from bytes % 2 ^ 64;
  byte_of = λ word k. digit word k;
}
