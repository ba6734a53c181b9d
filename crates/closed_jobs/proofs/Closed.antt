-- What is loaded of images, with all that it is computed by open; and instructions and words of it, from one list of
-- bytes.
use Rattle.std.proofs.Common.{◌≡◌, ◌<◌, ◌+◌, ◌⊎◌, ℕ, zero, suc, List, [], ◌∷◌, length, Some, inl, inr, arith}
use Rattle.std.proofs.Common.{eq-or-lt_of_le}
use Rattle.std.specs.Prelude.{slice_get}
use Rattle.amd64_subset.specs.declared.instr.Decoded.{Decoded}
use Rattle.guest_arithmetic.specs.Values.{digit}
use Rattle.guest_machine.specs.Ranges.{byte_in}
use Rattle.guest_operands.specs.declared.space.Access.TheVariants.{Read, Run}
use Rattle.loaded_modules.specs.declared.instance.Instance.{Instance}
use Rattle.tied_meaning.specs.Sites.{HasInstruction, HasWord}
use Rattle.image_file.specs.Spelled.{Spelled}
use Rattle.link_faults.specs.declared.image_kind.ImageKind.{ImageKind}
use Rattle.amd64_subset.specs.Beginning.{begins_of}
use Rattle.amd64_subset.specs.Decoding.{end_branch_at, escaped_at, row_at, operated_at, body_at, instruction_at}
use Rattle.amd64_subset.specs.Decoding.{decoded}
use Rattle.amd64_subset.specs.Meaning.{numbered_body, operation_of, operand_body}
use Rattle.amd64_subset.specs.Number.{signed_of}
use Rattle.amd64_subset.specs.Prefix.{rex_at, prefixes_at}
use Rattle.amd64_subset.specs.Reading.{numbers_at}
use Rattle.amd64_subset.specs.Register.{register_of as named_register, number_of}
use Rattle.amd64_subset.specs.Row.{condition_of as encoded_condition, fixed_row_of, row_of, escaped_row_of}
use Rattle.amd64_subset.specs.Row.{arithmetic_of, shift_of, group_action, takes}
use Rattle.amd64_subset.specs.Selectors.{allowed, displacement_size, memory_in, sib_at, selectors_at}
use Rattle.elf_records.specs.Fields.{bytes_of, splice}
use Rattle.module_table.specs.Past.{start, open_refusal, close_refusal, least_free, loaded, retained, released, opened}
use Rattle.module_table.specs.Past.{after_one, past}
use Rattle.loaded_modules.specs.Images.{infos, last_offset, static_offset, image_at}
use Rattle.loaded_modules.specs.Loader.{bias, export_of, target_of, relocation_bytes, part_bytes, fresh_block}
use Rattle.image_names.specs.Functions.{entry_in}
use Rattle.image_names.specs.Variables.{variable_in}
use Rattle.thread_blocks.specs.Instances.{Loads}
use Rattle.thread_blocks.specs.JobLoads.{job_loads}
use Rattle.thread_blocks.specs.MachineTurns.{zeros}

-- ** functions below a number

abbrev pub listed : {X : Type 0} → (ℕ → X) → ℕ → List X
listed f zero = []
listed f (suc n) = f n ∷ listed f n

each-at : {X : Type 0} (f g : ℕ → X) (n k : ℕ) → f n ≡ g n → ((k < n) → f k ≡ g k) → (k ≡ n) ⊎ (k < n) → f k ≡ g k
each-at f g n k last before (inl e) = rw e last
each-at f g n k last before (inr below) = before below

pub each : {X : Type 0} (f g : ℕ → X) (n : ℕ) → listed f n ≡ listed g n → (k : ℕ) → k < n → f k ≡ g k
each f g zero e k below = absurd (omega arith)
each f g (suc n) e k below =
    let last : f n ≡ g n = cc in
    let before : listed f n ≡ listed g n = cc in
    each-at f g n k last (λ less. each f g n before k less) (eq-or-lt_of_le (omega arith))

-- ** bytes

-- a list of four is told by its elements
pub four-of : (four : List ℕ) (a b c d : ℕ) → length four ≡ 4 → Some a ≡ slice_get four 0 → Some b ≡ slice_get four 1
    → Some c ≡ slice_get four 2 → Some d ≡ slice_get four 3 → four ≡ a ∷ b ∷ c ∷ d ∷ []
four-of (p ∷ q ∷ r ∷ s ∷ []) a b c d long e f g h = cc
four-of [] a b c d long e f g h = absurd (omega arith)
four-of (p ∷ []) a b c d long e f g h = absurd (omega arith)
four-of (p ∷ q ∷ []) a b c d long e f g h = absurd (omega arith)
four-of (p ∷ q ∷ r ∷ []) a b c d long e f g h = absurd (omega arith)
four-of (p ∷ q ∷ r ∷ s ∷ t ∷ more) a b c d long e f g h = absurd (omega arith)

-- ** instructions and words

pub instruction : (q : Loads ℕ) (x : Instance) (place : ℕ) (bytes : List ℕ) (d : Decoded) → decoded bytes ≡ Some d
    → listed (λ k. byte_in Run (q.fixed x) (place + k)) d.len ≡ listed (slice_get bytes) d.len
    → HasInstruction q x place d
instruction q x place bytes d e f = record {
  bytes = bytes;
  read = e;
  there = each (λ k. byte_in Run (q.fixed x) (place + k)) (slice_get bytes) d.len f;
}

pub word : (q : Loads ℕ) (x : Instance) (address number : ℕ)
    → listed (λ k. byte_in Read (q.fixed x) (address + k)) 8 ≡ listed (λ k. Some (digit number k)) 8
    → HasWord q x address number
word q x address number e = each (λ k. byte_in Read (q.fixed x) (address + k)) (λ k. Some (digit number k)) 8 e

-- ** all that is loaded

-- what is loaded of linked images, with all that it is computed by open
unfoldable pub loads : List ImageKind → List Spelled → Loads ℕ
unfolding
    begins_of end_branch_at escaped_at row_at operated_at body_at instruction_at decoded numbered_body
    operation_of operand_body signed_of rex_at prefixes_at numbers_at named_register number_of encoded_condition
    fixed_row_of row_of escaped_row_of arithmetic_of shift_of group_action takes allowed displacement_size
    memory_in sib_at selectors_at bytes_of splice start open_refusal close_refusal least_free loaded retained
    released opened after_one past infos last_offset static_offset image_at bias export_of target_of
    relocation_bytes part_bytes fresh_block entry_in zeros job_loads variable_in
loads kinds images = job_loads (record { kinds = kinds; images = images })
