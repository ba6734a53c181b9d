-- The stub is one instruction, and jumps through the run time's word.
use Rattle.std.proofs.Common.{◌≡◌, ◌∙◌, ◌+◌, ◌-◌, ◌*◌, ◌%◌, ◌^◌, ◌<◌, ◌≤◌, ℕ, suc, Bool, true, false, List, [], ◌∷◌}
use Rattle.std.proofs.Common.{Option}
use Rattle.std.proofs.Common.{None, Some, IsSome, refl, sym, ap, arith}
use Rattle.std.specs.Prelude.{pos, negsuc, ◌+ℤ◌, ◌-ℤ◌, slice_index_or, unwrap_or, if◌then◌else◌}
use Rattle.std.specs.Int.{w32, cast_unsigned}
use Rattle.std.proofs.lemmas.Bool.{le-ltb, lt-ltb}
use Rattle.std.proofs.lemmas.List.{take_all}
use Rattle.std.proofs.lemmas.Nat.{from_le_bytes-to_le_bytes_4}
use Rattle.std.proofs.lemmas.Option.{slice_get-get_or}
use Rattle.amd64_subset.specs.declared.instr.Decoded.{Decoded}
use Rattle.amd64_subset.specs.declared.instr.Operation.TheVariants.{Jump}
use Rattle.amd64_subset.specs.declared.instr.Target.TheVariants.{Indirect}
use Rattle.amd64_subset.specs.declared.operand.Operand.TheVariants.{InMemory}
use Rattle.amd64_subset.specs.Decoding.{body_at, decoded, end_branch_at, escaped_at, instruction_at, operated_at}
use Rattle.amd64_subset.specs.Decoding.{row_at}
use Rattle.amd64_subset.specs.Meaning.{numbered_body, operand_body, operation_of}
use Rattle.amd64_subset.specs.Number.{signed_of}
use Rattle.amd64_subset.specs.Prefix.{prefixes_at, rex_at}
use Rattle.amd64_subset.specs.Reading.{numbers_at}
use Rattle.amd64_subset.specs.Register.{number_of, register_of}
use Rattle.amd64_subset.specs.Row.{arithmetic_of, condition_of, escaped_row_of, fixed_row_of, group_action, row_of}
use Rattle.amd64_subset.specs.Row.{shift_of}
use Rattle.amd64_subset.specs.Row.{takes}
use Rattle.amd64_subset.specs.Selectors.{allowed, displacement_size, memory_in, selectors_at, sib_at}
use Rattle.amd64_subset.specs.Spelling.{field_of}
use Rattle.elf_records.specs.declared.relocation.RelocationKind.TheVariants.{GotPcRel}
use Rattle.elf_records.specs.Fields.{bytes_of, part_at}
use Rattle.got_pairs.specs.declared.need.Need.TheVariants.{RuntimeWord}
use Rattle.got_pairs.specs.Needs.{start_of}
use Rattle.guest_operands.specs.declared.space.Access.TheVariants.{Run}
use Rattle.guest_operands.specs.Ranges.{byte_in}
use Rattle.guest_operands.specs.Use.{plus}
use Rattle.known_instances.proofs.StartupNumbers.{known_given}
use Rattle.link_core.proofs.Few.{table_fits}
use Rattle.link_core.proofs.LengthsRaw.{stub_length, stub_small, word_before}
use Rattle.link_core.proofs.StandingTable.{stub_jumps}
use Rattle.link_core.specs.Bytes.{stub_bytes}
use Rattle.link_faults.specs.declared.image_kind.ImageKind.{ImageKind}
use Rattle.link_faults.specs.ImageKinds.{is_moved}
use Rattle.link_needs.proofs.Reached.{stubs_have_their_word}
use Rattle.link_needs.specs.Given.{FitsTable, IsGiven}
use Rattle.link_needs.specs.Linking.{Linking}
use Rattle.link_needs.specs.Needs.{entries, entry_by, got_start, need_address, stub_start}
use Rattle.loaded_bytes.specs.Laws.{images_of}
use Rattle.sequence_laws.specs.Instructions.{displaced, of_next}
use Rattle.thread_blocks.specs.JobLoads.{job_loads}
use Rattle.tls_relocs.specs.declared.fields.Field.TheVariants.{Empty}
use Rattle.tls_relocs.specs.Fields.{field_bytes}
use Rattle.tls_relocs.specs.Values.{stored_field}
use Rattle.whole_meaning.specs.Spots.{bias_of}
use Rattle.loaded_words.proofs.Stub.{stub_byte}
use Rattle.loaded_words.specs.Laws.{StubIsLoaded}

-- ** how the six bytes are read

reads : List ℕ → Option Decoded
unfolding
    end_branch_at escaped_at row_at operated_at body_at instruction_at decoded numbered_body operation_of operand_body
    signed_of rex_at prefixes_at numbers_at register_of number_of condition_of fixed_row_of row_of escaped_row_of
    arithmetic_of shift_of group_action takes allowed displacement_size memory_in sib_at selectors_at
reads bytes = decoded bytes

-- jmp *far(%rip)
jump_read : (a b c d : ℕ)
    → decoded (0xff ∷ 0x25 ∷ a ∷ b ∷ c ∷ d ∷ [])
    ≡ Some (displaced 6 2 (Jump (Indirect (InMemory of_next))) (field_of (a ∷ b ∷ c ∷ d ∷ [])))
unfolding reads
jump_read a b c d = refl

-- ** how far it jumps: back, from behind the stub to the word

back : (g m : ℕ) → g ≤ m → pos g +ℤ negsuc m ≡ negsuc (m - g)
back g m below =
    let yes = lt-ltb g (suc m) (omega (arith, below)) in
    let same : suc m - suc g ≡ m - g = omega arith in
    rw yes (ap negsuc same)

module _ (s a : ℕ) (before : a ≤ s) (small : s + 2 < 2 ^ 29) where
  abbrev distance : ℕ
  distance = s + 6 - a

  abbrev word : ℕ
  word = cast_unsigned w32 (pos a -ℤ pos (s + 6))

  word_is : word ≡ 2 ^ 32 - distance
  word_is =
      let near : s + 6 ≡ suc (s + 5) = omega arith in
      let bits : 2 ^ 32 - suc (s + 5 - a) ≡ 2 ^ 32 - (s + 6 - a) = omega (arith, before) in
      ap (λ n. cast_unsigned w32 (pos a -ℤ pos n)) near
      ∙ ap (cast_unsigned w32) (back a (s + 5) (omega (arith, before)))
      ∙ bits

  far_is : field_of (bytes_of 4 word) ≡ 2 ^ 64 - distance
  unfolding bytes_of signed_of
  far_is =
      let is = word_is in
      let again = from_le_bytes-to_le_bytes_4 word (omega (arith, is, before, small)) in
      let high = le-ltb word 0x8000_0000 (omega (arith, is, before, small)) in
      let sum : word + 0xffff_ffff_0000_0000 ≡ 2 ^ 64 - distance = omega (arith, is, before, small) in
      rw again (rw high sum)

  goes_to : (bias : ℕ) → a + bias < 2 ^ 64 → plus (s + bias + 6) (2 ^ 64 - distance) ≡ a + bias
  goes_to bias low =
      let sum : s + bias + 6 + (2 ^ 64 - distance) ≡ a + bias + 2 ^ 64 = omega (arith, before, small) in
      let rest : (a + bias + 2 ^ 64) % 2 ^ 64 ≡ a + bias = omega (arith, low) in
      ap (λ n. n % 2 ^ 64) sum ∙ rest

bias_low : (kind : ImageKind) (number : ℕ) → number < 2 ^ 12 → bias_of kind number < 2 ^ 40
bias_low kind number low = of_test (is_moved kind)
  where
    of_test : (t : Bool) → (if t then 2 ^ 32 + number * 2 ^ 26 else 0) < 2 ^ 40
    of_test true = omega (arith, low)
    of_test false = omega arith

-- ** the instruction

module _ (l : Linking) (given : IsGiven l) (limits : FitsTable l) where
  abbrev jump : ℕ
  jump = cast_unsigned w32 (pos (need_address l (Some RuntimeWord)) -ℤ pos (stub_start l + 6))

  -- its bytes: two of the opcode, and the field
  bytes_are : stub_bytes l ≡ 0xff ∷ 0x25 ∷ bytes_of 4 jump
  unfolding stub_bytes part_at
  bytes_are =
      let four = field_bytes
      (unwrap_or (stored_field GotPcRel 0 (negsuc 3) (stub_start l + 2) (need_address l (Some RuntimeWord))) Empty) in
      let long = stub_length l given limits in
      ap (λ bytes. 0xff ∷ 0x25 ∷ bytes) (sym (take_all 4 four (omega (arith, long))) ∙ stub_jumps l given limits)

  is_read : decoded (stub_bytes l)
      ≡ Some (displaced 6 2 (Jump (Indirect (InMemory of_next))) (field_of (bytes_of 4 jump)))
  unfolding bytes_of
  is_read = ap decoded bytes_are ∙ jump_read _ _ _ _

-- the law
pub stub_loaded : StubIsLoaded
stub_loaded ls l x history known is has =
    let m = images_of ls in
    let limits = table_fits l is.given is.links.sound.limits in
    let start = stubs_have_their_word l has in
    let place : need_address l (Some RuntimeWord) ≡ got_start l + start.at = ap (entry_by l) start.starts in
    let number = (known_given (job_loads m) history known.legal x.number x known.known).low in
    let bias = bias_of l.kind x.number in
    let moved = bias_low l.kind x.number number in
    let before = word_before l in
    let small = stub_small l is.given limits in
    let long = stub_length l is.given limits in
    let goes : plus (stub_start l + bias_of l.kind x.number + 6) (field_of (bytes_of 4 (jump l is.given limits)))
    ≡ got_start l + start.at + bias_of l.kind x.number =
    ap (plus (stub_start l + bias_of l.kind x.number + 6))
    (far_is (stub_start l) (need_address l (Some RuntimeWord)) before small)
    ∙ goes_to (stub_start l) (need_address l (Some RuntimeWord)) before small (bias_of l.kind x.number)
    (omega (arith, before, small, moved))
    ∙ ap (λ n. n + bias_of l.kind x.number) place in
    record {
      bytes = stub_bytes l;
      far = field_of (bytes_of 4 (jump l is.given limits));
      read = is_read l is.given limits;
      there = λ k below.
          let own = slice_get-get_or (stub_bytes l) k 0 (omega (arith, long, below)) in
          let order : stub_start l + bias_of l.kind x.number + k ≡ stub_start l + k + bias_of l.kind x.number =
          omega arith in
          ap (byte_in Run ((job_loads m).fixed x)) order
          ∙ stub_byte ls l x k (slice_index_or (stub_bytes l) k 0) is has own
          ∙ sym own;
      at = start.at;
      starts = start.starts;
      goes = goes;
    }
