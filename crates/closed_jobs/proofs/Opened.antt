-- What jobs mean, with all that it is computed by open: the objects' files in, and out what is printed.
use Rattle.std.proofs.Common.{ℕ, List}
use Rattle.address_map.specs.Map.{owner_at}
use Rattle.job_text.specs.declared.thread_lines.ThreadLine.{ThreadLine}
use Rattle.link_needs.specs.Linking.{Linking}
use Rattle.amd64_subset.specs.Beginning.{begins_of}
use Rattle.amd64_subset.specs.Decoding.{end_branch_at, escaped_at, row_at, operated_at, body_at, instruction_at}
use Rattle.amd64_subset.specs.Decoding.{decoded}
use Rattle.amd64_subset.specs.Meaning.{numbered_body, operation_of, operand_body}
use Rattle.amd64_subset.specs.Number.{signed_of}
use Rattle.amd64_subset.specs.Prefix.{rex_at, prefixes_at}
use Rattle.amd64_subset.specs.Reading.{numbers_at}
use Rattle.amd64_subset.specs.Register.{register_of as named_register, number_of}
use Rattle.amd64_subset.specs.Row.{condition_of as encoded_condition, fixed_row_of, row_of, escaped_row_of}
use Rattle.amd64_subset.specs.Row.{arithmetic_of, shift_of as encoded_shift, group_action, takes}
use Rattle.amd64_subset.specs.Selectors.{allowed, displacement_size, memory_in as encoded_memory, sib_at, selectors_at}
use Rattle.elf_object.specs.Lent.{section_bytes, section_class, section_size, section_alignment, symbol_name}
use Rattle.elf_object.specs.Lent.{symbol_binding, symbol_visibility, symbol_place, symbol_value, relocation_at}
use Rattle.elf_object.specs.Lent.{relocations_from, kept_relocation_table, relocations_in}
use Rattle.elf_records.specs.Fields.{number_at, part_at, bytes_of}
use Rattle.elf_records.specs.Records.{header_at, section_at, symbol_at, rela_at}
use Rattle.elf_records.specs.Strings.{text_at}
use Rattle.object_faults.specs.Classes.{class_of, kept_class}
use Rattle.object_faults.specs.Firsts.{first_below}
use Rattle.object_faults.specs.Parts.{header, section, symbol_table, symbol, rela, relocation_table}
use Rattle.guest_arithmetic.specs.Arithmetic.{sum_overflows, difference_overflows, sum_effect, difference_effect}
use Rattle.guest_arithmetic.specs.Arithmetic.{logic_effect, compute_effect, product_fits, product_effect, shifted}
use Rattle.guest_arithmetic.specs.Arithmetic.{bit_out, shift_overflows, shift_effect}
use Rattle.guest_arithmetic.specs.Flags.{with_changes, is_less, is_less_or_equal, is_below_or_equal, condition_of}
use Rattle.guest_operands.specs.Access.{fetch_of, load_of, store_of}
use Rattle.guest_operands.specs.Frame.{frame_of}
use Rattle.guest_operands.specs.Operand.{base_of, index_of, address_of, kept, kept_byte, number_at as operand_number}
use Rattle.guest_operands.specs.Operand.{carried, taken_at, taken, put}
use Rattle.guest_operands.specs.State.{register_of, with_register, start_of}
use Rattle.guest_machine.specs.Step.{is_cleared, immediate_of, finished, concluded, move_in, stored, store_byte}
use Rattle.guest_machine.specs.Step.{move_number, move_of, extend_byte, extend_long, load_address, compute_in}
use Rattle.guest_machine.specs.Step.{add_field, compute_plain, compute_number, compute_of, test_of, multiply_of}
use Rattle.guest_machine.specs.Step.{shift_of, pushed, push_of, pop_of, leave_of, return_of, call_of, jump_of, jump_if}
use Rattle.guest_machine.specs.Step.{nop_of, act}
use Rattle.guest_machine.specs.Touch.{touches_of, touched}
use Rattle.job_meaning.specs.Marked.{marked_operations}
use Rattle.job_meaning.specs.Reading.{completed}
use Rattle.link_needs.specs.Linking.{block_offset, address, offset}
use Rattle.module_table.specs.Past.{start, open_refusal, close_refusal, least_free, loaded, retained, released, opened}
use Rattle.module_table.specs.Past.{after_one, past}
use Rattle.sequence_forms.specs.Forms.{row}
use Rattle.thread_blocks.specs.Held.{looked_at, reached_at, loaded_at}
use Rattle.thread_blocks.specs.Instances.{instances_in, instance_at, fixed_at}
use Rattle.thread_blocks.specs.Lines.{begin_line}
use Rattle.thread_blocks.specs.MachineTurns.{zeros}
use Rattle.thread_blocks.specs.Spaces.{space_accesses}
use Rattle.tls_layout.specs.Places.{end_of, place_in, executable, read_only, tls_image, initial_data, zero_data, room}
use Rattle.tls_layout.specs.Places.{address_at, initial_tls, zero_tls, greatest_alignment, tls_alignment, offset_at}
use Rattle.tls_layout.specs.Places.{address_of as placed_at, tls_offset_of}
use Rattle.tls_layout.specs.Rounding.{round_up, page_up}
use Rattle.tls_layout.specs.Sections.{section_of, sections_of, all_sections, section_counts, position}
use Rattle.tls_symbols.specs.Bindings.{bound_to}
use Rattle.tls_symbols.specs.Definitions.{first_in, definition_of}
use Rattle.whole_meaning.specs.Bytes.{value_of, class_bytes, function_of, variable_of}
use Rattle.whole_meaning.specs.Code.{mark_of, sequence_of}
use Rattle.whole_meaning.specs.Fields.{memory_in, read_in, marked_frame}
use Rattle.whole_meaning.specs.Jobs.{meant_world, verdict_of, verdict_text}
use Rattle.whole_meaning.specs.Loads.{wants_surplus, info_of, loads_of, meaning_of}
use Rattle.whole_meaning.specs.Meanings.{Meaning}
use Rattle.whole_meaning.specs.Reading.{hindrance, plain_step, reaches_linker, marked_step}
use Rattle.whole_meaning.specs.Running.{meaning}
use Rattle.whole_meaning.specs.Sequences.{sequence_result}
use Rattle.whole_meaning.specs.Spots.{in_room, spot_in}
use Rattle.whole_meaning.specs.Threads.{meant_accesses, meant_steps, resume_meant, begin_meant, meant_turns}
use Rattle.thread_blocks.specs.JobWorlds.{Shared}
use Rattle.thread_blocks.specs.Lines.{Line}
use Rattle.job_meaning.specs.declared.values.Byte.{Byte}
use Rattle.job_meaning.specs.declared.values.Flag.{Flag}
use Rattle.job_meaning.specs.declared.values.Word.{Word}

-- what links mean, with all that it is computed by open
unfoldable pub opened_meaning : List Linking → Meaning
unfolding
    begins_of end_branch_at escaped_at row_at operated_at body_at instruction_at decoded numbered_body
    operation_of operand_body signed_of rex_at prefixes_at numbers_at named_register number_of encoded_condition
    fixed_row_of row_of escaped_row_of arithmetic_of encoded_shift group_action takes allowed displacement_size
    encoded_memory sib_at selectors_at section_bytes section_class section_size section_alignment symbol_name
    symbol_binding symbol_visibility symbol_place symbol_value relocation_at relocations_from
    kept_relocation_table relocations_in number_at part_at bytes_of header_at section_at symbol_at rela_at
    text_at class_of kept_class first_below header section symbol_table symbol rela relocation_table
    sum_overflows difference_overflows sum_effect difference_effect logic_effect compute_effect product_fits
    product_effect shifted bit_out shift_overflows shift_effect with_changes is_less is_less_or_equal
    is_below_or_equal condition_of fetch_of load_of store_of frame_of base_of index_of address_of kept kept_byte
    operand_number carried taken_at taken put register_of with_register start_of is_cleared immediate_of
    finished concluded move_in stored store_byte move_number move_of extend_byte extend_long load_address
    compute_in add_field compute_plain compute_number compute_of test_of multiply_of shift_of pushed
    push_of pop_of leave_of return_of call_of jump_of jump_if nop_of act touches_of touched marked_operations
    owner_at completed block_offset address offset start open_refusal close_refusal least_free loaded retained
    released opened after_one past row looked_at reached_at loaded_at instances_in instance_at fixed_at
    begin_line zeros space_accesses end_of place_in executable read_only tls_image initial_data zero_data room
    address_at initial_tls zero_tls greatest_alignment tls_alignment offset_at placed_at tls_offset_of round_up
    page_up section_of sections_of all_sections section_counts position bound_to first_in definition_of
    value_of class_bytes function_of variable_of mark_of sequence_of memory_in read_in marked_frame meant_world
    verdict_of verdict_text wants_surplus info_of loads_of meaning_of hindrance plain_step reaches_linker
    marked_step meaning sequence_result in_room spot_in meant_accesses meant_steps resume_meant begin_meant
    meant_turns
opened_meaning ls = meaning_of ls

-- all turns of their threads: the images, the steps of a call, the lines of each thread, the order of their turns
unfoldable pub meant : List Linking → ℕ → List (List ThreadLine) → List ℕ → Shared Word Flag Byte Line
unfolding opened_meaning
meant ls fuel lines order = meant_world (meaning_of ls) fuel lines order
