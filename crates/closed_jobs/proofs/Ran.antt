-- What the machine's threads say, with all that it is computed by open.
use Rattle.std.proofs.Common.{ℕ, List, Bool}
use Rattle.image_file.specs.Spelled.{Spelled}
use Rattle.amd64_subset.specs.Beginning.{begins_of}
use Rattle.amd64_subset.specs.Decoding.{end_branch_at, escaped_at, row_at, operated_at, body_at, instruction_at}
use Rattle.amd64_subset.specs.Decoding.{decoded}
use Rattle.amd64_subset.specs.Meaning.{numbered_body, operation_of, operand_body}
use Rattle.amd64_subset.specs.Number.{signed_of}
use Rattle.amd64_subset.specs.Prefix.{rex_at, prefixes_at}
use Rattle.amd64_subset.specs.Reading.{numbers_at}
use Rattle.amd64_subset.specs.Register.{register_of as named_register, number_of}
use Rattle.amd64_subset.specs.Row.{condition_of as encoded_condition, fixed_row_of, row_of, escaped_row_of}
use Rattle.amd64_subset.specs.Row.{arithmetic_of, shift_of, group_action, takes}
use Rattle.amd64_subset.specs.Selectors.{allowed, displacement_size, memory_in, sib_at, selectors_at}
use Rattle.guest_machine.specs.Access.{fetch_of, load_of, store_of}
use Rattle.guest_arithmetic.specs.Arithmetic.{shifted, bit_out, shift_overflows, shift_effect, product_fits}
use Rattle.guest_arithmetic.specs.Arithmetic.{product_effect, compute_effect, sum_effect, sum_overflows}
use Rattle.guest_arithmetic.specs.Arithmetic.{difference_effect, difference_overflows, logic_effect}
use Rattle.guest_arithmetic.specs.Plain.{plain_operations}
use Rattle.guest_arithmetic.specs.Flags.{with_changes, is_less, is_less_or_equal, is_below_or_equal, condition_of}
use Rattle.guest_machine.specs.Operand.{base_of, index_of, address_of, kept, kept_byte, carried, number_at, taken_at}
use Rattle.guest_machine.specs.Operand.{taken, put}
use Rattle.guest_machine.specs.State.{register_of, with_register, start_of}
use Rattle.guest_machine.specs.Frame.{frame_of}
use Rattle.guest_machine.specs.Run.{machine}
use Rattle.guest_machine.specs.Step.{act, step_of, move_of, move_in, move_number, extend_byte, extend_long, store_byte}
use Rattle.guest_machine.specs.Step.{test_of, multiply_of, shift_of as guest_shift, leave_of, stored, load_address}
use Rattle.guest_machine.specs.Step.{compute_of, compute_plain, compute_number, compute_in, add_field, finished}
use Rattle.guest_machine.specs.Step.{concluded, immediate_of, pushed, push_of, pop_of, call_of, return_of, jump_of}
use Rattle.guest_machine.specs.Step.{jump_if, nop_of, is_cleared}
use Rattle.elf_records.specs.Fields.{bytes_of, splice}
use Rattle.module_table.specs.Past.{start, open_refusal, close_refusal, least_free, loaded, retained, released, opened}
use Rattle.module_table.specs.Past.{after_one, past}
use Rattle.loaded_modules.specs.Images.{infos, last_offset, static_offset, image_at}
use Rattle.loaded_modules.specs.Loader.{bias, export_of, target_of, relocation_bytes, part_bytes, fresh_block}
use Rattle.thread_blocks.specs.Held.{looked_at, reached_at, loaded_at}
use Rattle.thread_blocks.specs.Instances.{instances_in, instance_at, fixed_at}
use Rattle.image_names.specs.Functions.{entry_in}
use Rattle.thread_blocks.specs.MachineTurns.{zeros}
use Rattle.thread_blocks.specs.Spaces.{space_accesses}
use Rattle.image_names.specs.Variables.{variable_in}
use Rattle.thread_blocks.specs.JobLoads.{job_loads}
use Rattle.thread_blocks.specs.JobWorlds.{Shared, job_world}
use Rattle.thread_blocks.specs.Lines.{Line, begin_line}
use Rattle.thread_blocks.specs.RunTime.{thread_accesses, thread_steps, resume_line, thread_turns}
use Rattle.job_text.specs.declared.thread_lines.ThreadLine.{ThreadLine}
use Rattle.link_faults.specs.declared.image_kind.ImageKind.{ImageKind}

-- the kinds of the images and the images, the steps of a call, the lines of each thread, the order of their turns
unfoldable pub ran : List ImageKind → List Spelled → ℕ → List (List ThreadLine) → List ℕ → Shared ℕ Bool ℕ Line
unfolding
    kept_byte move_number extend_byte extend_long store_byte test_of multiply_of guest_shift leave_of shifted
    bit_out shift_overflows shift_effect is_less is_less_or_equal is_below_or_equal begins_of end_branch_at
    escaped_at row_at operated_at body_at instruction_at decoded numbered_body operation_of operand_body
    signed_of rex_at prefixes_at numbers_at named_register number_of encoded_condition fixed_row_of row_of
    escaped_row_of arithmetic_of shift_of group_action takes allowed displacement_size memory_in sib_at
    selectors_at fetch_of load_of store_of product_fits product_effect compute_effect sum_effect sum_overflows
    difference_effect difference_overflows logic_effect plain_operations with_changes condition_of base_of
    index_of address_of kept carried number_at taken_at taken put register_of with_register start_of frame_of
    machine act step_of move_of move_in stored load_address compute_of compute_plain compute_number
    compute_in add_field finished concluded immediate_of pushed push_of pop_of call_of return_of jump_of jump_if
    nop_of is_cleared bytes_of splice start open_refusal close_refusal least_free loaded retained released
    opened after_one past infos last_offset static_offset image_at bias export_of target_of relocation_bytes
    part_bytes fresh_block looked_at reached_at loaded_at instances_in instance_at fixed_at entry_in zeros
    space_accesses job_loads variable_in begin_line thread_accesses thread_steps resume_line thread_turns
    job_world
ran kinds images fuel lines order = job_world (job_loads (record { kinds = kinds; images = images })) fuel lines order
