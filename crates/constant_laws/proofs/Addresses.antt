-- Where things lie.
use Rattle.std.proofs.Common.{◌≡◌, ◌+◌, refl, arith}
use Rattle.address_map.specs.Laws.{fixed_addresses_tell, moved_addresses_tell}
use Rattle.address_map.specs.Map.{moved_bias}
use Rattle.tls_layout.specs.Rounding.{page_up, round_up}
use Rattle.constant_laws.specs.Addresses.{ImagesLie, RunTimeLies, ThreadsLie}

pub run_time_is : RunTimeLies
run_time_is = record { getter = refl; descriptor = refl; back = refl }

pub threads_are : ThreadsLie
threads_are = record {
  first_pointer = refl;
  next_pointer = λ thread. omega arith;
  fixed_block = λ thread number distance low. omega (arith, low);
  first_block = refl;
  next_block = λ thread number. omega arith;
  next_blocks = λ thread number. omega arith;
  first_stack = refl;
  next_stack = λ thread. omega arith;
  stack_size = λ thread. omega arith;
}

in_pages : (page_up 0 ≡ 0) × (page_up 1 ≡ 4096) × (page_up 4096 ≡ 4096) × (page_up 4097 ≡ 8192)
unfolding page_up round_up
in_pages = (refl, refl, refl, refl)

pub images_are : ImagesLie
images_are = record {
  program = refl;
  others = (refl, refl, refl);
  fixed_file = λ bytes is. rw is refl;
  moved_file = λ bytes is. rw is refl;
  pages = in_pages;
  first_instance = refl;
  next_instance = λ number. omega arith;
  program_owns = λ place low. fixed_addresses_tell place low;
  instance_owns = λ number within low. moved_addresses_tell number (moved_bias number + within) (omega arith)
      (omega (arith, low));
}
