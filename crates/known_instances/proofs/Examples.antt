-- The history of the crate's essay: a module that is closed and opened again, and another that has its id meanwhile.
use Rattle.std.proofs.Common.{◌≡◌, ℕ, Bool, true, false, List, [], ◌∷◌, Some, None, refl}
use Rattle.std.specs.Prelude.{take}
use Rattle.loaded_modules.specs.declared.instance.Instance.{Instance}
use Rattle.module_table.specs.declared.modules.ImageInfo.{ImageInfo}
use Rattle.module_table.specs.declared.events.Event.{Event}
use Rattle.module_table.specs.Past.{start, past, least_free, loaded, retained, released, opened, after_one}
use Rattle.thread_blocks.specs.Instances.{Loads, instances_in, instance_with_id, numbered_instance}
use Rattle.known_instances.specs.Known.{known_in}

-- app starts with the program, a and b come late; of each only that is of interest
info : Bool → ImageInfo
info late = record { late = late; statics = false; size = 0; align = 1 }

loads : Loads ℕ
loads = record {
  infos = info false ∷ info true ∷ info true ∷ [];
  last_offset = 0;
  function = λ x name. None;
  variable = λ image name. None;
  fixed = λ x. [];
  tables = λ x. [];
  shared = λ x. None;
  block = λ x. [];
}

event : ℕ → Bool → ℕ → Event
event line opens image = record { thread = 1; line = line; opens = opens; image = image }

history : List Event
history = event 1 true 2 ∷ event 2 false 2 ∷ event 3 true 3 ∷ event 4 true 2 ∷ []

instance : ℕ → ℕ → ℕ → Instance
instance image number id = record { image = image; number = number; id = id; offset = None }

-- numbers 2, 3 and 4, and one that was never given
first_of_a : known_in loads history 2 ≡ Some (instance 2 2 2)
unfolding loads info history event instance known_in instances_in start past least_free loaded retained released opened
    after_one
first_of_a = refl

one_of_b : known_in loads history 3 ≡ Some (instance 3 3 2)
unfolding loads info history event instance known_in instances_in start past least_free loaded retained released opened
    after_one
one_of_b = refl

second_of_a : known_in loads history 4 ≡ Some (instance 2 4 3)
unfolding loads info history event instance known_in instances_in start past least_free loaded retained released opened
    after_one
second_of_a = refl

no_fifth : known_in loads history 5 ≡ None
unfolding loads info history event instance known_in instances_in start past least_free loaded retained released opened
    after_one
no_fifth = refl

-- behind three events nothing has number 2, and id 2 is that of b
gone : numbered_instance loads (take 3 history) 2 ≡ None
unfolding loads info history event instances_in start past least_free loaded retained released opened after_one
gone = refl

found_by_id : instance_with_id loads (take 3 history) 2 ≡ Some (instance 3 3 2)
unfolding loads info history event instance instances_in start past least_free loaded retained released opened after_one
found_by_id = refl
