-- A thread's memory before and after a call, as clauses state it.
use Rattle.std.specs.Prelude.{◌≡◌, ℕ, [], List}
use Rattle.guest_arithmetic.specs.Plain.{plain_operations}
use Rattle.loaded_modules.specs.Images.{JobImages, infos, last_offset}
use Rattle.module_data.specs.Pieces.{Piece}
use Rattle.module_table.specs.declared.events.Event.{Event}
use Rattle.module_table.specs.Past.{after, start}
use Rattle.thread_blocks.specs.MachineTurns.{fresh_stack}
use Rattle.thread_vector.specs.Statements.{Leaves}
use Rattle.thread_vector.specs.Vectors.{caught_up, fresh, held, reached}
use Rattle.thread_space.specs.Kept.{Kept}

-- a thread of a job before any event, which holds no data
pub record IsNew (thread : ℕ) (m : JobImages) (k : Kept) : Type 0 where
  pub thread_is : k.vector.thread ≡ thread
  pub images : k.vector.images ≡ m
  pub past : k.vector.past ≡ start (infos m) (last_offset m)
  pub blocks : (i : ℕ) → held k.vector i ≡ fresh m k.vector.past i
  pub data_is : k.pieces ≡ []
  pub stack : k.stack ≡ []

-- the thread looks: the vector sees these events, and nothing else has changed
pub record Looks (old : Kept) (events : List Event) (new : Kept) : Type 0 where
  pub leaves : Leaves old.vector new.vector (after old.vector.past events)
  pub blocks : (i : ℕ) → held new.vector i ≡ caught_up old.vector new.vector.past i
  pub data_is : new.pieces ≡ old.pieces
  pub stack : new.stack ≡ old.stack

-- the block of an instance is reached, and nothing else has changed
pub record Reaches (old : Kept) (instance : ℕ) (new : Kept) : Type 0 where
  pub leaves : Leaves old.vector new.vector old.vector.past
  pub blocks : (i : ℕ) → held new.vector i ≡ reached old.vector instance i
  pub data_is : new.pieces ≡ old.pieces
  pub stack : new.stack ≡ old.stack

-- the data are these, and nothing else has changed
pub record HasData (old : Kept) (d : List Piece) (new : Kept) : Type 0 where
  pub vector : new.vector ≡ old.vector
  pub data_is : new.pieces ≡ d
  pub stack : new.stack ≡ old.stack

-- the stack is as a call finds it, and nothing else has changed
pub record HasFreshStack (old new : Kept) : Type 0 where
  pub vector : new.vector ≡ old.vector
  pub data_is : new.pieces ≡ old.pieces
  pub stack : new.stack ≡ fresh_stack plain_operations
