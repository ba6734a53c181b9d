-- Changes of the data that threads share: a load fills them, and stores write them byte by byte.
use Rattle.std.specs.Prelude.{ℕ, ◌-◌, ◌==◌, ◌&&◌, List, [], ◌∷◌, ◌++◌, slice_get, Option, Some, None, if◌then◌else◌}
use Rattle.std.specs.Option.{option_or}
use Rattle.guest_operands.specs.declared.space.Access.TheVariants.{Read, Write}
use Rattle.guest_machine.specs.Access.{Accesses}
use Rattle.guest_machine.specs.Ranges.{grants}
use Rattle.guest_machine.specs.Run.{Next, Goes, Ends, Looks}
use Rattle.guest_machine.specs.Use.{After}
use Rattle.thread_blocks.specs.Held.{Block, Data, Held, Kind, Owned, Owner, owned, owned_by}
use Rattle.thread_blocks.specs.Spaces.{Space, stack_range}

-- a change of an instance's data: the loader fills them with these bytes, or a byte is written at an offset
pub data Change (B : Type 0) : Type 0 where
  Filled : ℕ → List B → Change B
  Written : ℕ → ℕ → B → Change B

-- what a change leaves at an offset of an instance's data, if it changes it
abbrev pub left_by : {B : Type 0} → ℕ → ℕ → Change B → Option B
left_by instance offset (Filled x bytes) = if x == instance then slice_get bytes offset else None
left_by instance offset (Written x k byte) = if (x == instance) && (k == offset) then Some byte else None

-- what the last of these changes that reaches it left there
abbrev pub last_left : {B : Type 0} → ℕ → ℕ → List (Change B) → Option B
last_left instance offset [] = None
last_left instance offset (change ∷ more) = option_or (last_left instance offset more) (left_by instance offset change)

-- ** which addresses are data

abbrev pub written_to : {B : Type 0} → Kind → ℕ → ℕ → B → List (Change B)
written_to Block instance offset byte = []
written_to Data instance offset byte = Written instance offset byte ∷ []

-- a store goes to the first range that may be written there
abbrev pub written_in : {B : Type 0} → List (Owned B) → ℕ → B → List (Change B)
written_in [] place byte = []
written_in (x ∷ xs) place byte = if grants Write x.range place
    then written_to x.owner.kind x.owner.instance (place - x.range.start) byte
    else written_in xs place byte

abbrev pub data_place : Kind → ℕ → ℕ → Option (ℕ × ℕ)
data_place Block instance offset = None
data_place Data instance offset = Some (instance, offset)

-- a load reads the first range that may be read at its address
abbrev pub data_found : {B : Type 0} → List (Owned B) → ℕ → Option (ℕ × ℕ)
data_found [] place = None
data_found (x ∷ xs) place = if grants Read x.range place
    then data_place x.owner.kind x.owner.instance (place - x.range.start)
    else data_found xs place

-- the instance and the offset of the data that a thread reads at an address; stack: where its stack begins
abbrev pub data_at : {W F B : Type 0} → ℕ → Held W F B → ℕ → Option (ℕ × ℕ)
data_at stack h place = if grants Read (stack_range stack h.after.memory.stack) place
    then None
    else data_found (owned_by h) place

-- ** what stores change

-- a memory, and the changes of data so far
pub record Noted (E B : Type 0) : Type 0 where
  pub space : Space E B
  pub changes : List (Change B)

module _ {E B : Type 0} (stack : ℕ) (owners : List Owner) where
  -- the changes of a store: a write to the stack changes no data
  abbrev pub changed_by : Space E B → ℕ → B → List (Change B)
  changed_by space place byte = if grants Write (stack_range stack space.stack) place
      then []
      else written_in (owned owners space.own) place byte

  -- a memory that does what another does, and notes the changes of its stores
  abbrev pub noting : Accesses (Space E B) B → Accesses (Noted E B) B
  noting acc = record {
    byte = λ noted place. acc.byte noted.space place;
    writes = λ noted place. acc.writes noted.space place;
    put = λ noted place byte. record {
      space = acc.put noted.space place byte;
      changes = noted.changes ++ changed_by noted.space place byte;
    };
    code = λ noted place. acc.code noted.space place;
  }

-- nothing is noted yet
abbrev pub unchanged : {E B : Type 0} → Space E B → Noted E B
unchanged space = record { space = space; changes = [] }

-- what a step has noted
abbrev pub noted_by : {W F E B : Type 0} → Next (After W F (Noted E B)) → List (Change B)
noted_by (Goes at) = at.memory.changes
noted_by (Ends stop) = []
noted_by (Looks at) = at.memory.changes
