-- The program with local dynamic code and a descriptor, in both settings: where all that is loaded of it lies. Its code
-- is the 29 bytes from 0x400000 on, its initial image of thread-local storage the 8 from 0x401000 on, and from 0x402000
-- on is the linker's room.
use Rattle.std.proofs.Common.{◌≡◌, ◌∙◌, ◌+◌, ◌<◌, ◌≤◌, ◌^◌, ◌&&◌, ◌⊎◌, ℕ, Bool, true, false, List, [], ◌∷◌, All, Option}
use Rattle.std.proofs.Common.{Some, None, refl, sym, inl, inr, arith}
use Rattle.std.specs.List.{list_all}
use Rattle.std.proofs.lemmas.Bool.{and_parts}
use Rattle.std.proofs.lemmas.List.Elements.{All-cons, All-nil}
use Rattle.address_map.specs.Laws.{fixed_addresses_tell}
use Rattle.address_map.specs.Map.{owner_at}
use Rattle.guest_machine.specs.Ranges.{Range, byte_in, holds}
use Rattle.guest_operands.specs.declared.space.Access.{Access}
use Rattle.guest_operands.specs.declared.space.Access.TheVariants.{Read, Run}
use Rattle.job_meaning.specs.declared.values.Byte.{Byte}
use Rattle.thread_blocks.specs.SpaceLaws.{NoneWritable}
use Rattle.tied_meaning.specs.Ties.{IsPlaceOf}
use Rattle.closed_jobs.specs.LocalSites.{app}
use Rattle.closed_jobs.proofs.LocalLoads.{m, q}
use Rattle.closed_jobs.proofs.Ranges.{between, found_within, held_within, is_between, lies_apart, lies_within}
use Rattle.closed_jobs.proofs.Ranges.{none_found, not_between}

abbrev pub in_code : ℕ → Bool
in_code place = is_between 0x400000 0x40001d place

abbrev pub in_image : ℕ → Bool
in_image place = is_between 0x401000 0x401008 place

abbrev pub in_room : ℕ → Bool
in_room place = is_between 0x402000 0x4400000 place

pub room_is : (relax : Bool) (place : ℕ) → (m relax).room app place ≡ in_room place
unfolding m
room_is true place = refl
room_is false place = refl

-- ** places of its own

is_own : (place : ℕ) → (0x400000 ≤ place) × (place < 0x4400000) → IsPlaceOf app place
is_own place b = (fixed_addresses_tell place (omega (arith, b.1)), (b.0, omega (arith, b.1)))

fixed_lies : (relax : Bool) → list_all (lies_within 0x400000 0x4400000) ((q relax).fixed app) ≡ true
unfolding q
fixed_lies true = refl
fixed_lies false = refl

meant_lies : (relax : Bool) → list_all (lies_within 0x400000 0x4400000) ((m relax).loads.fixed app) ≡ true
unfolding m
meant_lies true = refl
meant_lies false = refl

pub there : (relax : Bool) (access : Access) (place byte : ℕ)
    → byte_in access ((q relax).fixed app) place ≡ Some byte → IsPlaceOf app place
there relax access place byte e =
    is_own place (found_within access 0x400000 0x4400000 place byte ((q relax).fixed app) (fixed_lies relax) e)

pub meant_there : (relax : Bool) (access : Access) (place : ℕ) (byte : Byte)
    → byte_in access ((m relax).loads.fixed app) place ≡ Some byte → IsPlaceOf app place
meant_there relax access place byte e =
    is_own place (found_within access 0x400000 0x4400000 place byte ((m relax).loads.fixed app) (meant_lies relax) e)

pub rooms : (relax : Bool) (place : ℕ) → (m relax).room app place ≡ true → IsPlaceOf app place
rooms relax place e =
    let b = between 0x402000 0x4400000 place (sym (room_is relax place) ∙ e) in
    is_own place (omega (arith, b.0), b.1)

-- four bytes that begin in its code end at places of its own
pub ends : (relax : Bool) (place k byte : ℕ) → k < 4 → byte_in Run ((q relax).fixed app) place ≡ Some byte
    → owner_at (place + k) ≡ 1
ends relax place k byte few e =
    let b = found_within Run 0x400000 0x4400000 place byte ((q relax).fixed app) (fixed_lies relax) e in
    fixed_addresses_tell (place + k) (omega (arith, b.1, few))

-- ** tables, and data

abbrev pub IsOwn : Range ℕ → Type 0
IsOwn range = (place : ℕ) → holds range place ≡ true → IsPlaceOf app place

are_own : (ranges : List (Range ℕ)) → list_all (lies_within 0x400000 0x4400000) ranges ≡ true → All IsOwn ranges
are_own [] e = All-nil IsOwn
are_own (range ∷ ranges) e =
    let all = and_parts (lies_within 0x400000 0x4400000 range) (list_all (lies_within 0x400000 0x4400000) ranges) e in
    All-cons IsOwn range ranges (λ place h. is_own place (held_within 0x400000 0x4400000 range place all.0 h))
    (are_own ranges all.1)

tables_lie : (relax : Bool) → list_all (lies_within 0x400000 0x4400000) ((q relax).tables app) ≡ true
unfolding q
tables_lie true = refl
tables_lie false = refl

pub tables : (relax : Bool) → All IsOwn ((q relax).tables app)
tables relax = are_own ((q relax).tables app) (tables_lie relax)

pub no_data : (relax : Bool) → (q relax).shared app ≡ None
unfolding q
no_data true = refl
no_data false = refl

pub no_data_meant : (relax : Bool) → (m relax).loads.shared app ≡ None
unfolding m
no_data_meant true = refl
no_data_meant false = refl

pub still : (relax : Bool) → NoneWritable ((q relax).fixed app)
unfolding q
still true = (refl, (refl, (refl, tt)))
still false = (refl, (refl, (refl, (refl, (refl, tt)))))

pub meant_still : (relax : Bool) → NoneWritable ((m relax).loads.fixed app)
unfolding m
meant_still true = (refl, (refl, (refl, tt)))
meant_still false = (refl, (refl, (refl, tt)))

-- ** where nothing is

-- all that allows the access is in the room, or from one place on and before another
abbrev is_apart : {B : Type 0} → Access → ℕ → ℕ → List (Range B) → Bool
is_apart access low high ranges = list_all (lies_apart access 0x400000 low) ranges
    && list_all (lies_apart access high 0x402000) ranges

outside : {B : Type 0} (access : Access) (low high place : ℕ) (ranges : List (Range B))
    → list_all (lies_within 0x400000 0x4400000) ranges ≡ true → is_apart access low high ranges ≡ true
    → is_between low high place ≡ false → in_room place ≡ false → byte_in access ranges place ≡ None
outside {B = B} access low high place ranges lies apart not_here not_room = of_found (byte_in access ranges place) refl
  where
    parts : (list_all (lies_apart access 0x400000 low) ranges ≡ true)
        × (list_all (lies_apart access high 0x402000) ranges ≡ true)
    parts = and_parts _ _ apart

    below_room : (0x400000 ≤ place) × (place < 0x4400000) → (place < 0x402000) ⊎ (0x4400000 ≤ place) → place < 0x402000
    below_room b (inl below) = below
    below_room b (inr above) = absurd (omega (arith, b.1, above))

    none : 0x400000 ≤ place → place < 0x402000 → (place < low) ⊎ (high ≤ place) → byte_in access ranges place ≡ None
    none above below (inl before) = none_found access 0x400000 low place ranges parts.0 above before
    none above below (inr behind) = none_found access high 0x402000 place ranges parts.1 behind below

    of_found : (o : Option B) → byte_in access ranges place ≡ o → byte_in access ranges place ≡ None
    of_found None e = e
    of_found (Some byte) e =
        let b = found_within access 0x400000 0x4400000 place byte ranges lies e in
        none b.0 (below_room b (not_between 0x402000 0x4400000 place not_room)) (not_between low high place not_here)

run_apart : (relax : Bool) → is_apart Run 0x400000 0x40001d ((q relax).fixed app) ≡ true
unfolding q
run_apart true = refl
run_apart false = refl

meant_run_apart : (relax : Bool) → is_apart Run 0x400000 0x40001d ((m relax).loads.fixed app) ≡ true
unfolding m
meant_run_apart true = refl
meant_run_apart false = refl

read_apart : (relax : Bool) → is_apart Read 0x401000 0x401008 ((q relax).fixed app) ≡ true
unfolding q
read_apart true = refl
read_apart false = refl

meant_read_apart : (relax : Bool) → is_apart Read 0x401000 0x401008 ((m relax).loads.fixed app) ≡ true
unfolding m
meant_read_apart true = refl
meant_read_apart false = refl

pub none_run : (relax : Bool) (place : ℕ) → in_code place ≡ false → in_room place ≡ false
    → (byte_in Run ((m relax).loads.fixed app) place ≡ None) × (byte_in Run ((q relax).fixed app) place ≡ None)
none_run relax place not_here not_room = (
  outside Run 0x400000 0x40001d place ((m relax).loads.fixed app) (meant_lies relax) (meant_run_apart relax) not_here
      not_room,
  outside Run 0x400000 0x40001d place ((q relax).fixed app) (fixed_lies relax) (run_apart relax) not_here not_room,
)

pub none_read : (relax : Bool) (place : ℕ) → in_image place ≡ false → in_room place ≡ false
    → (byte_in Read ((m relax).loads.fixed app) place ≡ None) × (byte_in Read ((q relax).fixed app) place ≡ None)
none_read relax place not_here not_room = (
  outside Read 0x401000 0x401008 place ((m relax).loads.fixed app) (meant_lies relax) (meant_read_apart relax) not_here
      not_room,
  outside Read 0x401000 0x401008 place ((q relax).fixed app) (fixed_lies relax) (read_apart relax) not_here not_room,
)

-- ** the room

meant_room_apart : (relax : Bool) → list_all (lies_apart Run 0x402000 0x4400000) ((m relax).loads.fixed app) ≡ true
unfolding m
meant_room_apart true = refl
meant_room_apart false = refl

pub no_code : (relax : Bool) (place : ℕ) → in_room place ≡ true
    → byte_in Run ((m relax).loads.fixed app) place ≡ None
no_code relax place e =
    let b = between 0x402000 0x4400000 place e in
    none_found Run 0x402000 0x4400000 place ((m relax).loads.fixed app) (meant_room_apart relax) b.0 b.1

-- its first 15 bytes are of a table
room_apart : (relax : Bool) → list_all (lies_apart Run 0x402000 0x40200f) ((q relax).fixed app) ≡ true
unfolding q
room_apart true = refl
room_apart false = refl

pub run_on : (relax : Bool) (here k : ℕ) → k < 15 → (m relax).room app here ≡ false
    → (m relax).room app (here + k) ≡ true → byte_in Run ((q relax).fixed app) (here + k) ≡ None
run_on relax here k few outside_room inside_room =
    let b = between 0x402000 0x4400000 (here + k) (sym (room_is relax (here + k)) ∙ inside_room) in
    elim (not_between 0x402000 0x4400000 here (sym (room_is relax here) ∙ outside_room)) [
      | inl before ↦ none_found Run 0x402000 0x40200f (here + k) ((q relax).fixed app) (room_apart relax) b.0
          (omega (arith, before, few))
      | inr behind ↦ absurd (omega (arith, behind, b.1))
    ]
