-- What each step on the table tells its caller: of the seat before, the number found and the seat after.
use Rattle.std.specs.Prelude.{◌≡◌, ◌≤◌, ◌<◌, ◌==◌, ◌+◌, ◌%◌, ◌^◌, ℕ, List, [], ◌∷◌, ◌++◌, length, Option, Some, None}
use Rattle.std.specs.Prelude.{MatchBool}
use Rattle.atomic_table.specs.Table.{Me}
use Rattle.atomic_table.specs.Seated.{TableId}
use Rattle.module_table.specs.declared.events.Event.{Event}
use Rattle.module_table.specs.History.{History}
use Rattle.module_table.specs.Past.{IsLegal}
use Rattle.shared_modules.specs.declared.board.Turn.TheVariants.{Away, Waits, Holds}
use Rattle.shared_modules.specs.declared.board.View.{View}
use Rattle.shared_modules.specs.Views.{times, Knows, StartsWith, images_of, drew, holding, loaded, caught, published}
use Rattle.shared_modules.specs.Views.{away}
use Rattle.shared_modules.specs.Rule.{IsLearnt}

-- a seat's view, and the slots that it holds
abbrev pub Sat : Type 0
Sat = Me (Option History) View

-- three words and one slot
abbrev pub IsSized : TableId → Type 0
IsSized table = (table.words ≡ 3) × (table.slots ≡ 1)

-- the seat belongs to this table
abbrev pub IsAt : TableId → TableId → Type 0
IsAt seat table = (seat ≡ table) × IsSized table

-- a ticket was drawn; the word has it modulo 2^64
abbrev pub Draws : Sat → ℕ → Sat → Type 0
Draws me found after = (t : ℕ) × (found ≡ t % 2 ^ 64) × (after ≡ (drew t me.0, me.1))

-- the ticket is being served: the seat has the registry, whose history continues what the seat has seen
pub record Takes (ticket : ℕ) (v : View) (after : Sat) : Type 0 where
  pub registry : History
  pub seen : Knows registry.events v.threads v.seen
  pub told : StartsWith registry.events v.told
  pub images : images_of registry ≡ v.images
  pub after_is : after ≡ (holding ticket registry.events v, (0, Some registry) ∷ [])

-- the ticket being served is the seat's, or nothing changed
abbrev pub Sees : Sat → ℕ → Sat → Type 0
Sees me found after =
    (t : ℕ) → me.0.turn ≡ Waits t → MatchBool (found == (t % 2 ^ 64)) (Takes t me.0 after) (after ≡ me)

-- with the registry in hand, the number is the length of the noted history
abbrev pub Catches : Sat → ℕ → Sat → Type 0
Catches me found after = (t : ℕ) (note : List Event) → me.0.turn ≡ Holds t note
    → (found ≡ length note) × (after ≡ (caught note me.0, me.1))

-- the number is the length of the history
pub record Loads (me : Sat) (found : ℕ) (after : Sat) : Type 0 where
  pub told : List Event
  pub found_is : found ≡ length told
  pub seen : Knows told me.0.threads me.0.seen
  pub more : StartsWith told me.0.told
  pub after_is : after ≡ (loaded told me.0, me.1)

-- the history is now that of the registry in hand
abbrev pub Publishes : Sat → ℕ → Sat → Type 0
Publishes me found after = (h : History) → me.1 ≡ (0, Some h) ∷ [] → after ≡ (published h.events me.0, me.1)

-- the next ticket is served, and the registry is put back
abbrev pub Leaves : Sat → ℕ → Sat → Type 0
Leaves me found after = after ≡ (away me.0, [])

-- what was learned at a join is told
abbrev pub Learns : Sat → ℕ → Sat → Type 0
Learns me found after = (after ≡ me) × IsLearnt me.0.lesson

-- the seat waits with its ticket, which the code has modulo 2^64
pub record Awaits (ticket : ℕ) (v : View) (me : Sat) : Type 0 where
  pub turn : ℕ
  pub drawn : ticket ≡ turn % 2 ^ 64
  pub me_is : me ≡ (drew turn v, [])

-- ---- the state between two steps of the code

-- the seat has the registry: what it has seen is a prefix of the registry's history
pub record Begun (v : View) (registry : History) (after : Sat) : Type 0 where
  pub ticket : ℕ
  pub seen : Knows registry.events v.threads v.seen
  pub told : StartsWith registry.events v.told
  pub images : images_of registry ≡ v.images
  pub after_is : after ≡ (holding ticket registry.events (drew ticket v), (0, None) ∷ [])

-- the same, and all of the history is seen; there is memory for one more event
pub record Entered (v : View) (registry : History) (after : Sat) : Type 0 where
  pub ticket : ℕ
  pub seen : Knows registry.events v.threads v.seen
  pub told : StartsWith registry.events v.told
  pub images : images_of registry ≡ v.images
  pub legal : IsLegal registry.infos registry.last_offset registry.events
  pub spare : 1 ≤ registry.spare
  pub after_is : after ≡ (caught registry.events (holding ticket registry.events (drew ticket v)), (0, None) ∷ [])

-- the turn is over, without a result
abbrev pub turned : View → View
turned v = record v { turn = Away; turns = v.turns + 1 }

-- the seat still has the registry, with the history that it noted
pub record Ending (registry : History) (me : Sat) : Type 0 where
  pub ticket : ℕ
  pub turn : me.0.turn ≡ Holds ticket registry.events
  pub empty : me.1 ≡ (0, None) ∷ []
  pub images : images_of registry ≡ me.0.images
  pub speaks : 0 < length me.0.threads

-- the registry has one event more than was noted, by a thread that the seat speaks for
pub record Adding (registry : History) (event : Event) (me : Sat) : Type 0 where
  pub ticket : ℕ
  pub note : List Event
  pub turn : me.0.turn ≡ Holds ticket note
  pub empty : me.1 ≡ (0, None) ∷ []
  pub events : registry.events ≡ note ++ event ∷ []
  pub images : images_of registry ≡ me.0.images
  pub legal : IsLegal registry.infos registry.last_offset registry.events
  pub few : length registry.events < 2 ^ 63
  pub named : 1 ≤ times event.thread me.0.threads
