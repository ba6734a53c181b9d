-- What holds of every history, whatever the steps of its walk.
use Rattle.std.specs.Prelude.{◌≡◌, ◌≢◌, ◌+◌, ◌<◌, ◌≤◌, ◌==◌, ℕ, Bool, true, false, not, ◌&&◌, if◌then◌else◌, List, []}
use Rattle.std.specs.Prelude.{◌∷◌, ◌++◌, count_by, All, AllPairs, Some, None}
use Rattle.std.specs.Int.{next_multiple_of}
use Rattle.module_table.specs.declared.TheConstants.{SURPLUS}
use Rattle.module_table.specs.declared.modules.ImageInfo.{ImageInfo}
use Rattle.module_table.specs.declared.modules.Module.{Module}
use Rattle.module_table.specs.declared.events.Event.{Event}
use Rattle.module_table.specs.Modules.{is_loaded}
use Rattle.module_table.specs.Past.{Past, module_of, startup_count, start, past, after_one, opened, open_refusal}
use Rattle.module_table.specs.Past.{next_offset}
use Rattle.module_table.specs.PastLaws.{live, IsLeastFree}

-- ---- opens and closes

abbrev pub opens_of : ℕ → List Event → ℕ
opens_of image events = count_by (λ (e : Event). e.opens && (e.image == image)) events

abbrev pub closes_of : ℕ → List Event → ℕ
closes_of image events = count_by (λ (e : Event). not e.opens && (e.image == image)) events

-- an image's number of uses is its opens minus its closes, plus one for a startup image
abbrev pub Balances : List ImageInfo → ℕ → List Event → ℕ → Type 0
Balances infos last_offset events image =
    (module_of (past infos last_offset events) image).uses + closes_of image events
    ≡ (module_of (start infos last_offset) image).uses + opens_of image events

-- ---- instances

-- an open that makes an instance
abbrev pub loads : Past → Event → Bool
loads p e = e.opens && not (is_loaded (module_of p e.image))

abbrev pub load_count : Past → List Event → ℕ
load_count p [] = 0
load_count p (e ∷ es) = (if loads p e then 1 else 0) + load_count (after_one p e) es

-- the instances made are those of the startup images, and one for each load
abbrev pub CountsInstances : List ImageInfo → ℕ → List Event → Type 0
CountsInstances infos last_offset events =
    (past infos last_offset events).made ≡ startup_count infos + load_count (start infos last_offset) events

-- no two loaded images have the same instance, or the same module id
abbrev pub HaveOwnNumbers : Past → Type 0
HaveOwnNumbers p = (a b : ℕ) → a ≢ b → is_loaded (module_of p a) ≡ true → is_loaded (module_of p b) ≡ true
    → ((module_of p a).instance ≢ (module_of p b).instance) × ((module_of p a).id ≢ (module_of p b).id)

-- an instance that was made and is not live is never live again
abbrev pub EndsForGood : List ImageInfo → ℕ → List Event → List Event → ℕ → Type 0
EndsForGood infos last_offset front rest instance =
    instance ≤ (past infos last_offset front).made → live (past infos last_offset front) instance ≡ false
    → live (past infos last_offset (front ++ rest)) instance ≡ false

-- a load gives the least id from 1 on that no live instance has
abbrev pub LoadsTakeLeastId : Past → Type 0
LoadsTakeLeastId p = (image : ℕ) → open_refusal p image ≡ None → is_loaded (module_of p image) ≡ false
    → IsLeastFree p.modules (module_of (opened p image) image).id

-- ---- static blocks

-- a static block of a thread: the bytes from `offset` below the thread pointer on
pub record Block : Type 0 where
  pub offset : ℕ
  pub size : ℕ

-- the byte that lies this far below the thread pointer belongs to the block
abbrev pub Covers : Block → ℕ → Type 0
Covers b distance = (distance ≤ b.offset) × (b.offset < distance + b.size)

abbrev pub AreApart : Block → Block → Type 0
AreApart a b = (distance : ℕ) → Covers a distance → ¬ Covers b distance

-- the blocks of the startup images, each past the one before at a multiple of its alignment (Drepper, section 3,
-- variant II)
abbrev pub startup_blocks : List ImageInfo → ℕ → List Block
startup_blocks [] taken = []
startup_blocks (info ∷ infos) taken = if info.late then startup_blocks infos taken else (
    let offset = next_multiple_of (taken + info.size) info.align in
    record { offset = offset; size = info.size } ∷ startup_blocks infos offset)

-- the blocks of the static surplus, in the order of the loads that gave them
abbrev pub surplus_blocks : Past → List Event → List Block
surplus_blocks p [] = []
surplus_blocks p (e ∷ es) = let m = module_of p e.image in if loads p e && m.info.statics
    then record { offset = next_offset p m; size = m.info.size } ∷ surplus_blocks (after_one p e) es
    else surplus_blocks (after_one p e) es

-- no two blocks of the history overlap, startup blocks included
abbrev pub BlocksAreApart : List ImageInfo → ℕ → List Event → Type 0
BlocksAreApart infos last_offset events =
    AllPairs AreApart (startup_blocks infos 0 ++ surplus_blocks (start infos last_offset) events)

-- a static block of the newest instance of an image
abbrev pub block_of : Module → ℕ → Block
block_of m offset = record { offset = offset; size = m.info.size }

-- no two blocks in use overlap, and each lies past the startup blocks
pub record InstancesAreApart (last_offset : ℕ) (p : Past) : Type 0 where
  pub apart : (a b x y : ℕ) → a ≢ b → (module_of p a).offset ≡ Some x → (module_of p b).offset ≡ Some y
      → AreApart (block_of (module_of p a) x) (block_of (module_of p b) y)
  pub above : (a x : ℕ) → (module_of p a).offset ≡ Some x → last_offset + (module_of p a).info.size ≤ x
  pub below : (a x : ℕ) → (module_of p a).offset ≡ Some x → x ≤ last_offset + SURPLUS

-- the surplus is large enough for its blocks
abbrev pub BlocksFit : List ImageInfo → ℕ → List Event → Type 0
BlocksFit infos last_offset events =
    All (λ (b : Block). b.offset ≤ last_offset + SURPLUS) (surplus_blocks (start infos last_offset) events)
