-- The state after a history of opens and closes: a walk along the list of events, one step for each event. Nothing
-- here is a table of the code: no slot by id or by instance, no set of free ids. Module ids and blocks are those of
-- Drepper, "ELF Handling For Thread-Local Storage", section 3: blocks of modules that start with the program lie
-- below the thread pointer (variant II), and a late module may ask for one there by `DF_STATIC_TLS` (gABI, "Dynamic
-- Section"). How many bytes are reserved for those, and that none is given twice, is this linker's own rule.
use Rattle.std.specs.Prelude.{◌≡◌, ◌==◌, ◌+◌, ◌-◌, ◌<◌, ℕ, Bool, true, not, ◌&&◌, nat_lt, nat_le}
use Rattle.std.specs.Prelude.{zero, suc, if◌then◌else◌, List, [], ◌∷◌, length, slice_index_or, slice_set, fold}
use Rattle.std.specs.Prelude.{count_by, Option, Some, None, is_none}
use Rattle.std.specs.Prelude.{unwrap_or}
use Rattle.std.specs.Int.{next_multiple_of}
use Rattle.std.specs.List.{list_any}
use Rattle.module_table.specs.declared.TheConstants.{MOST_INSTANCES, SURPLUS}
use Rattle.module_table.specs.declared.modules.ImageInfo.{ImageInfo}
use Rattle.module_table.specs.declared.modules.Module.{Module}
use Rattle.module_table.specs.declared.events.Event.{Event}
use Rattle.module_table.specs.declared.events.OpenRefusal.{OpenRefusal}
use Rattle.module_table.specs.declared.events.OpenRefusal.TheVariants.{Unknown, Full, StaticFull}
use Rattle.module_table.specs.declared.events.CloseRefusal.{CloseRefusal}
use Rattle.module_table.specs.declared.events.CloseRefusal.TheVariants.{Permanent, NotOpen}
use Rattle.module_table.specs.Modules.{no_module, is_loaded, is_permanent}
use Rattle.std.specs.Prelude.{◌^◌}
use Rattle.module_table.specs.Modules.{AreInfos}

-- how many events there were, how many instances were made, how far below the thread pointer the static blocks reach
-- and may reach, and each image, numbered from 1 (entry 0 is no image)
pub record Past : Type 0 where
  pub seen : ℕ
  pub made : ℕ
  pub taken : ℕ
  pub limit : ℕ
  pub modules : List Module

-- an image, by its number
abbrev pub module_of : Past → ℕ → Module
module_of p image = slice_index_or p.modules image no_module

-- ---- the start

-- a startup image is always loaded, and its number is its instance's and its module id
abbrev pub first_module : ImageInfo → ℕ → Module
first_module info image = if info.late
    then record { info = info; uses = 0; instance = 0; id = 0; offset = None }
    else record { info = info; uses = 1; instance = image; id = image; offset = None }

-- the images from a number on
abbrev pub first_modules : List ImageInfo → ℕ → List Module
first_modules [] image = []
first_modules (info ∷ infos) image = first_module info image ∷ first_modules infos (image + 1)

-- how many images start with the program
abbrev pub startup_count : List ImageInfo → ℕ
startup_count infos = count_by (λ (info : ImageInfo). not info.late) infos

-- before any event
unfoldable pub start : List ImageInfo → ℕ → Past
start infos last_offset = record {
  seen = 0;
  made = startup_count infos;
  taken = last_offset;
  limit = last_offset + SURPLUS;
  modules = no_module ∷ first_modules infos 1;
}

-- ---- questions

-- it is loaded with this module id
abbrev pub has_id : ℕ → Module → Bool
has_id id m = is_loaded m && (m.id == id)

-- ---- refusals

-- where a block of the image would begin in the static surplus: past the bytes given so far, at a multiple of its
-- alignment, as variant II places the next block: `tlsoffset = round(before + memsz, align)`
abbrev pub next_offset : Past → Module → ℕ
next_offset p m = next_multiple_of (p.taken + m.info.size) m.info.align

-- why an open is refused; the first reason in this order
unfoldable pub open_refusal : Past → ℕ → Option OpenRefusal
open_refusal p image =
    let m = module_of p image in
    if not m.info.late then Some Unknown else (
    if is_loaded m then None else (
    if nat_le MOST_INSTANCES p.made then Some Full else (
    if m.info.statics && nat_lt p.limit (next_offset p m) then Some StaticFull else None)))

-- why a close is refused; the first reason in this order
unfoldable pub close_refusal : Past → ℕ → Option CloseRefusal
close_refusal p image =
    let m = module_of p image in
    if is_permanent m then Some Permanent else (if is_loaded m then None else Some NotOpen)

-- ---- one event

-- the least of these ids, from one on, that no live instance has; the id after them if each is taken
abbrev pub least_from : List Module → ℕ → ℕ → ℕ
least_from modules zero id = id
least_from modules (suc more) id = if list_any (has_id id) modules then least_from modules more (id + 1) else id

-- the least id from 1 on that no live instance has
unfoldable pub least_free : List Module → ℕ
least_free modules = least_from modules (length modules) 1

-- a new instance of an image: the next number, the least free id, and an offset in the surplus if its blocks are
-- static
abbrev pub new_instance : Past → Module → Module
new_instance p m = record {
  info = m.info;
  uses = 1;
  instance = p.made + 1;
  id = least_free p.modules;
  offset = if m.info.statics then Some (next_offset p m) else None;
}

-- an open of an image that is not loaded
unfoldable pub loaded : Past → ℕ → Past
loaded p image = let m = module_of p image in record {
  seen = p.seen + 1;
  made = p.made + 1;
  taken = unwrap_or (new_instance p m).offset p.taken;
  limit = p.limit;
  modules = slice_set p.modules image (new_instance p m);
}

-- the image, with this number of uses
abbrev pub with_uses : Past → ℕ → ℕ → Past
with_uses p image uses =
    record p { seen = p.seen + 1; modules = slice_set p.modules image (record (module_of p image) { uses = uses }) }

-- an open of a loaded image, which makes no instance
unfoldable pub retained : Past → ℕ → Past
retained p image = with_uses p image ((module_of p image).uses + 1)

-- a close; bytes of the surplus are not given back
unfoldable pub released : Past → ℕ → Past
released p image = with_uses p image ((module_of p image).uses - 1)

-- an open; only one of an image that is not loaded makes an instance
unfoldable pub opened : Past → ℕ → Past
opened p image = if is_loaded (module_of p image) then retained p image else loaded p image

unfoldable pub after_one : Past → Event → Past
after_one p e = if e.opens then opened p e.image else released p e.image

-- ---- a list of events

abbrev pub after : Past → List Event → Past
after p events = fold after_one p events

-- the state after a history
unfoldable pub past : List ImageInfo → ℕ → List Event → Past
past infos last_offset events = after (start infos last_offset) events

-- whether an event is accepted
unfoldable pub accepts : Past → Event → Bool
accepts p e = if e.opens then is_none (open_refusal p e.image) else is_none (close_refusal p e.image)

-- whether each event is accepted after those before it
unfoldable pub is_legal : Past → List Event → Bool
is_legal p [] = true
is_legal p (e ∷ es) = accepts p e && is_legal (after_one p e) es

-- a history of images that a registry may have: each event is accepted after those before it
pub record IsLegal (infos : List ImageInfo) (last_offset : ℕ) (events : List Event) : Type 0 where
  pub images : AreInfos infos
  pub low : last_offset < 2 ^ 27
  pub each : is_legal (start infos last_offset) events ≡ true
