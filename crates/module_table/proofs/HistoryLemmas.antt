-- One event more, and what a registry answers.
use Rattle.std.proofs.Common.{◌≡◌, ℕ, Bool, true, false, List, [], ◌∷◌, ◌++◌, length, Option, Some, None, Ok, sym, refl}
use Rattle.std.specs.Prelude.{◌&&◌, not, nat_lt, nat_le, if◌then◌else◌}
use Rattle.module_table.specs.declared.TheConstants.{MOST_INSTANCES}
use Rattle.module_table.specs.declared.modules.ImageInfo.{ImageInfo}
use Rattle.module_table.specs.declared.events.Event.{Event}
use Rattle.module_table.specs.declared.events.OpenRefusal.{OpenRefusal}
use Rattle.module_table.specs.declared.events.OpenRefusal.TheVariants.{Unknown, Full, StaticFull}
use Rattle.module_table.specs.declared.events.OpenRefusal.TheVariants.{OutOfMemory as NoRoomToOpen}
use Rattle.module_table.specs.declared.events.CloseRefusal.{CloseRefusal}
use Rattle.module_table.specs.declared.events.CloseRefusal.TheVariants.{Permanent, NotOpen}
use Rattle.module_table.specs.declared.events.CloseRefusal.TheVariants.{OutOfMemory as NoRoomToClose}
use Rattle.module_table.specs.Modules.{is_loaded, is_permanent}
use Rattle.module_table.specs.Past.{Past, module_of, start, past, after_one, open_refusal, close_refusal, next_offset}
use Rattle.module_table.specs.Past.{accepts}
use Rattle.module_table.specs.History.{History, open_event, close_event, left, Adds, opened_of, closed_of}
use Rattle.module_table.specs.History.{open_answer, close_answer, OpenRefused, CloseRefused, IsRefusal}
use Rattle.module_table.specs.Past.{IsLegal}
use Rattle.module_table.specs.Walks.{past-append, legal_push}

pub past_more : (infos : List ImageInfo) (last_offset : ℕ) (events : List Event) (e : Event)
    → past infos last_offset (events ++ e ∷ []) ≡ after_one (past infos last_offset events) e
past_more infos last_offset events e = past-append infos last_offset events (e ∷ [])

pub legal_more : (infos : List ImageInfo) (last_offset : ℕ) (events : List Event) (e : Event)
    → IsLegal infos last_offset events → accepts (past infos last_offset events) e ≡ true
    → IsLegal infos last_offset (events ++ e ∷ [])
unfolding past
legal_more infos last_offset events e is accepted =
    record { images = is.images; low = is.low; each = legal_push (start infos last_offset) events e is.each accepted }

pub left_more : (h h' : History) (e : Event) → Adds h e h' → left h' ≡ after_one (left h) e
unfolding left
left_more h h' e adds = rw (adds.infos, adds.last_offset, adds.events) (past_more h.infos h.last_offset h.events e)

-- ---- opens

never_memory : (late loaded full statics lacks : Bool)
    → ◌≡◌ {A = Option OpenRefusal}
    (if not late then Some Unknown
    else (if loaded then None
    else (if full then Some Full else (if statics && lacks then Some StaticFull else None))))
    (Some NoRoomToOpen) → ⊥
never_memory false loaded full statics lacks e = cc
never_memory true true full statics lacks e = cc
never_memory true false true statics lacks e = cc
never_memory true false false true true e = cc
never_memory true false false true false e = cc
never_memory true false false false lacks e = cc

not_memory : (p : Past) (image : ℕ) → open_refusal p image ≡ Some NoRoomToOpen → ⊥
unfolding open_refusal
not_memory p image e = never_memory (module_of p image).info.late (is_loaded (module_of p image))
    (nat_le MOST_INSTANCES p.made) (module_of p image).info.statics
    (nat_lt p.limit (next_offset p (module_of p image))) e

pub refused_open : (h : History) (image : ℕ) (refusal : Option OpenRefusal) (found : OpenRefusal)
    → refusal ≡ open_refusal (left h) image
    → IsRefusal h refusal NoRoomToOpen found → OpenRefused h image found
unfolding open_answer
refused_open h image (Some Unknown) found e is = rw (← is, ← e) refl
refused_open h image (Some Full) found e is = rw (← is, ← e) refl
refused_open h image (Some StaticFull) found e is = rw (← is, ← e) refl
refused_open h image (Some NoRoomToOpen) found e is = absurd (not_memory (left h) image (sym e))
refused_open h image None found e is = rw (← is.0, ← e) (refl, is.1)

pub opened_is : (h h' : History) (thread line image : ℕ) → Adds h (open_event thread line image) h'
    → None ≡ open_refusal (left h) image
    → open_answer h image ≡ Ok
    (record {
      instance = (module_of (left h') image).instance;
      id = (module_of (left h') image).id;
      at = length h.events;
    })
unfolding open_answer opened_of after_one
opened_is h h' thread line image adds e = rw (← e, left_more h h' _ adds) refl

-- ---- closes

never_memory_close : (permanent loaded : Bool)
    → ◌≡◌ {A = Option CloseRefusal} (if permanent then Some Permanent else (if loaded then None else Some NotOpen))
    (Some NoRoomToClose) → ⊥
never_memory_close true loaded e = cc
never_memory_close false true e = cc
never_memory_close false false e = cc

not_memory_close : (p : Past) (image : ℕ) → close_refusal p image ≡ Some NoRoomToClose → ⊥
unfolding close_refusal
not_memory_close p image e = never_memory_close (is_permanent (module_of p image)) (is_loaded (module_of p image)) e

pub refused_close : (h : History) (image : ℕ) (refusal : Option CloseRefusal) (found : CloseRefusal)
    → refusal ≡ close_refusal (left h) image
    → IsRefusal h refusal NoRoomToClose found → CloseRefused h image found
unfolding close_answer
refused_close h image (Some Permanent) found e is = rw (← is, ← e) refl
refused_close h image (Some NotOpen) found e is = rw (← is, ← e) refl
refused_close h image (Some NoRoomToClose) found e is = absurd (not_memory_close (left h) image (sym e))
refused_close h image None found e is = rw (← is.0, ← e) (refl, is.1)

pub closed_is : (h h' : History) (thread line image : ℕ) → Adds h (close_event thread line image) h'
    → None ≡ close_refusal (left h) image
    → close_answer h image ≡ Ok (record { at = length h.events; gone = not (is_loaded (module_of (left h') image)) })
unfolding close_answer closed_of after_one
closed_is h h' thread line image adds e = rw (← e, left_more h h' _ adds) refl

-- what the two calls rely on
pub ruleset opening = (refused_open, opened_is)

pub ruleset closing = (refused_close, closed_is)
