-- Laws of walks along a list of events, for this crate and those above it.
use Rattle.std.specs.Prelude.{◌≡◌, ◌+◌, ◌<◌, ℕ, Bool, true, false, ◌&&◌, if◌then◌else◌, List, [], ◌∷◌, ◌++◌}
use Rattle.std.specs.Prelude.{length, take, drop, refl}
use Rattle.std.proofs.Common.{sym, ◌∙◌, ap, arith, get_or}
use Rattle.std.proofs.lemmas.Bool.{and_parts, and_from}
use Rattle.std.proofs.lemmas.List.{take-append-drop, drop_more}
use Rattle.module_table.specs.declared.modules.ImageInfo.{ImageInfo}
use Rattle.module_table.specs.declared.events.Event.{Event}
use Rattle.module_table.specs.Modules.{is_loaded}
use Rattle.module_table.specs.Past.{Past, module_of, loaded, retained, released, opened, after_one, after, past}
use Rattle.module_table.specs.Past.{start, accepts, is_legal}

and_assoc : (a b c : Bool) → (a && (b && c)) ≡ ((a && b) && c)
and_assoc true b c = refl
and_assoc false b c = refl

-- one event raises the count of events by one
pub seen-after_one : (p : Past) (e : Event) → (after_one p e).seen ≡ p.seen + 1
unfolding after_one opened loaded retained released
seen-after_one p e = elim e.opens as
    (λ b. (if b then (if is_loaded (module_of p e.image) then retained p e.image else loaded p e.image)
    else released p e.image).seen ≡ p.seen + 1) [
      | true ↦ elim (is_loaded (module_of p e.image)) as
          (λ b. (if b then retained p e.image else loaded p e.image).seen ≡ p.seen + 1) [ true ↦ refl | false ↦ refl ]
      | false ↦ refl
    ]

pub seen-after : (p : Past) (events : List Event) → (after p events).seen ≡ p.seen + length events
seen-after p [] = omega arith
seen-after p (e ∷ es) = seen-after (after_one p e) es ∙ omega (arith, seen-after_one p e)

-- events in two parts
pub after-append : (p : Past) (front rest : List Event) → after p (front ++ rest) ≡ after (after p front) rest
after-append p [] rest = refl
after-append p (e ∷ es) rest = after-append (after_one p e) es rest

pub is_legal-append : (p : Past) (front rest : List Event)
    → is_legal p (front ++ rest) ≡ (is_legal p front && is_legal (after p front) rest)
unfolding is_legal
is_legal-append p [] rest = refl
is_legal-append p (e ∷ es) rest =
    ap (λ b. accepts p e && b) (is_legal-append (after_one p e) es rest)
    ∙ and_assoc (accepts p e) (is_legal (after_one p e) es) (is_legal (after (after_one p e) es) rest)

-- one event more
pub legal_push : (p : Past) (events : List Event) (e : Event) → is_legal p events ≡ true
    → accepts (after p events) e ≡ true → is_legal p (events ++ e ∷ []) ≡ true
unfolding is_legal
legal_push p events e legal accepted =
    is_legal-append p events (e ∷ []) ∙ and_from _ _ legal (and_from _ _ accepted refl)

-- the events before an index, and from it on
pub legal_front : (p : Past) (events : List Event) (at : ℕ) → is_legal p events ≡ true
    → is_legal p (take at events) ≡ true
legal_front p events at legal =
    (and_parts _ _ (sym (is_legal-append p (take at events) (drop at events))
    ∙ ap (is_legal p) (take-append-drop at events) ∙ legal)).0

pub legal_rest : (p : Past) (events : List Event) (at : ℕ) → is_legal p events ≡ true
    → is_legal (after p (take at events)) (drop at events) ≡ true
legal_rest p events at legal =
    (and_parts _ _ (sym (is_legal-append p (take at events) (drop at events))
    ∙ ap (is_legal p) (take-append-drop at events) ∙ legal)).1

pub after_rest : (p : Past) (events : List Event) (at : ℕ)
    → after (after p (take at events)) (drop at events) ≡ after p events
after_rest p events at =
    sym (after-append p (take at events) (drop at events)) ∙ ap (after p) (take-append-drop at events)

-- the next event of a legal list
pub legal_next : (p : Past) (events : List Event) (at : ℕ) (d : Event) → at < length events
    → is_legal p (drop at events) ≡ true
    → (accepts p (get_or events at d) ≡ true)
    × (is_legal (after_one p (get_or events at d)) (drop (at + 1) events) ≡ true)
unfolding is_legal
legal_next p events at d l legal = and_parts _ _ (sym (ap (is_legal p) (drop_more events at d l)) ∙ legal)

pub after_next : (p : Past) (events : List Event) (at : ℕ) (d : Event) → at < length events
    → after (after_one p (get_or events at d)) (drop (at + 1) events) ≡ after p (drop at events)
after_next p events at d l = sym (ap (after p) (drop_more events at d l))

-- of a whole history
pub past-append : (infos : List ImageInfo) (last_offset : ℕ) (front rest : List Event)
    → past infos last_offset (front ++ rest) ≡ after (past infos last_offset front) rest
unfolding past
past-append infos last_offset front rest = after-append (start infos last_offset) front rest

pub seen-past : (infos : List ImageInfo) (last_offset : ℕ) (events : List Event)
    → (past infos last_offset events).seen ≡ length events
unfolding past start
seen-past infos last_offset events = seen-after (start infos last_offset) events ∙ omega arith
