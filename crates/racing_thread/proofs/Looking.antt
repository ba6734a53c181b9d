-- One look more, at a history that others continued: the looks so far are lawful there still, and so they are with it.
use Rattle.std.proofs.Common.{◌≡◌, ◌∙◌, ◌+◌, ◌++◌, ◌==◌, ℕ, Bool, true, false, List, [], ◌∷◌, length, Option, Some}
use Rattle.std.proofs.Common.{None, refl, sym, ap, subst, arith, append-nil, append_assoc, eq-eqb}
use Rattle.std.specs.Prelude.{if◌then◌else◌}
use Rattle.module_table.specs.declared.events.Event.{Event}
use Rattle.shared_modules.specs.Laws.{Placed, own_events, own_from}
use Rattle.shared_modules.specs.Stable.{own_events_stay}
use Rattle.shared_modules.specs.Threads.{first_named}
use Rattle.shared_modules.specs.Views.{Knows}
use Rattle.thread_blocks.specs.Turns.{Thread, Turns, turn, turns, with_event}
use Rattle.thread_blocks.specs.Turns.{AllFronts, IsFront}
use Rattle.lawful_points.specs.Orders.{look_at, looks_of}
use Rattle.lawful_points.specs.Points.{AreLawful, Follows, Look, made, placed, seen_by}

-- what is known once these looks are over
abbrev pub known_by : List Event → List Look → List Event
known_by old [] = old
known_by old (look ∷ more) = known_by (with_event look.seen look.added) more

pub known_more : (looks : List Look) (old : List Event) (look : Look)
    → known_by old (looks ++ look ∷ []) ≡ with_event look.seen look.added
known_more [] old look = refl
known_more (first ∷ looks) old look = known_more looks (with_event first.seen first.added) look

-- ** fronts

pub front_of_with : (events : List Event) (own : Option Event) → IsFront events (with_event events own)
front_of_with events None = ([], sym (append-nil events))
front_of_with events (Some e) = (e ∷ [], refl)

front_along : (a b c : List Event) → IsFront a b → IsFront b c → IsFront a c
front_along a b c first second = (
  first.0 ++ second.0,
  second.1 ∙ (ap (λ (es : List Event). es ++ second.0) first.1 ∙ append_assoc a first.0 second.0),
)

fronts_more : (looks : List Look) (look : Look) (seen new : List Event) → AllFronts (seen_by looks) seen
    → IsFront seen new → IsFront look.seen new → AllFronts (seen_by (looks ++ look ∷ [])) new
fronts_more [] look seen new fronts longer front = (front, tt)
fronts_more (first ∷ looks) look seen new fronts longer front =
    (front_along first.seen seen new fronts.0 longer, fronts_more looks look seen new fronts.1 longer front)

follows_more : (looks : List Look) (old : List Event) (look : Look) → Follows old looks
    → IsFront (known_by old looks) look.seen → Follows old (looks ++ look ∷ [])
follows_more [] old look follows front = (front, tt)
follows_more (first ∷ looks) old look follows front =
    (follows.0, follows_more looks (with_event first.seen first.added) look follows.1 front)

-- ** own events

made_more : (looks : List Look) (look : Look)
    → made (looks ++ look ∷ []) ≡ made looks ++ placed (length look.seen) look.added
made_more [] look = append-nil (placed (length look.seen) look.added)
made_more (first ∷ looks) look =
    ap (λ (more : List Placed). placed (length first.seen) first.added ++ more) (made_more looks look)
    ∙ sym (append_assoc (placed (length first.seen) first.added) (made looks) (placed (length look.seen) look.added))

own_step : (b : Bool) (p : Placed) (longer shorter last : List Placed) → longer ≡ shorter ++ last
    → (if b then p ∷ longer else longer) ≡ (if b then p ∷ shorter else shorter) ++ last
own_step true p longer shorter last is = ap (λ (more : List Placed). p ∷ more) is
own_step false p longer shorter last is = is

own_last : (thread at : ℕ) (events : List Event) (e : Event) → (e.thread == thread) ≡ true
    → own_from thread at (events ++ e ∷ []) ≡ own_from thread at events ++ placed (at + length events) (Some e)
own_last thread at [] e own =
    let here : at ≡ at + 0 = omega arith in
    ap (λ (b : Bool). if b then record { at = at; event = e } ∷ [] else []) own
    ∙ ap (λ (n : ℕ). placed n (Some e)) here
own_last thread at (x ∷ xs) e own =
    let sum : at + 1 + length xs ≡ at + length (x ∷ xs) = omega arith in
    own_step (x.thread == thread) (record { at = at; event = x }) (own_from thread (at + 1) (xs ++ e ∷ []))
    (own_from thread (at + 1) xs) (placed (at + length (x ∷ xs)) (Some e))
    (own_last thread (at + 1) xs e own ∙ ap (λ (n : ℕ). own_from thread (at + 1) xs ++ placed n (Some e)) sum)

own_with : (thread : ℕ) (history : List Event) (own : Option Event)
    → ((e : Event) → own ≡ Some e → e.thread ≡ thread)
    → own_events thread (with_event history own) ≡ own_events thread history ++ placed (length history) own
own_with thread history None named = sym (append-nil (own_events thread history))
own_with thread history (Some e) named =
    let sum : 0 + length history ≡ length history = omega arith in
    own_last thread 0 history e (eq-eqb e.thread thread (named e refl))
    ∙ ap (λ (n : ℕ). own_events thread history ++ placed n (Some e)) sum

-- ** the law

module _ (thread : ℕ) (seen history : List Event) (knows : Knows history (thread ∷ []) seen) (looks : List Look)
    (look : Look) (at : look.seen ≡ history) (named : (e : Event) → look.added ≡ Some e → e.thread ≡ thread) where
  abbrev now : List Event
  now = with_event look.seen look.added

  longer : IsFront seen look.seen
  longer = (knows.rest, at ∙ knows.whole)

  own : own_events thread seen ≡ made looks → own_events thread now ≡ made (looks ++ look ∷ [])
  own before =
      own_with thread look.seen look.added named
      ∙ (ap (λ (placed_so_far : List Placed). placed_so_far ++ placed (length look.seen) look.added)
      (ap (own_events thread) at
      ∙ (own_events_stay history seen (thread ∷ []) thread knows (first_named thread 1 (omega arith)) ∙ before))
      ∙ sym (made_more looks look))

  pub lawful_more : AreLawful thread seen looks → known_by [] looks ≡ seen
      → AreLawful thread (with_event look.seen look.added) (looks ++ look ∷ [])
  lawful_more lawful known = record {
    follows = follows_more looks [] look lawful.follows
        (subst (λ (front : List Event). IsFront front look.seen) (sym known) longer);
    fronts = fronts_more looks look seen now lawful.fronts
        (front_along seen look.seen now longer (front_of_with look.seen look.added))
        (front_of_with look.seen look.added);
    own = own lawful.own;
  }

-- ** turns, with one more at the end

module _ {S L : Type 0} (x : Turns S L Event) (event : L → List Event → Option Event) where
  pub turns_more : (points : List (List Event)) (t : Thread S L Event) (seen : List Event)
      → turns x t (points ++ seen ∷ []) ≡ turn x (turns x t points) seen
  turns_more [] t seen = refl
  turns_more (first ∷ points) t seen = turns_more points (turn x t first) seen

  pub looks_more : (points : List (List Event)) (t : Thread S L Event) (seen : List Event)
      → looks_of x event t (points ++ seen ∷ []) ≡ looks_of x event t points ++ look_at event (turns x t points) seen
      ∷ []
  looks_more [] t seen = refl
  looks_more (first ∷ points) t seen =
      ap (λ (more : List Look). look_at event t first ∷ more) (looks_more points (turn x t first) seen)
