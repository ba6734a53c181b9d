-- Lawful looks have lawful points.
use Rattle.std.proofs.Common.{◌≡◌, ◌∙◌, ◌+◌, ◌++◌, ◌≤◌, ℕ, List, [], ◌∷◌, length, Option, Some, None, refl, ap, subst}
use Rattle.std.proofs.Common.{arith, length-append}
use Rattle.std.specs.Prelude.{if◌then◌else◌, is_some}
use Rattle.module_table.specs.declared.events.Event.{Event}
use Rattle.shared_modules.specs.Laws.{Placed}
use Rattle.thread_blocks.specs.Turns.{with_event}
use Rattle.thread_blocks.specs.Turns.{AllFronts, IsFront}
use Rattle.lawful_points.specs.Points.{AreLawful, Follows, Look, made, placed, seen_by}
use Rattle.lawful_points.specs.Told.{points_of}
use Rattle.lawful_points.specs.ToldLaws.{AreLawfulPoints, AreWithin, Rise, events_of}

front_long : (front whole : List Event) → IsFront front whole → length front ≤ length whole
front_long front whole is =
    let whole_long : length whole ≡ length front + length is.0 =
    ap (λ (es : List Event). length es) is.1 ∙ length-append front is.0 in
    omega (arith, whole_long)

with_long : (seen : List Event) (e : Option Event)
    → length (with_event seen e) ≡ (if is_some e then length seen + 1 else length seen)
with_long seen None = refl
with_long seen (Some e) = length-append seen (e ∷ [])

rise_of : (looks : List Look) (old : List Event) → Follows old looks → Rise (length old) (points_of looks)
rise_of [] old follows = tt
rise_of (look ∷ more) old follows = (
  front_long old look.seen follows.0,
  subst (λ (least : ℕ). Rise least (points_of more)) (with_long look.seen look.added)
      (rise_of more (with_event look.seen look.added) follows.1),
)

within_of : (looks : List Look) (history : List Event) → AllFronts (seen_by looks) history
    → AreWithin (length history) (points_of looks)
within_of [] history fronts = tt
within_of (look ∷ more) history fronts = (front_long look.seen history fronts.0, within_of more history fronts.1)

events_made : (looks : List Look) → made looks ≡ events_of (points_of looks)
events_made [] = refl
events_made (look ∷ more) = ap (λ (es : List Placed). placed (length look.seen) look.added ++ es) (events_made more)

-- the law
pub numbers_lawful : (thread : ℕ) (history : List Event) (looks : List Look) → AreLawful thread history looks
    → AreLawfulPoints thread history (points_of looks)
numbers_lawful thread history looks lawful = record {
  rise = rise_of looks [] lawful.follows;
  within = within_of looks history lawful.fronts;
  own = lawful.own ∙ events_made looks;
}
