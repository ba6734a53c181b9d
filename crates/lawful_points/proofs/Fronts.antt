-- Looks at fronts of a history are known by their numbers, and lawful ones are in the history with what they added.
use Rattle.std.proofs.Common.{◌≡◌, ◌∙◌, ◌+◌, ◌++◌, ◌==◌, ℕ, Bool, true, false, List, [], ◌∷◌, map, length, take, Option}
use Rattle.std.proofs.Common.{Some, None, refl, sym, ap, subst, append_assoc, length-append}
use Rattle.std.specs.Prelude.{if◌then◌else◌}
use Rattle.module_table.specs.declared.events.Event.{Event}
use Rattle.shared_modules.specs.Laws.{Placed, own_from}
use Rattle.thread_blocks.specs.Turns.{Thread, Turns, event_of, turn, with_event}
use Rattle.thread_blocks.specs.Turns.{AllFronts, IsFront}
use Rattle.lawful_points.specs.Laws.{AtFronts}
use Rattle.lawful_points.specs.Orders.{looks_of}
use Rattle.lawful_points.specs.Points.{AreLawful, Look, made, placed, seen_by}
use Rattle.lawful_points.specs.Told.{Point, points_of}

-- ** fronts by their lengths

take_front : (front rest : List Event) → take (length front) (front ++ rest) ≡ front
take_front [] rest = refl
take_front (e ∷ front) rest = ap (λ (es : List Event). e ∷ es) (take_front front rest)

taken_is : (front whole : List Event) → IsFront front whole → take (length front) whole ≡ front
taken_is front whole is = ap (take (length front)) is.1 ∙ take_front front is.0

-- fronts of one list that are as long
pub same_front : (a b whole : List Event) → IsFront a whole → IsFront b whole → length a ≡ length b → a ≡ b
same_front a b whole front other e =
    sym (taken_is a whole front) ∙ (ap (λ (n : ℕ). take n whole) e ∙ taken_is b whole other)

-- a point at a history
abbrev pub look_by : List Event → Point → Look
look_by history point = record { seen = take point.number history; added = point.added }

pub found_by : (history : List Event) (looks : List Look) → AllFronts (seen_by looks) history
    → map (look_by history) (points_of looks) ≡ looks
found_by history [] fronts = refl
found_by history (look ∷ looks) fronts =
    ap (λ (seen : List Event). record { seen = seen; added = look.added } ∷ map (look_by history) (points_of looks))
    (taken_is look.seen history fronts.0)
    ∙ ap (λ (more : List Look). look ∷ more) (found_by history looks fronts.1)

-- looks at fronts of one history that tell the same are the same
pub same_looks : (history : List Event) (looks others : List Look) → AllFronts (seen_by looks) history
    → AllFronts (seen_by others) history → points_of looks ≡ points_of others → looks ≡ others
same_looks history looks others fronts more e =
    sym (found_by history looks fronts) ∙ (ap (map (look_by history)) e ∙ found_by history others more)

-- ** events at their places

-- an event stands in a history, with as many before it as its place says
abbrev IsThere : List Event → Placed → Type 0
IsThere history p = (front : List Event) × ((length front ≡ p.at) × IsFront (front ++ p.event ∷ []) history)

abbrev AreThere : List Event → List Placed → Type 0
AreThere history [] = Unit {0}
AreThere history (p ∷ more) = IsThere history p × AreThere history more

there_if : (b : Bool) (history : List Event) (p : Placed) (more : List Placed) → IsThere history p
    → AreThere history more
    → AreThere history (if b then p ∷ more else more)
there_if true history p more is are = (is, are)
there_if false history p more is are = are

own_there : (i : ℕ) (before es : List Event) → AreThere (before ++ es) (own_from i (length before) es)
own_there i before [] = tt
own_there i before (e ∷ es) =
    let shift : (before ++ e ∷ []) ++ es ≡ before ++ e ∷ es = append_assoc before (e ∷ []) es in
    let rest : AreThere (before ++ e ∷ es) (own_from i (length before + 1) es) =
    subst (λ (n : ℕ). AreThere (before ++ e ∷ es) (own_from i n es)) (length-append before (e ∷ []))
    (subst (λ (h : List Event). AreThere h (own_from i (length (before ++ e ∷ [])) es)) shift (own_there i
    (before ++ e ∷ []) es)) in
    there_if (e.thread == i) (before ++ e ∷ es) (record { at = length before; event = e })
    (own_from i (length before + 1) es)
    (before, (refl, (es, sym shift))) rest

there_first : (history : List Event) (xs ys : List Placed) → AreThere history (xs ++ ys)
    → AreThere history xs × AreThere history ys
there_first history [] ys are = (tt, are)
there_first history (x ∷ xs) ys are = let more = there_first history xs ys are.1 in ((are.0, more.0), more.1)

-- what a look saw is a front, and what it added stands there: so it is with both
with_own : (history seen : List Event) (e : Option Event) → IsFront seen history
    → AreThere history (placed (length seen) e)
    → IsFront (with_event seen e) history
with_own history seen None front are = front
with_own history seen (Some e) front are =
    let at = are.0 in
    let whole : IsFront at.0 history = (e ∷ at.1.1.0, at.1.1.1 ∙ append_assoc at.0 (e ∷ []) at.1.1.0) in
    let same : at.0 ≡ seen = same_front at.0 seen history whole front at.1.0 in
    subst (λ (before : List Event). IsFront (before ++ e ∷ []) history) same at.1.1

module _ {S L : Type 0} (x : Turns S L Event) (event : L → List Event → Option Event) (history : List Event) where
  turns_there : (points : List (List Event)) (t : Thread S L Event)
      → AllFronts (seen_by (looks_of x event t points)) history
      → AreThere history (made (looks_of x event t points)) → AtFronts x event history t points
  turns_there [] t fronts are = tt
  turns_there (seen ∷ more) t fronts are =
      let own = event_of event t seen in
      let both = there_first history (placed (length seen) own) (made (looks_of x event (turn x t seen) more)) are in
      ((fronts.0, with_own history seen own fronts.0 both.0), turns_there more (turn x t seen) fronts.1 both.1)

  -- the law
  pub in_history : (thread : ℕ) (t : Thread S L Event) (points : List (List Event))
      → AreLawful thread history (looks_of x event t points) → AtFronts x event history t points
  in_history thread t points lawful =
      turns_there points t lawful.fronts (subst (AreThere history) lawful.own (own_there thread [] history))
