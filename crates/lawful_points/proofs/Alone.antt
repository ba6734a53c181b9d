-- The looks of a thread that takes its turns alone, those left out where it is over.
use Rattle.std.proofs.Common.{◌≡◌, ◌++◌, ℕ, Bool, true, false, List, [], ◌∷◌, length, Option, refl, sym, ap, subst}
use Rattle.std.proofs.Common.{append-nil, append_assoc}
use Rattle.module_table.specs.declared.events.Event.{Event}
use Rattle.thread_blocks.specs.Lines.{Line}
use Rattle.thread_blocks.specs.Turns.{Thread, Turns, event_of, turn, turns}
use Rattle.thread_blocks.specs.Turns.{AllFronts, IsFront}
use Rattle.thread_blocks.proofs.Turns.{turns-finished}
use Rattle.lawful_points.specs.Orders.{is_over, looks_of}
use Rattle.lawful_points.specs.Points.{seen_by}
use Rattle.lawful_points.specs.Told.{Point, points_of}
use Rattle.lawful_points.proofs.Orders.{is_finished}
use Rattle.lawful_points.proofs.Telling.{Tells, TellsBegun, turn_told}

module _ {S L : Type 0} (x : Turns S L Event) where
  -- the points at which the thread is not over
  abbrev pub unless_over : Bool → List (List Event) → List (List Event)
  unless_over true points = []
  unless_over false points = points

  abbrev pub acting : Thread S L Event → List (List Event) → List (List Event)
  acting t [] = []
  acting t (seen ∷ more) = unless_over (is_over t.todo t.phase) (seen ∷ acting (turn x t seen) more)

  acting_turn : (t : Thread S L Event) (seen : List Event) (more : List (List Event)) (over : Bool)
      → is_over t.todo t.phase ≡ over
      → turns x (turn x t seen) (acting (turn x t seen) more) ≡ turns x (turn x t seen) more
      → turns x t (unless_over over (seen ∷ acting (turn x t seen) more)) ≡ turns x t (seen ∷ more)
  acting_turn t seen more true over rest = sym (turns-finished x t (seen ∷ more) (is_finished t.todo t.phase over))
  acting_turn t seen more false over rest = rest

  -- the others change nothing
  pub acting_turns : (points : List (List Event)) (t : Thread S L Event)
      → turns x t (acting t points) ≡ turns x t points
  acting_turns [] t = refl
  acting_turns (seen ∷ more) t =
      acting_turn t seen more (is_over t.todo t.phase) refl (acting_turns more (turn x t seen))

  fronts_unless : (over : Bool) (seen : List Event) (points : List (List Event)) (whole : List Event)
      → IsFront seen whole
      → AllFronts points whole → AllFronts (unless_over over (seen ∷ points)) whole
  fronts_unless true seen points whole front more = tt
  fronts_unless false seen points whole front more = (front, more)

  pub acting_fronts : (points : List (List Event)) (t : Thread S L Event) (whole : List Event) → AllFronts points whole
      → AllFronts (acting t points) whole
  acting_fronts [] t whole fronts = tt
  acting_fronts (seen ∷ more) t whole fronts =
      fronts_unless (is_over t.todo t.phase) seen (acting (turn x t seen) more) whole fronts.0
      (acting_fronts more (turn x t seen) whole fronts.1)

  pub seen_alone : (event : L → List Event → Option Event) (points : List (List Event)) (t : Thread S L Event)
      → seen_by (looks_of x event t points) ≡ points
  seen_alone event [] t = refl
  seen_alone event (seen ∷ more) t = ap (λ (ps : List (List Event)). seen ∷ ps) (seen_alone event more (turn x t seen))

module _ {S : Type 0} (thread : ℕ) (x : Turns S Line Event) (event : Line → List Event → Option Event)
    (begins : (line : Line) (seen : List Event) (s : S)
    → TellsBegun thread line (event line seen) (x.begin line seen s)) where
  abbrev TellsAll : List Line → Thread S Line Event → List Point → Type 0
  TellsAll own t told = Tells thread x event begins own t told

  acting_tells : (own : List Line) (t : Thread S Line Event) (seen : List Event) (more : List (List Event))
      (told : List Point)
      (over : Bool) → is_over t.todo t.phase ≡ over → TellsAll own t told
      → ((now : List Point) → TellsAll own (turn x t seen) now
      → TellsAll own (turns x (turn x t seen) (acting x (turn x t seen) more))
      (now ++ points_of (looks_of x event (turn x t seen) (acting x (turn x t seen) more))))
      → TellsAll own (turns x t (unless_over x over (seen ∷ acting x (turn x t seen) more)))
      (told ++ points_of (looks_of x event t (unless_over x over (seen ∷ acting x (turn x t seen) more))))
  acting_tells own t seen more told true over at rest =
      subst (λ (ps : List Point). TellsAll own t ps) (sym (append-nil told)) at
  acting_tells own t seen more told false over at rest =
      let here = record { number = length seen; added = event_of event t seen } ∷ [] in
      let after = points_of (looks_of x event (turn x t seen) (acting x (turn x t seen) more)) in
      subst (λ (ps : List Point). TellsAll own (turns x (turn x t seen) (acting x (turn x t seen) more)) ps)
      (append_assoc told here after)
      (rest (told ++ here) (turn_told thread x event begins own t seen told at over))

  -- the law: what the turns of a thread told
  pub alone_told : (own : List Line) (points : List (List Event)) (t : Thread S Line Event) (told : List Point)
      → TellsAll own t told
      → TellsAll own (turns x t (acting x t points)) (told ++ points_of (looks_of x event t (acting x t points)))
  alone_told own [] t told at = subst (λ (ps : List Point). TellsAll own t ps) (sym (append-nil told)) at
  alone_told own (seen ∷ more) t told at =
      acting_tells own t seen more told (is_over t.todo t.phase) refl at
      (λ now known. alone_told own more (turn x t seen) now known)
