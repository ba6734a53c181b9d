-- The looks of a thread in an order of turns are lawful in the history that the order leaves.
use Rattle.std.proofs.Common.{◌≡◌, ◌∙◌, ◌+◌, ◌++◌, ◌==◌, ◌&&◌, ℕ, Bool, true, false, not, List, [], ◌∷◌, length, Option}
use Rattle.std.proofs.Common.{Some, None, refl, sym, ap, arith, append-nil, append_assoc, length-append}
use Rattle.std.specs.Prelude.{if◌then◌else◌, option_and_then, option_to_list}
use Rattle.module_table.specs.declared.events.Event.{Event}
use Rattle.shared_modules.specs.Laws.{Placed, own_from}
use Rattle.thread_blocks.specs.Held.{Held}
use Rattle.thread_blocks.specs.JobWorlds.{Shared, shared_order, shared_turn}
use Rattle.thread_blocks.specs.Turns.{Phase, Idle, Mid, Thread, Turns, at_number, event_of, next_line, with_event}
use Rattle.thread_blocks.specs.Turns.{AllFronts, IsFront}
use Rattle.thread_blocks.proofs.Orders.{front-trans, order-front, turn-front}
use Rattle.lawful_points.specs.Orders.{is_over, look_at, look_if, look_in, looks_in}
use Rattle.lawful_points.specs.Points.{AreLawful, Follows, Look, made, placed, seen_by}

-- ** events of a thread

made_append : (xs ys : List Look) → made (xs ++ ys) ≡ made xs ++ made ys
made_append [] ys = refl
made_append (look ∷ xs) ys =
    ap (λ (more : List Placed). placed (length look.seen) look.added ++ more) (made_append xs ys)
    ∙ sym (append_assoc (placed (length look.seen) look.added) (made xs) (made ys))

if_own : (b : Bool) (p : Placed) (xs : List Placed) → (if b then p ∷ xs else xs) ≡ (if b then p ∷ [] else []) ++ xs
if_own true p xs = refl
if_own false p xs = refl

-- the first event, and the others
own_first : (i n : ℕ) (e : Option Event) (es : List Event)
    → own_from i n (option_to_list e ++ es)
    ≡ own_from i n (option_to_list e) ++ own_from i (n + length (option_to_list e)) es
own_first i n None es = ap (λ (m : ℕ). own_from i m es) (omega arith)
own_first i n (Some e) es = if_own (e.thread == i) (record { at = n; event = e }) (own_from i (n + 1) es)

none_either : (b : Bool) (xs : List Placed) → xs ≡ [] → xs ≡ (if b then xs else [])
none_either true xs e = refl
none_either false xs e = e

-- an event of thread j, as thread i has it
own_one : (i j n : ℕ) (o : Option Event) → ((e : Event) → o ≡ Some e → e.thread ≡ j)
    → own_from i n (option_to_list o) ≡ (if j == i then placed n o else [])
own_one i j n None named = none_either (j == i) [] refl
own_one i j n (Some e) named = rw (named e refl) refl

-- a thread that is over adds nothing
over_none : {S L : Type 0} (event : L → List Event → Option Event) (todo : List L) (phase : Phase S) (seen : List Event)
    → is_over todo phase ≡ true → option_and_then (λ line. event line seen) (next_line todo phase) ≡ None
over_none event [] phase seen over = refl
over_none event (line ∷ todo) (Idle s) seen over = cc
over_none event (line ∷ todo) (Mid left points s) seen over = refl

made_if : (own over : Bool) (look : Look) → (over ≡ true → look.added ≡ None)
    → made (look_if (own && not over) look) ≡ (if own then placed (length look.seen) look.added else [])
made_if true true look none = rw (none refl) refl
made_if true false look none = append-nil (placed (length look.seen) look.added)
made_if false over look none = refl

with_option : (events : List Event) (e : Option Event) → with_event events e ≡ events ++ option_to_list e
with_option events None = sym (append-nil events)
with_option events (Some e) = refl

whole_front : (events : List Event) → IsFront events events
whole_front events = ([], sym (append-nil events))

module _ {W F B L : Type 0} (x : ℕ → Turns (Held W F B) L Event) (event : ℕ → L → List Event → Option Event)
    (named : (i : ℕ) (line : L) (seen : List Event) (e : Event) → event i line seen ≡ Some e → e.thread ≡ i) where
  abbrev World : Type 0
  World = Shared W F B L

  abbrev One : Type 0
  One = Thread (Held W F B) L Event

  -- the event of a turn of thread j
  abbrev event_in : ℕ → List Event → Option One → Option Event
  event_in j events None = None
  event_in j events (Some t) = event_of (event j) t events

  -- the events that an order adds
  abbrev added_in : List ℕ → World → List Event
  added_in [] w = []
  added_in (j ∷ order) w = option_to_list (event_in j w.events (at_number w.threads j))
      ++ added_in order (shared_turn x event w j (at_number w.threads j))

  turn_adds : (w : World) (j : ℕ) (o : Option One)
      → (shared_turn x event w j o).events ≡ w.events ++ option_to_list (event_in j w.events o)
  turn_adds w j None = sym (append-nil w.events)
  turn_adds w j (Some t) = with_option w.events (event_of (event j) t w.events)

  order_adds : (order : List ℕ) (w : World) → (shared_order x event order w).events ≡ w.events ++ added_in order w
  order_adds [] w = sym (append-nil w.events)
  order_adds (j ∷ order) w =
      let o = at_number w.threads j in
      let next = shared_turn x event w j o in
      let e = option_to_list (event_in j w.events o) in
      order_adds order next ∙ (ap (λ (es : List Event). es ++ added_in order next) (turn_adds w j o)
      ∙ append_assoc w.events e (added_in order next))

  -- the line that begins says whose its event is
  line_named : (j : ℕ) (line : Option L) (seen : List Event) (e : Event)
      → option_and_then (λ (x : L). event j x seen) line ≡ Some e → e.thread ≡ j
  line_named j None seen e same = cc
  line_named j (Some line) seen e same = named j line seen e same

  -- ** one turn

  own_turn : (i j : ℕ) (events : List Event) (o : Option One)
      → own_from i (length events) (option_to_list (event_in j events o)) ≡ made (look_in x event i j events o)
  own_turn i j events None = refl
  own_turn i j events (Some t) =
      let look = look_at (event j) t events in
      own_one i j (length events) look.added (λ e same. line_named j (next_line t.todo t.phase) events e same)
      ∙ sym (made_if (j == i) (is_over t.todo t.phase) look (λ over. over_none (event j) t.todo t.phase events over))

  follows_if : (b : Bool) (look : Look) (old later : List Event) (rest : List Look) → IsFront old look.seen
      → IsFront (with_event look.seen look.added) later → IsFront look.seen later
      → ((known : List Event) → IsFront known later → Follows known rest) → Follows old (look_if b look ++ rest)
  follows_if true look old later rest front own all more = (front, more (with_event look.seen look.added) own)
  follows_if false look old later rest front own all more = more old (front-trans x event old look.seen later front all)

  follows_turn : (i j : ℕ) (w : World) (o : Option One) (old : List Event) (order : List ℕ) → IsFront old w.events
      → ((v : World) (known : List Event) → IsFront known v.events → Follows known (looks_in x event i order v))
      → Follows old (look_in x event i j w.events o ++ looks_in x event i order (shared_turn x event w j o))
  follows_turn i j w None old order front more = more w old front
  follows_turn i j w (Some t) old order front more =
      let next = shared_turn x event w j (Some t) in
      follows_if ((j == i) && not (is_over t.todo t.phase)) (look_at (event j) t w.events) old next.events
      (looks_in x event i order next) front (whole_front next.events) (turn-front x event w j (Some t))
      (λ known f. more next known f)

  fronts_if : (b : Bool) (look : Look) (rest : List Look) (whole : List Event) → IsFront look.seen whole
      → AllFronts (seen_by rest) whole → AllFronts (seen_by (look_if b look ++ rest)) whole
  fronts_if true look rest whole front more = (front, more)
  fronts_if false look rest whole front more = more

  fronts_turn : (i j : ℕ) (events whole : List Event) (o : Option One) (rest : List Look) → IsFront events whole
      → AllFronts (seen_by rest) whole → AllFronts (seen_by (look_in x event i j events o ++ rest)) whole
  fronts_turn i j events whole None rest front more = more
  fronts_turn i j events whole (Some t) rest front more =
      fronts_if ((j == i) && not (is_over t.todo t.phase)) (look_at (event j) t events) rest whole front more

  -- ** an order of turns

  own_order : (i : ℕ) (order : List ℕ) (w : World)
      → own_from i (length w.events) (added_in order w) ≡ made (looks_in x event i order w)
  own_order i [] w = refl
  own_order i (j ∷ order) w =
      let o = at_number w.threads j in
      let next = shared_turn x event w j o in
      let e = event_in j w.events o in
      let count : length w.events + length (option_to_list e) ≡ length next.events =
      sym (ap length (turn_adds w j o) ∙ length-append w.events (option_to_list e)) in
      own_first i (length w.events) e (added_in order next)
      ∙ (ap (λ (xs : List Placed). xs ++ own_from i (length w.events + length (option_to_list e)) (added_in order next))
      (own_turn i j w.events o)
      ∙ (ap (λ (n : ℕ). made (look_in x event i j w.events o) ++ own_from i n (added_in order next)) count
      ∙ (ap (λ (xs : List Placed). made (look_in x event i j w.events o) ++ xs) (own_order i order next)
      ∙ sym (made_append (look_in x event i j w.events o) (looks_in x event i order next)))))

  follows_order : (i : ℕ) (order : List ℕ) (w : World) (old : List Event) → IsFront old w.events
      → Follows old (looks_in x event i order w)
  follows_order i [] w old front = tt
  follows_order i (j ∷ order) w old front =
      follows_turn i j w (at_number w.threads j) old order front (λ v known f. follows_order i order v known f)

  fronts_order : (i : ℕ) (order : List ℕ) (w : World)
      → AllFronts (seen_by (looks_in x event i order w)) (shared_order x event order w).events
  fronts_order i [] w = tt
  fronts_order i (j ∷ order) w =
      let o = at_number w.threads j in
      let next = shared_turn x event w j o in
      fronts_turn i j w.events (shared_order x event order next).events o (looks_in x event i order next)
      (front-trans x event w.events next.events (shared_order x event order next).events (turn-front x event w j o)
      (order-front x event order next))
      (fronts_order i order next)

  -- the law: from a start with no event
  pub order_lawful : (i : ℕ) (order : List ℕ) (w : World) → w.events ≡ []
      → AreLawful i (shared_order x event order w).events (looks_in x event i order w)
  order_lawful i order w none = record {
    follows = follows_order i order w [] (w.events, refl);
    fronts = fronts_order i order w;
    own = ap (own_from i 0) (order_adds order w ∙ ap (λ (es : List Event). es ++ added_in order w) none)
        ∙ (ap (λ (es : List Event). own_from i (length es) (added_in order w)) (sym none) ∙ own_order i order w);
  }
