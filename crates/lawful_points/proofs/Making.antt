-- Events of a thread are those that its lines made, one by one.
use Rattle.std.proofs.Common.{◌≡◌, ◌∙◌, ◌+◌, ◌++◌, ◌==◌, ℕ, zero, suc, Bool, true, false, List, [], ◌∷◌, length, map}
use Rattle.std.proofs.Common.{Some, None, refl, sym, ap, subst, inl, inr, arith, append_assoc, eq-eqb, get_or}
use Rattle.std.specs.Prelude.{◌⊎◌, All, if◌then◌else◌, slice_get}
use Rattle.std.proofs.lemmas.Option.{get_or_from_slice_get, slice_get-get_or, slice_get_within}
use Rattle.job_text.specs.declared.thread_lines.Action.{Action}
use Rattle.job_text.specs.declared.thread_lines.Action.TheVariants.{Call, Open, Close, Peek}
use Rattle.job_text.specs.declared.thread_lines.ThreadLine.{ThreadLine}
use Rattle.job_text.specs.Threads.{IsThread}
use Rattle.module_table.specs.declared.events.Event.{Event}
use Rattle.shared_modules.specs.Laws.{Placed, own_events, own_from}
use Rattle.transcript_text.specs.declared.outcomes.Line.{Line as ShownLine}
use Rattle.transcript_text.specs.declared.outcomes.Outcome.{Outcome}
use Rattle.transcript_text.specs.declared.outcomes.Outcome.TheVariants.{Returned, Opened, Closed, Bytes, Refused, Fault}
use Rattle.transcript_text.specs.Texts.{Shown}
use Rattle.thread_blocks.specs.JobWorlds.{numbered_lines}
use Rattle.thread_blocks.specs.Lines.{Line}
use Rattle.thread_blocks.specs.Turns.{at_number}
use Rattle.lawful_points.specs.Made.{EventsAreMade, HasMade, IsLine, IsMade, MadeOne, SaysEvent}
use Rattle.lawful_points.specs.Points.{placed}
use Rattle.lawful_points.specs.Told.{Point, told_by, told_line}
use Rattle.lawful_points.specs.ToldLaws.{events_of}
use Rattle.lawful_points.proofs.Fitting.{AllShownFit, Fits}

-- ** one of some placed events

abbrev Has : List Placed → Placed → Type 0
Has [] q = ⊥
Has (p ∷ ps) q = (p ≡ q) ⊎ Has ps q

has_more : (ps qs : List Placed) (q : Placed) → Has qs q → Has (ps ++ qs) q
has_more [] qs q has = has
has_more (p ∷ ps) qs q has = inr (has_more ps qs q has)

has_first : (ps qs : List Placed) (q : Placed) → Has ps q → Has (ps ++ qs) q
has_first [] qs q has = absurd has
has_first (p ∷ ps) qs q (inl same) = inl same
has_first (p ∷ ps) qs q (inr has) = inr (has_first ps qs q has)

has_either : (ps qs : List Placed) (q : Placed) → Has (ps ++ qs) q → Has ps q ⊎ Has qs q
has_either [] qs q has = inr has
has_either (p ∷ ps) qs q (inl same) = inl (inl same)
has_either (p ∷ ps) qs q (inr has) = (elim (has_either ps qs q has) [
  | inl first ↦ inl (inr first)
  | inr more ↦ inr more
])

-- ** a thread's events in a history

if_here : (b : Bool) (p : Placed) (ps : List Placed) → b ≡ true → Has (if b then p ∷ ps else ps) p
if_here true p ps own = inl refl
if_here false p ps own = cc

if_more : (b : Bool) (p : Placed) (ps : List Placed) (q : Placed) → Has ps q → Has (if b then p ∷ ps else ps) q
if_more true p ps q has = inr has
if_more false p ps q has = has

if_either : (b : Bool) (p : Placed) (ps : List Placed) (q : Placed) → Has (if b then p ∷ ps else ps) q
    → (p ≡ q) ⊎ Has ps q
if_either true p ps q has = has
if_either false p ps q has = inr has

abbrev at_place : ℕ → Event → Placed
at_place point e = record { at = point; event = e }

own_has : (thread first k : ℕ) (es : List Event) (e : Event) → slice_get es k ≡ Some e → e.thread ≡ thread
    → Has (own_from thread first es) (at_place (first + k) e)
own_has thread first k [] e at own = cc
own_has thread first zero (x ∷ es) e at own =
    let same : x ≡ e = cc in
    let here : first ≡ first + 0 = omega arith in
    subst (Has (own_from thread first (x ∷ es))) (ap (λ (n : ℕ). at_place n x) here ∙ ap (at_place (first + 0)) same)
    (if_here (x.thread == thread) (at_place first x) (own_from thread (first + 1) es)
    (eq-eqb x.thread thread (ap (λ (y : Event). y.thread) same ∙ own)))
own_has thread first (suc k) (x ∷ es) e at own =
    let next : first + 1 + k ≡ first + suc k = omega arith in
    if_more (x.thread == thread) (at_place first x) (own_from thread (first + 1) es) (at_place (first + suc k) e)
    (subst (λ (n : ℕ). Has (own_from thread (first + 1) es) (at_place n e)) next
    (own_has thread (first + 1) k es e at own))

-- it stands in the history, at its place
record StandsAt (first : ℕ) (es : List Event) (q : Placed) : Type 0 where
  pub k : ℕ
  pub at : q.at ≡ first + k
  pub there : slice_get es k ≡ Some q.event

own_stands : (thread first : ℕ) (es : List Event) (q : Placed) → Has (own_from thread first es) q → StandsAt first es q
own_stands thread first [] q has = absurd has
own_stands thread first (x ∷ es) q has =
    (elim (if_either (x.thread == thread) (at_place first x) (own_from thread (first + 1) es) q has) [
      | inl same ↦
          let at : first ≡ q.at = ap (λ (p : Placed). p.at) same in
          record { k = 0; at = omega (arith, at); there = ap (λ (p : Placed). Some p.event) same }
      | inr more ↦
          let rest = own_stands thread (first + 1) es q more in
          record { k = suc rest.k; at = omega (arith, rest.at); there = rest.there }
    ])

-- ** the events that lines tell

events_append : (xs ys : List Point) → events_of (xs ++ ys) ≡ events_of xs ++ events_of ys
events_append [] ys = refl
events_append (x ∷ xs) ys =
    ap (λ (more : List Placed). placed x.number x.added ++ more) (events_append xs ys)
    ∙ sym (append_assoc (placed x.number x.added) (events_of xs) (events_of ys))

none_told : (points : List ℕ) (q : Placed)
    → Has (events_of (map (λ (number : ℕ). record { number = number; added = None }) points)) q → ⊥
none_told [] q has = has
none_told (point ∷ points) q has = none_told points q has

abbrev line_at : ℕ → ℕ → Action → Line
line_at number image action = record { number = number; told = record { image = image; action = action } }

abbrev said_at : List ℕ → Outcome → ShownLine
said_at points outcome = record { points = points; outcome = outcome }

module _ (thread number image : ℕ) where
  -- what a line of this kind tells
  abbrev tells : Action → List ℕ → Outcome → List Placed
  tells action points outcome = events_of (told_line thread (line_at number image action) (said_at points outcome))

  abbrev Makes : Action → List ℕ → Outcome → Placed → Type 0
  Makes action points outcome q =
      HasMade thread number (record { image = image; action = action }) (said_at points outcome) q.at q.event

  abbrev event_at : Bool → Event
  event_at opens = record { thread = thread; line = number; opens = opens; image = image }

  opened_made : (points : List ℕ) (instance point : ℕ) → points ≡ point ∷ []
      → Makes Open points (Opened instance) (at_place point (event_at true))
  opened_made points instance point one =
      record { thread_is = refl; number_is = refl; image_is = refl; accepted = tt; point_is = one }

  closed_made : (points : List ℕ) (point : ℕ) → points ≡ point ∷ []
      → Makes Close points Closed (at_place point (event_at false))
  closed_made points point one =
      record { thread_is = refl; number_is = refl; image_is = refl; accepted = tt; point_is = one }

  open_told : (points : List ℕ) (instance : ℕ) → Fits Open points (Opened instance) → (q : Placed)
      → Has (tells Open points (Opened instance)) q → Makes Open points (Opened instance) q
  open_told points instance fits q has =
      let point = fits.1.0 in
      let e : Event = event_at true in
      let one : Has (at_place point e ∷ []) q =
      subst (λ (ps : List ℕ). Has (tells Open ps (Opened instance)) q) fits.1.1 has in
      (elim one [
        | inl same ↦ subst (Makes Open points (Opened instance)) same (opened_made points instance point fits.1.1)
        | inr none ↦ absurd none
      ])

  close_told : (points : List ℕ) → Fits Close points Closed → (q : Placed)
      → Has (tells Close points Closed) q → Makes Close points Closed q
  close_told points fits q has =
      let point = fits.1.0 in
      let e : Event = event_at false in
      let one : Has (at_place point e ∷ []) q = subst (λ (ps : List ℕ). Has (tells Close ps Closed) q) fits.1.1 has in
      (elim one [
        | inl same ↦ subst (Makes Close points Closed) same (closed_made points point fits.1.1)
        | inr none ↦ absurd none
      ])

  line_told : (action : Action) (points : List ℕ) (outcome : Outcome) → Fits action points outcome → (q : Placed)
      → Has (tells action points outcome) q → Makes action points outcome q
  line_told (Call symbol a b c) points outcome fits q has = absurd (none_told points q has)
  line_told (Peek symbol size) points outcome fits q has = absurd (none_told points q has)
  line_told Open points (Opened instance) fits q has = open_told points instance fits q has
  line_told Open points Closed fits q has = absurd (none_told points q has)
  line_told Open points (Returned value) fits q has = absurd (none_told points q has)
  line_told Open points (Bytes bytes) fits q has = absurd (none_told points q has)
  line_told Open points (Refused refusal) fits q has = absurd (none_told points q has)
  line_told Open points (Fault fault) fits q has = absurd (none_told points q has)
  line_told Close points Closed fits q has = close_told points fits q has
  line_told Close points (Opened instance) fits q has = absurd (none_told points q has)
  line_told Close points (Returned value) fits q has = absurd (none_told points q has)
  line_told Close points (Bytes bytes) fits q has = absurd (none_told points q has)
  line_told Close points (Refused refusal) fits q has = absurd (none_told points q has)
  line_told Close points (Fault fault) fits q has = absurd (none_told points q has)

  -- a line that says so tells an event
  record Told (action : Action) (points : List ℕ) (outcome : Outcome) : Type 0 where
    pub one : Placed
    pub has : Has (tells action points outcome) one
    pub made : Makes action points outcome one

  open_tells : (action : Action) (points : List ℕ) (instance : ℕ) → Fits action points (Opened instance)
      → Told action points (Opened instance)
  open_tells action points instance fits =
      subst (λ (a : Action). Told a points (Opened instance)) (sym fits.0) (record {
        one = at_place fits.1.0 (event_at true);
        has = subst (λ (ps : List ℕ). Has (tells Open ps (Opened instance)) (at_place fits.1.0 (event_at true)))
            (sym fits.1.1) (inl refl);
        made = opened_made points instance fits.1.0 fits.1.1;
      })

  close_tells : (action : Action) (points : List ℕ) → Fits action points Closed → Told action points Closed
  close_tells action points fits =
      subst (λ (a : Action). Told a points Closed) (sym fits.0) (record {
        one = at_place fits.1.0 (event_at false);
        has = subst (λ (ps : List ℕ). Has (tells Close ps Closed) (at_place fits.1.0 (event_at false)))
            (sym fits.1.1) (inl refl);
        made = closed_made points fits.1.0 fits.1.1;
      })

  line_tells : (action : Action) (points : List ℕ) (outcome : Outcome) → Fits action points outcome → SaysEvent outcome
      → Told action points outcome
  line_tells action points (Opened instance) fits says = open_tells action points instance fits
  line_tells action points Closed fits says = close_tells action points fits
  line_tells action points (Returned value) fits says = absurd says
  line_tells action points (Bytes bytes) fits says = absurd says
  line_tells action points (Refused refusal) fits says = absurd says
  line_tells action points (Fault fault) fits says = absurd says

-- ** all lines of a thread

module _ (thread : ℕ) where
  abbrev told_from : ℕ → List ThreadLine → List ShownLine → List Placed
  told_from number own said = events_of (told_by thread (numbered_lines number own) said)

  -- a line among these made it
  record MadeAmong (number : ℕ) (own : List ThreadLine) (said : List ShownLine) (q : Placed) : Type 0 where
    pub k : ℕ
    pub line : ThreadLine
    pub shows : ShownLine
    pub line_is : slice_get own k ≡ Some line
    pub shows_is : slice_get said k ≡ Some shows
    pub made : HasMade thread (number + k) line shows q.at q.event

  lines_told : (number : ℕ) (own : List ThreadLine) (said : List ShownLine)
      → AllShownFit (numbered_lines number own) said
      → (q : Placed) → Has (told_from number own said) q → MadeAmong number own said q
  lines_told number [] said fit q has = absurd has
  lines_told number (line ∷ own) [] fit q has = absurd has
  lines_told number (line ∷ own) (shows ∷ said) fit q has =
      let here = told_line thread (record { number = number; told = line }) shows in
      (elim (has_either (events_of here) (told_from (suc number) own said) q
      (subst (λ (ps : List Placed). Has ps q)
      (events_append here (told_by thread (numbered_lines (suc number) own) said)) has)) [
        | inl first ↦
            let same : number ≡ number + 0 = omega arith in
            record {
              k = 0;
              line = line;
              shows = shows;
              line_is = refl;
              shows_is = refl;
              made = subst (λ (n : ℕ). HasMade thread n line shows q.at q.event) same
                  (line_told thread number line.image line.action shows.points shows.outcome fit.0 q first);
            }
        | inr more ↦
            let rest = lines_told (suc number) own said fit.1 q more in
            let same : suc number + rest.k ≡ number + suc rest.k = omega arith in
            record {
              k = suc rest.k;
              line = rest.line;
              shows = rest.shows;
              line_is = rest.line_is;
              shows_is = rest.shows_is;
              made = subst (λ (n : ℕ). HasMade thread n rest.line rest.shows q.at q.event) same rest.made;
            }
      ])

  -- line k tells an event
  record ToldAt (number : ℕ) (own : List ThreadLine) (said : List ShownLine) (k : ℕ) (line : ThreadLine)
      (shows : ShownLine) : Type 0 where
    pub one : Placed
    pub has : Has (told_from number own said) one
    pub made : HasMade thread (number + k) line shows one.at one.event

  first_tells : (number : ℕ) (line : ThreadLine) (own : List ThreadLine) (shows : ShownLine) (said : List ShownLine)
      → Fits line.action shows.points shows.outcome → SaysEvent shows.outcome
      → ToldAt number (line ∷ own) (shows ∷ said) 0 line shows
  first_tells number line own shows said fits says =
      let here = told_line thread (record { number = number; told = line }) shows in
      let told = line_tells thread number line.image line.action shows.points shows.outcome fits says in
      let same : number ≡ number + 0 = omega arith in
      record {
        one = told.one;
        has = subst (λ (ps : List Placed). Has ps told.one)
            (sym (events_append here (told_by thread (numbered_lines (suc number) own) said)))
            (has_first (events_of here) (told_from (suc number) own said) told.one told.has);
        made = subst (λ (n : ℕ). HasMade thread n line shows told.one.at told.one.event) same told.made;
      }

  lines_tell : (number : ℕ) (own : List ThreadLine) (said : List ShownLine) (k : ℕ) (line : ThreadLine)
      (shows : ShownLine) → AllShownFit (numbered_lines number own) said → slice_get own k ≡ Some line
      → slice_get said k ≡ Some shows → SaysEvent shows.outcome → ToldAt number own said k line shows
  lines_tell number [] said k line shows fit at found says = cc
  lines_tell number (first ∷ own) [] k line shows fit at found says = cc
  lines_tell number (first ∷ own) (s ∷ said) zero line shows fit at found says =
      let line_is : first ≡ line = cc in
      let shows_is : s ≡ shows = cc in
      subst (λ (x : ThreadLine). ToldAt number (first ∷ own) (s ∷ said) 0 x shows) line_is
      (subst (ToldAt number (first ∷ own) (s ∷ said) 0 first) shows_is
      (first_tells number first own s said fit.0 (subst (λ (x : ShownLine). SaysEvent x.outcome) (sym shows_is) says)))
  lines_tell number (first ∷ own) (s ∷ said) (suc k) line shows fit at found says =
      let here = told_line thread (record { number = number; told = first }) s in
      let rest = lines_tell (suc number) own said k line shows fit.1 at found says in
      let same : suc number + k ≡ number + suc k = omega arith in
      record {
        one = rest.one;
        has = subst (λ (ps : List Placed). Has ps rest.one)
            (sym (events_append here (told_by thread (numbered_lines (suc number) own) said)))
            (has_more (events_of here) (told_from (suc number) own said) rest.one rest.has);
        made = subst (λ (n : ℕ). HasMade thread n line shows rest.one.at rest.one.event) same rest.made;
      }

-- ** a transcript

-- the lines of a thread of it fit, and its events are those that they tell
pub record TellsOwn (shown : Shown) (thread : ℕ) (own : List ThreadLine) (said : List ShownLine) : Type 0 where
  pub told : own_events thread shown.events ≡ events_of (told_by thread (numbered_lines 1 own) said)
  pub fit : AllShownFit (numbered_lines 1 own) said

number_there : {X : Type 0} (xs : List X) (d : X) (count thread : ℕ) → IsThread count thread → length xs ≡ count
    → (x : X) × (at_number xs thread ≡ Some x)
number_there xs d count zero is long = let low = is.0 in absurd (omega arith)
number_there xs d count (suc k) is long =
    let high = is.1 in (get_or xs k d, slice_get-get_or xs k d (omega (arith, high, long)))

module _ (lines : List (List ThreadLine)) (shown : Shown)
    (tells_own : (thread : ℕ) (own : List ThreadLine) (said : List ShownLine) → at_number lines thread ≡ Some own
    → at_number shown.threads thread ≡ Some said → TellsOwn shown thread own said) where
  made_by : (point : ℕ) (e : Event) → slice_get shown.events point ≡ Some e → (own : List ThreadLine)
      (said : List ShownLine) → at_number lines e.thread ≡ Some own → at_number shown.threads e.thread ≡ Some said
      → IsMade lines shown point e
  made_by point e at own said mine found =
      let tells = tells_own e.thread own said mine found in
      let here : 0 + point ≡ point = omega arith in
      let has = subst (λ (n : ℕ). Has (own_events e.thread shown.events) (at_place n e)) here
      (own_has e.thread 0 point shown.events e at refl) in
      let among = lines_told e.thread 1 own said tells.fit (at_place point e)
      (subst (λ (ps : List Placed). Has ps (at_place point e)) tells.told has) in
      record {
        thread = e.thread;
        number = suc among.k;
        line = among.line;
        said = among.shows;
        is_line = record {
          own = own;
          printed = said;
          own_is = mine;
          printed_is = found;
          line_is = among.line_is;
          said_is = among.shows_is;
        };
        made = subst (λ (n : ℕ). HasMade e.thread n among.line among.shows point e) (omega arith) among.made;
      }

  each_made : length shown.threads ≡ length lines
      → All (λ (event : Event). IsThread (length lines) event.thread) shown.events
      → (point : ℕ) (e : Event) → slice_get shown.events point ≡ Some e → IsMade lines shown point e
  each_made count named point e at =
      let is = subst (λ (x : Event). IsThread (length lines) x.thread) (get_or_from_slice_get shown.events point e e at)
      (named point e (slice_get_within shown.events point e at)) in
      let mine = number_there lines [] (length lines) e.thread is refl in
      let found = number_there shown.threads [] (length lines) e.thread is count in
      made_by point e at mine.0 found.0 mine.1 found.1

  one_made : (thread number : ℕ) (line : ThreadLine) (said : ShownLine) → IsLine lines shown thread number line said
      → SaysEvent said.outcome → MadeOne shown thread number line said
  one_made thread zero line said is says = let none = is.line_is in cc
  one_made thread (suc k) line said is says =
      let tells = tells_own thread is.own is.printed is.own_is is.printed_is in
      let told = lines_tell thread 1 is.own is.printed k line said tells.fit is.line_is is.said_is says in
      let stands = own_stands thread 0 shown.events told.one
      (subst (λ (ps : List Placed). Has ps told.one) (sym tells.told) told.has) in
      let place : stands.k ≡ told.one.at = omega (arith, stands.at) in
      record {
        point = told.one.at;
        event = told.one.event;
        there = subst (λ (n : ℕ). slice_get shown.events n ≡ Some told.one.event) place stands.there;
        made = subst (λ (n : ℕ). HasMade thread n line said told.one.at told.one.event) (omega arith) told.made;
      }

  -- the law
  pub events_made : length shown.threads ≡ length lines
      → All (λ (event : Event). IsThread (length lines) event.thread) shown.events → EventsAreMade lines shown
  events_made count named = record {
    each = λ point e at. each_made count named point e at;
    all = λ thread number line said is says. one_made thread number line said is says;
  }
