-- The steps of the loops that write lines: the text so far and the lines that are left stay the whole.
use Rattle.std.proofs.Common.{◌≡◌, ℕ, ◌+◌, ◌<◌, ◌≤◌, List, [], ◌∷◌, ◌++◌, length, get_or, drop, map, sym, ap, ◌∙◌}
use Rattle.std.proofs.Common.{append_assoc}
use Rattle.std.proofs.lemmas.List.{append-nil, at_drop_more, at_drop_all}
use Rattle.module_table.specs.declared.events.Event.{Event}
use Rattle.job_text.specs.declared.images.Image.{Image}
use Rattle.transcript_text.specs.declared.outcomes.Line.{Line}
use Rattle.transcript_text.specs.Texts.{line_text, lines_text, threads_text, event_text, events_text}

-- texts written one after another
regroup : (before piece rest now whole : List ℕ) → now ≡ before ++ piece → before ++ (piece ++ rest) ≡ whole
    → now ++ rest ≡ whole
regroup before piece rest now whole e h = ap (λ n. n ++ rest) e ∙ append_assoc before piece rest ∙ h

lines_text-drop : (t k : ℕ) (lines : List Line) (i : ℕ) (line : Line) → i < length lines → line ≡ get_or lines i line
    → lines_text t k (drop i lines) ≡ line_text t k line ++ lines_text t (k + 1) (drop (i + 1) lines)
unfolding lines_text
lines_text-drop t k lines i line h is =
    at_drop_more (lines_text t k) lines i line h ∙ ap (λ x. lines_text t k (x ∷ drop (i + 1) lines)) (sym is)

-- one more line of a thread
pub lines_more : (t i : ℕ) (lines : List Line) (line : Line) (before now whole : List ℕ) → i < length lines
    → line ≡ get_or lines i line
    → now ≡ before ++ line_text t (i + 1) line → before ++ lines_text t (i + 1) (drop i lines) ≡ whole
    → now ++ lines_text t (i + 1 + 1) (drop (i + 1) lines) ≡ whole
lines_more t i lines line before now whole h is e inv =
    regroup before _ _ now whole e (ap (λ r. before ++ r) (sym (lines_text-drop t (i + 1) lines i line h is)) ∙ inv)

-- nothing is left
ended : (now rest whole : List ℕ) → rest ≡ [] → now ++ rest ≡ whole → now ≡ whole
ended now rest whole e h = sym (append-nil now) ∙ ap (λ r. now ++ r) (sym e) ∙ h

lines_text-all : (t k : ℕ) (lines : List Line) (i : ℕ) → length lines ≤ i → lines_text t k (drop i lines) ≡ []
unfolding lines_text
lines_text-all t k lines i h = at_drop_all (lines_text t k) lines i h

pub lines_end : (t k i : ℕ) (lines : List Line) (now whole : List ℕ) → length lines ≤ i
    → now ++ lines_text t k (drop i lines) ≡ whole → now ≡ whole
lines_end t k i lines now whole h inv = ended now _ whole (lines_text-all t k lines i h) inv

threads_text-drop : {X : Type 0} (view : X → List Line) (t : ℕ) (threads : List X) (i : ℕ) (lines : X)
    → i < length threads → lines ≡ get_or threads i lines
    → threads_text t (map view (drop i threads)) ≡ lines_text t 1 (view lines)
    ++ threads_text (t + 1) (map view (drop (i + 1) threads))
unfolding threads_text
threads_text-drop view t threads i lines h is =
    at_drop_more (λ xs. threads_text t (map view xs)) threads i lines h
    ∙ ap (λ x. threads_text t (map view (x ∷ drop (i + 1) threads))) (sym is)

-- one more thread
pub threads_more : {X : Type 0} (view : X → List Line) (i : ℕ) (threads : List X) (lines : X)
    (before now whole : List ℕ) → i < length threads → lines ≡ get_or threads i lines
    → now ≡ before ++ lines_text (i + 1) 1 (view lines)
    → before ++ threads_text (i + 1) (map view (drop i threads)) ≡ whole
    → now ++ threads_text (i + 1 + 1) (map view (drop (i + 1) threads)) ≡ whole
threads_more view i threads lines before now whole h is e inv =
    regroup before _ _ now whole e
    (ap (λ r. before ++ r) (sym (threads_text-drop view (i + 1) threads i lines h is)) ∙ inv)

threads_text-all : {X : Type 0} (view : X → List Line) (t : ℕ) (threads : List X) (i : ℕ) → length threads ≤ i
    → threads_text t (map view (drop i threads)) ≡ []
unfolding threads_text
threads_text-all view t threads i h = at_drop_all (λ xs. threads_text t (map view xs)) threads i h

pub threads_end : {X : Type 0} (view : X → List Line) (t i : ℕ) (threads : List X) (now whole : List ℕ)
    → length threads ≤ i → now ++ threads_text t (map view (drop i threads)) ≡ whole
    → now ≡ whole
threads_end view t i threads now whole h inv = ended now _ whole (threads_text-all view t threads i h) inv

events_text-drop : (images : List Image) (n : ℕ) (events : List Event) (i : ℕ) (d : Event) → i < length events
    → events_text images n (drop i events) ≡ event_text images n (get_or events i d)
    ++ events_text images (n + 1) (drop (i + 1) events)
unfolding events_text
events_text-drop images n events i d h = at_drop_more (events_text images n) events i d h

-- one more event
pub events_more : (images : List Image) (i : ℕ) (events : List Event) (d : Event) (before now whole : List ℕ)
    → i < length events
    → now ≡ before ++ event_text images i (get_or events i d) → before ++ events_text images i (drop i events) ≡ whole
    → now ++ events_text images (i + 1) (drop (i + 1) events) ≡ whole
events_more images i events d before now whole h e inv =
    regroup before _ _ now whole e (ap (λ r. before ++ r) (sym (events_text-drop images i events i d h)) ∙ inv)

events_text-all : (images : List Image) (n : ℕ) (events : List Event) (i : ℕ) → length events ≤ i
    → events_text images n (drop i events) ≡ []
unfolding events_text
events_text-all images n events i h = at_drop_all (events_text images n) events i h

pub events_end : (images : List Image) (n i : ℕ) (events : List Event) (now whole : List ℕ) → length events ≤ i
    → now ++ events_text images n (drop i events) ≡ whole → now ≡ whole
events_end images n i events now whole h inv = ended now _ whole (events_text-all images n events i h) inv
