-- What a call makes of its pass, from what its steps made of the seat.
use Rattle.std.proofs.Common.{◌≡◌, ℕ, ◌+◌, ◌<◌, ◌≤◌, List, [], ◌∷◌, ◌++◌, length, drop, sym, refl, ap, ◌∙◌, subst}
use Rattle.std.proofs.Common.{Option, Some, None, Result, Ok, Err, IfOk, IfErr, OnOk, arith}
use mathlib.Core.Option.{some, some-injective}
use lib.ListN.{get_elem?}
use Rattle.atomic_table.specs.Seated.{TableId}
use Rattle.module_table.specs.declared.events.Event.{Event}
use Rattle.module_table.specs.declared.events.Opened.{Opened}
use Rattle.module_table.specs.declared.events.Closed.{Closed}
use Rattle.module_table.specs.declared.events.OpenRefusal.{OpenRefusal}
use Rattle.module_table.specs.declared.events.OpenRefusal.TheVariants.{Unknown, Full, StaticFull}
use Rattle.module_table.specs.declared.events.OpenRefusal.TheVariants.{OutOfMemory as NoRoomToOpen}
use Rattle.module_table.specs.declared.events.CloseRefusal.{CloseRefusal}
use Rattle.module_table.specs.declared.events.CloseRefusal.TheVariants.{Permanent, NotOpen}
use Rattle.module_table.specs.declared.events.CloseRefusal.TheVariants.{OutOfMemory as NoRoomToClose}
use Rattle.module_table.specs.History.{History, Adds, left, opened_of, closed_of, open_answer, close_answer}
use Rattle.module_table.specs.History.{OpenRefused, CloseRefused}
use Rattle.module_table.specs.Past.{IsLegal}
use Rattle.shared_modules.specs.declared.board.Images.{Images}
use Rattle.shared_modules.specs.declared.board.Turn.TheVariants.{Away, Holds}
use Rattle.shared_modules.specs.declared.board.View.{View}
use Rattle.shared_modules.specs.Views.{Knows, StartsWith, images_of, history_at, first_view, drew, holding, caught}
use Rattle.shared_modules.specs.Views.{published, away}
use Rattle.shared_modules.specs.Rule.{Homes}
use Rattle.shared_modules.specs.Plays.{Sat, Begun, Entered, Ending}
use Rattle.shared_modules.specs.Passes.{PassView, pass_view, IsPass, IsCaught, IsAccepted, IsRefused, IsOpenRefused}
use Rattle.shared_modules.specs.Passes.{IsCloseRefused}
use Rattle.shared_modules.proofs.Known.{all_length}
use Rattle.shared_modules.proofs.Ends.{Ended}

-- ---- the start, and the end

pub begun_pass : (h key : History) (seen : ℕ) (me : Sat) → key ≡ h → seen ≡ length h.events
    → IsLegal h.infos h.last_offset h.events → me ≡ (first_view (images_of key) key.events, []) → IsPass seen me
begun_pass h key seen me key_is seen_is legal is =
    subst (IsPass seen) (sym
    (is ∙ ap (λ (z : History). let m : Sat = (first_view (images_of z) z.events, []) in m) key_is)) record {
      seen_is = seen_is;
      idle = refl;
      bare = refl;
      speaks = let l = all_length in omega arith;
      legal = legal;
    }

pub finished : (images : Images) (homes : Homes) (v : View) (slots : List (Option History)) (y : Option History)
    (e : Ended images homes v)
    → ((k : ℕ) (z : Option History) → get_elem? homes k ≡ some (some z) → get_elem? slots k ≡ some z)
    → get_elem? slots 0 ≡ some y → y ≡ Some e.registry
finished images homes v slots y e values taken =
    some-injective y (Some e.registry)
    (sym taken ∙ values 0 (Some e.registry) (ap (λ (hs : Homes). get_elem? hs 0) e.there))

-- ---- a turn

-- all of the history was seen, and the turn is over
abbrev pub seen_all : List Event → View → View
seen_all h v = record v { seen = h; told = h; loads = v.loads + 1; turns = v.turns + 1; turn = Away }

abbrev Read : ℕ → Sat → Sat → Type 0
Read n me after = (ticket : ℕ) (note : List Event) → me.0.turn ≡ Holds ticket note
    → (n ≡ length note) × (after ≡ (caught note me.0, me.1))

-- the load after a turn began
pub record Looked (v : View) (h : History) (ticket n : ℕ) (after : Sat) : Type 0 where
  pub count : n ≡ length h.events
  pub after_is : after ≡ (caught h.events (holding ticket h.events (drew ticket v)), (0, None) ∷ [])

pub looked : (v : View) (h : History) (n : ℕ) (me after : Sat) (b : Begun v h me) → Read n me after
    → Looked v h b.ticket n after
looked v h n me after b read = let r = read b.ticket h.events (ap (λ (m : Sat). m.0.turn) b.after_is) in
    record { count = r.0; after_is = r.1 ∙ ap (λ (m : Sat). let x : Sat = (caught h.events m.0, m.1) in x) b.after_is }

pub looked_ending : (v : View) (h : History) (ticket n : ℕ) (after : Sat) → Looked v h ticket n after
    → images_of h ≡ v.images → 0 < length v.threads → Ending h after
looked_ending v h ticket n after l images speaks =
    subst (Ending h) (sym l.after_is) record
    { ticket = ticket; turn = refl; empty = refl; images = images; speaks = speaks }

pub caught_pass : (p : PassView) (z z' : TableId) (v : View) (h : History) (me : Sat) → pass_view z v ≡ p → z' ≡ z
    → me ≡ (seen_all h.events v, []) → Knows h.events v.threads v.seen → StartsWith h.events v.told
    → images_of h ≡ v.images → IsLegal h.infos h.last_offset h.events → IsCaught p me.0.seen (pass_view z' me.0)
caught_pass p z z' v h me p_is z_is me_is seen told images legal =
    subst (λ (c : PassView × TableId × Sat). IsCaught c.0 c.2.0.seen (pass_view c.1 c.2.0))
    (λ i. (p_is i, sym z_is i, sym me_is i))
    record {
      rest = refl;
      seen = seen;
      told = told;
      legal = subst (λ (m : Images). IsLegal m.infos m.last_offset h.events) images legal;
    }

-- ---- an event, and refusals

pub accepted_pass : {A R : Type 0} (p : PassView) (z z' : TableId) (v : View) (h h' : History) (event : Event)
    (answers : History → Result A R) (result : Result A R) (me after : Sat) (before into : List Event)
    → pass_view z v ≡ p → z' ≡ z → Entered v h me → OnOk result (Adds h event h')
    → IsLegal h'.infos h'.last_offset h'.events → after ≡ (away (published h'.events me.0), [])
    → answers h ≡ answers (history_at v.images h.events) → IfOk result (λ answer. answers h ≡ Ok answer)
    → into ≡ before ++ drop (length v.seen) h.events
    → IfOk result (λ answer. IsAccepted p event (λ x. answers x ≡ Ok answer) (pass_view z' after.0) before into)
accepted_pass p z z' v h h' event answers
    (Err refusal) me after before into p_is z_is e adds legal after_is at answer told = tt
accepted_pass p z z' v h h' event answers
    (Ok given) me after before into p_is z_is e adds legal after_is at answer told =
    let images : images_of h' ≡ v.images = (λ i. record { infos = adds.infos i; last_offset = adds.last_offset i })
    ∙ e.images in
    let now : after ≡ (seen_all h'.events v, []) = after_is
    ∙ ap (λ (m : Sat). let x : Sat = (away (published h'.events m.0), []) in x) e.after_is in
    subst (λ (c : PassView × TableId × Sat). IsAccepted c.0 event (λ x. answers x ≡ Ok given)
    (pass_view c.1 c.2.0) before into) (λ i. (p_is i, sym z_is i, sym now i))
    record {
      history = h.events;
      caught = record {
        rest = refl;
        seen = e.seen;
        told = e.told;
        legal = subst (λ (m : Images). IsLegal m.infos m.last_offset h'.events) images legal;
      };
      added = adds.events;
      answer = sym at ∙ answer;
      lacked = told;
    }

pub refused_pass : (p : PassView) (z z' : TableId) (v : View) (h : History) (answers : History → Type 0)
    (me after : Sat) (before into : List Event)
    → pass_view z v ≡ p → z' ≡ z → Entered v h me → after ≡ (away me.0, [])
    → answers (history_at v.images h.events) → into ≡ before ++ drop (length v.seen) h.events
    → IsRefused p answers (pass_view z' after.0) before into
refused_pass p z z' v h answers me after before into p_is z_is e after_is answer told =
    let now : after ≡ (seen_all h.events v, []) = after_is
    ∙ ap (λ (m : Sat). let x : Sat = (away m.0, []) in x) e.after_is in
    subst (λ (c : PassView × TableId × Sat). IsRefused c.0 answers (pass_view c.1 c.2.0) before into)
    (λ i. (p_is i, sym z_is i, sym now i))
    record {
      caught = record {
        rest = refl;
        seen = e.seen;
        told = e.told;
        legal = subst (λ (m : Images). IsLegal m.infos m.last_offset h.events) e.images e.legal;
      };
      answer = answer;
      lacked = told;
    }

-- an answer is one of the images and the events
pub open_answer_at : (h : History) (images : Images) (image : ℕ) → images_of h ≡ images
    → open_answer h image ≡ open_answer (history_at images h.events) image
unfolding open_answer opened_of left
open_answer_at h images image is =
    subst (λ (m : Images). open_answer h image ≡ open_answer (history_at m h.events) image) is refl

pub close_answer_at : (h : History) (images : Images) (image : ℕ) → images_of h ≡ images
    → close_answer h image ≡ close_answer (history_at images h.events) image
unfolding close_answer closed_of left
close_answer_at h images image is =
    subst (λ (m : Images). close_answer h image ≡ close_answer (history_at m h.events) image) is refl

-- with memory for one event more the refusal is the history's
pub open_refused : (p : PassView) (image : ℕ) (q : PassView) (before into : List Event) (h : History)
    (result : Result Opened OpenRefusal) → IfErr result (OpenRefused h image) → 1 ≤ h.spare
    → ((refusal : OpenRefusal) → open_answer h image ≡ Err refusal
    → IsRefused p (λ x. open_answer x image ≡ Err refusal) q before into)
    → IfErr result (IsOpenRefused p image q before into)
open_refused p image q before into h (Ok answer) o spare f = tt
open_refused p image q before into h (Err Unknown) o spare f = f Unknown o
open_refused p image q before into h (Err Full) o spare f = f Full o
open_refused p image q before into h (Err StaticFull) o spare f = f StaticFull o
open_refused p image q before into h (Err NoRoomToOpen) o spare f = let none = o.1 in absurd (omega arith)

pub close_refused : (p : PassView) (image : ℕ) (q : PassView) (before into : List Event) (h : History)
    (result : Result Closed CloseRefusal) → IfErr result (CloseRefused h image) → 1 ≤ h.spare
    → ((refusal : CloseRefusal) → close_answer h image ≡ Err refusal
    → IsRefused p (λ x. close_answer x image ≡ Err refusal) q before into)
    → IfErr result (IsCloseRefused p image q before into)
close_refused p image q before into h (Ok answer) o spare f = tt
close_refused p image q before into h (Err Permanent) o spare f = f Permanent o
close_refused p image q before into h (Err NotOpen) o spare f = f NotOpen o
close_refused p image q before into h (Err NoRoomToClose) o spare f = let none = o.1 in absurd (omega arith)
