-- What the calls of the shared history tell, as a turn has it.
use Rattle.std.proofs.Common.{◌≡◌, ◌∙◌, ◌+◌, ◌++◌, ◌<◌, ℕ, Bool, true, false, List, [], ◌∷◌, length, drop, Option, Some}
use Rattle.std.proofs.Common.{None, Ok, Err, refl, sym, ap, subst, arith, append-nil, length-append}
use Rattle.std.specs.Prelude.{if◌then◌else◌}
use Rattle.std.proofs.lemmas.Bool.{and_parts, le-ltb, lt-ltb}
use Rattle.std.proofs.Math.Seq.{drop-append_seam}
use Rattle.module_table.specs.declared.events.Event.{Event}
use Rattle.module_table.specs.declared.events.Opened.{Opened}
use Rattle.module_table.specs.declared.events.Closed.{Closed}
use Rattle.module_table.specs.declared.events.OpenRefusal.{OpenRefusal}
use Rattle.module_table.specs.declared.events.OpenRefusal.TheVariants.{Unknown, Full, StaticFull}
use Rattle.module_table.specs.declared.events.OpenRefusal.TheVariants.{OutOfMemory as NoRoomToOpen}
use Rattle.module_table.specs.declared.events.CloseRefusal.{CloseRefusal}
use Rattle.module_table.specs.declared.events.CloseRefusal.TheVariants.{Permanent, NotOpen}
use Rattle.module_table.specs.declared.events.CloseRefusal.TheVariants.{OutOfMemory as NoRoomToClose}
use Rattle.module_table.specs.History.{History, close_answer, left, open_answer, unless}
use Rattle.module_table.specs.Past.{IsLegal}
use Rattle.module_table.specs.Past.{close_refusal, open_refusal, start}
use Rattle.module_table.specs.Walks.{is_legal-append}
use Rattle.shared_modules.specs.declared.board.Images.{Images}
use Rattle.shared_modules.specs.Passes.{PassView, IsAccepted, IsCaught, IsCloseRefused, IsClosed, IsOpenRefused}
use Rattle.shared_modules.specs.Passes.{IsOpened, IsRefused, IsTold}
use Rattle.shared_modules.specs.Views.{Knows, history_at}
use Rattle.thread_blocks.specs.Lines.{event_at, refused_close, refused_open, unless_refused}
use Rattle.job_turns.specs.declared.asking.Ask.TheVariants.{Opens, Closes}
use Rattle.job_turns.specs.declared.asking.LineAnswer.TheVariants as answer
use Rattle.job_turns.specs.Asking.{IsClosesAnswer, IsOpensAnswer, closed_at, opened_at}
use Rattle.job_turns.proofs.CutTurns.{close_same, handed_err, handed_ok, open_same}
use Rattle.racing_thread.specs.Answers.{Answers, Finds, Looks, left_by}
use Rattle.racing_thread.specs.Tallies.{Tally, look_tally}

-- ** what the list has then

told_all : (seen history rest before after : List Event) → before ≡ seen → history ≡ seen ++ rest
    → after ≡ before ++ drop (length seen) history → after ≡ history
told_all seen history rest before after all whole told =
    told ∙ (ap (λ (es : List Event). es ++ drop (length seen) history) all
    ∙ (ap (λ (es : List Event). seen ++ es) (ap (drop (length seen)) whole ∙ drop-append_seam seen rest) ∙ sym whole))

-- ** a look

-- a pass once it loaded the length of this
abbrev loaded : PassView → List Event → PassView
loaded p told = record p { told = told; loads = p.loads + 1 }

-- what a look costs by whether there is something new
abbrev by_news : Bool → Tally
by_news news = if news then record { loads = 2; turns = 1 } else record { loads = 1; turns = 0 }

no_news : (seen point : ℕ) → seen ≡ point → look_tally false seen point ≡ by_news false
no_news seen point same = ap by_news (le-ltb seen point (omega (arith, same)))

news : (seen point : ℕ) → seen < point → look_tally false seen point ≡ by_news true
news seen point more = ap by_news (lt-ltb seen point more)

module _ (p : PassView) (before : List Event) (all : before ≡ p.seen) where
  -- there was nothing new
  still : (told : List Event) → told ≡ p.seen → IsLegal p.shared.images.infos p.shared.images.last_offset p.seen
      → Looks p before (loaded p told)
  still told whole legal =
      let cost = no_news (length p.seen) (length before) (ap length (sym all)) in
      record {
        known = record { rest = []; whole = all ∙ sym (append-nil p.seen); others = tt };
        legal = subst (λ (es : List Event). IsLegal p.shared.images.infos p.shared.images.last_offset es)
            (sym all) legal;
        seen_is = sym all;
        whole = whole;
        loads_are = ap (λ (t : Tally). p.loads + t.loads) (sym cost);
        turns_are = (let none : p.turns ≡ p.turns + 0 = omega arith in none)
            ∙ ap (λ (t : Tally). p.turns + t.turns) (sym cost);
      }

  -- there was, and now it is seen
  caught_all : (told : List Event) (q : PassView) (after : List Event) → length p.seen < length told
      → IsCaught (loaded p told) q.seen q → IsTold (loaded p told) q.seen before after → Looks p after q
  caught_all told q after more caught lacked =
      let now : after ≡ q.seen = told_all p.seen q.seen caught.seen.rest before after all caught.seen.whole lacked in
      let long : length q.seen ≡ length told + length caught.told.rest =
      ap length caught.told.whole ∙ length-append told caught.told.rest in
      let longer : length after ≡ length q.seen = ap length now in
      let cost = news (length p.seen) (length after) (omega (arith, more, long, longer)) in
      let loads : q.loads ≡ p.loads + 1 + 1 = ap (λ (x : PassView). x.loads) caught.rest in
      let turns : q.turns ≡ p.turns + 1 = ap (λ (x : PassView). x.turns) caught.rest in
      let two : p.loads + 1 + 1 ≡ p.loads + 2 = omega arith in
      record {
        known = subst (λ (es : List Event). Knows es p.threads p.seen) (sym now) caught.seen;
        legal = subst (λ (es : List Event). IsLegal p.shared.images.infos p.shared.images.last_offset es)
            (sym now) caught.legal;
        seen_is = sym now;
        whole = ap (λ (x : PassView). x.told) caught.rest;
        loads_are = loads ∙ (two ∙ ap (λ (t : Tally). p.loads + t.loads) (sym cost));
        turns_are = turns ∙ ap (λ (t : Tally). p.turns + t.turns) (sym cost);
      }

-- ** an open and a close

unless_ok : {A R : Type 0} (refusal : Option R) (a b : A) → unless refusal a ≡ Ok b → refusal ≡ None
unless_ok None a b same = refl
unless_ok (Some refusal) a b same = cc

unless_err : {A R : Type 0} (refusal : Option R) (a : A) (r : R) → unless refusal a ≡ Err r → refusal ≡ Some r
unless_err None a r same = cc
unless_err {R = R} (Some refusal) a r same = let e : refusal ≡ r = cc in ap (λ (x : R). Some x) e

legal_before : (images : Images) (history : List Event) (e : Event)
    → IsLegal images.infos images.last_offset (history ++ e ∷ []) → IsLegal images.infos images.last_offset history
legal_before images history e legal = record {
  images = legal.images;
  low = legal.low;
  each = (and_parts _ _ (sym (is_legal-append (start images.infos images.last_offset) history (e ∷ []))
      ∙ legal.each)).0;
}

left_is : (p : PassView) (history : List Event) → left (history_at p.shared.images history) ≡ left_by p history
unfolding left
left_is p history = refl

module _ (p : PassView) (before : List Event) (all : before ≡ p.seen) (q : PassView) (after : List Event) where
  module _ (event : Event) (answers : History → Type 0) (is : IsAccepted p event answers q before after) where
    pub accepted_at : after ≡ is.history
    accepted_at = told_all p.seen is.history is.caught.seen.rest before after all is.caught.seen.whole is.lacked

    pub accepted_answer : answers (history_at p.shared.images after)
    accepted_answer = subst (λ (es : List Event). answers (history_at p.shared.images es)) (sym accepted_at) is.answer

    pub accepted_finds : Finds true p after (Some event) q
    accepted_finds = record {
      known = subst (λ (es : List Event). Knows es p.threads p.seen) (sym accepted_at) is.caught.seen;
      legal = legal_before p.shared.images after event
          (subst (λ (es : List Event). IsLegal p.shared.images.infos p.shared.images.last_offset es)
          (is.added ∙ ap (λ (es : List Event). es ++ event ∷ []) (sym accepted_at)) is.caught.legal);
      seen_is = is.added ∙ ap (λ (es : List Event). es ++ event ∷ []) (sym accepted_at);
      whole = ap (λ (x : PassView). x.told) is.caught.rest;
      loads_are = ap (λ (x : PassView). x.loads) is.caught.rest;
      turns_are = ap (λ (x : PassView). x.turns) is.caught.rest;
    }

  module _ (answers : History → Type 0) (is : IsRefused p answers q before after) where
    pub refused_at : after ≡ q.seen
    refused_at = told_all p.seen q.seen is.caught.seen.rest before after all is.caught.seen.whole is.lacked

    pub refused_answer : answers (history_at p.shared.images after)
    refused_answer = subst (λ (es : List Event). answers (history_at p.shared.images es)) (sym refused_at) is.answer

    pub refused_finds : Finds true p after None q
    refused_finds = record {
      known = subst (λ (es : List Event). Knows es p.threads p.seen) (sym refused_at) is.caught.seen;
      legal = subst (λ (es : List Event). IsLegal p.shared.images.infos p.shared.images.last_offset es)
          (sym refused_at) is.caught.legal;
      seen_is = sym refused_at;
      whole = ap (λ (x : PassView). x.told) is.caught.rest;
      loads_are = ap (λ (x : PassView). x.loads) is.caught.rest;
      turns_are = ap (λ (x : PassView). x.turns) is.caught.rest;
    }

-- a refusal that is not want of memory
module _ (p : PassView) (image : ℕ) (q : PassView) (before after : List Event) where
  pub open_refused : (refusal : OpenRefusal) → IsOpensAnswer refusal → IsOpenRefused p image q before after refusal
      → IsRefused p (λ h. open_answer h image ≡ Err refusal) q before after
  open_refused Unknown other is = is
  open_refused Full other is = is
  open_refused StaticFull other is = is
  open_refused NoRoomToOpen other is = absurd other

  pub close_refused : (refusal : CloseRefusal) → IsClosesAnswer refusal → IsCloseRefused p image q before after refusal
      → IsRefused p (λ h. close_answer h image ≡ Err refusal) q before after
  close_refused Permanent other is = is
  close_refused NotOpen other is = is
  close_refused NoRoomToClose other is = absurd other

module _ (p : PassView) (history : List Event) (image : ℕ) where
  abbrev h : History
  h = history_at p.shared.images history

  open_is : unless (open_refusal (left_by p history) image) (opened_at (left_by p history) image) ≡ open_answer h image
  open_is = subst (λ left. unless (open_refusal left image) (opened_at left image) ≡ open_answer h image)
      (left_is p history)
      (open_same h image)

  close_is : unless (close_refusal (left_by p history) image) (closed_at (left_by p history) image)
      ≡ close_answer h image
  close_is = subst (λ left. unless (close_refusal left image) (closed_at left image) ≡ close_answer h image)
      (left_is p history)
      (close_same h image)

module _ (p : PassView) (before : List Event) (all : before ≡ p.seen) (q : PassView) (after : List Event)
    (thread line image : ℕ) where
  pub opens : (opened : Opened) → IsOpened p (event_at thread line true image) opened q before after
      → Answers thread (Opens line image) p after q (Some (answer.Opened (Ok opened)))
      (Some (event_at thread line true image))
  opens opened is =
      let says = λ (h : History). open_answer h image ≡ Ok opened in
      let found = open_is p after image
      ∙ accepted_answer p before all q after (event_at thread line true image) says is in
      let none = unless_ok (open_refusal (left_by p after) image) (opened_at (left_by p after) image) opened found in
      record {
        finds = accepted_finds p before all q after (event_at thread line true image) says is;
        answer_is = ap (λ r. Some (answer.Opened r))
            (sym (handed_ok refused_open (open_refusal (left_by p after) image)
            (opened_at (left_by p after) image) opened found));
        own_is = ap (λ (r : Option OpenRefusal). unless_refused r (event_at thread line true image)) (sym none);
      }

  pub not_opens : (refusal : OpenRefusal) → IsRefused p (λ h. open_answer h image ≡ Err refusal) q before after
      → Answers thread (Opens line image) p after q (Some (answer.Opened (Err (refused_open refusal)))) None
  not_opens refusal is =
      let says = λ (h : History). open_answer h image ≡ Err refusal in
      let found = open_is p after image ∙ refused_answer p before all q after says is in
      let some = unless_err (open_refusal (left_by p after) image) (opened_at (left_by p after) image) refusal found in
      record {
        finds = refused_finds p before all q after says is;
        answer_is = ap (λ r. Some (answer.Opened r))
            (sym (handed_err refused_open (open_refusal (left_by p after) image)
            (opened_at (left_by p after) image) refusal found));
        own_is = ap (λ (r : Option OpenRefusal). unless_refused r (event_at thread line true image)) (sym some);
      }

  pub closes : (closed : Closed) → IsClosed p (event_at thread line false image) closed q before after
      → Answers thread (Closes line image) p after q (Some (answer.Closed (Ok closed)))
      (Some (event_at thread line false image))
  closes closed is =
      let says = λ (h : History). close_answer h image ≡ Ok closed in
      let found = close_is p after image
      ∙ accepted_answer p before all q after (event_at thread line false image) says is in
      let none = unless_ok (close_refusal (left_by p after) image) (closed_at (left_by p after) image) closed found in
      record {
        finds = accepted_finds p before all q after (event_at thread line false image) says is;
        answer_is = ap (λ r. Some (answer.Closed r))
            (sym (handed_ok refused_close (close_refusal (left_by p after) image)
            (closed_at (left_by p after) image) closed found));
        own_is = ap (λ (r : Option CloseRefusal). unless_refused r (event_at thread line false image)) (sym none);
      }

  pub not_closes : (refusal : CloseRefusal) → IsRefused p (λ h. close_answer h image ≡ Err refusal) q before after
      → Answers thread (Closes line image) p after q (Some (answer.Closed (Err (refused_close refusal)))) None
  not_closes refusal is =
      let says = λ (h : History). close_answer h image ≡ Err refusal in
      let found = close_is p after image ∙ refused_answer p before all q after says is in
      let some = unless_err (close_refusal (left_by p after) image) (closed_at (left_by p after) image) refusal found in
      record {
        finds = refused_finds p before all q after says is;
        answer_is = ap (λ r. Some (answer.Closed r))
            (sym (handed_err refused_close (close_refusal (left_by p after) image)
            (closed_at (left_by p after) image) refusal found));
        own_is = ap (λ (r : Option CloseRefusal). unless_refused r (event_at thread line false image)) (sym some);
      }
