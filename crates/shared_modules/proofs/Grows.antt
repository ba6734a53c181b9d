-- The history's length is loaded, and made one more: both keep the rule.
use Rattle.std.proofs.Common.{◌≡◌, ℕ, ◌+◌, ◌%◌, ◌^◌, ◌<◌, ◌≤◌, List, [], ◌∷◌, ◌++◌, length, set, get_or, sym, refl, ap}
use Rattle.std.proofs.Common.{◌∙◌, subst, inr, Option, Some, None, mod-eq_of_lt, length-append, arith}
use Rattle.std.specs.Prelude.{unwrap_or}
use mathlib.Core.Option.{some}
use lib.ListN.{get_elem?}
use lib.Seq.{set-get_or}
use Rattle.atomic_table.specs.Table.{keeps, Allows}
use Rattle.module_table.specs.declared.events.Event.{Event}
use Rattle.module_table.specs.History.{History}
use Rattle.module_table.specs.Past.{IsLegal}
use Rattle.shared_modules.specs.declared.board.Images.{Images}
use Rattle.shared_modules.specs.declared.board.Turn.TheVariants.{Holds}
use Rattle.shared_modules.specs.declared.board.View.{View}
use Rattle.shared_modules.specs.Views.{times, Knows, StartsWith, loaded, caught, published, with_note}
use Rattle.shared_modules.specs.Rule.{waits, has, waiting, TurnFits, Kept}
use Rattle.shared_modules.specs.Plays.{Sat, Loads, Catches, Publishes, Adding}
use Rattle.shared_modules.proofs.Totals.{total_one, total_two, set_there}
use Rattle.shared_modules.proofs.Known.{flag_same, starts_whole, starts_more, knows_whole, knows_more, all_once}
use Rattle.shared_modules.proofs.Known.{all_within, times-length}
use Rattle.shared_modules.proofs.Keeps.{St, turn_grown, alone, rebuild, tickets_stay, waiting_stays, home_stays}

speaks_for : (ts : List ℕ) (x : ℕ) → 1 ≤ times x ts → 0 < length ts
speaks_for ts x named = let l = times-length x ts in omega arith

abbrev registry_or : History → List (ℕ × Option History) → History
registry_or d [] = d
registry_or d (c ∷ cs) = unwrap_or c.1 d

-- one slot in hand has one registry
same_registry : (h h' : History) → ◌≡◌ {A = List (ℕ × Option History)} ((0, Some h) ∷ []) ((0, Some h') ∷ []) → h ≡ h'
same_registry h h' lists = ap (λ (cs : List (ℕ × Option History)). registry_or h cs) lists

mod_small : (a n : ℕ) → a < n → a % n ≡ a
mod_small a n below = mod-eq_of_lt below

module _ (images : Images) (s : St) (k : Kept images s) where
  -- the seat's lists are others, and begin the history too
  viewed : (id i : ℕ) (v : View) (seen told : List Event) (loads : ℕ) → get_elem? s.views id ≡ some v
      → (0 < length v.threads → Knows k.history v.threads seen) → StartsWith k.history told
      → Kept images record {
        words = set s.words i (get_or s.words i 0);
        homes = s.homes;
        views = set s.views id (record v { seen = seen; told = told; loads = loads });
      }
  viewed id i v seen told loads at knows starts =
      let w : View = record v { seen = seen; told = told; loads = loads } in
      let f = k.each id v at in
      let same : waiting (set s.views id w) ≡ waiting s.views = waiting_stays images s k id v w at refl in
      rebuild images s k id v w k.history k.serving (k.serving + waiting s.views) _ s.homes at refl
      (ap (λ (n : ℕ). k.serving + n) (sym same))
      (set-get_or s.words i 0 ∙ k.words) k.legal (λ j u other there. k.each j u there)
      (record {
        images_are = f.images_are;
        seen = knows;
        told = starts;
        turn = f.turn;
        speaks = f.speaks;
        lesson = f.lesson;
      })
      (tickets_stay images s k id v w at (λ x. refl))
      (home_stays images s k id v w at (λ t note is. is))

  generation : get_or s.words 2 0 ≡ length k.history
  generation = ap (λ (l : List ℕ). get_or l 2 0) k.words

pub loads : (images : Images) (slots id : ℕ) (me : Sat) → 0 < length me.0.threads
    → Allows (Kept images) slots id me 2 (λ n. n) (Loads me)
loads images slots id me speaks s k deep at small = let f = k.each id me.0 at in (
  loaded k.history me.0,
  keeps,
  tt,
  viewed images s k id 2 me.0 me.0.seen k.history (me.0.loads + 1) at f.seen (starts_whole k.history),
  record { told = k.history; found_is = generation images s k; seen = f.seen speaks; more = f.told; after_is = refl },
)

pub catches : (images : Images) (slots id : ℕ) (me : Sat) (t : ℕ) (note : List Event) → me.0.turn ≡ Holds t note
    → 0 < length me.0.threads → Allows (Kept images) slots id me 2 (λ n. n) (Catches me)
catches images slots id me t note is speaks s k deep at small =
    let d : ℕ = k.serving + waiting s.views in
    let mine : TurnFits k.history k.serving d s.homes (Holds t note) =
    subst (TurnFits k.history k.serving d s.homes) is (k.each id me.0 at).turn in (
      caught note me.0,
      keeps,
      tt,
      viewed images s k id 2 me.0 note note (me.0.loads + 1) at
          (λ _. subst (Knows k.history me.0.threads) (sym mine.2) (knows_whole k.history me.0.threads))
          (subst (StartsWith k.history) (sym mine.2) (starts_whole k.history)),
      λ t' note' is'. let e : note ≡ note' = let turns : Holds t note ≡ Holds t' note' = sym is ∙ is' in cc in (
        generation images s k ∙ ap (length {A = Event}) (sym mine.2 ∙ e),
        ap (λ (n : List Event). let p : Sat = (caught n me.0, me.1) in p) e,
      ),
    )

pub publishes : (images : Images) (slots id : ℕ) (me : Sat) (h : History) (event : Event) → me.1 ≡ (0, Some h) ∷ []
    → Adding h event (me.0, (0, None) ∷ []) → Allows (Kept images) slots id me 2 (λ n. (n + 1) % 2 ^ 64) (Publishes me)
publishes images slots id me h event carried a s k deep at small =
    let v : View = me.0 in
    let w : View = published h.events v in
    let f = k.each id v at in
    let d : ℕ = k.serving + waiting s.views in
    let mine : TurnFits k.history k.serving d s.homes (Holds a.ticket a.note) =
    subst (TurnFits k.history k.serving d s.homes) a.turn f.turn in
    let now : w.turn ≡ Holds a.ticket h.events = ap (with_note h.events) a.turn in
    let events : h.events ≡ k.history ++ event ∷ [] = a.events ∙ ap (λ (l : List Event). l ++ event ∷ []) mine.2 in
    let more : length h.events ≡ length k.history + 1 = ap (length {A = Event}) events
    ∙ length-append k.history (event ∷ []) in
    let many : 0 < length v.threads = speaks_for v.threads event.thread a.named in
    let ticket : has k.serving v.turn ≡ 1 = ap (has k.serving) a.turn ∙ flag_same a.ticket k.serving mine.0 in
    let same : waiting (set s.views id w) ≡ waiting s.views =
    waiting_stays images s k id v w at (ap waits now ∙ sym (ap waits a.turn)) in
    let all = total_one (λ (u : View). times event.thread u.threads) s.views id v at in
    let every = k.threads event.thread in
    let within = all_within event.thread (let n = a.named in omega arith) in (
      w,
      keeps,
      tt,
      rebuild images s k id v w h.events k.serving d _ s.homes at refl (ap (λ (n : ℕ). k.serving + n) (sym same))
          (ap (λ (l : List ℕ). set l 2 ((get_or l 2 0 + 1) % 2 ^ 64)) k.words
          ∙ ap (λ (n : ℕ). d % 2 ^ 64 ∷ k.serving % 2 ^ 64 ∷ n ∷ [])
          (let few = a.few in let e = mod_small (length k.history + 1) (2 ^ 64) (omega arith) in e ∙ sym more))
          (subst (λ (z : Images). IsLegal z.infos z.last_offset h.events) (a.images ∙ f.images_are many) a.legal)
          (λ j u other there. let g = k.each j u there in
          let two = total_two (λ (x : View). times event.thread x.threads) s.views j id u v other there at in
          let once = all_once event.thread in
          let none_of : times event.thread u.threads ≡ 0 = let n = a.named in omega arith in record {
            images_are = g.images_are;
            seen = λ some_thread. subst (λ (l : List Event). Knows l u.threads u.seen) (sym events)
                (knows_more k.history u.threads u.seen event (g.seen some_thread) none_of within.0 within.1);
            told = subst (λ (l : List Event). StartsWith l u.told) (sym events)
                (starts_more k.history u.told (event ∷ []) g.told);
            turn = turn_grown k.history h.events k.serving d s.homes u.turn
                (λ has_it. alone images s k j id u v k.serving other there at has_it ticket) g.turn;
            speaks = g.speaks;
            lesson = g.lesson;
          })
          (record {
            images_are = f.images_are;
            seen = λ _. knows_whole h.events v.threads;
            told = starts_whole h.events;
            turn = subst (TurnFits h.events k.serving d s.homes) (sym now) (mine.0, mine.1, refl, mine.3);
            speaks = let e : waits w.turn ≡ 1 = ap waits now in omega (arith, e, many);
            lesson = f.lesson;
          })
          (tickets_stay images s k id v w at (λ x. ap (has x) now ∙ sym (ap (has x) a.turn)))
          (inr record {
            gone = mine.3;
            seat = id;
            view = w;
            there = set_there s.views id v w at;
            ticket = a.ticket;
            note = h.events;
            holds = now;
          }),
      λ h' is. let e : h ≡ h' = same_registry h h' (sym carried ∙ is) in
          ap (λ (z : History). let p : Sat = (published z.events v, me.1) in p) e,
    )
