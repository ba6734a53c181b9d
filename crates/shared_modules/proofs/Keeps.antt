-- What a step of one seat has to show, so that the rule holds after it.
use Rattle.std.proofs.Common.{◌≡◌, ◌≢◌, ◌⊎◌, ℕ, ◌+◌, ◌%◌, ◌^◌, ◌≤◌, List, [], ◌∷◌, length, set, sym, refl, ap, ◌∙◌}
use Rattle.std.proofs.Common.{subst, inl, inr, ⊎_elim, Option, arith}
use mathlib.Core.Option.{none, some}
use mathlib.Core.Option as maybe
use mathlib.Core.Logic.{dite}
use native.Mathlib.Decide.{ℕ_discrete}
use lib.ListN.{get_elem?}
use Rattle.atomic_table.specs.Table.{State}
use Rattle.atomic_table.proofs.Lists.{at_set, set_else, one_turn}
use Rattle.module_table.specs.declared.events.Event.{Event}
use Rattle.module_table.specs.History.{History}
use Rattle.module_table.specs.Past.{IsLegal}
use Rattle.shared_modules.specs.declared.board.Images.{Images}
use Rattle.shared_modules.specs.declared.board.Turn.{Turn}
use Rattle.shared_modules.specs.declared.board.Turn.TheVariants.{Away, Waits, Holds}
use Rattle.shared_modules.specs.declared.board.View.{View}
use Rattle.shared_modules.specs.Views.{times}
use Rattle.shared_modules.specs.Rule.{Homes, out, total, waits, has, waiting, TurnFits, Fits, AtHome, IsOut, Kept}
use Rattle.shared_modules.proofs.Totals.{total_set, total_two, total_least, set_there}
use Rattle.shared_modules.proofs.Known.{flag_same}

abbrev pub St : Type 0
St = State (Option History) View

abbrev pub turn_or : maybe.Option View → Turn
turn_or none = Away
turn_or (some v) = v.turn

-- ---- one seat

-- the same lists of the same history, with another turn
pub with_turn : (images : Images) (h : List Event) (sv d sv' d' : ℕ) (homes homes' : Homes) (v : View)
    → Fits images h sv d homes v → TurnFits h sv' d' homes' v.turn → Fits images h sv' d' homes' v
with_turn images h sv d sv' d' homes homes' v f turn =
    record {
      images_are = f.images_are;
      seen = f.seen;
      told = f.told;
      turn = turn;
      speaks = f.speaks;
      lesson = f.lesson;
    }

-- a later ticket is drawn
pub turn_later : (h : List Event) (sv d d' : ℕ) (homes : Homes) (turn : Turn) → d ≤ d' → TurnFits h sv d homes turn
    → TurnFits h sv d' homes turn
turn_later h sv d d' homes Away le f = tt
turn_later h sv d d' homes (Waits t) le f = let a = f.1 in (f.0, omega arith)
turn_later h sv d d' homes (Holds t note) le f = let a = f.1 in (f.0, omega arith, f.2, f.3)

-- the registry is taken out
pub turn_out : (h : List Event) (sv d : ℕ) (homes homes' : Homes) (turn : Turn) → homes' ≡ out
    → TurnFits h sv d homes turn → TurnFits h sv d homes' turn
turn_out h sv d homes homes' Away e f = tt
turn_out h sv d homes homes' (Waits t) e f = f
turn_out h sv d homes homes' (Holds t note) e f = (f.0, f.1, f.2, e)

-- another seat holds the turn, so this one waits or is away
pub turn_served : (h : List Event) (sv d : ℕ) (homes homes' : Homes) (turn : Turn) → (has sv turn ≡ 1 → ⊥)
    → TurnFits h sv d homes turn → TurnFits h (sv + 1) d homes' turn
turn_served h sv d homes homes' Away other f = tt
turn_served h sv d homes homes' (Waits t) other f =
    let apart : t ≢ sv = λ e. other (flag_same t sv e) in let low = f.0 in let high = f.1 in (omega arith, omega arith)
turn_served h sv d homes homes' (Holds t note) other f = absurd (other (flag_same t sv f.0))

pub turn_grown : (h h' : List Event) (sv d : ℕ) (homes : Homes) (turn : Turn) → (has sv turn ≡ 1 → ⊥)
    → TurnFits h sv d homes turn → TurnFits h' sv d homes turn
turn_grown h h' sv d homes Away other f = tt
turn_grown h h' sv d homes (Waits t) other f = f
turn_grown h h' sv d homes (Holds t note) other f = absurd (other (flag_same t sv f.0))

-- ---- all seats

module _ (images : Images) (s : St) (k : Kept images s) where
  -- at most as many wait as there are threads
  pub few_wait : waiting s.views ≤ 64
  few_wait = let l = total_least (λ (v : View). waits v.turn) (λ (v : View). length v.threads) s.views
      (λ i v at. (k.each i v at).speaks) in omega (arith, l, k.sizes)

  -- no two seats have one ticket
  pub alone : (i j : ℕ) (v w : View) (t : ℕ) → i ≢ j → get_elem? s.views i ≡ some v → get_elem? s.views j ≡ some w
      → has t v.turn ≡ 1 → has t w.turn ≡ 1 → ⊥
  alone i j v w t apart at there a b = let l = total_two (λ (u : View). has t u.turn) s.views i j v w apart at there in
      let m = k.tickets t in omega arith

  -- a step of one seat, whose threads stay
  pub rebuild : (id : ℕ) (v w : View) (history : List Event) (serving until : ℕ) (words : List ℕ) (homes : Homes)
      → get_elem? s.views id ≡ some v → w.threads ≡ v.threads → until ≡ serving + waiting (set s.views id w)
      → words ≡ until % 2 ^ 64 ∷ serving % 2 ^ 64 ∷ length history ∷ []
      → IsLegal images.infos images.last_offset history
      → ((j : ℕ) (u : View) → j ≢ id → get_elem? s.views j ≡ some u → Fits images history serving until homes u)
      → Fits images history serving until homes w
      → ((t : ℕ) → total (λ (u : View). has t u.turn) (set s.views id w) ≤ 1)
      → AtHome images history homes ⊎ IsOut homes (set s.views id w)
      → Kept images record { words = words; homes = homes; views = set s.views id w }
  rebuild id v w history serving until words homes at same until_is words_are legal others mine tickets home = record {
    history = history;
    serving = serving;
    words = words_are ∙ ap (λ (n : ℕ). n % 2 ^ 64 ∷ serving % 2 ^ 64 ∷ length history ∷ []) until_is;
    legal = legal;
    each = λ j u there. subst (λ (n : ℕ). Fits images history serving n homes u) until_is
        (⊎_elim (λ (t : (j ≡ id) × (w ≡ u)). subst (Fits images history serving until homes) t.1 mine)
        (λ (t : (j ≢ id) × (get_elem? s.views j ≡ some u)). others j u t.0 t.1) (at_set s.views id j w u there));
    threads = λ x. let c = total_set (λ (u : View). times x u.threads) s.views id v w at in
        let e : times x w.threads ≡ times x v.threads = ap (times x) same in omega (arith, c, e, k.threads x);
    sizes = let c = total_set (λ (u : View). length u.threads) s.views id v w at in
        let e : length w.threads ≡ length v.threads = ap (length {A = ℕ}) same in omega (arith, c, e, k.sizes);
    tickets = tickets;
    home = home;
  }

  -- tickets stay where the seat's ticket stays
  pub tickets_stay : (id : ℕ) (v w : View) → get_elem? s.views id ≡ some v → ((t : ℕ) → has t w.turn ≡ has t v.turn)
      → (t : ℕ) → total (λ (u : View). has t u.turn) (set s.views id w) ≤ 1
  tickets_stay id v w at same t = let c = total_set (λ (u : View). has t u.turn) s.views id v w at in let e = same t in
      omega (arith, c, e, k.tickets t)

  pub waiting_stays : (id : ℕ) (v w : View) → get_elem? s.views id ≡ some v → waits w.turn ≡ waits v.turn
      → waiting (set s.views id w) ≡ waiting s.views
  waiting_stays id v w at same = let c = total_set (λ (u : View). waits u.turn) s.views id v w at in
      omega (arith, c, same)

  -- a ticket that is being served, modulo 2^64, is the one
  pub served : (id : ℕ) (v : View) (t : ℕ) → get_elem? s.views id ≡ some v → v.turn ≡ Waits t
      → k.serving % 2 ^ 64 ≡ t % 2 ^ 64 → k.serving ≡ t
  served id v t at is same =
      let f : TurnFits k.history k.serving (k.serving + waiting s.views) s.homes (Waits t) =
      subst (TurnFits k.history k.serving (k.serving + waiting s.views) s.homes) is (k.each id v at).turn in
      let low = f.0 in let high = f.1 in
      one_turn k.serving t (2 ^ 64) low (omega (arith, few_wait)) same

  -- with the ticket that is being served the registry is at home, unless the seat has it
  pub is_home : (id : ℕ) (v : View) → get_elem? s.views id ≡ some v → v.turn ≡ Waits k.serving
      → AtHome images k.history s.homes
  is_home id v at is = ⊎_elim (λ (h : AtHome images k.history s.homes). h)
      (λ (o : IsOut s.homes s.views). absurd (
      let f : TurnFits k.history k.serving (k.serving + waiting s.views) s.homes (Holds o.ticket o.note) =
      subst (TurnFits k.history k.serving (k.serving + waiting s.views) s.homes) o.holds
      (k.each o.seat o.view o.there).turn in
      dite (ℕ_discrete id o.seat)
      (λ e. let same : some v ≡ some o.view = sym at ∙ ap (get_elem? s.views) e ∙ o.there in
      let turns : Waits k.serving ≡ Holds o.ticket o.note = cc in cc)
      (λ ne. alone id o.seat v o.view k.serving ne at o.there
      (ap (has k.serving) is ∙ flag_same k.serving k.serving refl)
      (ap (has k.serving) o.holds ∙ flag_same o.ticket k.serving f.0))))
      k.home

  -- where every seat with the registry stays as it is, it is where it was
  pub home_stays : (id : ℕ) (v w : View) → get_elem? s.views id ≡ some v
      → ((t : ℕ) (note : List Event) → v.turn ≡ Holds t note → w.turn ≡ Holds t note)
      → AtHome images k.history s.homes ⊎ IsOut s.homes (set s.views id w)
  home_stays id v w at same = ⊎_elim (λ (h : AtHome images k.history s.homes). inl h)
      (λ (o : IsOut s.homes s.views). inr (dite (ℕ_discrete o.seat id)
      (λ e. let is : v.turn ≡ o.view.turn =
      ap (λ (u : maybe.Option View). turn_or u) (sym at ∙ ap (get_elem? s.views) (sym e) ∙ o.there) in
      record {
        gone = o.gone;
        seat = id;
        view = w;
        there = set_there s.views id v w at;
        ticket = o.ticket;
        note = o.note;
        holds = same o.ticket o.note (is ∙ o.holds);
      })
      (λ ne. record {
        gone = o.gone;
        seat = o.seat;
        view = o.view;
        there = set_else s.views id o.seat w ne ∙ o.there;
        ticket = o.ticket;
        note = o.note;
        holds = o.holds;
      })))
      k.home
