-- A seat is cut in two, and two are made one: both keep the rule.
use Rattle.std.proofs.Common.{◌≡◌, ◌≢◌, ◌⊎◌, ℕ, ◌+◌, ◌%◌, ◌^◌, ◌<◌, true, false, nat_lt, List, [], ◌∷◌, ◌++◌, length}
use Rattle.std.proofs.Common.{set, sym, refl, ap, ◌∙◌, subst, inl, inr, ⊎_elim, length-append, arith}
use Rattle.std.specs.Prelude.{if◌then◌else◌}
use mathlib.Core.Option.{some}
use lib.ListN.{get_elem?}
use Rattle.atomic_table.specs.Table.{Splits, Joins}
use Rattle.atomic_table.proofs.Lists.{at_set, at_snoc, at_longer, set_else}
use Rattle.module_table.specs.declared.events.Event.{Event}
use Rattle.shared_modules.specs.declared.board.Images.{Images}
use Rattle.shared_modules.specs.declared.board.Turn.TheVariants.{Away, Holds}
use Rattle.shared_modules.specs.declared.board.View.{View}
use Rattle.shared_modules.specs.Views.{times, Knows, left_of, right_of, both, lesson_of, spent, no_lesson}
use Rattle.shared_modules.specs.Rule.{Homes, waits, has, waiting, IsLearnt, Fits, AtHome, IsOut, Kept}
use Rattle.shared_modules.proofs.Totals.{total_set, total_push}
use Rattle.shared_modules.proofs.Known.{times-append, times_halves, length_halves, knows_fewer, knows_both}
use Rattle.shared_modules.proofs.Known.{knows_between, starts_longer, lt_of_true, le_of_false}
use Rattle.shared_modules.proofs.Keeps.{turn_or}

nothing_learnt : IsLearnt no_lesson
nothing_learnt = record { rest = []; whole = refl; others = tt }

-- a longer list of seats has the holder still
out_longer : (images : Images) (h : List Event) (homes : Homes) (views more : List View)
    → AtHome images h homes ⊎ IsOut homes views → AtHome images h homes ⊎ IsOut homes (views ++ more)
out_longer images h homes views more = ⊎_elim (λ (a : AtHome images h homes). inl a)
    (λ (o : IsOut homes views). inr record {
      gone = o.gone;
      seat = o.seat;
      view = o.view;
      there = at_longer views more o.seat o.view o.there;
      ticket = o.ticket;
      note = o.note;
      holds = o.holds;
    })

-- and so has one where a seat that is away is left with nothing
out_set : (images : Images) (h : List Event) (homes : Homes) (views : List View) (id : ℕ) (v w : View)
    → get_elem? views id ≡ some v → v.turn ≡ Away → AtHome images h homes ⊎ IsOut homes views
    → AtHome images h homes ⊎ IsOut homes (set views id w)
out_set images h homes views id v w at idle = ⊎_elim (λ (a : AtHome images h homes). inl a)
    (λ (o : IsOut homes views). inr record {
      gone = o.gone;
      seat = o.seat;
      view = o.view;
      there = set_else views id o.seat w (λ e.
          let same : v.turn ≡ o.view.turn = ap turn_or (sym at ∙ ap (get_elem? views) (sym e) ∙ o.there) in
          let turns : Away ≡ Holds o.ticket o.note = sym idle ∙ same ∙ o.holds in cc) ∙ o.there;
      ticket = o.ticket;
      note = o.note;
      holds = o.holds;
    })

pub splits : (images : Images) (id : ℕ) (v : View) → v.turn ≡ Away → Splits (Kept images) id v (left_of v) (right_of v)
splits images id v idle s k at =
    let l : View = left_of v in
    let r : View = right_of v in
    let f = k.each id v at in
    let views' : List View = set s.views id l ++ r ∷ [] in
    let d : ℕ = k.serving + waiting s.views in
    let sizes = length_halves v.threads in
    let away_l : waits l.turn ≡ 0 = ap waits idle in
    let away_v : waits v.turn ≡ 0 = ap waits idle in
    let same : waiting views' ≡ waiting s.views =
    let p = total_push (λ (u : View). waits u.turn) (set s.views id l) r in
    let c = total_set (λ (u : View). waits u.turn) s.views id v l at in omega arith in
    let until : d ≡ k.serving + waiting views' = ap (λ (n : ℕ). k.serving + n) (sym same) in
    let left_fits : Fits images k.history k.serving d s.homes l = record {
      images_are = λ some_thread. f.images_are (omega arith);
      seen = λ some_thread. knows_fewer k.history v.threads l.threads v.seen
          (λ x. let h = times_halves x v.threads in omega arith) (f.seen (omega arith));
      told = f.told;
      turn = f.turn;
      speaks = omega arith;
      lesson = f.lesson;
    } in
    let right_fits : Fits images k.history k.serving d s.homes r = record {
      images_are = λ some_thread. f.images_are (omega arith);
      seen = λ some_thread. knows_fewer k.history v.threads r.threads v.seen
          (λ x. let h = times_halves x v.threads in omega arith) (f.seen (omega arith));
      told = f.told;
      turn = tt;
      speaks = omega arith;
      lesson = nothing_learnt;
    } in
    record {
      history = k.history;
      serving = k.serving;
      words = k.words ∙ ap (λ (n : ℕ). n % 2 ^ 64 ∷ k.serving % 2 ^ 64 ∷ length k.history ∷ []) until;
      legal = k.legal;
      each = λ j u there. subst (λ (n : ℕ). Fits images k.history k.serving n s.homes u) until
          (⊎_elim (λ (old : get_elem? (set s.views id l) j ≡ some u).
          ⊎_elim (λ (t : (j ≡ id) × (l ≡ u)). subst (Fits images k.history k.serving d s.homes) t.1 left_fits)
          (λ (t : (j ≢ id) × (get_elem? s.views j ≡ some u)). k.each j u t.1) (at_set s.views id j l u old))
          (λ (new : r ≡ u). subst (Fits images k.history k.serving d s.homes) new right_fits)
          (at_snoc (set s.views id l) r u j there));
      threads = λ x. let p = total_push (λ (u : View). times x u.threads) (set s.views id l) r in
          let c = total_set (λ (u : View). times x u.threads) s.views id v l at in
          let h = times_halves x v.threads in let m = k.threads x in omega arith;
      sizes = let p = total_push (λ (u : View). length u.threads) (set s.views id l) r in
          let c = total_set (λ (u : View). length u.threads) s.views id v l at in let m = k.sizes in omega arith;
      tickets = λ t. let p = total_push (λ (u : View). has t u.turn) (set s.views id l) r in
          let c = total_set (λ (u : View). has t u.turn) s.views id v l at in let m = k.tickets t in omega arith;
      home = out_longer images k.history s.homes (set s.views id l) (r ∷ [])
          (out_set images k.history s.homes s.views id v l at idle k.home);
    }

-- what two seats learn of each other's lists
pub learnt : (h : List Event) (v w : View) → Knows h v.threads v.seen → Knows h w.threads w.seen
    → IsLearnt (lesson_of v w)
learnt h v w a b = elim (nat_lt (length v.seen) (length w.seen)) as (λ c. nat_lt (length v.seen) (length w.seen) ≡ c
    → IsLearnt (if c then record { less = v.seen; more = w.seen; threads = v.threads }
    else record { less = w.seen; more = v.seen; threads = w.threads })) [
      | true ↦ λ e. knows_between h v.threads w.threads v.seen w.seen a b (let l = lt_of_true _ _ e in omega arith)
      | false ↦ λ e. knows_between h w.threads v.threads w.seen v.seen b a (le_of_false _ _ e)
    ] refl

pub joins : (images : Images) (id other : ℕ) (v w : View) → v.turn ≡ Away → w.turn ≡ Away → 0 < length v.threads
    → 0 < length w.threads → Joins (Kept images) id v other w (both v w) spent
joins images id other v w idle idle' some_thread some_thread' s k at apart there =
    let b : View = both v w in
    let mid : List View = set s.views id b in
    let views' : List View = set mid other spent in
    let f = k.each id v at in
    let was : get_elem? s.views other ≡ some w = sym (set_else s.views id other b apart) ∙ there in
    let g = k.each other w was in
    let d : ℕ = k.serving + waiting s.views in
    let away_v : waits v.turn ≡ 0 = ap waits idle in
    let away_w : waits w.turn ≡ 0 = ap waits idle' in
    let sizes = length-append v.threads w.threads in
    let same : waiting views' ≡ waiting s.views =
    let p = total_set (λ (u : View). waits u.turn) mid other w spent there in
    let c = total_set (λ (u : View). waits u.turn) s.views id v b at in omega arith in
    let until : d ≡ k.serving + waiting views' = ap (λ (n : ℕ). k.serving + n) (sym same) in
    let both_fits : Fits images k.history k.serving d s.homes b = record {
      images_are = λ _. f.images_are some_thread;
      seen = λ _. knows_both k.history v.threads w.threads v.seen w.seen (f.seen some_thread) (g.seen some_thread');
      told = starts_longer k.history v.told w.told f.told g.told;
      turn = f.turn;
      speaks = omega arith;
      lesson = learnt k.history v w (f.seen some_thread) (g.seen some_thread');
    } in
    let spent_fits : Fits images k.history k.serving d s.homes spent = record {
      images_are = λ none. absurd (omega arith);
      seen = λ none. absurd (omega arith);
      told = record { rest = k.history; whole = refl };
      turn = tt;
      speaks = omega arith;
      lesson = nothing_learnt;
    } in
    record {
      history = k.history;
      serving = k.serving;
      words = k.words ∙ ap (λ (n : ℕ). n % 2 ^ 64 ∷ k.serving % 2 ^ 64 ∷ length k.history ∷ []) until;
      legal = k.legal;
      each = λ j u at'. subst (λ (n : ℕ). Fits images k.history k.serving n s.homes u) until
          (⊎_elim (λ (t : (j ≡ other) × (spent ≡ u)). subst (Fits images k.history k.serving d s.homes) t.1 spent_fits)
          (λ (t : (j ≢ other) × (get_elem? mid j ≡ some u)).
          ⊎_elim (λ (y : (j ≡ id) × (b ≡ u)). subst (Fits images k.history k.serving d s.homes) y.1 both_fits)
          (λ (y : (j ≢ id) × (get_elem? s.views j ≡ some u)). k.each j u y.1) (at_set s.views id j b u t.1))
          (at_set mid other j spent u at'));
      threads = λ x. let p = total_set (λ (u : View). times x u.threads) mid other w spent there in
          let c = total_set (λ (u : View). times x u.threads) s.views id v b at in
          let h = times-append x v.threads w.threads in let m = k.threads x in omega arith;
      sizes = let p = total_set (λ (u : View). length u.threads) mid other w spent there in
          let c = total_set (λ (u : View). length u.threads) s.views id v b at in let m = k.sizes in omega arith;
      tickets = λ t. let p = total_set (λ (u : View). has t u.turn) mid other w spent there in
          let c = total_set (λ (u : View). has t u.turn) s.views id v b at in let m = k.tickets t in omega arith;
      home = out_set images k.history s.homes mid other w spent there idle'
          (out_set images k.history s.homes s.views id v b at idle k.home);
    }
