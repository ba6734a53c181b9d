-- The lock's steps keep the rule: a ticket is drawn, the one being served is read, the next one is served.
use Rattle.std.proofs.Common.{◌≡◌, ◌≢◌, ℕ, ◌+◌, ◌%◌, ◌^◌, ◌<◌, ◌≤◌, Bool, List, [], ◌∷◌, length, set, get_or, sym, refl}
use Rattle.std.proofs.Common.{ap, ◌∙◌, subst, inl, inr, Option, Some, None, eq-eqb, ne_eqb, arith}
use Rattle.std.proofs.Math.Nat.{mod-add-mod}
use Rattle.std.specs.Prelude.{◌==◌, MatchBool}
use mathlib.Core.Option.{none, some}
use mathlib.Core.Logic.{dite}
use native.Mathlib.Decide.{ℕ_discrete}
use lib.ListN.{get_elem?}
use lib.Seq.{set-get_or}
use Rattle.atomic_table.specs.Table.{keeps, takes, gives, put_back, rest, Allows}
use Rattle.atomic_table.proofs.Lists.{set_again}
use Rattle.module_table.specs.declared.events.Event.{Event}
use Rattle.module_table.specs.History.{History}
use Rattle.shared_modules.specs.declared.board.Images.{Images}
use Rattle.shared_modules.specs.declared.board.Turn.{Turn}
use Rattle.shared_modules.specs.declared.board.Turn.TheVariants.{Away, Waits, Holds}
use Rattle.shared_modules.specs.declared.board.View.{View}
use Rattle.shared_modules.specs.Views.{Knows, StartsWith, drew, holding, away}
use Rattle.shared_modules.specs.Rule.{Homes, out, total, waits, has, waiting, TurnFits, AtHome, Kept}
use Rattle.shared_modules.specs.Plays.{Sat, Draws, Takes, Sees, Leaves, Learns, Ending}
use Rattle.shared_modules.proofs.Totals.{total_set, total_least, set_there}
use Rattle.shared_modules.proofs.Known.{flag_same, flag_else}
use Rattle.shared_modules.proofs.Keeps.{St, with_turn, turn_later, turn_out, turn_served, alone, rebuild, tickets_stay}
use Rattle.shared_modules.proofs.Keeps.{waiting_stays, served, is_home, home_stays}

total_nothing : (views : List View) → total (λ (v : View). 0) views ≡ 0
total_nothing [] = refl
total_nothing (v ∷ vs) = let h = total_nothing vs in omega arith

-- ---- a ticket is drawn

has_later : (t d : ℕ) (h : List Event) (sv : ℕ) (homes : Homes) (turn : Turn) → TurnFits h sv d homes turn → d ≤ t
    → has t turn ≡ 0
has_later t d h sv homes Away f le = refl
has_later t d h sv homes (Waits u) f le = let a = f.1 in flag_else u t (λ e. omega arith)
has_later t d h sv homes (Holds u note) f le = let a = f.1 in flag_else u t (λ e. omega arith)

none_has : (images : Images) (s : St) (k : Kept images s)
    → total (λ (v : View). has (k.serving + waiting s.views) v.turn) s.views ≡ 0
none_has images s k =
    let d : ℕ = k.serving + waiting s.views in
    let l = total_least (λ (v : View). has d v.turn) (λ (v : View). 0) s.views
    (λ i v at. let e = has_later d d k.history k.serving s.homes v.turn (k.each i v at).turn (omega arith) in
    omega arith) in
    let z = total_nothing s.views in omega arith

pub draws : (images : Images) (slots id : ℕ) (me : Sat) → me.0.turn ≡ Away → 0 < length me.0.threads
    → Allows (Kept images) slots id me 0 (λ n. (n + 1) % 2 ^ 64) (Draws me)
draws images slots id me idle speaks s k deep at small =
    let t : ℕ = k.serving + waiting s.views in
    let w : View = drew t me.0 in
    let f = k.each id me.0 at in
    let c = total_set (λ (v : View). waits v.turn) s.views id me.0 w at in
    let next : t + 1 ≡ k.serving + waiting (set s.views id w) = let z : waits me.0.turn ≡ 0 = ap waits idle in
    omega arith in (
      w,
      keeps,
      tt,
      rebuild images s k id me.0 w k.history k.serving (t + 1) _ s.homes at refl next
          (ap (λ (l : List ℕ). set l 0 ((get_or l 0 0 + 1) % 2 ^ 64)) k.words
          ∙ ap (λ (n : ℕ). n ∷ k.serving % 2 ^ 64 ∷ length k.history ∷ []) (mod-add-mod t (2 ^ 64) 1))
          k.legal
          (λ j u other there. let g = k.each j u there in
          with_turn images k.history k.serving t k.serving (t + 1) s.homes s.homes u g
          (turn_later k.history k.serving t (t + 1) s.homes u.turn (omega arith) g.turn))
          (record {
            images_are = f.images_are;
            seen = f.seen;
            told = f.told;
            turn = (omega arith, omega arith);
            speaks = omega (arith, speaks);
            lesson = f.lesson;
          })
          (λ x. let a = total_set (λ (v : View). has x v.turn) s.views id me.0 w at in
          let z : has x me.0.turn ≡ 0 = ap (has x) idle in
          dite (ℕ_discrete t x)
          (λ e. let n = none_has images s k in
          let n' : total (λ (v : View). has x v.turn) s.views ≡ 0 =
          subst (λ (y : ℕ). total (λ (v : View). has y v.turn) s.views ≡ 0) e n in let o = flag_same t x e in
          omega arith)
          (λ ne. let o = flag_else t x ne in let m = k.tickets x in omega arith))
          (home_stays images s k id me.0 w at
          (λ u note is. absurd (let e : Away ≡ Holds u note = sym idle ∙ is in cc))),
      (t, ap (λ (l : List ℕ). get_or l 0 0) k.words, refl),
    )

-- ---- the ticket being served is read

-- nothing changes
pub unmoved : (images : Images) (s : St) (k : Kept images s) (id i : ℕ) (v : View) → get_elem? s.views id ≡ some v
    → Kept images record { words = set s.words i (get_or s.words i 0); homes = s.homes; views = set s.views id v }
unmoved images s k id i v at =
    subst (λ (p : List ℕ × List View). Kept images record { words = p.0; homes = s.homes; views = p.1 })
    (λ c. (sym (set-get_or s.words i 0) c, sym (set_again s.views id v at) c)) k

sees_mine : (me : Sat) (t found : ℕ) (after : Sat) → me.0.turn ≡ Waits t → found ≡ t % 2 ^ 64 → Takes t me.0 after
    → Sees me found after
sees_mine me t found after is same takes_it u is' =
    let e : t ≡ u = let turns : Waits t ≡ Waits u = sym is ∙ is' in cc in
    subst (λ (x : ℕ). MatchBool (found == (x % 2 ^ 64)) (Takes x me.0 after) (after ≡ me)) e
    (subst (λ (b : Bool). MatchBool b (Takes t me.0 after) (after ≡ me))
    (sym (eq-eqb found (t % 2 ^ 64) same)) takes_it)

sees_other : (me : Sat) (t found : ℕ) → me.0.turn ≡ Waits t → found ≢ t % 2 ^ 64 → Sees me found me
sees_other me t found is other u is' =
    let e : t ≡ u = let turns : Waits t ≡ Waits u = sym is ∙ is' in cc in
    subst (λ (x : ℕ). MatchBool (found == (x % 2 ^ 64)) (Takes x me.0 me) (me ≡ me)) e
    (subst (λ (b : Bool). MatchBool b (Takes t me.0 me) (me ≡ me)) (sym (ne_eqb found (t % 2 ^ 64) other)) refl)

pub taken : (images : Images) (id : ℕ) (v : View) (s : St) (k : Kept images s) → get_elem? s.views id ≡ some v
    → v.turn ≡ Waits k.serving → 0 < length v.threads → (r : AtHome images k.history s.homes)
    → Kept images record {
      words = set s.words 1 (get_or s.words 1 0);
      homes = set s.homes 0 none;
      views = set s.views id (holding k.serving r.registry.events v);
    }
taken images id v s k at is speaks r =
    let t : ℕ = k.serving in
    let w : View = holding t r.registry.events v in
    let f = k.each id v at in
    let mine : TurnFits k.history t (t + waiting s.views) s.homes (Waits t) =
    subst (TurnFits k.history t (t + waiting s.views) s.homes) is f.turn in
    let gone : set s.homes 0 none ≡ out = ap (λ (hs : Homes). set hs 0 none) r.there in
    let same : waiting (set s.views id w) ≡ waiting s.views = waiting_stays images s k id v w at (sym (ap waits is)) in
    rebuild images s k id v w k.history t (t + waiting s.views) _ (set s.homes 0 none) at refl
    (ap (λ (n : ℕ). t + n) (sym same))
    (set-get_or s.words 1 0 ∙ k.words) k.legal
    (λ j u other there. let g = k.each j u there in
    with_turn images k.history t (t + waiting s.views) t (t + waiting s.views) s.homes (set s.homes 0 none) u g
    (turn_out k.history t (t + waiting s.views) s.homes (set s.homes 0 none) u.turn gone g.turn))
    (record {
      images_are = f.images_are;
      seen = f.seen;
      told = f.told;
      turn = (refl, mine.1, r.events_are, gone);
      speaks = omega (arith, speaks);
      lesson = f.lesson;
    })
    (tickets_stay images s k id v w at (λ x. sym (ap (has x) is)))
    (inr record {
      gone = gone;
      seat = id;
      view = w;
      there = set_there s.views id v w at;
      ticket = t;
      note = r.registry.events;
      holds = refl;
    })

pub sees : (images : Images) (slots id : ℕ) (me : Sat) (t : ℕ) → me.0.turn ≡ Waits t → me.1 ≡ []
    → 0 < length me.0.threads → Allows (Kept images) slots id me 1 (λ n. n) (Sees me)
sees images slots id me t is bare speaks s k deep at small =
    let found : ℕ = get_or s.words 1 0 in
    let serving : found ≡ k.serving % 2 ^ 64 = ap (λ (l : List ℕ). get_or l 1 0) k.words in
    dite (ℕ_discrete found (t % 2 ^ 64))
    (λ e.
    let now : k.serving ≡ t = served images s k id me.0 t at is (sym serving ∙ e) in
    let is' : me.0.turn ≡ Waits k.serving = is ∙ ap Waits (sym now) in
    let r = is_home images s k id me.0 at is' in
    let f = k.each id me.0 at in
    let w : View = holding k.serving r.registry.events me.0 in (
      w,
      takes 0 (Some r.registry),
      ap (λ (hs : Homes). get_elem? hs 0) r.there,
      taken images id me.0 s k at is' speaks r,
      sees_mine me k.serving found (w, (0, Some r.registry) ∷ me.1) is' serving record {
        registry = r.registry;
        seen = subst (λ (h : List Event). Knows h me.0.threads me.0.seen) (sym r.events_are) (f.seen speaks);
        told = subst (λ (h : List Event). StartsWith h me.0.told) (sym r.events_are) f.told;
        images = r.images_are ∙ sym (f.images_are speaks);
        after_is = λ i. (w, (0, Some r.registry) ∷ bare i);
      },
    ))
    (λ ne. (me.0, keeps, tt, unmoved images s k id 1 me.0 at, sees_other me t found is ne))

-- ---- the next ticket is served

pub leaves : (images : Images) (slots id : ℕ) (me : Sat) (h : History) → me.1 ≡ (0, Some h) ∷ []
    → Ending h (me.0, (0, None) ∷ []) → Allows (Kept images) slots id me 1 (λ n. (n + 1) % 2 ^ 64) (Leaves me)
leaves images slots id me h carried e s k deep at small =
    let v : View = me.0 in
    let w : View = away v in
    let f = k.each id v at in
    let d : ℕ = k.serving + waiting s.views in
    let mine : TurnFits k.history k.serving d s.homes (Holds e.ticket h.events) =
    subst (TurnFits k.history k.serving d s.homes) e.turn f.turn in
    let c = total_set (λ (u : View). waits u.turn) s.views id v w at in
    let one : waits v.turn ≡ 1 = ap waits e.turn in
    let until : d ≡ (k.serving + 1) + waiting (set s.views id w) = omega arith in
    let homes' : Homes = set s.homes 0 (some (Some h)) in
    let there : homes' ≡ some (Some h) ∷ [] = ap (λ (hs : Homes). set hs 0 (some (Some h))) mine.3 in
    let ticket : has k.serving v.turn ≡ 1 = ap (has k.serving) e.turn ∙ flag_same e.ticket k.serving mine.0 in (
      w,
      gives,
      tt,
      subst (λ (cs : List (ℕ × Option History)). Kept images record {
        words = set s.words 1 ((get_or s.words 1 0 + 1) % 2 ^ 64);
        homes = put_back s.homes cs;
        views = set s.views id w;
      }) (sym carried)
          (rebuild images s k id v w k.history (k.serving + 1) d _ homes' at refl until
          (ap (λ (l : List ℕ). set l 1 ((get_or l 1 0 + 1) % 2 ^ 64)) k.words
          ∙ ap (λ (n : ℕ). d % 2 ^ 64 ∷ n ∷ length k.history ∷ []) (mod-add-mod k.serving (2 ^ 64) 1))
          k.legal
          (λ j u other at'. let g = k.each j u at' in
          with_turn images k.history k.serving d (k.serving + 1) d s.homes homes' u g
          (turn_served k.history k.serving d s.homes homes' u.turn
          (λ has_it. alone images s k j id u v k.serving other at' at has_it ticket) g.turn))
          (record {
            images_are = f.images_are;
            seen = f.seen;
            told = f.told;
            turn = tt;
            speaks = omega arith;
            lesson = f.lesson;
          })
          (λ x. let a = total_set (λ (u : View). has x u.turn) s.views id v w at in let m = k.tickets x in omega arith)
          (inl record {
            registry = h;
            there = there;
            images_are = e.images ∙ f.images_are e.speaks;
            events_are = mine.2;
          })),
      ap (λ (cs : List (ℕ × Option History)). let p : Sat = (w, rest cs) in p) carried,
    )

-- ---- what was learnt is told

pub learns : (images : Images) (slots id : ℕ) (me : Sat) → Allows (Kept images) slots id me 1 (λ n. n) (Learns me)
learns images slots id me s k deep at small =
    (me.0, keeps, tt, unmoved images s k id 1 me.0 at, (refl, (k.each id me.0 at).lesson))
