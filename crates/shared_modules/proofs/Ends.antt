-- The table at its start, and at its end.
use Rattle.std.proofs.Common.{◌≡◌, ℕ, zero, suc, ◌≤◌, List, [], ◌∷◌, length, sym, refl, ap, ◌∙◌, subst, inl, ⊎_elim}
use Rattle.std.proofs.Common.{Option, Some, arith}
use mathlib.Core.Option.{some, some-injective, some-ne-none}
use mathlib.Core.Logic.{dite}
use native.Mathlib.Decide.{ℕ_discrete}
use lib.ListN.{get_elem?}
use Rattle.atomic_table.specs.Table.{opening}
use Rattle.module_table.specs.History.{History}
use Rattle.module_table.specs.Past.{IsLegal}
use Rattle.shared_modules.specs.declared.board.Images.{Images}
use Rattle.shared_modules.specs.declared.board.Turn.TheVariants.{Away, Holds}
use Rattle.shared_modules.specs.declared.board.View.{View}
use Rattle.shared_modules.specs.Views.{times, all_threads, images_of, first_view}
use Rattle.shared_modules.specs.Rule.{Homes, waits, Fits, AtHome, IsOut, Kept}
use Rattle.shared_modules.proofs.Totals.{total_two, total_gap}
use Rattle.shared_modules.proofs.Known.{starts_whole, knows_whole, knows_all, all_length, all_reached, times-length}
use Rattle.shared_modules.proofs.Keeps.{St, turn_or}

begins_each : (images : Images) (h : History) (homes : Homes) (i : ℕ) (v : View)
    → get_elem? (first_view images h.events ∷ []) i ≡ some v → Fits images h.events 0 0 homes v
begins_each images h homes zero v at =
    subst (Fits images h.events 0 0 homes) (some-injective (first_view images h.events) v at) record {
      images_are = λ _. refl;
      seen = λ _. knows_whole h.events all_threads;
      told = starts_whole h.events;
      turn = tt;
      speaks = omega arith;
      lesson = record { rest = []; whole = refl; others = tt };
    }
begins_each images h homes (suc i) v at = absurd (some-ne-none v (sym at))

pub begins : (h : History) (key : History) (slots : List (Option History)) (seen : ℕ) → key ≡ h → slots ≡ Some h ∷ []
    → seen ≡ length h.events → IsLegal h.infos h.last_offset h.events
    → Kept (images_of key) (opening (0 ∷ 0 ∷ seen ∷ []) slots (first_view (images_of key) key.events))
begins h key slots seen key_is slots_are seen_is legal =
    let images : Images = images_of h in
    let k : Kept images (opening (0 ∷ 0 ∷ length h.events ∷ []) (Some h ∷ []) (first_view images h.events)) = record {
      history = h.events;
      serving = 0;
      words = refl;
      legal = legal;
      each = begins_each images h (some (Some h) ∷ []);
      threads = λ x. omega arith;
      sizes = let l = all_length in omega arith;
      tickets = λ t. omega arith;
      home = inl record { registry = h; there = refl; images_are = refl; events_are = refl };
    } in
    subst (λ (z : History × List (Option History) × ℕ). Kept (images_of z.0)
    (opening (0 ∷ 0 ∷ z.2 ∷ []) z.1 (first_view (images_of z.0) z.0.events)))
    (λ i. (sym key_is i, sym slots_are i, sym seen_is i)) k

-- a pass that speaks for all threads has all of the history, and the registry is at home
pub record Ended (images : Images) (homes : Homes) (v : View) : Type 0 where
  pub registry : History
  pub there : homes ≡ some (Some registry) ∷ []
  pub images_are : images_of registry ≡ images
  pub events_are : registry.events ≡ v.seen

-- who has a ticket speaks for a thread, and no other seat does
not_out : (images : Images) (s : St) (k : Kept images s) (id : ℕ) (v : View) → get_elem? s.views id ≡ some v
    → v.turn ≡ Away → length v.threads ≡ 64 → IsOut s.homes s.views → ⊥
not_out images s k id v at idle all o = dite (ℕ_discrete id o.seat)
    (λ e. let same : v.turn ≡ o.view.turn = ap turn_or (sym at ∙ ap (get_elem? s.views) e ∙ o.there) in
    let turns : Away ≡ Holds o.ticket o.note = sym idle ∙ same ∙ o.holds in cc)
    (λ ne. let f = (k.each o.seat o.view o.there).speaks in let w : waits o.view.turn ≡ 1 = ap waits o.holds in
    let two = total_two (λ (u : View). length u.threads) s.views id o.seat v o.view ne at o.there in let m = k.sizes in
    omega arith)

pub ends : (images : Images) (s : St) (k : Kept images s) (id : ℕ) (v : View) → get_elem? s.views id ≡ some v
    → v.turn ≡ Away → length v.threads ≡ 64 → Ended images s.homes v
ends images s k id v at idle all =
    let home : AtHome images k.history s.homes =
    ⊎_elim (λ (h : AtHome images k.history s.homes). h)
    (λ (o : IsOut s.homes s.views). absurd (not_out images s k id v at idle all o)) k.home in
    let known = (k.each id v at).seen (omega arith) in
    let every : (x : ℕ) → 1 ≤ x → x ≤ 64 → 1 ≤ times x v.threads = λ x low high.
    let gap = total_gap (λ (u : View). times x u.threads) (λ (u : View). length u.threads) s.views id v
    (λ u. times-length x u.threads) at in
    let m = k.sizes in let t = k.threads x in let r = all_reached x low high in omega arith in
    record {
      registry = home.registry;
      there = home.there;
      images_are = home.images_are;
      events_are = home.events_are ∙ knows_all k.history v.threads v.seen every known;
    }
