-- The byte that a sequence of writes leaves at an offset.
use Rattle.std.proofs.Common.{◌≡◌, ◌∙◌, ◌<◌, ◌==◌, ◌++◌, ℕ, Bool, true, false, cond, List, [], ◌∷◌, length, fold}
use Rattle.std.proofs.Common.{reverse, Some, None, Option, refl, sym, ap, inl, inr, arith}
use Rattle.std.specs.Prelude.{option_map, unwrap_or, slice_get, slice_set, slice_index}
use Rattle.std.specs.List.{find}
use Rattle.std.proofs.lemmas.Bool.{cases_eq, eq-eqb, ne_eqb}
use Rattle.std.proofs.lemmas.List.{get_or-set_other, get_or-set_same, length-set, reverse-append}
use Rattle.std.proofs.lemmas.Option.{slice_get-get_or}
use Rattle.module_data.specs.Laws.{Write, last_written}

abbrev pub put : List ℕ → Write → List ℕ
put bytes w = slice_set bytes w.at w.byte

abbrev pub all_put : List ℕ → List Write → List ℕ
all_put bytes ws = fold put bytes ws

-- one write
put_at : (bytes : List ℕ) (w : Write) (at : ℕ) → at < length bytes
    → slice_index (put bytes w) at ≡ cond (w.at == at) w.byte (slice_index bytes at)
put_at bytes w at within = elim (cases_eq w.at at) [
  | inl same ↦ rw (eq-eqb w.at at same, same) (get_or-set_same bytes at w.byte 0 within)
  | inr apart ↦ rw (ne_eqb w.at at apart) (get_or-set_other bytes w.at at w.byte 0 (λ e. apart (sym e)))
]

-- the last that passes, or one before all of them
here : (b : Bool) (w : Write) (z : ℕ)
    → unwrap_or (option_map (λ (v : Write). v.byte) (cond b (Some w) None)) z ≡ cond b w.byte z
here true w z = refl
here false w z = refl

there : (b : Bool) (y : Write) (f g : Option Write) (z s : ℕ)
    → unwrap_or (option_map (λ (v : Write). v.byte) f) z ≡ unwrap_or (option_map (λ (v : Write). v.byte) g) s
    → unwrap_or (option_map (λ (v : Write). v.byte) (cond b (Some y) f)) z
    ≡ unwrap_or (option_map (λ (v : Write). v.byte) (cond b (Some y) g)) s
there true y f g z s same = refl
there false y f g z s same = same

behind : (p : Write → Bool) (xs : List Write) (w : Write) (z : ℕ)
    → unwrap_or (option_map (λ (v : Write). v.byte) (find p (xs ++ w ∷ []))) z
    ≡ unwrap_or (option_map (λ (v : Write). v.byte) (find p xs)) (cond (p w) w.byte z)
behind p [] w z = here (p w) w z
behind p (y ∷ ys) w z = there (p y) y (find p (ys ++ w ∷ [])) (find p ys) z (cond (p w) w.byte z) (behind p ys w z)

last_more : (w : Write) (ws : List Write) (at z : ℕ)
    → unwrap_or (last_written at (w ∷ ws)) z ≡ unwrap_or (last_written at ws) (cond (w.at == at) w.byte z)
unfolding last_written
last_more w ws at z =
    ap (λ xs. unwrap_or (option_map (λ (v : Write). v.byte) (find (λ (v : Write). v.at == at) xs)) z)
    (reverse-append (w ∷ []) ws)
    ∙ behind (λ v. v.at == at) (reverse ws) w z

pub last_byte : (ws : List Write) (bytes : List ℕ) (at : ℕ) → at < length bytes
    → slice_get (all_put bytes ws) at ≡ Some (unwrap_or (last_written at ws) (slice_index bytes at))
unfolding last_written
last_byte [] bytes at within = slice_get-get_or bytes at 0 within
last_byte (w ∷ ws) bytes at within =
    last_byte ws (put bytes w) at (omega (arith, within, length-set bytes w.at w.byte))
    ∙ ap Some (ap (unwrap_or (last_written at ws)) (put_at bytes w at within)
    ∙ sym (last_more w ws at (slice_index bytes at)))
