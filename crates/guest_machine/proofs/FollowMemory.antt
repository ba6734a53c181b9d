-- Loads and stores of related memories, by their bytes.
use Rattle.std.proofs.Common.{◌≡◌, ℕ, zero, suc, ◌+◌, ◌≤◌, List, [], ◌∷◌, length, Result, Ok, Err, refl, ap, ◌∙◌, inl}
use Rattle.std.proofs.Common.{inr, arith}
use Rattle.guest_operands.specs.Access.{Refusal, Refused, Shut, Accesses, IsSize, next_place, both_reached, reached}
use Rattle.guest_operands.specs.Access.{bytes_from, bytes_at, all_write, put_all, load_of, store_of}
use Rattle.guest_machine.specs.Follow.{Reaches, All2, Alike, IsFollowed, StayRelated}
use Rattle.guest_arithmetic.specs.Values.{Operations}

reaches-reached : {A A' C C' : Type 0} (R : A → A' → Type 0) (Q : C → C' → Type 0) (f : A → C) (g : A' → C')
    (r : Result A Refusal) (r' : Result A' Refusal)
    → Reaches R r r' → ((a : A) (a' : A') → R a a' → Q (f a) (g a')) → Reaches Q (reached f r) (reached g r')
reaches-reached R Q f g (Ok a) (Ok a') h k = k a a' h
reaches-reached R Q f g (Ok a) (Err why) h k = absurd h
reaches-reached R Q f g (Err Refused) (Ok a') h k = absurd h
reaches-reached R Q f g (Err Refused) (Err Refused) h k = tt
reaches-reached R Q f g (Err Refused) (Err Shut) h k = absurd h
reaches-reached R Q f g (Err Shut) r' h k = tt

reaches-both : {A A' C C' D D' : Type 0} (R : A → A' → Type 0) (Q : C → C' → Type 0) (P : D → D' → Type 0)
    (f : A → C → D) (g : A' → C' → D')
    (a : Result A Refusal) (a' : Result A' Refusal) (b : Result C Refusal) (b' : Result C' Refusal) → Reaches R a a'
    → Reaches Q b b'
    → ((x : A) (x' : A') (y : C) (y' : C') → R x x' → Q y y' → P (f x y) (g x' y'))
    → Reaches P (both_reached f a b) (both_reached g a' b')
reaches-both R Q P f g (Ok x) (Ok x') (Ok y) (Ok y') h k c = c x x' y y' h k
reaches-both R Q P f g (Ok x) (Ok x') (Ok y) (Err why) h k c = absurd k
reaches-both R Q P f g (Ok x) (Ok x') (Err Refused) (Ok y') h k c = absurd k
reaches-both R Q P f g (Ok x) (Ok x') (Err Refused) (Err Refused) h k c = tt
reaches-both R Q P f g (Ok x) (Ok x') (Err Refused) (Err Shut) h k c = absurd k
reaches-both R Q P f g (Ok x) (Ok x') (Err Shut) b' h k c = tt
reaches-both R Q P f g (Ok x) (Err why) b b' h k c = absurd h
reaches-both R Q P f g (Err Refused) (Ok x') b b' h k c = absurd h
reaches-both R Q P f g (Err Refused) (Err Shut) b b' h k c = absurd h
reaches-both R Q P f g (Err Refused) (Err Refused) b b' h k c = tt
reaches-both R Q P f g (Err Shut) a' b b' h k c = tt

-- both were reached where the two together were
both-ok : (a b : Result (Unit {0}) Refusal) → both_reached (λ (x : Unit {0}) (y : Unit {0}). tt {0}) a b ≡ Ok tt
    → (a ≡ Ok tt) × (b ≡ Ok tt)
both-ok (Ok x) (Ok y) e = (refl, refl)
both-ok (Ok x) (Err why) e = cc
both-ok (Err Refused) (Ok y) e = cc
both-ok (Err Refused) (Err why) e = cc
both-ok (Err Shut) b e = cc

size_within : (size : ℕ) → IsSize size → size ≤ 8
size_within size (inl one) = omega arith
size_within size (inr (inl four)) = omega arith
size_within size (inr (inr eight)) = omega arith

module _ {W F B W' F' B' : Type 0} (same : Alike W F B W' F' B') {M M' : Type 0} (acc : Accesses M B)
    (acc' : Accesses M' B') (Same : M → M' → Type 0)
    (kept : StayRelated same acc acc' Same) where
  abbrev IsRead : ℕ → List B → List B' → Type 0
  IsRead size bs bs' = All2 same.byte bs bs' × (length bs ≡ size)

  bytes-reach : (size : ℕ) (m : M) (m' : M') → Same m m' → (place : ℕ)
      → Reaches (IsRead size) (bytes_at acc m place size) (bytes_at acc' m' place size)
  bytes-reach zero m m' h place = (tt, refl)
  bytes-reach (suc size) m m' h place =
      reaches-both same.byte (IsRead size) (IsRead (suc size)) ◌∷◌ ◌∷◌ _ _ _ _ (kept.byte m m' h place)
      (bytes-reach size m m' h (next_place place))
      (λ x x' y y' p q. ((p, q.0), ap suc q.1))

  writes-reach : (size : ℕ) (m : M) (m' : M') → Same m m' → (place : ℕ)
      → Reaches (λ a b. Unit {0}) (all_write acc m place size) (all_write acc' m' place size)
  writes-reach zero m m' h place = tt
  writes-reach (suc size) m m' h place =
      reaches-both (λ (a : Unit {0}) (b : Unit {0}). Unit {0}) (λ (a : Unit {0}) (b : Unit {0}). Unit {0})
      (λ (a : Unit {0}) (b : Unit {0}). Unit {0})
      (λ a b. tt {0}) (λ a b. tt {0}) _ _ _ _ (kept.writes m m' h place) (writes-reach size m m' h (next_place place))
      (λ x x' y y' p q. tt)

  writes-still : (size : ℕ) (m : M) (at place : ℕ) (b : B)
      → all_write acc (acc.put m at b) place size ≡ all_write acc m place size
  writes-still zero m at place b = refl
  writes-still (suc size) m at place b = rw (kept.still m at place b, writes-still size m at (next_place place) b) refl

  put-same : (bs : List B) (bs' : List B') (m : M) (m' : M') → Same m m' → (place : ℕ) → All2 same.byte bs bs'
      → all_write acc m place (length bs) ≡ Ok tt
      → Same (put_all acc m place bs) (put_all acc' m' place bs')
  put-same [] [] m m' h place p w = h
  put-same [] (b' ∷ bs') m m' h place p w = absurd p
  put-same (b ∷ bs) [] m m' h place p w = absurd p
  put-same (b ∷ bs) (b' ∷ bs') m m' h place p w =
      let parts = both-ok (acc.writes m place) (all_write acc m (next_place place) (length bs)) w in
      put-same bs bs' (acc.put m place b) (acc'.put m' place b') (kept.put m m' h place b b' p.0 parts.0)
      (next_place place) p.1
      (writes-still (length bs) m place (next_place place) b ∙ parts.1)

  module _ (ops : Operations W F B) (ops' : Operations W' F' B') (followed : IsFollowed same ops ops') where
    bytes_from-same : (size k : ℕ) (w : W) (w' : W') → same.word w w' → k + size ≤ 8
        → All2 same.byte (bytes_from ops w k size) (bytes_from ops' w' k size)
    bytes_from-same zero k w w' h fits = tt
    bytes_from-same (suc size) k w w' h fits =
        (followed.byte_of w w' h k (omega arith), bytes_from-same size (k + 1) w w' h (omega arith))

    bytes_from-length : (size k : ℕ) (w : W) → length (bytes_from ops w k size) ≡ size
    bytes_from-length zero k w = refl
    bytes_from-length (suc size) k w = ap suc (bytes_from-length size (k + 1) w)

    pub load-reach : (m : M) (m' : M') → Same m m' → (place size : ℕ) → IsSize size
        → Reaches same.word (load_of ops acc m place size) (load_of ops' acc' m' place size)
    unfolding load_of
    load-reach m m' h place size some =
        reaches-reached (IsRead size) same.word ops.joined ops'.joined _ _ (bytes-reach size m m' h place)
        (λ bs bs' p. followed.joined bs bs' p.0 (rw p.1 some))

    stored-reach : (m : M) (m' : M') → Same m m' → (place size : ℕ) → size ≤ 8 → (w : W) (w' : W') → same.word w w'
        → (r r' : Result (Unit {0}) Refusal) → all_write acc m place size ≡ r
        → Reaches (λ (a : Unit {0}) (b : Unit {0}). Unit {0}) r r'
        → Reaches Same (reached (λ done. put_all acc m place (bytes_from ops w 0 size)) r)
        (reached (λ done. put_all acc' m' place (bytes_from ops' w' 0 size)) r')
    stored-reach m m' h place size within w w' x (Ok done) (Ok done') all reach =
        put-same (bytes_from ops w 0 size) (bytes_from ops' w' 0 size) m m' h place
        (bytes_from-same size 0 w w' x (omega arith)) (rw (bytes_from-length size 0 w) all)
    stored-reach m m' h place size within w w' x (Ok done) (Err why) all reach = absurd reach
    stored-reach m m' h place size within w w' x (Err Refused) (Ok done) all reach = absurd reach
    stored-reach m m' h place size within w w' x (Err Refused) (Err Refused) all reach = tt
    stored-reach m m' h place size within w w' x (Err Refused) (Err Shut) all reach = absurd reach
    stored-reach m m' h place size within w w' x (Err Shut) r' all reach = tt

    pub store-reach : (m : M) (m' : M') → Same m m' → (place size : ℕ) → IsSize size → (w : W) (w' : W')
        → same.word w w'
        → Reaches Same (store_of ops acc m place size w) (store_of ops' acc' m' place size w')
    unfolding store_of
    store-reach m m' h place size some w w' x =
        stored-reach m m' h place size (size_within size some) w w' x _ _ refl (writes-reach size m m' h place)
