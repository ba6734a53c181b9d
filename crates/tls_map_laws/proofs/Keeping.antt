-- What a thread holds is what the map says: stores, looks and reaches keep it so, at rising fronts of a history.
use Rattle.std.proofs.Common.{◌≡◌, ◌∙◌, ◌⊎◌, ◌++◌, ◌==◌, ◌&&◌, ℕ, Bool, true, false, List, [], ◌∷◌, refl, sym, ap}
use Rattle.std.proofs.Common.{subst, inl, inr}
use Rattle.std.specs.Prelude.{◌||◌, IfSome, is_some}
use Rattle.std.specs.List.{filter, flat_map}
use Rattle.std.proofs.lemmas.Bool.{cases_Bool, eq-eqb, eqb-true, ne_eqb, and_parts}
use Rattle.guest_machine.specs.Ranges.{Range, with_byte}
use Rattle.loaded_modules.specs.declared.instance.Instance.{Instance}
use Rattle.module_table.specs.declared.events.Event.{Event}
use Rattle.thread_blocks.specs.Held.{Owned, Owner, held_of, loaded_at, looked_at, owned, owners_of, ranges_in}
use Rattle.thread_blocks.specs.Held.{reached_at}
use Rattle.thread_blocks.specs.Instances.{Loads, instances}
use Rattle.thread_blocks.specs.Turns.{IsFront}
use Rattle.tls_map_laws.specs.Map.{Act, Asked, has_storage, is_among}
use Rattle.tls_map_laws.specs.Acts.{is_in, look_of, numbers, stored_in}
use Rattle.tls_map_laws.proofs.Bytes.{bytes_after}
use Rattle.tls_map_laws.proofs.Entries.{AreData, Each, blocks, put_owners, put_ranges, rest_data, rest_of, stored_put}
use Rattle.tls_map_laws.proofs.Places.{Member}
use Rattle.tls_map_laws.proofs.Known.{IsLow, Known, front_then, known_front}
use Rattle.tls_map_laws.proofs.Looks.{IsGood, held_blocks, made_data}

-- ** lists

owned_again : {B : Type 0} (xs : List (Owned B)) → owned (owners_of xs) (ranges_in xs) ≡ xs
owned_again [] = refl
owned_again (x ∷ xs) = ap (λ more. x ∷ more) (owned_again xs)

pub each_of : (P : Instance → Type 0) (ys : List Instance) → ((y : Instance) → Member y ys → P y) → Each P ys
each_of P [] h = tt
each_of P (y ∷ ys) h = (h y (inl refl), each_of P ys (λ z m. h z (inr m)))

or_true : (b : Bool) → (b || true) ≡ true
or_true true = refl
or_true false = refl

pub among : (x : Instance) (ys : List Instance) → Member x ys → is_among x.number (numbers ys) ≡ true
among x [] m = absurd m
among x (y ∷ ys) (inl same) = let e = eq-eqb y.number x.number (ap (λ (z : Instance). z.number) same) in rw e refl
among x (y ∷ ys) (inr m) = let rest = among x ys m in rw rest (or_true (y.number == x.number))

pub record IsAmong (n : ℕ) (ys : List Instance) : Type 0 where
  pub x : Instance
  pub member : Member x ys
  pub number : x.number ≡ n

among_of : (n : ℕ) (ys : List Instance) → is_among n (numbers ys) ≡ true → IsAmong n ys
among_of n [] e = cc
among_of n (y ∷ ys) e = elim (cases_Bool (y.number == n)) [
  | inl t ↦ record { x = y; member = inl refl; number = eqb-true y.number n t }
  | inr f ↦
      let later = among_of n ys (rw f at e) in
      record { x = later.x; member = inr later.member; number = later.number }
]

-- of instances with numbers of their own
at_once_is : (x : Instance) (ys : List Instance) → Member x ys
    → ((y : Instance) → Member y ys → y.number ≡ x.number → y ≡ x)
    → is_among x.number (numbers (filter (λ (y : Instance). is_some y.offset) ys)) ≡ is_some x.offset
at_once_is x ys m one = elim (cases_Bool (is_some x.offset)) [
  | inl t ↦ yes_in ys m t ∙ sym t
  | inr f ↦ none_in ys one f ∙ sym f
]
  where
    yes_in : (ys : List Instance) → Member x ys → is_some x.offset ≡ true
        → is_among x.number (numbers (filter (λ (y : Instance). is_some y.offset) ys)) ≡ true
    yes_in [] m t = absurd m
    yes_in (y ∷ ys) (inl same) t =
        let here : is_some y.offset ≡ true = ap (λ (z : Instance). is_some z.offset) same ∙ t in
        let e = eq-eqb y.number x.number (ap (λ (z : Instance). z.number) same) in
        rw (here, e) refl
    yes_in (y ∷ ys) (inr m) t =
        let rest = yes_in ys m t in
        elim (cases_Bool (is_some y.offset)) [
          | inl s ↦ rw (s, rest) (or_true (y.number == x.number))
          | inr n ↦ rw n rest
        ]

    none_in : (ys : List Instance) → ((y : Instance) → Member y ys → y.number ≡ x.number → y ≡ x)
        → is_some x.offset ≡ false
        → is_among x.number (numbers (filter (λ (y : Instance). is_some y.offset) ys)) ≡ false
    none_in [] one f = refl
    none_in (y ∷ ys) one f =
        let rest = none_in ys (λ z m. one z (inr m)) f in
        elim (cases_Bool (is_some y.offset)) [
          | inr n ↦ rw n rest
          | inl s ↦
              let ne : (y.number ≡ x.number → ⊥) = λ (e : y.number ≡ x.number).
              (let both : true ≡ false = sym s ∙ (ap (λ (z : Instance). is_some z.offset) (one y (inl refl) e) ∙ f) in
              absurd (let b = both in cc)) in
              let no = ne_eqb y.number x.number ne in
              rw (s, no) rest
        ]

module _ {B : Type 0} (l : Loads B) (thread : ℕ) (history : List Event) (known : Known l thread history) where
  -- a thread that did this, and saw these events, has these ranges
  pub record Fits (acts : List (Act B)) (seen : List Event) (os : List Owner) (rs : List (Range B)) : Type 0 where
    pub rest : List (Owned B)
    pub data_behind : AreData rest
    pub owners : os ≡ owners_of (blocks l thread acts (instances l seen) ++ rest)
    pub ranges : rs ≡ ranges_in (blocks l thread acts (instances l seen) ++ rest)
    pub front : IsFront seen history
    pub live : (n : ℕ) → has_storage n acts ≡ true → IsAmong n (instances l seen)
    pub untouched : (later : List Event) → IsFront seen later → IsFront later history → (y : Instance)
        → Member y (instances l later) → has_storage y.number acts ≡ false
        → bytes_after y.number (l.block y) acts ≡ l.block y

  -- ** stores

  stored_has : (n : ℕ) (ys : List Instance) (place : ℕ) (byte : B) (acts : List (Act B))
      → has_storage n (stored_in l thread ys place byte acts) ≡ has_storage n acts
  stored_has n [] place byte acts = refl
  stored_has n (y ∷ ys) place byte acts = elim (cases_Bool (has_storage y.number acts && is_in l thread y place)) [
    | inl t ↦ rw t refl
    | inr f ↦ rw f (stored_has n ys place byte acts)
  ]

  stored_bytes : (y : Instance) (ys : List Instance) (place : ℕ) (byte : B) (acts : List (Act B))
      → has_storage y.number acts ≡ false
      → bytes_after y.number (l.block y) (stored_in l thread ys place byte acts) ≡ bytes_after y.number (l.block y) acts
  stored_bytes y [] place byte acts none = refl
  stored_bytes y (z ∷ ys) place byte acts none =
      elim (cases_Bool (has_storage z.number acts && is_in l thread z place)) [
        | inl t ↦
            let has = (and_parts (has_storage z.number acts) (is_in l thread z place) t).0 in
            let ne : (z.number ≡ y.number → ⊥) = λ (e : z.number ≡ y.number).
            (let both : true ≡ false = sym has ∙ (ap (λ (n : ℕ). has_storage n acts) e ∙ none) in
            absurd (let b = both in cc)) in
            let no = ne_eqb z.number y.number ne in
            rw (t, no) refl
        | inr f ↦ rw f (stored_bytes y ys place byte acts none)
      ]

  pub stored_fits : (acts : List (Act B)) (seen : List Event) (os : List Owner) (rs : List (Range B)) (place : ℕ)
      (byte : B)
      → Fits acts seen os rs
      → Fits (stored_in l thread (instances l seen) place byte acts) seen os (with_byte rs place byte)
  stored_fits acts seen os rs place byte fits =
      let live = instances l seen in
      let after = stored_in l thread live place byte acts in
      let put = stored_put l thread live acts fits.rest place byte (known.again.own seen fits.front) in
      record {
        rest = rest_of l thread live acts fits.rest place byte;
        data_behind = rest_data l thread live acts fits.rest place byte fits.data_behind;
        owners = fits.owners ∙ (sym (put_owners (blocks l thread acts live ++ fits.rest) place byte)
            ∙ ap (λ xs. owners_of xs) put);
        ranges = ap (λ xs. with_byte xs place byte) fits.ranges
            ∙ (sym (put_ranges (blocks l thread acts live ++ fits.rest) place byte) ∙ ap (λ xs. ranges_in xs) put);
        front = fits.front;
        live = λ n t. fits.live n (sym (stored_has n live place byte acts) ∙ t);
        untouched = λ later f g y m none.
            let none = sym (stored_has y.number live place byte acts) ∙ none in
            stored_bytes y live place byte acts none ∙ fits.untouched later f g y m none;
      }

  -- ** looks

  -- what was held, as owners and ranges
  pub held_is : (acts : List (Act B)) (seen : List Event) (os : List Owner) (rs : List (Range B))
      (fits : Fits acts seen os rs)
      → owned os rs ≡ blocks l thread acts (instances l seen) ++ fits.rest
  held_is acts seen os rs fits =
      ap (λ os. owned os rs) fits.owners
      ∙ (ap (λ rs. owned (owners_of (blocks l thread acts (instances l seen) ++ fits.rest)) rs) fits.ranges
      ∙ owned_again (blocks l thread acts (instances l seen) ++ fits.rest))

  pub lows : (seen : List Event) → IsFront seen history
      → Each (λ (y : Instance). IfSome (l.shared y) IsLow) (instances l seen)
  lows seen g = each_of (λ y. IfSome (l.shared y) IsLow) (instances l seen) (λ y m. known.low seen g y m)

  one_of : (acts : List (Act B)) (old seen : List Event) (os : List Owner) (rs : List (Range B)) → Fits acts old os rs
      → IsFront old seen → IsFront seen history → (y : Instance) → Member y (instances l seen)
      → has_storage y.number acts ≡ true → Member y (instances l old)
  one_of acts old seen os rs fits f g y m t =
      let held = fits.live y.number t in
      let same = known.again.one seen old g fits.front y held.x m held.member held.number in
      subst (λ (z : Instance). Member z (instances l old)) same held.member

  -- the law: a look
  pub look_fits : (acts : List (Act B)) (old seen : List Event) (os : List Owner) (rs : List (Range B))
      → Fits acts old os rs
      → IsFront old seen → IsFront seen history
      → let xs = looked_at l thread seen (owned os rs) in
      Fits (look_of (instances l seen) ∷ acts) seen (owners_of xs) (ranges_in xs)
  unfolding looked_at
  look_fits acts old seen os rs fits f g =
      let now = instances l seen in
      let was = instances l old in
      let after = look_of now ∷ acts in
      let held = held_is acts old os rs fits in
      let good = each_of (IsGood l thread was acts after (λ y. is_some y.offset)) now (λ y m. record {
        one = each_of (λ z. z.number ≡ y.number → z ≡ y) was (λ z n e. known.again.one seen old g fits.front y z m n e);
        member = λ t. one_of acts old seen os rs fits f g y m t;
        untouched = λ none. fits.untouched seen f g y m none;
        has =
            let live = among y now m in
            let once = at_once_is y now m (λ z n e. known.again.one seen seen g g y z m n e) in
            rw (live, once) refl;
        bytes = refl;
      }) in
      let made = ap (λ xs. held_of l thread (λ x. is_some x.offset) (λ x. false) now xs) held
      ∙ held_blocks l thread (λ x. is_some x.offset) (λ x. false) now was acts after fits.rest fits.data_behind good in
      record {
        rest = flat_map _ now;
        data_behind = made_data l thread (λ x. false) acts was fits.rest now fits.data_behind (lows seen g);
        owners = ap (λ xs. owners_of xs) made;
        ranges = ap (λ xs. ranges_in xs) made;
        front = g;
        live = λ n t. among_of n now (and_parts (is_among n (numbers now)) _ t).0;
        untouched = λ later ff gg y m none. elim (cases_Bool (has_storage y.number acts)) [
          | inr off ↦ fits.untouched later (front_then old seen later f ff) gg y m off
          | inl t ↦
              let before = one_of acts old later os rs fits (front_then old seen later f ff) gg y m t in
              let still = known.again.stays old seen later f ff gg y before m in
              let live = among y now still in
              absurd (let both : true ≡ false = rw (live, t) at none in cc)
        ];
      }

  -- where what is live stays
  again_good : (acts acts' : List (Act B)) (seen : List Event) (os : List Owner) (rs : List (Range B))
      (wanted : Instance → Bool) → Fits acts seen os rs
      → ((y : Instance) → has_storage y.number acts' ≡ (has_storage y.number acts || wanted y))
      → ((y : Instance) → bytes_after y.number (l.block y) acts' ≡ bytes_after y.number (l.block y) acts)
      → Each (IsGood l thread (instances l seen) acts acts' wanted) (instances l seen)
  again_good acts acts' seen os rs wanted fits has bytes =
      let now = instances l seen in
      let g = fits.front in
      each_of (IsGood l thread now acts acts' wanted) now (λ y m. record {
        one = each_of (λ z. z.number ≡ y.number → z ≡ y) now (λ z n e. known.again.one seen seen g g y z m n e);
        member = λ t. m;
        untouched = λ none. fits.untouched seen ([], sym (append_none seen)) g y m none;
        has = has y;
        bytes = bytes y;
      })
    where
      append_none : {E : Type 0} (xs : List E) → xs ++ [] ≡ xs
      append_none [] = refl
      append_none (x ∷ xs) = ap (λ more. x ∷ more) (append_none xs)

  or_parts : (a b : Bool) → (a || b) ≡ true → (a ≡ true) ⊎ (b ≡ true)
  or_parts true b e = inl refl
  or_parts false b e = inr e

  or_none : (a b : Bool) → (a || b) ≡ false → a ≡ false
  or_none true b e = e
  or_none false b e = refl

  or_false : (a : Bool) → a ≡ (a || false)
  or_false true = refl
  or_false false = refl

  -- the law: a reach
  pub reach_fits : (acts : List (Act B)) (seen : List Event) (os : List Owner) (rs : List (Range B)) (x : Instance)
      → Fits acts seen os rs → Member x (instances l seen)
      → let xs = reached_at l thread seen x (owned os rs) in
      Fits (Asked x.number ∷ acts) seen (owners_of xs) (ranges_in xs)
  unfolding reached_at
  reach_fits acts seen os rs x fits member =
      let now = instances l seen in
      let after = Asked x.number ∷ acts in
      let good = again_good acts after seen os rs (λ y. y.number == x.number) fits (λ y. refl) (λ y. refl) in
      let made = ap (λ xs. held_of l thread (λ y. y.number == x.number) (λ y. false) now xs)
      (held_is acts seen os rs fits)
      ∙ held_blocks l thread (λ y. y.number == x.number)
      (λ y. false) now now acts after fits.rest fits.data_behind good in
      record {
        rest = flat_map _ now;
        data_behind = made_data l thread (λ y. false) acts now fits.rest now fits.data_behind (lows seen fits.front);
        owners = ap (λ xs. owners_of xs) made;
        ranges = ap (λ xs. ranges_in xs) made;
        front = fits.front;
        live = λ n t. elim (or_parts (has_storage n acts) (n == x.number) t) [
          | inl had ↦ fits.live n had
          | inr is ↦ record { x = x; member = member; number = sym (eqb-true n x.number is) }
        ];
        untouched = λ later f g y m none.
            fits.untouched later f g y m (or_none (has_storage y.number acts) (y.number == x.number) none);
      }

  -- the law: a load of an instance's data
  pub load_fits : (acts : List (Act B)) (seen : List Event) (os : List Owner) (rs : List (Range B)) (x : Instance)
      → Fits acts seen os rs
      → let xs = loaded_at l thread seen x (owned os rs) in Fits acts seen (owners_of xs) (ranges_in xs)
  unfolding loaded_at
  load_fits acts seen os rs x fits =
      let now = instances l seen in
      let good = again_good acts acts seen os rs (λ y. false) fits (λ y. or_false (has_storage y.number acts))
      (λ y. refl) in
      let made = ap (λ xs. held_of l thread (λ y. false) (λ y. y.number == x.number) now xs)
      (held_is acts seen os rs fits)
      ∙ held_blocks l thread (λ y. false)
      (λ y. y.number == x.number) now now acts acts fits.rest fits.data_behind good in
      record {
        rest = flat_map _ now;
        data_behind = made_data l thread (λ y. y.number == x.number) acts now fits.rest now fits.data_behind
            (lows seen fits.front);
        owners = ap (λ xs. owners_of xs) made;
        ranges = ap (λ xs. ranges_in xs) made;
        front = fits.front;
        live = fits.live;
        untouched = fits.untouched;
      }

-- what fits a history fits each of its fronts that the thread has not passed
pub fits_front : {B : Type 0} (l : Loads B) (thread : ℕ) (history : List Event) (known : Known l thread history)
    (acts : List (Act B)) (seen : List Event) (os : List Owner) (rs : List (Range B)) (shorter : List Event)
    (to : IsFront shorter history) → IsFront seen shorter → Fits l thread history known acts seen os rs
    → Fits l thread shorter (known_front l thread shorter history to known) acts seen os rs
fits_front l thread history known acts seen os rs shorter to front fits = record {
  rest = fits.rest;
  data_behind = fits.data_behind;
  owners = fits.owners;
  ranges = fits.ranges;
  front = front;
  live = fits.live;
  untouched = λ later f g y m none. fits.untouched later f (front_then later shorter history g to) y m none;
}
