-- In all fronts of a legal history an instance number stands for one instance, and an id of a live instance is its own.
use Rattle.std.proofs.Common.{◌≡◌, ◌∙◌, ◌+◌, ◌<◌, ◌≤◌, ◌^◌, ℕ, zero, suc, List, [], ◌∷◌, length, Option, Some, None}
use Rattle.std.proofs.Common.{refl, sym, ap, subst, inl, inr, arith}
use Rattle.std.proofs.Math.Seq.{take-append_seam}
use Rattle.std.specs.Prelude.{◌==◌, take, drop}
use Rattle.std.specs.Option.{option_or}
use Rattle.std.proofs.lemmas.Bool.{cases_eq, eq-eqb, eqb-true}
use Rattle.std.proofs.lemmas.List.{take-append-drop, length-append}
use Rattle.loaded_modules.specs.declared.instance.Instance.{Instance}
use Rattle.module_table.specs.declared.events.Event.{Event}
use Rattle.module_table.specs.Past.{IsLegal}
use Rattle.module_table.proofs.Along.{past_legal}
use Rattle.module_table.proofs.LawsOfNumbers.{own_numbers}
use Rattle.module_table.proofs.Steps.{numbered_at}
use Rattle.thread_blocks.specs.Instances.{Loads, left_by, loaded_instance, instances_in, numbered_instance}
use Rattle.thread_blocks.specs.Instances.{instance_with_id}
use Rattle.thread_blocks.specs.Turns.{IsFront}
use Rattle.known_instances.specs.Laws.{IdsAreOwn, IsLiveAt, KnownInstancesLived, NumbersAreKnown}
use Rattle.known_instances.specs.Known.{known_from, known_in}
use Rattle.known_instances.proofs.Found.{module_at, loaded_as, loaded_is, found_is}
use Rattle.known_instances.proofs.OneInstance.{legal_before, numbered_is, same_instance}

-- ** fronts

-- of two fronts the longer one continues the shorter
take_more : {X : Type 0} (xs : List X) (j k : ℕ) → j ≤ k → IsFront (take j xs) (take k xs)
take_more xs zero k le = (take k xs, refl)
take_more [] (suc j) zero le = absurd (omega arith)
take_more [] (suc j) (suc k) le = ([], refl)
take_more (x ∷ xs) (suc j) zero le = absurd (omega arith)
take_more (x ∷ xs) (suc j) (suc k) le = let r = take_more xs j k (omega arith) in (r.0, ap (λ ys. x ∷ ys) r.1)

module _ (q : Loads ℕ) (history : List Event) (legal : IsLegal q.infos q.last_offset history) where
  -- what a thread has seen is a legal history too
  pub legal_front : (seen : List Event) → IsFront seen history → IsLegal q.infos q.last_offset seen
  legal_front seen front = legal_before q.infos q.last_offset seen front.0
      (subst (IsLegal q.infos q.last_offset) front.1 legal)

  legal_take : (k : ℕ) → IsLegal q.infos q.last_offset (take k history)
  legal_take k = legal_front (take k history) (drop k history, sym (take-append-drop k history))

  -- two fronts have one instance under a number, if both have one
  same_fronts : (j k n : ℕ) (x y : Instance) → j ≤ k → numbered_instance q (take j history) n ≡ Some x
      → numbered_instance q (take k history) n ≡ Some y → x ≡ y
  same_fronts j k n x y le at_j at_k =
      let more = take_more history j k le in
      same_instance q.infos q.last_offset (take j history) more.0 n x y
      (subst (IsLegal q.infos q.last_offset) more.1 (legal_take k)) at_j
      (subst (λ (events : List Event). numbered_instance q events n ≡ Some y) more.1 at_k)

  -- the search from k events on comes to the front of j, or finds the same instance before
  known_step : (j k more n : ℕ) (x : Instance) → numbered_instance q (take j history) n ≡ Some x → k ≤ j
      → (k + 1 ≤ j → known_from q history n (k + 1) more ≡ Some x)
      → (o : Option Instance) → numbered_instance q (take k history) n ≡ o
      → option_or o (known_from q history n (k + 1) more) ≡ Some x
  known_step j k more n x at low rest None e = elim (cases_eq k j) [
    | inl same ↦ let none : numbered_instance q (take j history) n ≡ None =
        subst (λ (i : ℕ). numbered_instance q (take i history) n ≡ None) same e in cc
    | inr ne ↦ rest (omega arith)
  ]
  known_step j k more n x at low rest (Some y) e = ap (λ (z : Instance). Some z) (same_fronts k j n y x low e at)

  known_after : (j n : ℕ) (x : Instance) → numbered_instance q (take j history) n ≡ Some x → (k more : ℕ) → k ≤ j
      → j ≤ k + more
      → known_from q history n k more ≡ Some x
  known_after j n x at k zero low high =
      let same : j ≡ k = omega arith in
      subst (λ (i : ℕ). numbered_instance q (take i history) n ≡ Some x) same at
  known_after j n x at k (suc more) low high =
      known_step j k more n x at low (λ l. known_after j n x at (k + 1) more l (omega arith))
      (numbered_instance q (take k history) n) refl

  -- who is live in a front is the known one
  pub known_is : (seen : List Event) (n : ℕ) (x : Instance) → IsFront seen history → numbered_instance q seen n ≡ Some x
      → known_in q history n ≡ Some x
  unfolding known_in
  known_is seen n x front at =
      let is : take (length seen) history ≡ seen = ap (take (length seen)) front.1 ∙ take-append_seam seen front.0 in
      let long : length history ≡ length seen + length front.0 =
      ap (λ (events : List Event). length events) front.1 ∙ length-append seen front.0 in
      known_after (length seen) n x
      (subst (λ (events : List Event). numbered_instance q events n ≡ Some x) (sym is) at) 0
      (length history) (omega arith) (omega arith)

  -- ** each live instance

  -- the instance of a loaded image is found under its number, and by its id
  pub numbered_at_image : (seen : List Event) (a : ℕ) (x : Instance) → IsFront seen history
      → loaded_instance q.infos a (module_at q seen a) ≡ Some x → numbered_instance q seen x.number ≡ Some x
  unfolding instances_in
  numbered_at_image seen a x front e =
      let own = own_numbers q.infos q.last_offset seen (legal_front seen front) in
      let here = loaded_as q.infos a (module_at q seen a) x e in
      found_is q.infos (left_by q seen).modules (λ (y : Instance). y.number == x.number) a x e
      (eq-eqb x.number x.number refl)
      (λ b y f t. elim (cases_eq b a) [
        | inl same ↦ same
        | inr ne ↦
            let there = loaded_as q.infos b (module_at q seen b) y f in
            absurd ((own b a ne there.loaded here.loaded).0
            (ap (λ (z : Instance). z.number) there.is
            ∙ (eqb-true y.number x.number t ∙ sym (ap (λ (z : Instance). z.number) here.is))))
      ])

  id_at_image : (seen : List Event) (a : ℕ) (x : Instance) → IsFront seen history
      → loaded_instance q.infos a (module_at q seen a) ≡ Some x → instance_with_id q seen x.id ≡ Some x
  unfolding instances_in
  id_at_image seen a x front e =
      let own = own_numbers q.infos q.last_offset seen (legal_front seen front) in
      let here = loaded_as q.infos a (module_at q seen a) x e in
      found_is q.infos (left_by q seen).modules (λ (y : Instance). y.id == x.id) a x e (eq-eqb x.id x.id refl)
      (λ b y f t. elim (cases_eq b a) [
        | inl same ↦ same
        | inr ne ↦
            let there = loaded_as q.infos b (module_at q seen b) y f in
            absurd ((own b a ne there.loaded here.loaded).1
            (ap (λ (z : Instance). z.id) there.is ∙ (eqb-true y.id x.id t ∙ sym (ap (λ (z : Instance). z.id) here.is))))
      ])

  -- an id finds its own instance
  pub ids : (seen : List Event) (x : Instance) → IsFront seen history → numbered_instance q seen x.number ≡ Some x
      → instance_with_id q seen x.id ≡ Some x
  ids seen x front e =
      let f = numbered_is q.infos (left_by q seen) x.number x e in
      id_at_image seen f.image x front
      (loaded_is q.infos f.image (module_at q seen f.image) f.loaded ∙ ap (λ (y : Instance). Some y) f.is)

  -- the number of a live instance
  pub number_low : (seen : List Event) (n : ℕ) (x : Instance) → IsFront seen history
      → numbered_instance q seen n ≡ Some x
      → n < 2 ^ 12
  number_low seen n x front e =
      let f = numbered_is q.infos (left_by q seen) n x e in
      let is = past_legal q.infos q.last_offset seen (legal_front seen front) in
      let low : (module_at q seen f.image).instance ≤ (left_by q seen).made =
      (numbered_at (left_by q seen) f.image is).instance f.loaded in
      omega (arith, low, is.made, f.number)

-- ** what is known was live at some time, in any history

module _ (q : Loads ℕ) (history : List Event) where
  abbrev IsLive : ℕ → Instance → Type 0
  IsLive n x = IsLiveAt q history n x

  live_take : (k n : ℕ) (x : Instance) → numbered_instance q (take k history) n ≡ Some x → IsLive n x
  live_take k n x e = record
      { seen = take k history; front = (drop k history, sym (take-append-drop k history)); live = e }

  live_step : (k more n : ℕ) (x : Instance) → (known_from q history n (k + 1) more ≡ Some x → IsLive n x)
      → (o : Option Instance) → numbered_instance q (take k history) n ≡ o
      → option_or o (known_from q history n (k + 1) more) ≡ Some x → IsLive n x
  live_step k more n x rest None e f = rest f
  live_step k more n x rest (Some y) e f = live_take k n x (e ∙ f)

  live_from : (n : ℕ) (x : Instance) (k more : ℕ) → known_from q history n k more ≡ Some x → IsLive n x
  live_from n x k zero e = live_take k n x e
  live_from n x k (suc more) e =
      live_step k more n x (live_from n x (k + 1) more) (numbered_instance q (take k history) n) refl e

  pub known_live : (n : ℕ) (x : Instance) → known_in q history n ≡ Some x → IsLive n x
  unfolding known_in
  known_live n x e = live_from n x 0 (length history) e

  -- who is found under a number has it
  pub numbered_number : (seen : List Event) (n : ℕ) (x : Instance) → numbered_instance q seen n ≡ Some x → x.number ≡ n
  numbered_number seen n x e =
      let f = numbered_is q.infos (left_by q seen) n x e in
      sym (ap (λ (y : Instance). y.number) f.is) ∙ f.number

-- ** the laws

pub numbers_known : NumbersAreKnown
numbers_known q history legal seen number x front at = known_is q history legal seen number x front at

pub known_lived : KnownInstancesLived
known_lived q history number x e =
    let live = known_live q history number x e in
    (live, numbered_number q history live.seen number x live.live)

pub ids_own : IdsAreOwn
ids_own q history legal seen x front e = ids q history legal seen x front e
