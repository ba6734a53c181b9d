-- What a thread holds after a look, a reach or a load, of data that hold what was left there last.
use Rattle.std.proofs.Common.{◌≡◌, ◌∙◌, ◌⊎◌, ◌==◌, ℕ, Bool, true, false, List, [], ◌∷◌, ◌++◌, Option, Some, None, refl}
use Rattle.std.proofs.Common.{sym, ap, subst, inl, inr}
use Rattle.std.specs.Prelude.{is_some, slice_get}
use Rattle.std.specs.List.{flat_map}
use Rattle.std.specs.Option.{option_or}
use Rattle.std.proofs.lemmas.Bool.{cases_eq, eq-eqb, ne_eqb}
use Rattle.guest_machine.specs.Ranges.{Range}
use Rattle.loaded_modules.specs.declared.instance.Instance.{Instance}
use Rattle.module_table.specs.declared.events.Event.{Event}
use Rattle.thread_blocks.specs.Held.{Data, Held, Owned, block_after, data_after, data_bytes, data_with, fresh_data}
use Rattle.thread_blocks.specs.Held.{held_of, is_block, loaded, loaded_at, looked, looked_at, owned, owned_by}
use Rattle.thread_blocks.specs.Held.{owners_of, ranges_in, reached, reached_at, with_owned}
use Rattle.thread_blocks.specs.Instances.{Loads, instances}
use Rattle.shared_data.specs.Changes.{Change, Filled, last_left}
use Rattle.shared_data.specs.Told.{filled, filled_with}
use Rattle.shared_data.proofs.Last.{append_none, filled_other, filled_there, last_reached, last_spared}
use Rattle.shared_data.proofs.Fits.{Fits, HasAll, HasIts, HaveOwnNumbers, IsBlock, IsLive, all_blocks, held_fits}
use Rattle.shared_data.proofs.Fits.{keeps_its}
use Rattle.shared_data.proofs.Left.{Apart, AreLeft, Each, IsLeft, Other, each_any, each_append, found_left}

-- what has the number of x is x
abbrev pub AreOne : Instance → List Instance → Type 0
AreOne x ys = Each (λ (y : Instance). y.number ≡ x.number → y ≡ x) ys

-- a thread holds data as they were left
abbrev pub HoldsLeft : {W F B : Type 0} → List (Change B) → Held W F B → Type 0
HoldsLeft log h = Apart h.owners × AreLeft log (owned h.owners h.after.memory.own)

-- a memory where these events were seen, and each range lies where a live instance has it
abbrev pub Stands : {B : Type 0} → Loads B → ℕ → List Event → List Event → List (Owned B) → Type 0
Stands l thread seen now xs = (now ≡ seen) × Fits l thread (instances l seen) xs

-- a thread that has seen these events holds data as they were left, and all of them, where they lie
abbrev pub Holds : {W F B : Type 0} → Loads B → ℕ → List Event → List (Change B) → Held W F B → Type 0
Holds l thread seen log h = Apart h.owners × (AreLeft log (owned h.owners h.after.memory.own)
    × Stands l thread seen h.after.memory.seen (owned h.owners h.after.memory.own))

owned_again : {B : Type 0} (xs : List (Owned B)) → owned (owners_of xs) (ranges_in xs) ≡ xs
owned_again [] = refl
owned_again (x ∷ xs) = ap (λ ys. x ∷ ys) (owned_again xs)

module _ {W F B : Type 0} where
  pub with_holds : (log : List (Change B)) (h : Held W F B) (xs : List (Owned B)) → Apart (owners_of xs)
      → AreLeft log xs
      → HoldsLeft log (with_owned h xs)
  with_holds log h xs apart left = (apart, subst (AreLeft log) (sym (owned_again xs)) left)

  pub with_owned_by : (h : Held W F B) (xs : List (Owned B)) → owned_by (with_owned h xs) ≡ xs
  with_owned_by h xs = owned_again xs

module _ {B : Type 0} where
  -- ** owners

  pub blocks_apart : (xs ys : List (Owned B)) → Each (λ (x : Owned B). is_block x.owner.kind ≡ true) xs
      → Apart (owners_of ys)
      → Apart (owners_of (xs ++ ys))
  blocks_apart [] ys blocks apart = apart
  blocks_apart (x ∷ xs) ys blocks apart = (
    each_any (Other x.owner) (owners_of (xs ++ ys)) (λ p d. absurd (let e : true ≡ false = sym blocks.0 ∙ d in cc)),
    blocks_apart xs ys blocks.1 apart,
  )

  data_apart : (x : Instance) (range : Option (Range B)) (bytes : Option (List B)) (ys : List (Owned B))
      → Each (Other (record { kind = Data; instance = x.number })) (owners_of ys) → Apart (owners_of ys)
      → Apart (owners_of (data_with x range bytes ++ ys))
  data_apart x None bytes ys beside apart = apart
  data_apart x (Some range) None ys beside apart = apart
  data_apart x (Some range) (Some bytes) ys beside apart = (beside, apart)

  data_beside : (x y : Instance) (range : Option (Range B)) (bytes : Option (List B)) (ys : List (Owned B))
      → (x.number ≡ y.number → ⊥) → Each (Other (record { kind = Data; instance = x.number })) (owners_of ys)
      → Each (Other (record { kind = Data; instance = x.number })) (owners_of (data_with y range bytes ++ ys))
  data_beside x y None bytes ys ne beside = beside
  data_beside x y (Some range) None ys ne beside = beside
  data_beside x y (Some range) (Some bytes) ys ne beside = ((λ d e same. ne same), beside)

module _ {B : Type 0} (l : Loads B) (loads : Instance → Bool) (xs : List (Owned B)) where
  beside_all : (x : Instance) (ys : List Instance) → Each (λ (y : Instance). x.number ≡ y.number → ⊥) ys
      → Each (Other (record { kind = Data; instance = x.number })) (owners_of (flat_map (data_after l loads xs) ys))
  beside_all x [] own = tt
  beside_all x (y ∷ ys) own =
      data_beside x y (l.shared y) _ (flat_map (data_after l loads xs) ys) own.0 (beside_all x ys own.1)

  all_apart : (ys : List Instance) → HaveOwnNumbers ys → Apart (owners_of (flat_map (data_after l loads xs) ys))
  all_apart [] own = tt
  all_apart (y ∷ ys) own =
      data_apart y (l.shared y) _ (flat_map (data_after l loads xs) ys) (beside_all y ys own.0) (all_apart ys own.1)

  -- ** bytes

  data_left : (log : List (Change B)) (y : Instance) (range : Option (Range B)) (bytes : Option (List B))
      → ((bs : List B) → bytes ≡ Some bs → (k : ℕ) (b : B) → slice_get bs k ≡ Some b
      → last_left y.number k log ≡ Some b) → AreLeft log (data_with y range bytes)
  data_left log y None bytes each = tt
  data_left log y (Some range) None each = tt
  data_left log y (Some range) (Some bytes) each = ((λ d k b e. each bytes refl k b e), tt)

  data_all : (log : List (Change B)) (ys : List Instance)
      → Each (λ (y : Instance). AreLeft log (data_after l loads xs y)) ys
      → AreLeft log (flat_map (data_after l loads xs) ys)
  data_all log [] each = tt
  data_all log (y ∷ ys) each = each_append (IsLeft log) (data_after l loads xs y) _ each.0 (data_all log ys each.1)

-- what no load makes
fresh_none : {B : Type 0} (range : Option (Range B)) (wanted : Bool) → wanted ≡ false → fresh_data range wanted ≡ None
fresh_none None wanted e = refl
fresh_none (Some range) wanted e = rw e refl

module _ {B : Type 0} (l : Loads B) (xs : List (Owned B)) (log : List (Change B)) (left : AreLeft log xs) where
  -- data that are kept, and what comes behind does not reach them
  kept_left : (loads : Instance → Bool) (more : List (Change B)) (y : Instance) → loads y ≡ false
      → ((k : ℕ) → last_left y.number k more ≡ None) → AreLeft (log ++ more) (data_after l loads xs y)
  kept_left loads more y unwanted none =
      data_left l loads xs (log ++ more) y (l.shared y) _ (λ bs e k b at.
      last_spared y.number k log more (none k)
      ∙ found_left log xs y.number bs
      (ap (λ (o : Option (List B)). option_or o (data_bytes y.number xs)) (sym (fresh_none (l.shared y)
      (loads y) unwanted)) ∙ e)
      left k b at)

  -- data that the loader fills
  fresh_left : (loads : Instance → Bool) (y : Instance) (range : Option (Range B)) → loads y ≡ true
      → AreLeft (log ++ filled_with y.number range)
      (data_with y range (option_or (fresh_data range (loads y)) (data_bytes y.number xs)))
  fresh_left loads y None wanted = tt
  fresh_left loads y (Some range) wanted =
      rw wanted (
        (λ d k b e. last_reached y.number k log (Filled y.number range.bytes ∷ []) b
            (filled_there y.number k range.bytes ∙ e)),
        tt,
      )

  filled_spares : (x : Instance) (n k : ℕ) (range : Option (Range B)) → (x.number ≡ n → ⊥)
      → last_left n k (filled_with x.number range) ≡ None
  filled_spares x n k None ne = refl
  filled_spares x n k (Some range) ne = filled_other x.number n k range.bytes ne

  load_one : (x y : Instance) → (y.number ≡ x.number → y ≡ x)
      → AreLeft (log ++ filled l x) (data_after l (λ z. z.number == x.number) xs y)
  load_one x y one = elim (cases_eq y.number x.number) [
    | inl same ↦
        let is : y ≡ x = one same in
        subst (λ (z : Instance). AreLeft (log ++ filled l z) (data_after l (λ u. u.number == x.number) xs y)) is
        (fresh_left (λ u. u.number == x.number) y (l.shared y) (eq-eqb y.number x.number same))
    | inr ne ↦ kept_left (λ z. z.number == x.number) (filled l x) y (ne_eqb y.number x.number ne)
        (λ k. filled_spares x y.number k (l.shared x) (λ e. ne (sym e)))
  ]

  pub load_each : (x : Instance) (ys : List Instance) → AreOne x ys
      → Each (λ (y : Instance). AreLeft (log ++ filled l x) (data_after l (λ z. z.number == x.number) xs y)) ys
  load_each x [] one = tt
  load_each x (y ∷ ys) one = (load_one x y one.0, load_each x ys one.1)

  pub keep_each : (ys : List Instance) → Each (λ (y : Instance). AreLeft log (data_after l (λ z. false) xs y)) ys
  keep_each ys = each_any _ ys (λ y.
      subst (λ (cs : List (Change B)). AreLeft cs (data_after l (λ z. false) xs y)) (append_none log)
      (kept_left (λ z. false) [] y refl (λ k. refl)))

-- ** what is held of live instances

pub blocks_left : {B : Type 0} (log : List (Change B)) (xs : List (Owned B)) → Each IsBlock xs → AreLeft log xs
blocks_left log [] blocks = tt
blocks_left log (x ∷ xs) blocks =
    ((λ d. absurd (let e : true ≡ false = sym blocks.0 ∙ d in cc)), blocks_left log xs blocks.1)

abbrev pub Numbered : {B : Type 0} → Loads B → List Event → Type 0
Numbered l seen = HaveOwnNumbers (instances l seen)

module _ {W F B : Type 0} (l : Loads B) (thread : ℕ) where
  held_left : (log : List (Change B)) (h : Held W F B) (reaches loads : Instance → Bool) (live : List Instance)
      (xs : List (Owned B)) → HaveOwnNumbers live
      → Each (λ (y : Instance). AreLeft log (data_after l loads xs y)) live
      → HoldsLeft log (with_owned h (held_of l thread reaches loads live xs))
  held_left log h reaches loads live xs own each =
      let blocks = all_blocks l thread reaches xs live in
      with_holds log h (held_of l thread reaches loads live xs)
      (blocks_apart (flat_map (block_after l thread reaches xs) live) _ blocks (all_apart l loads xs live own))
      (each_append (IsLeft log) (flat_map (block_after l thread reaches xs) live) _ (blocks_left log _ blocks)
      (data_all l loads xs log live each))

  -- ** looks

  pub look_left : (log : List (Change B)) (seen : List Event) (h : Held W F B) → Numbered l seen
      → AreLeft log (owned_by h) → HoldsLeft log (looked l thread seen h)
  unfolding looked_at
  look_left log seen h own left =
      held_left log h (λ x. is_some x.offset) (λ x. false) (instances l seen) (owned_by h) own
      (keep_each l (owned_by h) log left (instances l seen))

  pub reach_left : (log : List (Change B)) (x : Instance) (h : Held W F B) → Numbered l h.after.memory.seen
      → AreLeft log (owned_by h) → HoldsLeft log (reached l thread x h)
  unfolding reached_at
  reach_left log x h own left =
      held_left log h (λ y. y.number == x.number) (λ y. false) (instances l h.after.memory.seen) (owned_by h) own
      (keep_each l (owned_by h) log left (instances l h.after.memory.seen))

  pub load_left : (log : List (Change B)) (x : Instance) (h : Held W F B) → Numbered l h.after.memory.seen
      → AreOne x (instances l h.after.memory.seen) → AreLeft log (owned_by h)
      → HoldsLeft (log ++ filled l x) (loaded l thread x h)
  unfolding loaded_at
  load_left log x h own one left =
      held_left (log ++ filled l x) h (λ y. false) (λ y. y.number == x.number) (instances l h.after.memory.seen)
      (owned_by h) own
      (load_each l (owned_by h) log left x (instances l h.after.memory.seen) one)

  -- ** where it lies

  fits_with : (h : Held W F B) (live : List Instance) (xs : List (Owned B)) → Fits l thread live xs
      → Fits l thread live (owned_by (with_owned h xs))
  fits_with h live xs fits = subst (Fits l thread live) (sym (with_owned_by h xs)) fits

  -- where the data of each live instance are held, they are so after a look
  pub look_holds : (log : List (Change B)) (seen : List Event) (h : Held W F B) → Numbered l seen
      → AreLeft log (owned_by h) → HasAll l (instances l seen) (owned_by h)
      → Holds l thread seen log (looked l thread seen h)
  unfolding looked_at
  look_holds log seen h own left all =
      let kept = look_left log seen h own left in (
        kept.0,
        (
          kept.1,
          (
            refl,
            fits_with h (instances l seen) (looked_at l thread seen (owned_by h))
                (held_fits l thread (λ x. is_some x.offset) (λ x. false) (instances l seen) (owned_by h) own
                (λ y is. inr (all y is))),
          ),
        ),
      )

  -- after a look those that were held still are, though others are not
  pub look_keeps : (seen : List Event) (h : Held W F B) (y : Instance) → IsLive (instances l seen) y
      → HasIts l (owned_by h) y → HasIts l (owned_by (looked l thread seen h)) y
  unfolding looked_at
  look_keeps seen h y is its =
      subst (λ (xs : List (Owned B)). HasIts l xs y) (sym (with_owned_by h (looked_at l thread seen (owned_by h))))
      (keeps_its l thread (λ x. is_some x.offset) (λ x. false) (instances l seen) (owned_by h) y is (inr its))

  reach_fits : (x : Instance) (h : Held W F B) → Numbered l h.after.memory.seen
      → HasAll l (instances l h.after.memory.seen) (owned_by h)
      → Fits l thread (instances l h.after.memory.seen) (owned_by (reached l thread x h))
  unfolding reached_at
  reach_fits x h own all =
      let live = instances l h.after.memory.seen in
      fits_with h live (reached_at l thread h.after.memory.seen x (owned_by h))
      (held_fits l thread (λ y. y.number == x.number) (λ y. false) live (owned_by h) own (λ y is. inr (all y is)))

  pub reach_holds : (seen : List Event) (log : List (Change B)) (x : Instance) (h : Held W F B) → Numbered l seen
      → Holds l thread seen log h → Holds l thread seen log (reached l thread x h)
  reach_holds seen log x h own holds =
      let same = holds.1.1.0 in
      let here : Numbered l h.after.memory.seen = subst (Numbered l) (sym same) own in
      let kept = reach_left log x h here holds.1.0 in
      let all = subst (λ (s : List Event). HasAll l (instances l s) (owned_by h)) (sym same) holds.1.1.1.all in (
        kept.0,
        (
          kept.1,
          (
            same,
            subst (λ (s : List Event). Fits l thread (instances l s) (owned_by (reached l thread x h))) same
                (reach_fits x h here all),
          ),
        ),
      )

  -- a load fills the data of its instance, where those of all others are held
  pub load_holds : (seen : List Event) (log : List (Change B)) (x : Instance) (h : Held W F B) → Numbered l seen
      → AreOne x (instances l seen) → h.after.memory.seen ≡ seen → AreLeft log (owned_by h)
      → ((y : Instance) → IsLive (instances l seen) y → ((y.number == x.number) ≡ true) ⊎ HasIts l (owned_by h) y)
      → Holds l thread seen (log ++ filled l x) (loaded l thread x h)
  unfolding loaded_at
  load_holds seen log x h own one same left ready =
      let kept = load_left log x h (subst (Numbered l) (sym same) own)
      (subst (λ (s : List Event). AreOne x (instances l s)) (sym same) one) left in (
        kept.0,
        (
          kept.1,
          (
            same,
            fits_with h (instances l seen) (loaded_at l thread h.after.memory.seen x (owned_by h))
                (subst (λ (s : List Event). Fits l thread (instances l seen) (loaded_at l thread s x (owned_by h)))
                (sym same)
                (held_fits l thread (λ y. false) (λ y. y.number == x.number) (instances l seen)
                (owned_by h) own ready)),
          ),
        ),
      )
