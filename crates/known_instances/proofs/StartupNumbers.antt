-- The images that start with the program are the instances of their own numbers; no other has such a number.
use Rattle.std.proofs.Common.{◌≡◌, ◌∙◌, ◌<◌, ◌≤◌, ◌^◌, ℕ, List, Some, sym, ap, subst, inl, inr, arith}
use Rattle.std.proofs.lemmas.Bool.{cases_eq}
use Rattle.loaded_modules.specs.declared.instance.Instance.{Instance}
use Rattle.module_table.specs.declared.events.Event.{Event}
use Rattle.module_table.specs.Past.{startup_count}
use Rattle.module_table.specs.Past.{IsLegal}
use Rattle.module_table.proofs.LawsOfNumbers.{own_numbers}
use Rattle.thread_blocks.specs.Instances.{Loads, left_by, numbered_instance}
use Rattle.thread_blocks.specs.Turns.{IsFront}
use Rattle.known_instances.specs.Known.{known_in}
use Rattle.known_instances.proofs.Found.{module_at}
use Rattle.known_instances.proofs.Known.{legal_front, known_live, number_low, numbered_number}
use Rattle.known_instances.proofs.Placed.{placed_in}
use Rattle.known_instances.proofs.OneInstance.{numbered_is}
use Rattle.known_instances.proofs.Startup.{startup_kept}

module _ (q : Loads ℕ) (history : List Event) (legal : IsLegal q.infos q.last_offset history) where
  -- a startup image's instance has its number
  pub image_number : (seen : List Event) (n : ℕ) (x : Instance) → IsFront seen history
      → numbered_instance q seen n ≡ Some x → x.image ≤ startup_count q.infos → n ≡ x.image
  image_number seen n x front e low =
      let f = numbered_is q.infos (left_by q seen) n x e in
      let image : f.image ≡ x.image = ap (λ (y : Instance). y.image) f.is in
      let placed = placed_in q history legal seen n x front e in
      let s = startup_kept q.infos q.last_offset seen x.image (legal_front q history legal seen front)
      (omega (arith, placed.image)) low in
      sym f.number ∙ (ap (λ (i : ℕ). (module_at q seen i).instance) image ∙ s.instance)

  -- and such a number is of that image
  pub number_image : (seen : List Event) (n : ℕ) (x : Instance) → IsFront seen history
      → numbered_instance q seen n ≡ Some x → n ≤ startup_count q.infos → x.image ≡ n
  number_image seen n x front e low =
      let here = legal_front q history legal seen front in
      let f = numbered_is q.infos (left_by q seen) n x e in
      let image : f.image ≡ x.image = ap (λ (y : Instance). y.image) f.is in
      let placed = placed_in q history legal seen n x front e in
      let some : 0 < n = subst (λ (k : ℕ). 0 < k) (numbered_number q history seen n x e) placed.some in
      let s = startup_kept q.infos q.last_offset seen n here some low in
      elim (cases_eq f.image n) [
        | inl same ↦ sym image ∙ same
        | inr ne ↦ absurd ((own_numbers q.infos q.last_offset seen here f.image n ne f.loaded s.loaded).0
            (f.number ∙ sym s.instance))
      ]

  -- of each number that was given to an instance
  pub record IsGiven (n : ℕ) (x : Instance) : Type 0 where
    pub number : x.number ≡ n
    pub some : 0 < n
    pub low : n < 2 ^ 12
    pub startup : x.image ≤ startup_count q.infos → n ≡ x.image
    pub image : n ≤ startup_count q.infos → x.image ≡ n

  -- and so it is of each known instance
  pub known_given : (n : ℕ) (x : Instance) → known_in q history n ≡ Some x → IsGiven n x
  known_given n x e =
      let live = known_live q history n x e in
      let number = numbered_number q history live.seen n x live.live in
      record {
        number = number;
        some = subst (λ (k : ℕ). 0 < k) number (placed_in q history legal live.seen n x live.front live.live).some;
        low = number_low q history legal live.seen n x live.front live.live;
        startup = image_number live.seen n x live.front live.live;
        image = number_image live.seen n x live.front live.live;
      }
