-- A step of the machine does with a thread's blocks what the stores that it notes do with the map.
use Rattle.std.proofs.Common.{◌≡◌, ◌-◌, ℕ, Bool, true, false, List, [], ◌∷◌, length, refl, sym, subst, inl, inr, arith}
use Rattle.std.specs.Prelude.{if◌then◌else◌, nat_le, nat_lt}
use Rattle.std.proofs.lemmas.Bool.{cases_Bool, and_parts, false_from_ne_true, leb-true}
use Rattle.address_map.specs.Map.{stack_start}
use Rattle.guest_arithmetic.specs.Plain.{plain_operations}
use Rattle.guest_operands.specs.declared.space.Access.TheVariants.{Write}
use Rattle.guest_machine.specs.Access.{Accesses}
use Rattle.guest_machine.specs.Ranges.{Range, grants, with_byte}
use Rattle.guest_machine.specs.Run.{Next, Goes, Ends, Looks, machine}
use Rattle.guest_machine.specs.Use.{After, left}
use Rattle.loaded_modules.specs.declared.instance.Instance.{Instance}
use Rattle.module_table.specs.declared.events.Event.{Event}
use Rattle.thread_blocks.specs.Held.{Owner}
use Rattle.thread_blocks.specs.Instances.{Loads, instances}
use Rattle.thread_blocks.specs.RunTime.{thread_accesses}
use Rattle.thread_blocks.specs.Spaces.{Space, next_image, no_field, put_byte, space_accesses, stack_range}
use Rattle.thread_blocks.specs.SpaceLaws.{IsImage, after_of}
use Rattle.thread_blocks.proofs.Image.{machine_image}
use Rattle.tls_map_laws.specs.Map.{Act, has_storage}
use Rattle.tls_map_laws.specs.Acts.{Noted, is_in, noting, stored_in}
use Rattle.tls_map_laws.proofs.Entries.{Each}
use Rattle.tls_map_laws.proofs.Known.{Known}
use Rattle.tls_map_laws.proofs.Keeping.{Fits, each_of, stored_fits}

module _ {B : Type 0} (l : Loads B) (thread : ℕ) (history : List Event) (known : Known l thread history) where
  abbrev pub FitsIn : List (Act B) → List Owner → Space Event B → Type 0
  FitsIn acts os space = Fits l thread history known acts space.seen os space.own

  -- ** a store

  stored_none : (ys : List Instance) (place : ℕ) (byte : B) (acts : List (Act B))
      → Each (λ (y : Instance). is_in l thread y place ≡ false) ys → stored_in l thread ys place byte acts ≡ acts
  stored_none [] place byte acts none = refl
  stored_none (y ∷ ys) place byte acts none =
      let here = none.0 in
      let rest = stored_none ys place byte acts none.1 in
      elim (cases_Bool (has_storage y.number acts)) [
        | inl t ↦ rw (t, here) rest
        | inr f ↦ rw f rest
      ]

  either_put : (g : Bool) (acts acts' : List (Act B)) (os : List Owner) (space : Space Event B) (bytes : List B)
      (own : List (Range B)) → (g ≡ true → acts' ≡ acts) → FitsIn acts os space
      → FitsIn acts' os (record space { own = own })
      → FitsIn acts' os (if g then record space { stack = bytes } else record space { own = own })
  either_put true acts acts' os space bytes own none fits put =
      subst (λ (a : List (Act B)). FitsIn a os space) (sym (none refl)) fits
  either_put false acts acts' os space bytes own none fits put = put

  -- the law: a store, to the stack or to a block
  pub put_fits : (acts : List (Act B)) (os : List Owner) (space : Space Event B) (place : ℕ) (byte : B)
      → FitsIn acts os space
      → FitsIn (stored_in l thread (instances l space.seen) place byte acts) os
      (put_byte (stack_start thread) space place byte)
  put_fits acts os space place byte fits =
      let live = instances l space.seen in
      either_put (grants Write (stack_range (stack_start thread) space.stack) place) acts
      (stored_in l thread live place byte acts) os space _ (with_byte space.own place byte)
      (λ t. stored_none live place byte acts (each_of (λ y. is_in l thread y place ≡ false) live
      (λ y m. false_from_ne_true _ (λ is.
      let low = known.below space.seen fits.front y m place is in
      let high = leb-true (stack_start thread) place
      (and_parts (nat_le (stack_start thread) place) (nat_lt (place - stack_start thread) (length space.stack)) t).0 in
      absurd (omega (arith, low, high))))))
      fits (stored_fits l thread history known acts space.seen os space.own place byte fits)

  -- ** any step that changes memory by its accesses alone

  module _ (os : List Owner) (acc : Accesses (Space Event B) B)
      (puts : (space : Space Event B) (place : ℕ) (byte : B)
      → acc.put space place byte ≡ put_byte (stack_start thread) space place byte) where
    -- a noting memory with a proof that it fits what it notes
    abbrev pub Proved : Type 0
    Proved = (noted : Noted l thread) × FitsIn noted.acts os noted.space

    abbrev pub plain : Proved → Noted l thread
    plain p = p.0

    abbrev pub proved_accesses : Accesses Proved B
    proved_accesses = record {
      byte = λ p place. acc.byte p.0.space place;
      writes = λ p place. acc.writes p.0.space place;
      put = λ p place byte. (
        (noting l thread acc).put p.0 place byte,
        subst (λ (space : Space Event B). FitsIn
            (stored_in l thread (instances l p.0.space.seen) place byte p.0.acts) os
            space)
            (sym (puts p.0.space place byte)) (put_fits p.0.acts os p.0.space place byte p.1),
      );
      code = λ p place. acc.code p.0.space place;
    }

    pub proved_image : IsImage proved_accesses (noting l thread acc) plain
    proved_image = record {
      byte = λ p place. refl;
      writes = λ p place. refl;
      put = λ p place byte. refl;
      code = λ p place. refl;
    }

    abbrev pub NotedFits : {W F : Type 0} → Next (After W F (Noted l thread)) → Type 0
    NotedFits (Goes at) = FitsIn at.memory.acts os at.memory.space
    NotedFits (Ends stop) = Unit {0}
    NotedFits (Looks at) = FitsIn at.memory.acts os at.memory.space

    pub noted_fits : {W F : Type 0} (next : Next (After W F Proved)) → NotedFits (next_image (after_of plain) next)
    noted_fits (Goes at) = at.memory.1
    noted_fits (Ends stop) = tt
    noted_fits (Looks at) = at.memory.1

-- ** the machine

module _ (l : Loads ℕ) (thread : ℕ) (history : List Event) (known : Known l thread history) where
  abbrev pub acc : Accesses (Space Event ℕ) ℕ
  acc = thread_accesses l thread

  pub puts : (space : Space Event ℕ) (place byte : ℕ)
      → acc.put space place byte ≡ put_byte (stack_start thread) space place byte
  unfolding thread_accesses space_accesses
  puts space place byte = refl

  -- the law: whatever a step does, the blocks it leaves are those of the map with its stores
  pub step_fits : (acts : List (Act ℕ)) (os : List Owner) (at : After ℕ Bool (Space Event ℕ))
      → FitsIn l thread history known acts os at.memory
      → NotedFits l thread history known os acc puts
      ((machine plain_operations (noting l thread acc) no_field).step
      (left at.state (record { space = at.memory; acts = acts })))
  step_fits acts os at fits =
      let lender = proved_accesses l thread history known os acc puts in
      let fine : After ℕ Bool (Proved l thread history known os acc puts) = left at.state
      (record { space = at.memory; acts = acts }, fits) in
      let image = machine_image plain_operations lender (noting l thread acc)
      (plain l thread history known os acc puts) (proved_image l thread history known os acc puts)
      no_field no_field (λ m. refl) in
      subst (NotedFits l thread history known os acc puts) (sym (image.step fine))
      (noted_fits l thread history known os acc puts ((machine plain_operations lender no_field).step fine))
