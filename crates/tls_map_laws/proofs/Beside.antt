-- Nothing but blocks lies where the block of an instance is, or was, or will be.
use Rattle.std.proofs.Common.{◌≡◌, ◌∙◌, ◌+◌, ◌-◌, ◌<◌, ◌≤◌, ◌^◌, ℕ, false, List, ◌∷◌, length, None, refl, arith}
use Rattle.std.specs.Prelude.{nat_le, nat_lt}
use Rattle.std.proofs.lemmas.Bool.{and_parts, false_from_ne_true, leb-true, ltb-true}
use Rattle.guest_arithmetic.specs.Values.{Operations}
use Rattle.guest_machine.specs.Ranges.{Range, allows, byte_in, grants, holds}
use Rattle.guest_operands.specs.declared.space.Access.{Access}
use Rattle.loaded_modules.specs.declared.instance.Instance.{Instance}
use Rattle.module_table.specs.Past.{IsLegal}
use Rattle.module_table.specs.Modules.{startup_end}
use Rattle.module_table.specs.declared.events.Event.{Event}
use Rattle.thread_blocks.specs.Instances.{Loads, block_start, fixed_at, instances}
use Rattle.thread_blocks.specs.MachineTurns.{pointer_word}
use Rattle.thread_blocks.specs.Turns.{IsFront}
use Rattle.shared_data.specs.Places.{LiesLow}
use Rattle.tls_map_laws.proofs.Live.{BlocksAreLong, is_live, place_low, start_high}
use Rattle.tls_map_laws.proofs.Never.{front_legal}
use Rattle.tls_map_laws.proofs.Places.{Member}

module _ {B : Type 0} (how : Access) (place : ℕ) where
  pub not_here : (r : Range B) (rs : List (Range B)) → grants how r place ≡ false
      → byte_in how (r ∷ rs) place ≡ byte_in how rs place
  not_here r rs f = rw f refl

  -- a range that does not have the place
  pub outside : (r : Range B) → (r.start ≤ place → place - r.start < length r.bytes → ⊥) → grants how r place ≡ false
  outside r out = false_from_ne_true _ (λ t.
      let both = and_parts (nat_le r.start place) (nat_lt (place - r.start) (length r.bytes))
      (and_parts (allows how r) (holds r place) t).1 in
      out (leb-true r.start place both.0) (ltb-true (place - r.start) (length r.bytes) both.1))

module _ {W F B : Type 0} (ops : Operations W F B) (l : Loads B) (history : List Event)
    (legal : IsLegal l.infos l.last_offset history) (last : l.last_offset ≡ startup_end l.infos 0)
    (long : BlocksAreLong l)
    (thread : ℕ) (some : 1 ≤ thread) where
  pub blocks_high : (seen : List Event) → IsFront seen history → (x : Instance) → Member x (instances l seen)
      → 2 ^ 40 ≤ block_start thread x
  blocks_high seen front x member =
      let high = start_high l history legal last long thread seen x
      (is_live l history legal last long seen front x member) in
      omega (arith, high, some)

  -- the law: a block is not where code, constants or the pointer word are
  pub blocks_alone : LiesLow l → (a b : List Event) → IsFront a history → IsFront b history → (x : Instance)
      → Member x (instances l a) → (how : Access) (k : ℕ) → k < length (l.block x)
      → byte_in how (pointer_word ops thread ∷ fixed_at l b) (block_start thread x + k) ≡ None
  blocks_alone lies a b f g x member how k less =
      let place = block_start thread x + k in
      let high = blocks_high a f x member in
      let low = place_low l history legal last long thread a x place (is_live l history legal last long a f x member)
      (record { from = omega arith; to = omega (arith, less) }) in
      not_here how place (pointer_word ops thread) (fixed_at l b)
      (outside how place (pointer_word ops thread) (λ le inside. absurd (omega (arith, le, low))))
      ∙ lies.fixed b (front_legal l history legal b g) how place (omega (arith, high))
