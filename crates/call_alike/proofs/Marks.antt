-- Places of code of live instances: what the meaning marks there, and what the machine has.
use Rattle.std.proofs.Common.{◌≡◌, ◌∙◌, ◌-◌, ◌^◌, ◌<◌, ℕ, Bool, true, false, List, All, Option, Some, None, refl, sym}
use Rattle.std.proofs.Common.{ap, subst}
use Rattle.std.specs.Prelude.{option_and_then, ℤ}
use Rattle.std.specs.List.{find, flat_map, list_any}
use Rattle.std.proofs.lemmas.Bool.{eqb-true}
use Rattle.address_map.specs.Map.{owner_at}
use Rattle.guest_operands.specs.declared.space.Access.TheVariants.{Run}
use Rattle.guest_machine.specs.Ranges.{byte_in}
use Rattle.job_meaning.specs.declared.values.Byte.{Byte}
use Rattle.job_meaning.specs.Marked.{code_byte}
use Rattle.loaded_modules.specs.declared.instance.Instance.{Instance}
use Rattle.thread_blocks.specs.Instances.{Loads}
use Rattle.whole_meaning.specs.declared.marks.Mark.{Mark}
use Rattle.whole_meaning.specs.declared.marks.Mark.TheVariants.{Usual, Offset, Address}
use Rattle.whole_meaning.specs.Meanings.{Meaning}
use Rattle.tied_meaning.specs.Codes.{AreBothThere, SameCodeByte}
use Rattle.tied_meaning.specs.Numbers.{Setting}
use Rattle.tied_meaning.specs.Ties.{IsPlaceOf, IsTied}
use Rattle.tied_memory.proofs.Live.{found_holds}
use Rattle.call_alike.proofs.Found.{found_of_owner, is_number, of_owner, outside}
use Rattle.std.specs.Option.{option_map_or}

-- ** marks of fields

-- a place with such a mark is not usual, and something stands there on both sides
abbrev pub IsFieldMark : Mark → Type 0
IsFieldMark mark = (mark ≡ Usual → ⊥) × ((a a' : Option ℕ) → SameCodeByte mark a a' → AreBothThere a a')

pub offset_mark : (number byte : ℕ) → IsFieldMark (Offset number byte)
offset_mark number byte = (λ e. absurd cc, λ a a' h. h.1)

pub address_mark : (number byte : ℕ) (addend : ℤ) → IsFieldMark (Address number addend byte)
address_mark number byte addend = (λ e. absurd cc, λ a a' h. h.1)

both_there : (a a' : Option ℕ) → AreBothThere a a' → (b : ℕ) × (a' ≡ Some b)
both_there None a' h = absurd h
both_there (Some a) None h = absurd h
both_there (Some a) (Some a') h = (a', refl)

coded : (o : Option Byte) (a : ℕ) → option_and_then code_byte o ≡ Some a → (b : Byte) × (o ≡ Some b)
coded None a e = absurd cc
coded (Some b) a e = (b, refl)

-- ** places

-- a place of a field: whose it is, and what stands there
pub record HasField (g : Setting) (m : Meaning) (q : Loads ℕ) (live : List Instance) (place : ℕ) (mark : Mark) : Type 0
  where
    pub x : Instance
    pub owner : find (is_number (owner_at place)) live ≡ Some x
    pub it : IsTied g m q x
    pub marked : m.mark x place ≡ mark
    pub byte : ℕ
    pub there : byte_in Run (q.fixed x) place ≡ Some byte
    pub at : IsPlaceOf x place

module _ (g : Setting) (m : Meaning) (thread : ℕ) (q : Loads ℕ) (live : List Instance)
    (tied : All (IsTied g m q) live) where
  -- the live instance whose place it is
  abbrev pub owner : ℕ → Option Instance
  owner place = find (is_number (owner_at place)) live

  -- its code by meaning, and by machine; and its marks
  abbrev pub meant_code : ℕ → Option ℕ
  meant_code place = option_and_then code_byte (byte_in Run (flat_map m.loads.fixed live) place)

  abbrev pub real_code : ℕ → Option ℕ
  real_code place = byte_in Run (flat_map q.fixed live) place

  abbrev pub mark_at : ℕ → Mark
  mark_at place = option_map_or (λ (x : Instance). m.mark x place) (owner place) Usual

  meant_found : (place : ℕ)
      → byte_in Run (flat_map m.loads.fixed live) place ≡ of_owner Run m.loads.fixed place (owner place)
  meant_found place = found_of_owner Run m.loads.fixed place g.known live (λ k d below. (tied k d below).known)
      (λ k d below b e. ((tied k d below).meant_there Run place b e).0)

  pub real_found : (place : ℕ) → real_code place ≡ of_owner Run q.fixed place (owner place)
  real_found place = found_of_owner Run q.fixed place g.known live (λ k d below. (tied k d below).known)
      (λ k d below b e. ((tied k d below).there Run place b e).0)

  pub owner_tied : (place : ℕ) (x : Instance) → owner place ≡ Some x → IsTied g m q x × (x.number ≡ owner_at place)
  owner_tied place x e =
      let found = found_holds (is_number (owner_at place)) (IsTied g m q) live x tied e in
      (found.0, eqb-true x.number (owner_at place) found.1)

  pub owner_outside : (here place : ℕ) (x : Instance) → owner place ≡ Some x
      → list_any (λ (y : Instance). m.room y here) live ≡ false → m.room x here ≡ false
  owner_outside here place x e out =
      (found_holds (is_number (owner_at place)) (λ (y : Instance). m.room y here ≡ false) live x
      (outside (λ (y : Instance). m.room y here) live out) e).0

  -- one place, if in a room no code stands
  pub same_at : (place : ℕ)
      → ((x : Instance) → owner place ≡ Some x → m.room x place ≡ true → byte_in Run (q.fixed x) place ≡ None)
      → SameCodeByte (mark_at place) (meant_code place) (real_code place)
  same_at place out = rw (meant_found place, real_found place) (by_owner (owner place) refl)
    where
      by_owner : (o : Option Instance) → owner place ≡ o
          → SameCodeByte (option_map_or (λ (x : Instance). m.mark x place) o Usual)
          (option_and_then code_byte (of_owner Run m.loads.fixed place o)) (of_owner Run q.fixed place o)
      by_owner None e = refl
      by_owner (Some x) e = by_room (m.room x place) refl
        where
          it : IsTied g m q x
          it = (owner_tied place x e).0

          by_room : (b : Bool) → m.room x place ≡ b → SameCodeByte (m.mark x place)
              (option_and_then code_byte (byte_in Run (m.loads.fixed x) place)) (byte_in Run (q.fixed x) place)
          by_room false r = it.code place r
          by_room true r = let nothing = it.no_code place r in rw (nothing.1, nothing.0, out x e r) refl

  -- where the meaning has code there is an instance, so the place is below all threads
  pub code_low : (place a : ℕ) → meant_code place ≡ Some a → place < 2 ^ 39
  code_low place a e =
      let c = coded (byte_in Run (flat_map m.loads.fixed live) place) a e in
      by_owner (owner place) refl c.0 (sym (meant_found place) ∙ c.1)
    where
      by_owner : (o : Option Instance) → owner place ≡ o → (b : Byte)
          → of_owner Run m.loads.fixed place o ≡ Some b → place < 2 ^ 39
      by_owner None f b there = absurd cc
      by_owner (Some x) f b there = ((owner_tied place x f).0.meant_there Run place b there).1.1

  -- ** fields

  field_byte : (x : Instance) → IsTied g m q x → (place : ℕ) (mark : Mark) → IsFieldMark mark → m.mark x place ≡ mark
      → (b : ℕ) × ((byte_in Run (q.fixed x) place ≡ Some b) × IsPlaceOf x place)
  field_byte x it place mark field e = by_room (m.room x place) refl
    where
      by_room : (b : Bool) → m.room x place ≡ b
          → (b : ℕ) × ((byte_in Run (q.fixed x) place ≡ Some b) × IsPlaceOf x place)
      by_room true r = absurd (field.0 (sym e ∙ (it.no_code place r).1))
      by_room false r =
          let meant : Option ℕ = option_and_then code_byte (byte_in Run (m.loads.fixed x) place) in
          let same : SameCodeByte mark meant (byte_in Run (q.fixed x) place) =
          subst (λ (mark : Mark). SameCodeByte mark meant (byte_in Run (q.fixed x) place)) e (it.code place r) in
          let byte = both_there meant (byte_in Run (q.fixed x) place)
          (field.1 meant (byte_in Run (q.fixed x) place) same) in
          (byte.0, (byte.1, it.there Run place byte.0 byte.1))

  pub field_at : (place : ℕ) (mark : Mark) → IsFieldMark mark → mark_at place ≡ mark → HasField g m q live place mark
  field_at place mark field e = by_owner (owner place) refl e
    where
      by_owner : (o : Option Instance) → owner place ≡ o
          → option_map_or (λ (x : Instance). m.mark x place) o Usual ≡ mark
          → HasField g m q live place mark
      by_owner None f h = absurd (field.0 (sym h))
      by_owner (Some x) f h =
          let it = (owner_tied place x f).0 in
          let byte = field_byte x it place mark field h in
          record { x = x; owner = f; it = it; marked = h; byte = byte.0; there = byte.1.0; at = byte.1.1 }

  pub same_owner : (place place' : ℕ) → owner_at place' ≡ owner_at place → owner place' ≡ owner place
  same_owner place place' e = ap (λ (n : ℕ). find (is_number n) live) e

  -- a field's first byte is one of the same instance
  pub field_begins : (place byte : ℕ) (mark first : Mark) → IsFieldMark mark → IsFieldMark first → mark_at place ≡ mark
      → ((x : Instance) → IsTied g m q x → m.mark x place ≡ mark → m.mark x (place - byte) ≡ first)
      → mark_at (place - byte) ≡ first
  field_begins place byte mark first field first_field e begins =
      let f = field_at place mark field e in
      let before = begins f.x f.it f.marked in
      let at = (field_byte f.x f.it (place - byte) first first_field before).1.1 in
      let owners : owner (place - byte) ≡ Some f.x =
      same_owner place (place - byte) (at.0 ∙ sym f.at.0) ∙ f.owner in
      ap (λ (o : Option Instance). option_map_or (λ (x : Instance). m.mark x (place - byte)) o Usual) owners ∙ before
