-- What the static surplus gives to a later instance lies past all that it gave before, whoever was closed meanwhile.
use Rattle.std.proofs.Common.{◌≡◌, ◌∙◌, ◌⊎◌, ◌+◌, ◌-◌, ◌<◌, ◌≤◌, ◌^◌, ◌++◌, ℕ, zero, suc, true, List, [], ◌∷◌, get_or}
use Rattle.std.proofs.Common.{Some, None, refl, sym, ap, subst, inl, inr, arith}
use Rattle.std.specs.Prelude.{unwrap_or}
use Rattle.std.proofs.lemmas.Bool.{and_parts, cases_Bool, cases_eq, lt-ltb}
use Rattle.std.proofs.lemmas.List.{get_or-set_other, get_or-set_same}
use Rattle.std.proofs.lemmas.Option.{none-some, same_Some}
use Rattle.known_instances.proofs.OneInstance.{AreSame, legal_before, used}
use Rattle.module_table.proofs.Along.{IsKept, kept_along}
use Rattle.module_table.proofs.LawsOfBlocks.{instances_apart, rounds_up}
use Rattle.module_table.proofs.Starting.{past_start}
use Rattle.module_table.proofs.Steps.{late_within, loaded_within, past_loaded, past_released, past_retained}
use Rattle.module_table.specs.Past.{IsLegal}
use Rattle.module_table.specs.Laws.{AreApart, Block, block_of}
use Rattle.module_table.specs.Modules.{AreInfos, is_loaded, no_module}
use Rattle.module_table.specs.Past.{Past, after, first_module, first_modules, is_legal, loaded, module_of, new_instance}
use Rattle.module_table.specs.Past.{next_offset, past, released, retained, start, with_uses}
use Rattle.module_table.specs.Tables.{CanLoad, IsPast}
use Rattle.module_table.specs.Walks.{is_legal-append, past-append}
use Rattle.module_table.specs.declared.events.Event.{Event}
use Rattle.module_table.specs.declared.modules.ImageInfo.{ImageInfo}
use Rattle.module_table.specs.declared.modules.Module.{Module}

-- of a block that was given to the instance with number n: all that is given reaches no further than what was taken,
-- nor does the block, and the block of each other instance that is loaded lies apart from it
pub record IsGiven (n : ℕ) (given : Block) (p : Past) : Type 0 where
  pub is : IsPast p
  pub low : given.offset ≤ p.taken
  pub reaches : (a x : ℕ) → (module_of p a).offset ≡ Some x → x ≤ p.taken
  pub apart : (a x : ℕ) → is_loaded (module_of p a) ≡ true → (module_of p a).offset ≡ Some x
      → ((module_of p a).instance ≡ n) ⊎ AreApart given (block_of (module_of p a) x)

-- ** along the events

-- a module that stays what it is
apart_same : (n : ℕ) (given : Block) (x : ℕ) (new old : Module) → AreSame new old
    → (old.instance ≡ n) ⊎ AreApart given (block_of old x) → (new.instance ≡ n) ⊎ AreApart given (block_of new x)
apart_same n given x new old same (inl e) = inl (same.instance ∙ e)
apart_same n given x new old same (inr apart) =
    inr (subst (λ (i : ImageInfo). AreApart given (record { offset = x; size = i.size })) (sym same.info) apart)

given_with_uses : (n : ℕ) (given : Block) (p : Past) (image uses : ℕ) → IsPast (with_uses p image uses)
    → IsGiven n given p
    → is_loaded (module_of p image) ≡ true → IsGiven n given (with_uses p image uses)
given_with_uses n given p image uses is g held = record {
  is = is;
  low = g.low;
  reaches = λ a x e.
      let u = used p image uses a (loaded_within p image g.is held).0 held in
      g.reaches a x (sym u.same.offset ∙ e);
  apart = λ a x t e.
      let u = used p image uses a (loaded_within p image g.is held).0 held in
      apart_same n given x (module_of (with_uses p image uses) a) (module_of p a) u.same
      (g.apart a x (u.held t) (sym u.same.offset ∙ e));
}

-- the offset of a new instance
offset_is : (p : Past) (m : Module) (x : ℕ) → (new_instance p m).offset ≡ Some x → x ≡ next_offset p m
offset_is p m x e = elim (cases_Bool m.info.statics) [
  | inl t ↦ same_Some x (next_offset p m) (sym e ∙ (rw t refl))
  | inr f ↦ absurd (none-some x (sym (rw f refl) ∙ e))
]

-- what was taken reaches as far as before, and as far as a new offset
taken_grows : (p : Past) (m : Module) → p.taken ≤ unwrap_or (new_instance p m).offset p.taken
taken_grows p m = elim (cases_Bool m.info.statics) [
  | inl t ↦
      let up : p.taken + m.info.size ≤ next_offset p m = rounds_up (p.taken + m.info.size) m.info.align in
      rw t (omega (arith, up))
  | inr f ↦ rw f (omega arith)
]

taken_reaches : (p : Past) (m : Module) (x : ℕ) → (new_instance p m).offset ≡ Some x
    → x ≤ unwrap_or (new_instance p m).offset p.taken
taken_reaches p m x e = rw e (omega arith)

-- a new block lies past all that was taken
new_apart : (given : Block) (p : Past) (m : Module) (x : ℕ) → given.offset ≤ p.taken
    → (new_instance p m).offset ≡ Some x
    → AreApart given (block_of (new_instance p m) x)
new_apart given p m x low e distance first second =
    let at = offset_is p m x e in
    let up : p.taken + m.info.size ≤ next_offset p m = rounds_up (p.taken + m.info.size) m.info.align in
    let near = first.0 in
    let far = second.1 in
    omega (arith, at, up, near, far, low)

given_loaded : (n : ℕ) (given : Block) (p : Past) (image : ℕ) → IsGiven n given p → CanLoad p image
    → IsGiven n given (loaded p image)
unfolding loaded
given_loaded n given p image g can =
    let within = (late_within p image g.is can.late).0 in
    let grown = taken_grows p (module_of p image) in
    let low = g.low in
    let here : (a : ℕ) → a ≡ image → module_of (loaded p image) a ≡ new_instance p (module_of p image) =
    λ a same. rw (same, get_or-set_same p.modules image (new_instance p (module_of p image)) no_module within) refl in
    let there : (a : ℕ) → (a ≡ image → ⊥) → module_of (loaded p image) a ≡ module_of p a =
    λ a ne. get_or-set_other p.modules image a (new_instance p (module_of p image)) no_module ne in
    record {
      is = past_loaded p image g.is can;
      low = omega (arith, low, grown);
      reaches = λ a x e. elim (cases_eq a image) [
        | inl same ↦ taken_reaches p (module_of p image) x (sym (ap (λ (m : Module). m.offset) (here a same)) ∙ e)
        | inr ne ↦
            let old = g.reaches a x (sym (ap (λ (m : Module). m.offset) (there a ne)) ∙ e) in
            omega (arith, old, grown)
      ];
      apart = λ a x t e. elim (cases_eq a image) [
        | inl same ↦
            let new : (new_instance p (module_of p image)).offset ≡ Some x =
            sym (ap (λ (m : Module). m.offset) (here a same)) ∙ e in
            inr (subst (λ (m : Module). AreApart given (block_of m x)) (sym (here a same))
            (new_apart given p (module_of p image) x low new))
        | inr ne ↦
            let was = there a ne in
            subst (λ (m : Module). (m.instance ≡ n) ⊎ AreApart given (block_of m x)) (sym was)
            (g.apart a x (subst (λ (m : Module). is_loaded m ≡ true) was t)
            (sym (ap (λ (m : Module). m.offset) was) ∙ e))
      ];
    }

given_kept : (n : ℕ) (given : Block) → IsKept (IsGiven n given)
unfolding retained released
given_kept n given = record {
  retained = λ p image g held. given_with_uses n given p image ((module_of p image).uses + 1)
      (past_retained p image g.is held) g held;
  loaded = λ p image g can. given_loaded n given p image g can;
  released = λ p image g some. given_with_uses n given p image ((module_of p image).uses - 1)
      (past_released p image g.is some) g (lt-ltb 0 (module_of p image).uses some);
}

-- ** before any event nothing was given

first_nowhere : (info : ImageInfo) (image : ℕ) → (first_module info image).offset ≡ None
first_nowhere info image = elim (cases_Bool info.late) [ inl t ↦ rw t refl | inr f ↦ rw f refl ]

nowhere : (infos : List ImageInfo) (image k : ℕ) → (get_or (first_modules infos image) k no_module).offset ≡ None
nowhere [] image k = refl
nowhere (info ∷ infos) image zero = first_nowhere info image
nowhere (info ∷ infos) image (suc k) = nowhere infos (image + 1) k

start_nowhere : (infos : List ImageInfo) (k : ℕ)
    → (get_or (no_module ∷ first_modules infos 1) k no_module).offset ≡ None
start_nowhere infos zero = refl
start_nowhere infos (suc k) = nowhere infos 1 k

-- a block of no bytes at the thread pointer
abbrev nothing : Block
nothing = record { offset = 0; size = 0 }

given_start : (infos : List ImageInfo) (last : ℕ) → AreInfos infos → last < 2 ^ 27
    → IsGiven 0 nothing (start infos last)
unfolding start
given_start infos last are low = record {
  is = past_start infos last are low;
  low = omega arith;
  reaches = λ a x e. absurd (none-some x (sym (start_nowhere infos a) ∙ e));
  apart = λ a x t e. absurd (none-some x (sym (start_nowhere infos a) ∙ e));
}

-- ** the law

module _ (infos : List ImageInfo) (last : ℕ) where
  given_front : (front : List Event) → IsLegal infos last front → IsGiven 0 nothing (past infos last front)
  unfolding past
  given_front front legal =
      kept_along (IsGiven 0 nothing) (given_kept 0 nothing) (start infos last) front
      (given_start infos last legal.images legal.low) legal.each

  behind : (front rest : List Event) → is_legal (after (start infos last) front) rest ≡ true
      → is_legal (past infos last front) rest ≡ true
  unfolding past
  behind front rest e = e

  -- a block of the surplus that an instance has behind a front, and the blocks of those that are loaded later
  pub later_apart : (front rest : List Event) (a x : ℕ) → IsLegal infos last (front ++ rest)
      → is_loaded (module_of (past infos last front) a) ≡ true
      → (module_of (past infos last front) a).offset ≡ Some x
      → IsGiven (module_of (past infos last front) a).instance (block_of (module_of (past infos last front) a) x)
      (past infos last (front ++ rest))
  later_apart front rest a x legal held at =
      let p = past infos last front in
      let n = (module_of p a).instance in
      let given = block_of (module_of p a) x in
      let before = legal_before infos last front rest legal in
      let parts = and_parts (is_legal (start infos last) front) (is_legal (after (start infos last) front) rest)
      (sym (is_legal-append (start infos last) front rest) ∙ legal.each) in
      let first = given_front front before in
      let here : IsGiven n given p = record {
        is = first.is;
        low = first.reaches a x at;
        reaches = first.reaches;
        apart = λ b y t e. elim (cases_eq b a) [
          | inl same ↦ inl (ap (λ (i : ℕ). (module_of p i).instance) same)
          | inr ne ↦ inr ((instances_apart infos last front before).apart a b x y (λ s. ne (sym s)) at e)
        ];
      } in
      subst (IsGiven n given) (sym (past-append infos last front rest))
      (kept_along (IsGiven n given) (given_kept n given) p rest here (behind front rest parts.1))
