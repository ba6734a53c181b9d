-- Static blocks lie one past the other.
use Rattle.std.proofs.Common.{◌≡◌, ◌≢◌, ℕ, zero, suc, ◌+◌, ◌-◌, ◌^◌, ◌<◌, ◌≤◌, Bool, true, false, List, [], ◌∷◌, ◌++◌}
use Rattle.std.proofs.Common.{length, get_or, Some, None, sym, refl, ap, ◌∙◌, subst, arith, inl}
use Rattle.std.proofs.Common.{inr, ◌⊎◌}
use Rattle.std.proofs.Math.ListN.{set}
use Rattle.std.specs.Prelude.{if◌then◌else◌, ◌&&◌, not, All, AllPairs, unwrap_or}
use Rattle.std.specs.Int.{next_multiple_of}
use Rattle.std.proofs.lemmas.Bool.{cases_Bool, cases_eq, and_parts, lt-ltb}
use Rattle.std.proofs.lemmas.List.{get_or-set_same, get_or-set_other}
use Rattle.std.proofs.lemmas.List.Elements.{All-cons, All-nil}
use Rattle.std.proofs.lemmas.Option.{same_Some, none-some}
use Rattle.module_table.specs.declared.TheConstants.{SURPLUS}
use Rattle.module_table.specs.declared.modules.ImageInfo.{ImageInfo}
use Rattle.module_table.specs.declared.modules.Module.{Module}
use Rattle.module_table.specs.declared.events.Event.{Event}
use Rattle.module_table.specs.Modules.{AreInfos, is_loaded, no_module}
use Rattle.module_table.specs.Past.{Past, module_of, start, past, after_one, after, opened, loaded, retained, released}
use Rattle.module_table.specs.Past.{with_uses, new_instance, next_offset, accepts, is_legal, first_module}
use Rattle.module_table.specs.Past.{first_modules}
use Rattle.module_table.specs.Past.{IsLegal}
use Rattle.module_table.specs.Laws.{loads, Block, AreApart, startup_blocks, surplus_blocks, BlocksAreApart}
use Rattle.module_table.specs.Laws.{BlocksFit, block_of, InstancesAreApart}
use Rattle.module_table.specs.Modules.{startup_end}
use Rattle.module_table.specs.Tables.{IsPast, CanLoad}
use Rattle.module_table.proofs.Refusals.{can_load, accepts_open}
use Rattle.module_table.proofs.Starting.{past_start}
use Rattle.module_table.proofs.Steps.{late_within, loaded_within, past_retained, past_loaded, past_released}
use Rattle.module_table.proofs.Along.{IsKept, kept_along}

pub rounds_up : (n align : ℕ) → n ≤ next_multiple_of n align
rounds_up n align = omega arith

-- each block lies past a bound, and past the block before it
abbrev pub Stacked : ℕ → List Block → Type 0
Stacked bound [] = Unit {0}
Stacked bound (b ∷ bs) = (bound + b.size ≤ b.offset) × Stacked b.offset bs

stacked_weaker : (low high : ℕ) (bs : List Block) → low ≤ high → Stacked high bs → Stacked low bs
stacked_weaker low high [] le is = tt
stacked_weaker low high (b ∷ bs) le is = (let h : high + b.size ≤ b.offset = is.0 in omega arith, is.1)

stacked_above : (bound : ℕ) (bs : List Block) (k : ℕ) (d : Block) → Stacked bound bs → k < length bs
    → bound + (get_or bs k d).size ≤ (get_or bs k d).offset
stacked_above bound [] k d is l = absurd (omega arith)
stacked_above bound (b ∷ bs) zero d is l = is.0
stacked_above bound (b ∷ bs) (suc k) d is l =
    let rest : b.offset + (get_or bs k d).size ≤ (get_or bs k d).offset =
    stacked_above b.offset bs k d is.1 (omega arith) in
    let first : bound + b.size ≤ b.offset = is.0 in
    omega arith

-- a block and one past it
past_is_apart : (a b : Block) → a.offset + b.size ≤ b.offset → AreApart a b
past_is_apart a b h distance x y =
    let low : distance ≤ a.offset = x.0 in
    let high : b.offset < distance + b.size = y.1 in
    absurd (omega arith)

apart_sym : (a b : Block) → AreApart a b → AreApart b a
apart_sym a b apart distance y x = apart distance x y

stacked_apart : (bound : ℕ) (bs : List Block) → Stacked bound bs → AllPairs AreApart bs
stacked_apart bound [] is i j d l h = absurd (omega arith)
stacked_apart bound (b ∷ bs) is i zero d l h = absurd (omega arith)
stacked_apart bound (b ∷ bs) is zero (suc j) d l h =
    past_is_apart b (get_or bs j d) (stacked_above b.offset bs j d is.1 (omega arith))
stacked_apart bound (b ∷ bs) is (suc i) (suc j) d l h = stacked_apart b.offset bs is.1 i j d (omega arith) (omega arith)

stacked_startup : (infos : List ImageInfo) (taken : ℕ) (bs : List Block) → Stacked (startup_end infos taken) bs
    → Stacked taken (startup_blocks infos taken ++ bs)
stacked_startup [] taken bs is = is
stacked_startup (info ∷ infos) taken bs is = elim (cases_Bool info.late) [
  | inl late ↦ rw late (stacked_startup infos taken bs (rw late at is))
  | inr early ↦ rw early (
    rounds_up (taken + info.size) info.align,
    stacked_startup infos (next_multiple_of (taken + info.size) info.align) bs (rw early at is),
  )
]

taken-after_one : (p : Past) (e : Event)
    → (after_one p e).taken
    ≡ (if loads p e && (module_of p e.image).info.statics then next_offset p (module_of p e.image) else p.taken)
unfolding after_one opened loaded retained released
taken-after_one p e = elim e.opens as
    (λ b. (if b then (if is_loaded (module_of p e.image) then retained p e.image else loaded p e.image)
    else released p e.image).taken
    ≡ (if (b && not (is_loaded (module_of p e.image))) && (module_of p e.image).info.statics
    then next_offset p (module_of p e.image) else p.taken)) [
      | true ↦ elim (is_loaded (module_of p e.image)) as
          (λ b. (if b then retained p e.image else loaded p e.image).taken
          ≡ (if not b && (module_of p e.image).info.statics then next_offset p (module_of p e.image) else p.taken)) [
            | true ↦ refl
            | false ↦ elim (module_of p e.image).info.statics as
                (λ b. unwrap_or (if b then Some (next_offset p (module_of p e.image)) else None) p.taken
                ≡ (if b then next_offset p (module_of p e.image) else p.taken)) [ true ↦ refl | false ↦ refl ]
          ]
      | false ↦ refl
    ]

stacked_surplus : (p : Past) (events : List Event) → Stacked p.taken (surplus_blocks p events)
stacked_surplus p [] = tt
stacked_surplus p (e ∷ es) = elim (cases_Bool (loads p e && (module_of p e.image).info.statics)) [
  | inl gives ↦
      let taken : (after_one p e).taken ≡ next_offset p (module_of p e.image) = taken-after_one p e ∙ (rw gives refl) in
      rw gives (
        rounds_up (p.taken + (module_of p e.image).info.size) (module_of p e.image).info.align,
        subst (λ (n : ℕ). Stacked n (surplus_blocks (after_one p e) es)) taken (stacked_surplus (after_one p e) es),
      )
  | inr none ↦
      let taken : (after_one p e).taken ≡ p.taken = taken-after_one p e ∙ (rw none refl) in
      rw none (subst (λ (n : ℕ). Stacked n (surplus_blocks (after_one p e) es)) taken
      (stacked_surplus (after_one p e) es))
]

pub blocks_apart : (infos : List ImageInfo) (last_offset : ℕ) (events : List Event) → startup_end infos 0 ≤ last_offset
    → BlocksAreApart infos last_offset events
unfolding start
blocks_apart infos last_offset events le =
    stacked_apart 0 _ (stacked_startup infos 0 _
    (stacked_weaker (startup_end infos 0) last_offset _ le (stacked_surplus (start infos last_offset) events)))

-- ---- the surplus is large enough

limit-after_one : (p : Past) (e : Event) → (after_one p e).limit ≡ p.limit
unfolding after_one opened loaded retained released
limit-after_one p e = elim e.opens as
    (λ b. (if b then (if is_loaded (module_of p e.image) then retained p e.image else loaded p e.image)
    else released p e.image).limit ≡ p.limit) [
      | true ↦ elim (is_loaded (module_of p e.image)) as
          (λ b. (if b then retained p e.image else loaded p e.image).limit ≡ p.limit) [ true ↦ refl | false ↦ refl ]
      | false ↦ refl
    ]

not_loaded : (b : Bool) → not b ≡ true → b ≡ false
not_loaded true e = cc
not_loaded false e = refl

gift_fits : (p : Past) (e : Event) → accepts p e ≡ true → (loads p e && (module_of p e.image).info.statics) ≡ true
    → next_offset p (module_of p e.image) ≤ p.limit
gift_fits p e accepted gives =
    let parts = and_parts (loads p e) (module_of p e.image).info.statics gives in
    let load = and_parts e.opens (not (is_loaded (module_of p e.image))) parts.0 in
    (can_load p e.image (accepts_open p e accepted load.0) (not_loaded _ load.1)).room parts.1

fits_after : (p : Past) (events : List Event) → is_legal p events ≡ true
    → All (λ (b : Block). b.offset ≤ p.limit) (surplus_blocks p events)
unfolding is_legal
fits_after p [] legal = All-nil (λ (b : Block). b.offset ≤ p.limit)
fits_after p (e ∷ es) legal =
    let parts = and_parts (accepts p e) (is_legal (after_one p e) es) legal in
    let rest : All (λ (b : Block). b.offset ≤ p.limit) (surplus_blocks (after_one p e) es) =
    subst (λ (n : ℕ). All (λ (b : Block). b.offset ≤ n) (surplus_blocks (after_one p e) es)) (limit-after_one p e)
    (fits_after (after_one p e) es parts.1) in
    elim (cases_Bool (loads p e && (module_of p e.image).info.statics)) [
      | inl gives ↦ rw gives (All-cons (λ (b : Block). b.offset ≤ p.limit) _ _ (gift_fits p e parts.0 gives) rest)
      | inr none ↦ rw none rest
    ]

pub blocks_fit : (infos : List ImageInfo) (last_offset : ℕ) (events : List Event) → IsLegal infos last_offset events
    → BlocksFit infos last_offset events
unfolding start
blocks_fit infos last_offset events is = fits_after (start infos last_offset) events is.each

-- ---- the blocks in use

record Spread (base : ℕ) (p : Past) : Type 0 where
  pub is : IsPast p
  pub low : base ≤ p.taken
  pub limit : p.limit ≡ base + SURPLUS
  pub within : (a x : ℕ) → (module_of p a).offset ≡ Some x → (base + (module_of p a).info.size ≤ x) × (x ≤ p.taken)
  pub apart : (a b x y : ℕ) → a ≢ b → (module_of p a).offset ≡ Some x → (module_of p b).offset ≡ Some y
      → (x + (module_of p b).info.size ≤ y) ⊎ (y + (module_of p a).info.size ≤ x)

record SameBlock (new old : Module) : Type 0 where
  pub offset : new.offset ≡ old.offset
  pub info : new.info ≡ old.info

block_same : (p : Past) (image uses a : ℕ) → image < length p.modules
    → SameBlock (module_of (with_uses p image uses) a) (module_of p a)
block_same p image uses a l = elim (cases_eq a image) [
  | inl e ↦ let here : module_of (with_uses p image uses) a ≡ record (module_of p image) { uses = uses } =
      rw e (get_or-set_same p.modules image (record (module_of p image) { uses = uses }) no_module l) in
      rw (here, e) (record { offset = refl; info = refl })
  | inr ne ↦ let here : module_of (with_uses p image uses) a ≡ module_of p a =
      get_or-set_other p.modules image a (record (module_of p image) { uses = uses }) no_module ne in
      rw here (record { offset = refl; info = refl })
]

spread_with_uses : (base : ℕ) (p : Past) (image uses : ℕ) → IsPast (with_uses p image uses) → Spread base p
    → image < length p.modules → Spread base (with_uses p image uses)
spread_with_uses base p image uses is s l = record {
  is = is;
  low = s.low;
  limit = s.limit;
  within = λ a x e. let same = block_same p image uses a l in rw same.info (s.within a x (sym same.offset ∙ e));
  apart = λ a b x y ne e f. let left = block_same p image uses a l in let right = block_same p image uses b l in
      rw (left.info, right.info) (s.apart a b x y ne (sym left.offset ∙ e) (sym right.offset ∙ f));
}

-- the offset of a new instance
given : (p : Past) (m : Module) (x : ℕ) → (new_instance p m).offset ≡ Some x → x ≡ next_offset p m
given p m x e = elim (cases_Bool m.info.statics) [
  | inl t ↦ same_Some x (next_offset p m) (sym e ∙ (rw t refl))
  | inr f ↦ absurd (none-some x (sym (rw f refl) ∙ e))
]

-- what was given reaches as far as before, or further
taken_grows : (p : Past) (m : Module) → p.taken ≤ unwrap_or (new_instance p m).offset p.taken
taken_grows p m = elim (cases_Bool m.info.statics) [
  | inl t ↦ rw t (let up : p.taken + m.info.size ≤ next_offset p m = rounds_up (p.taken + m.info.size) m.info.align in
      omega arith)
  | inr f ↦ rw f (omega arith)
]

-- and as far as a new offset
taken_reaches : (p : Past) (m : Module) (x : ℕ) → (new_instance p m).offset ≡ Some x
    → x ≤ unwrap_or (new_instance p m).offset p.taken
taken_reaches p m x e = rw e (omega arith)

spread_loaded : (base : ℕ) (p : Past) (image : ℕ) → Spread base p → CanLoad p image → Spread base (loaded p image)
unfolding loaded
spread_loaded base p image s can =
    let l = (late_within p image s.is can.late).0 in
    let grown : p.taken ≤ unwrap_or (new_instance p (module_of p image)).offset p.taken =
    taken_grows p (module_of p image) in
    let up : p.taken + (module_of p image).info.size ≤ next_offset p (module_of p image) =
    rounds_up (p.taken + (module_of p image).info.size) (module_of p image).info.align in
    let low : base ≤ p.taken = s.low in
    let here : get_or (set p.modules image (new_instance p (module_of p image))) image no_module
    ≡ new_instance p (module_of p image) =
    get_or-set_same p.modules image (new_instance p (module_of p image)) no_module l in
    let there : (a : ℕ) → (a ≡ image → ⊥)
    → get_or (set p.modules image (new_instance p (module_of p image))) a no_module ≡ module_of p a =
    λ a ne. get_or-set_other p.modules image a (new_instance p (module_of p image)) no_module ne in
    record {
      is = past_loaded p image s.is can;
      low = omega arith;
      limit = s.limit;
      within = λ a x e. elim (cases_eq a image) [
        | inl same ↦
            let mine : (new_instance p (module_of p image)).offset ≡ Some x =
            sym (ap (λ (m : Module). m.offset)
            (let at : get_or (set p.modules image (new_instance p (module_of p image))) a no_module
            ≡ new_instance p (module_of p image) = rw same here in at)) ∙ e in
            let is : x ≡ next_offset p (module_of p image) = given p (module_of p image) x mine in
            rw (same, here) (omega arith, taken_reaches p (module_of p image) x mine)
        | inr ne ↦
            let old = s.within a x (sym (ap (λ (m : Module). m.offset) (there a ne)) ∙ e) in
            let inside : x ≤ p.taken = old.1 in
            rw (there a ne) (old.0, omega arith)
      ];
      apart = λ a b x y ne e f. elim (cases_eq a image) [
        | inl a_is ↦
            let mine : (new_instance p (module_of p image)).offset ≡ Some x =
            sym (ap (λ (m : Module). m.offset)
            (let at : get_or (set p.modules image (new_instance p (module_of p image))) a no_module
            ≡ new_instance p (module_of p image) = rw a_is here in at)) ∙ e in
            let is : x ≡ next_offset p (module_of p image) = given p (module_of p image) x mine in
            let b_ne : b ≡ image → ⊥ = λ h. ne (a_is ∙ sym h) in
            let old : y ≤ p.taken = (s.within b y (sym (ap (λ (m : Module). m.offset) (there b b_ne)) ∙ f)).1 in
            inr (rw (a_is, here) (omega arith))
        | inr a_ne ↦
            let first : (module_of p a).offset ≡ Some x = sym (ap (λ (m : Module). m.offset) (there a a_ne)) ∙ e in
            elim (cases_eq b image) [
              | inl b_is ↦
                  let mine : (new_instance p (module_of p image)).offset ≡ Some y =
                  sym (ap (λ (m : Module). m.offset)
                  (let at : get_or (set p.modules image (new_instance p (module_of p image))) b no_module
                  ≡ new_instance p (module_of p image) = rw b_is here in at)) ∙ f in
                  let is : y ≡ next_offset p (module_of p image) = given p (module_of p image) y mine in
                  let old : x ≤ p.taken = (s.within a x first).1 in
                  inl (rw (b_is, here) (omega arith))
              | inr b_ne ↦ rw (there a a_ne, there b b_ne)
                  (s.apart a b x y ne first (sym (ap (λ (m : Module). m.offset) (there b b_ne)) ∙ f))
            ]
      ];
    }

spread_kept : (base : ℕ) → IsKept (Spread base)
unfolding retained released
spread_kept base = record {
  retained = λ p image s l. spread_with_uses base p image ((module_of p image).uses + 1)
      (past_retained p image s.is l) s (loaded_within p image s.is l).0;
  loaded = λ p image s can. spread_loaded base p image s can;
  released = λ p image s h. spread_with_uses base p image ((module_of p image).uses - 1)
      (past_released p image s.is h) s (loaded_within p image s.is (lt-ltb 0 (module_of p image).uses h)).0;
}

-- no image has an offset in the surplus before any event
first_nowhere : (info : ImageInfo) (image : ℕ) → (first_module info image).offset ≡ None
first_nowhere info image = elim (cases_Bool info.late) [ inl t ↦ rw t refl | inr f ↦ rw f refl ]

nowhere : (infos : List ImageInfo) (image k : ℕ) → (get_or (first_modules infos image) k no_module).offset ≡ None
nowhere [] image k = refl
nowhere (info ∷ infos) image zero = first_nowhere info image
nowhere (info ∷ infos) image (suc k) = nowhere infos (image + 1) k

start_nowhere : (infos : List ImageInfo) (k : ℕ)
    → (get_or (no_module ∷ first_modules infos 1) k no_module).offset ≡ None
start_nowhere infos zero = refl
start_nowhere infos (suc k) = nowhere infos 1 k

spread_start : (infos : List ImageInfo) (last_offset : ℕ) → AreInfos infos → last_offset < 2 ^ 27
    → Spread last_offset (start infos last_offset)
unfolding start
spread_start infos last_offset are low = record {
  is = past_start infos last_offset are low;
  low = omega arith;
  limit = refl;
  within = λ a x e. absurd (none-some x (sym (start_nowhere infos a) ∙ e));
  apart = λ a b x y ne e f. absurd (none-some x (sym (start_nowhere infos a) ∙ e));
}

spread_is_apart : (base : ℕ) (p : Past) → Spread base p → InstancesAreApart base p
spread_is_apart base p s = record {
  apart = λ a b x y ne e f. elim (s.apart a b x y ne e f) [
    | inl h ↦ past_is_apart (block_of (module_of p a) x) (block_of (module_of p b) y) h
    | inr h ↦ apart_sym (block_of (module_of p b) y) (block_of (module_of p a) x)
        (past_is_apart (block_of (module_of p b) y) (block_of (module_of p a) x) h)
  ];
  above = λ a x e. (s.within a x e).0;
  below = λ a x e. let inside : x ≤ p.taken = (s.within a x e).1 in omega (arith, s.is.taken, s.limit);
}

pub instances_apart : (infos : List ImageInfo) (last_offset : ℕ) (events : List Event)
    → IsLegal infos last_offset events → InstancesAreApart last_offset (past infos last_offset events)
unfolding past
instances_apart infos last_offset events is =
    spread_is_apart last_offset (after (start infos last_offset) events)
    (kept_along (Spread last_offset) (spread_kept last_offset) (start infos last_offset) events
    (spread_start infos last_offset is.images is.low) is.each)
