-- An instance number stands for one instance along the events.
use Rattle.std.proofs.Common.{◌≡◌, ◌∙◌, ℕ, ◌+◌, ◌-◌, ◌<◌, ◌≤◌, true, List, ◌++◌, length, Some, refl, sym, ap, subst}
use Rattle.std.proofs.Common.{arith, inl, inr}
use Rattle.std.specs.Prelude.{◌==◌}
use Rattle.std.specs.List.{find}
use Rattle.std.proofs.lemmas.Bool.{cases_eq, and_parts, eqb-true, lt-ltb}
use Rattle.std.proofs.lemmas.List.{get_or-set_same, get_or-set_other}
use Rattle.loaded_modules.specs.declared.instance.Instance.{Instance}
use Rattle.module_table.specs.declared.modules.ImageInfo.{ImageInfo}
use Rattle.module_table.specs.declared.modules.Module.{Module}
use Rattle.module_table.specs.declared.events.Event.{Event}
use Rattle.module_table.specs.Modules.{is_loaded, no_module}
use Rattle.module_table.specs.Past.{Past, module_of, start, past, after, loaded, retained, released, with_uses}
use Rattle.module_table.specs.Past.{new_instance, is_legal}
use Rattle.module_table.specs.Past.{IsLegal}
use Rattle.module_table.specs.Tables.{IsPast, CanLoad}
use Rattle.module_table.specs.Walks.{past-append, is_legal-append}
use Rattle.module_table.proofs.Along.{IsKept, kept_along, past_legal}
use Rattle.module_table.proofs.LawsOfNumbers.{own_numbers}
use Rattle.module_table.proofs.Steps.{late_within, loaded_within, numbered_at, past_retained, past_loaded}
use Rattle.module_table.proofs.Steps.{past_released}
use Rattle.thread_blocks.specs.Instances.{loaded_instance, instances_in}
use Rattle.known_instances.proofs.Found.{instance_for, loaded_as, found_at}

-- what a module keeps while it is loaded
pub record AreSame (new old : Module) : Type 0 where
  pub info : new.info ≡ old.info
  pub instance : new.instance ≡ old.instance
  pub id : new.id ≡ old.id
  pub offset : new.offset ≡ old.offset

-- one more use of a loaded image, or one less, leaves each module what it is
pub record IsUsed (new old : Module) : Type 0 where
  pub same : AreSame new old
  pub held : is_loaded new ≡ true → is_loaded old ≡ true

pub used : (p : Past) (image uses a : ℕ) → image < length p.modules → is_loaded (module_of p image) ≡ true
    → IsUsed (module_of (with_uses p image uses) a) (module_of p a)
used p image uses a l loaded = elim (cases_eq a image) [
  | inl e ↦ let here : module_of (with_uses p image uses) a ≡ record (module_of p image) { uses = uses } =
      rw e (get_or-set_same p.modules image (record (module_of p image) { uses = uses }) no_module l) in
      rw (here, e) (record {
        same = record { info = refl; instance = refl; id = refl; offset = refl };
        held = λ _. loaded;
      })
  | inr ne ↦ let here : module_of (with_uses p image uses) a ≡ module_of p a =
      get_or-set_other p.modules image a (record (module_of p image) { uses = uses }) no_module ne in
      rw here (record { same = record { info = refl; instance = refl; id = refl; offset = refl }; held = λ t. t })
]

same-trans : (x y z : Module) → AreSame x y → AreSame y z → AreSame x z
same-trans x y z a b = record {
  info = a.info ∙ b.info;
  instance = a.instance ∙ b.instance;
  id = a.id ∙ b.id;
  offset = a.offset ∙ b.offset;
}

-- whoever is loaded with the number is that image, as it was, and later instances have other numbers
pub record StandsForOne (n a : ℕ) (m : Module) (p : Past) : Type 0 where
  pub is : IsPast p
  pub made : n ≤ p.made
  pub one : (b : ℕ) → is_loaded (module_of p b) ≡ true → (module_of p b).instance ≡ n
      → (b ≡ a) × AreSame (module_of p b) m

-- a use more or less of an image that is loaded
one_with_uses : (n a : ℕ) (m : Module) (p : Past) (image uses : ℕ) → IsPast (with_uses p image uses)
    → StandsForOne n a m p
    → is_loaded (module_of p image) ≡ true → StandsForOne n a m (with_uses p image uses)
one_with_uses n a m p image uses is s loaded = record {
  is = is;
  made = s.made;
  one = λ b t e.
      let u = used p image uses b (loaded_within p image s.is loaded).0 loaded in
      let old = s.one b (u.held t) (sym u.same.instance ∙ e) in
      (old.0, same-trans _ _ _ u.same old.1);
}

-- a load: it has a number that none had
one_loaded : (n a : ℕ) (m : Module) (p : Past) (image : ℕ) → StandsForOne n a m p → CanLoad p image
    → StandsForOne n a m (loaded p image)
unfolding loaded
one_loaded n a m p image s can =
    let l = (late_within p image s.is can.late).0 in
    let low : n ≤ p.made = s.made in
    record {
      is = past_loaded p image s.is can;
      made = omega arith;
      one = λ b t e. elim (cases_eq b image) [
        | inl same ↦
            let new : (module_of (loaded p image) b).instance ≡ p.made + 1 =
            rw (same, get_or-set_same p.modules image (new_instance p (module_of p image)) no_module l) refl in
            absurd (omega (arith, new, e))
        | inr ne ↦
            let here : module_of (loaded p image) b ≡ module_of p b =
            get_or-set_other p.modules image b (new_instance p (module_of p image)) no_module ne in
            let old = s.one b (subst (λ (x : Module). is_loaded x ≡ true) here t)
            (subst (λ (x : Module). x.instance ≡ n) here e) in
            (old.0, subst (λ (x : Module). AreSame x m) (sym here) old.1)
      ];
    }

one_kept : (n a : ℕ) (m : Module) → IsKept (StandsForOne n a m)
unfolding retained released
one_kept n a m = record {
  retained = λ p image s l. one_with_uses n a m p image ((module_of p image).uses + 1)
      (past_retained p image s.is l) s l;
  loaded = λ p image s can. one_loaded n a m p image s can;
  released = λ p image s h. one_with_uses n a m p image ((module_of p image).uses - 1) (past_released p image s.is h) s
      (lt-ltb 0 (module_of p image).uses h);
}

-- ** of a history

-- a front of a legal history is one, and what comes behind it is accepted there
pub legal_before : (infos : List ImageInfo) (last : ℕ) (front rest : List Event) → IsLegal infos last (front ++ rest)
    → IsLegal infos last front
legal_before infos last front rest legal =
    let parts = and_parts (is_legal (start infos last) front) (is_legal (after (start infos last) front) rest)
    (sym (is_legal-append (start infos last) front rest) ∙ legal.each) in
    record { images = legal.images; low = legal.low; each = parts.0 }

legal_after : (infos : List ImageInfo) (last : ℕ) (front rest : List Event) → IsLegal infos last (front ++ rest)
    → is_legal (past infos last front) rest ≡ true
unfolding past
legal_after infos last front rest legal =
    (and_parts (is_legal (start infos last) front) (is_legal (after (start infos last) front) rest)
    (sym (is_legal-append (start infos last) front rest) ∙ legal.each)).1

-- the module of an image behind some events, and the whole walk from there on
abbrev pub module_after : List ImageInfo → ℕ → List Event → ℕ → Module
module_after infos last events a = module_of (past infos last events) a

module _ (infos : List ImageInfo) (last : ℕ) (front rest : List Event) (a : ℕ)
    (legal : IsLegal infos last (front ++ rest)) (t : is_loaded (module_after infos last front a) ≡ true) where
  abbrev now : Module
  now = module_after infos last front a

  abbrev StandsFor : Past → Type 0
  StandsFor p = StandsForOne now.instance a now p

  -- at the end of the front no other image has its number
  stands_here : StandsFor (past infos last front)
  stands_here =
      let before = legal_before infos last front rest legal in
      let is = past_legal infos last front before in
      let own = own_numbers infos last front before in
      record {
        is = is;
        made = (numbered_at (past infos last front) a is).instance t;
        one = λ b u e. elim (cases_eq b a) [
          | inl same ↦ (same, rw same (record { info = refl; instance = refl; id = refl; offset = refl }))
          | inr ne ↦ absurd ((own b a ne u t).0 e)
        ];
      }

  -- and so it is behind the rest
  pub one_after : StandsFor (past infos last (front ++ rest))
  one_after = subst StandsFor (sym (past-append infos last front rest))
      (kept_along StandsFor (one_kept now.instance a now) (past infos last front) rest stands_here
      (legal_after infos last front rest legal))

-- ** the instance of a number

-- what is found under a number
pub record IsNumbered (infos : List ImageInfo) (p : Past) (n : ℕ) (x : Instance) : Type 0 where
  pub image : ℕ
  pub loaded : is_loaded (module_of p image) ≡ true
  pub is : instance_for infos image (module_of p image) ≡ x
  pub number : (module_of p image).instance ≡ n

pub numbered_is : (infos : List ImageInfo) (p : Past) (n : ℕ) (x : Instance)
    → find (λ (y : Instance). y.number == n) (instances_in infos p) ≡ Some x → IsNumbered infos p n x
unfolding instances_in
numbered_is infos p n x e =
    let f = found_at infos 0 p.modules (λ (y : Instance). y.number == n) x e in
    let zero-plus : 0 + f.at ≡ f.at = omega arith in
    let l = loaded_as infos f.at (module_of p f.at) x
    (ap (λ (i : ℕ). loaded_instance infos i (module_of p f.at)) (sym zero-plus) ∙ f.is) in
    record {
      image = f.at;
      loaded = l.loaded;
      is = l.is;
      number =
          ap (λ (y : Instance). y.number) l.is ∙ eqb-true x.number n f.passes;
    }

for_same : (infos : List ImageInfo) (a : ℕ) (new old : Module) → AreSame new old
    → instance_for infos a new ≡ instance_for infos a old
for_same infos a new old s = rw (s.info, s.instance, s.id, s.offset) refl

-- one number, one instance
pub same_instance : (infos : List ImageInfo) (last : ℕ) (front rest : List Event) (n : ℕ) (x y : Instance)
    → IsLegal infos last (front ++ rest)
    → find (λ (z : Instance). z.number == n) (instances_in infos (past infos last front)) ≡ Some x
    → find (λ (z : Instance). z.number == n) (instances_in infos (past infos last (front ++ rest))) ≡ Some y
    → x ≡ y
same_instance infos last front rest n x y legal at_front at_whole =
    let f = numbered_is infos (past infos last front) n x at_front in
    let w = numbered_is infos (past infos last (front ++ rest)) n y at_whole in
    let s = (one_after infos last front rest f.image legal f.loaded).one w.image w.loaded (w.number ∙ sym f.number) in
    sym f.is ∙ (sym (for_same infos f.image _ _ s.1)
    ∙ (ap (λ (i : ℕ). instance_for infos i (module_after infos last (front ++ rest) w.image)) (sym s.0) ∙ w.is))
