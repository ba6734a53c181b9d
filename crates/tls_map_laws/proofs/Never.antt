-- In a legal history each instance has a number of its own, which never comes again.
use Rattle.std.proofs.Common.{◌≡◌, ◌∙◌, ◌+◌, ◌++◌, ◌≤◌, ℕ, zero, suc, Bool, true, false, List, [], ◌∷◌, cond, get_or}
use Rattle.std.proofs.Common.{length, Option, Some, None, refl, sym, ap, subst, inl, inr, arith, ltb, ◌<◌}
use Rattle.std.specs.Prelude.{is_some, option_to_list, position}
use Rattle.std.specs.List.{position_or_len}
use Rattle.std.proofs.lemmas.Bool.{and_from, and_parts, cases_Bool, cases_eq, eq-eqb, eqb-true, ltb-true}
use Rattle.std.proofs.lemmas.List.Sums.{passes_at_first}
use Rattle.known_instances.proofs.Found.{instance_for, loaded_as, loaded_is}
use Rattle.known_instances.proofs.Known.{known_is, legal_front, numbered_at_image}
use Rattle.known_instances.proofs.OneInstance.{one_after}
use Rattle.known_instances.specs.Known.{known_in}
use Rattle.loaded_modules.specs.declared.instance.Instance.{Instance}
use Rattle.module_table.proofs.LawsOfEnds.{ends_for_good}
use Rattle.module_table.proofs.LawsOfNumbers.{own_numbers}
use Rattle.module_table.proofs.Lookups.{position_one}
use Rattle.module_table.specs.Past.{IsLegal}
use Rattle.module_table.specs.Modules.{is_loaded, no_module}
use Rattle.module_table.specs.Past.{module_of}
use Rattle.module_table.specs.PastLaws.{has_instance, image_of, live}
use Rattle.module_table.specs.declared.events.Event.{Event}
use Rattle.module_table.specs.declared.modules.ImageInfo.{ImageInfo}
use Rattle.module_table.specs.declared.modules.Module.{Module}
use Rattle.thread_blocks.specs.Instances.{Loads, instance_at, instances, instances_from, instances_in, left_by}
use Rattle.thread_blocks.specs.Instances.{loaded_instance}
use Rattle.thread_blocks.specs.Turns.{IsFront}
use Rattle.tls_map_laws.proofs.Entries.{Distinct}
use Rattle.tls_map_laws.proofs.Keeping.{each_of}
use Rattle.tls_map_laws.proofs.Known.{NeverAgain, front_then}
use Rattle.tls_map_laws.proofs.Places.{Member}

-- ** members of the live instances, and the images that they are loaded as

pub record IsAt (infos : List ImageInfo) (image : ℕ) (ms : List Module) (x : Instance) : Type 0 where
  pub at : ℕ
  pub is : loaded_instance infos (image + at) (get_or ms at no_module) ≡ Some x

later_at : (infos : List ImageInfo) (image : ℕ) (m : Module) (ms : List Module) (x : Instance)
    → IsAt infos (suc image) ms x
    → IsAt infos image (m ∷ ms) x
later_at infos image m ms x r = record {
  at = suc r.at;
  is = ap (λ (i : ℕ). loaded_instance infos i (get_or ms r.at no_module)) (omega arith) ∙ r.is;
}

first_at : (infos : List ImageInfo) (image : ℕ) (m : Module) (ms : List Module) (x : Instance) (o : Option Instance)
    → loaded_instance infos image m ≡ o → (Member x (instances_from infos (suc image) ms) → IsAt infos (suc image) ms x)
    → Member x (option_to_list o ++ instances_from infos (suc image) ms) → IsAt infos image (m ∷ ms) x
first_at infos image m ms x None e rest member = later_at infos image m ms x (rest member)
first_at infos image m ms x (Some y) e rest (inl same) = record {
  at = 0;
  is = ap (λ (i : ℕ). loaded_instance infos i m) (omega arith) ∙ (e ∙ ap (λ (z : Instance). Some z) same);
}
first_at infos image m ms x (Some y) e rest (inr member) = later_at infos image m ms x (rest member)

member_at : (infos : List ImageInfo) (image : ℕ) (ms : List Module) (x : Instance)
    → Member x (instances_from infos image ms)
    → IsAt infos image ms x
member_at infos image [] x member = absurd member
member_at infos image (m ∷ ms) x member =
    first_at infos image m ms x (loaded_instance infos image m) refl (member_at infos (suc image) ms x) member

behind : (o : Option Instance) (x : Instance) (xs : List Instance) → Member x xs → Member x (option_to_list o ++ xs)
behind None x xs member = member
behind (Some y) x xs member = inr member

at_member : (infos : List ImageInfo) (image : ℕ) (ms : List Module) (a : ℕ) (x : Instance)
    → loaded_instance infos (image + a) (get_or ms a no_module) ≡ Some x → Member x (instances_from infos image ms)
at_member infos image [] a x e = cc
at_member infos image (m ∷ ms) zero x e =
    let here : loaded_instance infos image m ≡ Some x = ap (λ (i : ℕ). loaded_instance infos i m) (omega arith) ∙ e in
    subst (λ (o : Option Instance). Member x (option_to_list o ++ instances_from infos (suc image) ms)) (sym here)
    (inl refl)
at_member infos image (m ∷ ms) (suc a) x e =
    behind (loaded_instance infos image m) x (instances_from infos (suc image) ms)
    (at_member infos (suc image) ms a x
    (ap (λ (i : ℕ). loaded_instance infos i (get_or ms a no_module)) (omega arith) ∙ e))

-- ** numbers

-- no two images are loaded under one number
abbrev Apart : List ImageInfo → ℕ → List Module → Type 0
Apart infos image ms = (a b : ℕ) (x y : Instance) → (a ≡ b → ⊥)
    → loaded_instance infos (image + a) (get_or ms a no_module) ≡ Some x
    → loaded_instance infos (image + b) (get_or ms b no_module) ≡ Some y → y.number ≡ x.number → ⊥

apart_behind : (infos : List ImageInfo) (image : ℕ) (m : Module) (ms : List Module) → Apart infos image (m ∷ ms)
    → Apart infos (suc image) ms
apart_behind infos image m ms apart a b x y ne e f =
    apart (suc a) (suc b) x y (λ same. ne (omega (arith, same)))
    (ap (λ (i : ℕ). loaded_instance infos i (get_or ms a no_module)) (omega arith) ∙ e)
    (ap (λ (i : ℕ). loaded_instance infos i (get_or ms b no_module)) (omega arith) ∙ f)

distinct_with : (infos : List ImageInfo) (image : ℕ) (m : Module) (ms : List Module) (o : Option Instance)
    → loaded_instance infos image m ≡ o → Apart infos image (m ∷ ms) → Distinct (instances_from infos (suc image) ms)
    → Distinct (option_to_list o ++ instances_from infos (suc image) ms)
unfolding later_at
distinct_with infos image m ms None e apart rest = rest
distinct_with infos image m ms (Some y) e apart rest = (
  each_of (λ (z : Instance). z.number ≡ y.number → ⊥) (instances_from infos (suc image) ms)
      (λ z member same.
      let r = later_at infos image m ms z (member_at infos (suc image) ms z member) in
      let other : (0 ≡ r.at → ⊥) =
      λ zero_is. absurd (let s : 0 ≡ suc (member_at infos (suc image) ms z member).at = zero_is in omega (arith, s)) in
      apart 0 r.at y z other (ap (λ (i : ℕ). loaded_instance infos i m) (omega arith) ∙ e) r.is same),
  rest,
)

distinct : (infos : List ImageInfo) (image : ℕ) (ms : List Module) → Apart infos image ms
    → Distinct (instances_from infos image ms)
distinct infos image [] apart = tt
distinct infos image (m ∷ ms) apart =
    distinct_with infos image m ms (loaded_instance infos image m) refl apart
    (distinct infos (suc image) ms (apart_behind infos image m ms apart))

zero_plus : (n : ℕ) → 0 + n ≡ n
zero_plus n = omega arith

module _ {B : Type 0} (l : Loads B) where
  -- what is known of the images, and nothing that is loaded of them: numbers of instances depend on no more
  abbrev pub bare : Loads ℕ
  bare = record {
    infos = l.infos;
    last_offset = l.last_offset;
    function = λ x name. None;
    variable = λ image name. None;
    fixed = λ x. [];
    tables = λ x. [];
    shared = λ x. None;
    block = λ x. [];
  }

  -- the module of an image
  abbrev pub module_at : List Event → ℕ → Module
  module_at seen image = module_of (left_by l seen) image

  -- a live instance is that of a loaded image
  pub record IsLoaded (seen : List Event) (x : Instance) : Type 0 where
    pub image : ℕ
    pub is : loaded_instance l.infos image (module_at seen image) ≡ Some x
    pub loaded : is_loaded (module_at seen image) ≡ true
    pub same : instance_for l.infos image (module_at seen image) ≡ x

  pub loaded_of : (seen : List Event) (x : Instance) → Member x (instances l seen) → IsLoaded seen x
  unfolding instances_in
  loaded_of seen x member =
      let at = member_at l.infos 0 (left_by l seen).modules x member in
      let is : loaded_instance l.infos at.at (module_at seen at.at) ≡ Some x =
      ap (λ (i : ℕ). loaded_instance l.infos i (module_at seen at.at)) (sym (zero_plus at.at)) ∙ at.is in
      let one = loaded_as l.infos at.at (module_at seen at.at) x is in
      record { image = at.at; is = is; loaded = one.loaded; same = one.is }

  -- and that of a loaded image is live
  pub live_of : (seen : List Event) (image : ℕ) (x : Instance)
      → loaded_instance l.infos image (module_at seen image) ≡ Some x
      → Member x (instances l seen)
  unfolding instances_in
  live_of seen image x e =
      at_member l.infos 0 (left_by l seen).modules image x
      (ap (λ (i : ℕ). loaded_instance l.infos i (module_at seen image)) (zero_plus image) ∙ e)

  -- the law: an image's live instance is among the live
  pub at_live : (seen : List Event) (image : ℕ) (x : Instance) → instance_at l seen image ≡ Some x
      → Member x (instances l seen)
  unfolding instance_at
  at_live seen image x e = live_of seen image x e

module _ {B : Type 0} (l : Loads B) (history : List Event) (legal : IsLegal l.infos l.last_offset history) where
  pub front_legal : (seen : List Event) → IsFront seen history → IsLegal l.infos l.last_offset seen
  front_legal seen front = legal_front (bare l) history legal seen front

  -- the instance of a number is one in the whole history
  pub known_of : (seen : List Event) → IsFront seen history → (x : Instance) → Member x (instances l seen)
      → known_in (bare l) history x.number ≡ Some x
  known_of seen front x member =
      let at = loaded_of l seen x member in
      known_is (bare l) history legal seen x.number x front
      (numbered_at_image (bare l) history legal seen at.image x front at.is)

  one : (a b : List Event) → IsFront a history → IsFront b history → (x y : Instance) → Member x (instances l a)
      → Member y (instances l b) → y.number ≡ x.number → y ≡ x
  one a b f g x y m n e =
      let both : Some y ≡ Some x =
      sym (known_of b g y n) ∙ (ap (known_in (bare l) history) e ∙ known_of a f x m) in
      cc

  own : (seen : List Event) → IsFront seen history → Distinct (instances l seen)
  unfolding instances_in
  own seen front =
      let apart = own_numbers l.infos l.last_offset seen (front_legal seen front) in
      distinct l.infos 0 (left_by l seen).modules (λ a b x y ne e f same.
      let first = loaded_as l.infos (0 + a) (module_at l seen a) x e in
      let second = loaded_as l.infos (0 + b) (module_at l seen b) y f in
      (apart a b ne first.loaded second.loaded).0
      (ap (λ (z : Instance). z.number) first.is ∙ (sym same ∙ sym (ap (λ (z : Instance). z.number) second.is))))

  -- ** an instance that was closed is never live again

  -- a live instance's number is live
  number_live : (seen : List Event) → IsFront seen history → (x : Instance) → Member x (instances l seen)
      → live (left_by l seen) x.number ≡ true
  unfolding live image_of
  number_live seen front x member =
      let at = loaded_of l seen x member in
      let apart = own_numbers l.infos l.last_offset seen (front_legal seen front) in
      let number : (module_at l seen at.image).instance ≡ x.number = ap (λ (z : Instance). z.number) at.same in
      let has : has_instance x.number (module_at l seen at.image) ≡ true =
      and_from (is_loaded (module_at l seen at.image)) _ at.loaded
      (eq-eqb (module_at l seen at.image).instance x.number number) in
      let found = position_one (has_instance x.number) (left_by l seen).modules at.image no_module refl
      (λ k t. elim (cases_eq k at.image) [
        | inl same ↦ same
        | inr ne ↦
            let parts = and_parts (is_loaded (module_at l seen k)) _ t in
            absurd ((apart k at.image ne parts.0 at.loaded).0
            (eqb-true (module_at l seen k).instance x.number parts.1 ∙ sym number))
      ]) in
      ap (λ (o : Option ℕ). is_some o) found
      ∙ ap (λ (b : Bool). is_some (cond b (Some at.image) None)) has

  -- and a live number is that of a live instance
  pub record HasNumber (seen : List Event) (n : ℕ) : Type 0 where
    pub x : Instance
    pub member : Member x (instances l seen)
    pub number : x.number ≡ n

  live_number : (seen : List Event) (n : ℕ) → live (left_by l seen) n ≡ true → HasNumber seen n
  unfolding live image_of
  live_number seen n t =
      let first = position_or_len (has_instance n) (left_by l seen).modules in
      let has = passes_at_first (has_instance n) (left_by l seen).modules no_module (within t) in
      let parts = and_parts (is_loaded (module_at l seen first)) _ has in
      record {
        x = instance_for l.infos first (module_at l seen first);
        member = live_of l seen first (instance_for l.infos first (module_at l seen first))
            (loaded_is l.infos first (module_at l seen first) parts.0);
        number = eqb-true (module_at l seen first).instance n parts.1;
      }
    where
      within : is_some (position (has_instance n) (left_by l seen).modules) ≡ true
          → position_or_len (has_instance n) (left_by l seen).modules < length (left_by l seen).modules
      within t = elim (cases_Bool
          (ltb (position_or_len (has_instance n) (left_by l seen).modules) (length (left_by l seen).modules))) [
            | inl less ↦ ltb-true _ _ less
            | inr more ↦ absurd (let none : false ≡ true = rw more at t in cc)
          ]

  made_then : (a b : List Event) → IsFront a b → IsFront b history → (x : Instance) → Member x (instances l a)
      → x.number ≤ (left_by l b).made
  made_then a b f g x member =
      let at = loaded_of l a x member in
      let legal_b : IsLegal l.infos l.last_offset (a ++ f.0) =
      subst (IsLegal l.infos l.last_offset) f.1 (front_legal b g) in
      let stands = one_after l.infos l.last_offset a f.0 at.image legal_b at.loaded in
      let made : (module_at l a at.image).instance ≤ (left_by l b).made =
      subst (λ (es : List Event). (module_at l a at.image).instance ≤ (left_by l es).made) (sym f.1) stands.made in
      subst (λ (n : ℕ). n ≤ (left_by l b).made) (ap (λ (z : Instance). z.number) at.same) made

  stays : (a b c : List Event) → IsFront a b → IsFront b c → IsFront c history → (x : Instance)
      → Member x (instances l a) → Member x (instances l c) → Member x (instances l b)
  stays a b c f g h x m n = elim (cases_Bool (live (left_by l b) x.number)) [
    | inl t ↦
        let there = live_number b x.number t in
        let same : there.x ≡ x =
        one a b (front_then a c history (front_then a b c f g) h) (front_then b c history g h) x there.x m there.member
        there.number in
        subst (λ (z : Instance). Member z (instances l b)) same there.member
    | inr dead ↦
        let legal_c : IsLegal l.infos l.last_offset (b ++ g.0) =
        subst (IsLegal l.infos l.last_offset) g.1 (front_legal c h) in
        let gone = ends_for_good l.infos l.last_offset b g.0 x.number legal_c
        (made_then a b f (front_then b c history g h) x m) dead in
        let here : live (left_by l (b ++ g.0)) x.number ≡ true =
        subst (λ (es : List Event). live (left_by l es) x.number ≡ true) g.1 (number_live c h x n) in
        absurd (let both : true ≡ false = sym here ∙ gone in cc)
  ]

  -- the law
  pub never_again : NeverAgain l history
  never_again = record { own = own; one = one; stays = stays }
