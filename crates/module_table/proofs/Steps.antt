-- One event keeps the tables.
use Rattle.std.proofs.Common.{◌≡◌, ◌≢◌, ℕ, ◌+◌, ◌-◌, ◌<◌, ◌≤◌, Bool, true, false, List, length, get_or, sym, refl, ap}
use Rattle.std.proofs.Common.{◌∙◌, subst, arith, inl, inr}
use Rattle.std.proofs.Math.ListN.{set}
use Rattle.std.specs.Prelude.{◌==◌, if◌then◌else◌, slice_index, unwrap_or}
use Rattle.std.specs.Int.{bit_at}
use Rattle.std.specs.List.{list_any}
use Rattle.std.proofs.lemmas.Bool.{cases_Bool, cases_eq, cases_lt, both_ways, and_parts, and_from, and_right, and_left}
use Rattle.std.proofs.lemmas.Bool.{false_from_ne_true, eqb-true, eq-eqb, ne_eqb, lt-ltb}
use Rattle.std.proofs.lemmas.Bool.{false≢true}
use Rattle.std.proofs.lemmas.List.{get_or_past, get_or-set_same, get_or-set_other, length-set}
use Rattle.std.proofs.lemmas.List.Elements.{All-set, All-from_get_or}
use Rattle.std.proofs.lemmas.List.Folds.{list_any_none, list_any_at}
use Rattle.module_table.specs.declared.TheConstants.{MOST_INSTANCES}
use Rattle.module_table.specs.declared.modules.Module.{Module}
use Rattle.module_table.specs.Modules.{IsInfo, no_module, is_loaded}
use Rattle.module_table.specs.Past.{Past, module_of, has_id, least_free, new_instance, loaded, retained, released}
use Rattle.module_table.specs.Past.{with_uses}
use Rattle.module_table.specs.PastLaws.{IsLeastFree}
use Rattle.module_table.specs.Marks.{AddsId, RemovesId, HasRoom, IsLeastAbsent}
use Rattle.module_table.specs.Start.{MarksIds}
use Rattle.module_table.specs.Tables.{IsPast, IsNumbered, Finds, AreTables, CanLoad, HasFreeId}
use Rattle.module_table.proofs.LeastId.{least_free_is, least_free_le, same_least}
use Rattle.module_table.proofs.Infos.{info_of}
use Rattle.module_table.proofs.MoreLists.{list_any-set_alike, list_any-set_here, count_by-fails_twice}

-- ---- which numbers are images

-- what is not `no_module` in some respect has a number that an image has
within_by : (p : Past) (image : ℕ) (f : Module → Bool) → IsPast p → f no_module ≡ false → f (module_of p image) ≡ true
    → (image < length p.modules) × (1 ≤ image)
within_by p image f is none here = (
  elim (cases_lt image (length p.modules)) [
    | inl l ↦ l
    | inr past ↦ absurd
        (both_ways _ none (subst (λ (m : Module). f m ≡ true) (get_or_past p.modules image no_module past) here))
  ],
  elim (cases_lt 0 image) [
    | inl l ↦ omega arith
    | inr z ↦ let e : image ≡ 0 =
        omega arith in absurd (both_ways _ none
        (subst (λ (m : Module). f m ≡ true) is.none (subst (λ (j : ℕ). f (module_of p j) ≡ true) e here)))
  ],
)

pub loaded_within : (p : Past) (image : ℕ) → IsPast p → is_loaded (module_of p image) ≡ true
    → (image < length p.modules) × (1 ≤ image)
loaded_within p image is here = within_by p image (λ m. is_loaded m) is refl here

pub late_within : (p : Past) (image : ℕ) → IsPast p → (module_of p image).info.late ≡ true
    → (image < length p.modules) × (1 ≤ image)
late_within p image is here = within_by p image (λ m. m.info.late) is refl here

-- ---- the least free id

-- where a late image is not loaded, at least two of the slots are empty
pub few_loaded : (p : Past) (image : ℕ) → IsPast p → CanLoad p image → HasFreeId p
few_loaded p image is can =
    let within = late_within p image is can.late in
    let first : is_loaded (get_or p.modules 0 no_module) ≡ false =
    subst (λ (m : Module). is_loaded m ≡ false) (sym is.none) refl in
    count_by-fails_twice (λ m. is_loaded m) p.modules image no_module within.1 within.0 first can.unloaded

pub least_of : (p : Past) → HasFreeId p → IsLeastFree p.modules (least_free p.modules)
least_of p few = least_free_is p.modules (omega arith)

pub least_high : (p : Past) → IsPast p → HasFreeId p → least_free p.modules ≤ 64
least_high p is few = omega (arith, least_free_le p.modules (least_free p.modules) (least_of p few), is.few)

-- ---- what a history leaves

past_with : (p q : Past) (image : ℕ) (m : Module) → IsPast p → 1 ≤ image → q.modules ≡ set p.modules image m
    → q.seen ≡ p.seen + 1 → q.limit ≡ p.limit → p.made ≤ q.made → q.made ≤ MOST_INSTANCES
    → q.taken ≤ q.limit → IsInfo m.info → m.uses ≤ q.seen + 1 → IsNumbered q.made m → IsPast q
past_with p q image m is low modules seen limit more made taken info uses numbered = record {
  few = rw (modules, length-set) is.few;
  none = rw modules (get_or-set_other p.modules image 0 m no_module (λ e. absurd (omega arith)) ∙ is.none);
  made = made;
  taken = taken;
  limit = rw limit is.limit;
  infos = rw modules (All-set (λ (x : Module). IsInfo x.info) p.modules image m info is.infos);
  uses = rw modules (All-set (λ (x : Module). x.uses ≤ q.seen + 1) p.modules image m uses
      (λ k d l. let old : (get_or p.modules k d).uses ≤ p.seen + 1 = is.uses k d l in omega arith));
  numbered = rw modules (All-set (λ (x : Module). IsNumbered q.made x) p.modules image m numbered
      (λ k d l. let old = is.numbered k d l in record {
        instance = λ t. let l' : (get_or p.modules k d).instance ≤ p.made = old.instance t in omega arith;
        id = old.id;
      }));
}

pub numbered_at : (p : Past) (image : ℕ) → IsPast p → IsNumbered p.made (module_of p image)
numbered_at p image is = elim (cases_lt image (length p.modules)) [
  | inl l ↦ is.numbered image no_module l
  | inr past ↦ subst (λ (m : Module). IsNumbered p.made m) (sym (get_or_past p.modules image no_module past))
      (record {
        instance = λ t. absurd (false≢true t);
        id = record { low = λ t. absurd (false≢true t); high = λ t. absurd (false≢true t) };
      })
]

-- ---- tables by a key

-- an image whose key stays
finds_same : (key : Module → ℕ) (slots : List ℕ) (ms : List Module) (image : ℕ) (m : Module) → image < length ms
    → Finds key slots ms
    → (is_loaded m ≡ true → is_loaded (get_or ms image no_module) ≡ true) → key m ≡ key (get_or ms image no_module)
    → Finds key slots (set ms image m)
finds_same key slots ms image m l finds stays same = record {
  at = λ k t. elim (cases_eq k image) [
    | inl e ↦ let here : get_or (set ms image m) k no_module ≡ m = rw e (get_or-set_same ms image m no_module l) in
        let old : slice_index slots (key (get_or ms image no_module)) ≡ image =
        finds.at image (stays (subst (λ (x : Module). is_loaded x ≡ true) here t)) in
        rw (here, same) (old ∙ sym e)
    | inr ne ↦ let here : get_or (set ms image m) k no_module ≡ get_or ms k no_module =
        get_or-set_other ms image k m no_module ne in
        rw here (finds.at k (subst (λ (x : Module). is_loaded x ≡ true) here t))
  ];
}

-- an image with a key that no loaded image has
finds_new : (key : Module → ℕ) (slots : List ℕ) (ms : List Module) (image : ℕ) (m : Module) → image < length ms
    → key m < length slots → Finds key slots ms
    → ((k : ℕ) → is_loaded (get_or ms k no_module) ≡ true → key (get_or ms k no_module) ≢ key m)
    → Finds key (set slots (key m) image) (set ms image m)
finds_new key slots ms image m l room finds fresh = record {
  at = λ k t. elim (cases_eq k image) [
    | inl e ↦ let here : get_or (set ms image m) k no_module ≡ m = rw e (get_or-set_same ms image m no_module l) in
        rw here (get_or-set_same slots (key m) image 0 room ∙ sym e)
    | inr ne ↦ let here : get_or (set ms image m) k no_module ≡ get_or ms k no_module =
        get_or-set_other ms image k m no_module ne in
        let was : is_loaded (get_or ms k no_module) ≡ true = subst (λ (x : Module). is_loaded x ≡ true) here t in
        rw here (get_or-set_other slots (key m) (key (get_or ms k no_module)) image 0 (fresh k was) ∙ finds.at k was)
  ];
}

-- ---- marks

marks_same : (word : ℕ) (ms : List Module) (image : ℕ) (m : Module) → MarksIds word ms
    → is_loaded m ≡ is_loaded (get_or ms image no_module) → m.id ≡ (get_or ms image no_module).id
    → MarksIds word (set ms image m)
marks_same word ms image m marks loaded id =
    record {
      at = λ k l. rw (list_any-set_alike (has_id (k + 1)) ms image m no_module (rw (loaded, id) refl))
          (marks.at k l);
    }

marks_new : (word word' : ℕ) (ms : List Module) (image : ℕ) (m : Module) → image < length ms → MarksIds word ms
    → AddsId word m.id word' → is_loaded m ≡ true
    → is_loaded (get_or ms image no_module) ≡ false → MarksIds word' (set ms image m)
marks_new word word' ms image m l marks adds loaded unloaded = record {
  at = λ k h. elim (cases_eq (k + 1) m.id) [
    | inl e ↦ rw (
      adds k h,
      eq-eqb (k + 1) m.id e,
      list_any-set_here (has_id (k + 1)) ms image m l
          (and_from (is_loaded m) (m.id == (k + 1)) loaded (eq-eqb m.id (k + 1) (sym e))),
    ) refl
    | inr ne ↦
        let new : has_id (k + 1) m ≡ false =
        and_right (is_loaded m) (m.id == (k + 1)) (ne_eqb m.id (k + 1) (λ e. ne (sym e))) in
        let old : has_id (k + 1) (get_or ms image no_module) ≡ false =
        and_left (is_loaded (get_or ms image no_module)) ((get_or ms image no_module).id == (k + 1)) unloaded in
        rw (adds k h, ne_eqb (k + 1) m.id ne, list_any-set_alike (has_id (k + 1)) ms image m no_module (new ∙ sym old))
        (marks.at k h)
  ];
}

-- no other image has the id
id_gone : (slots : List ℕ) (ms : List Module) (image : ℕ) (m : Module) → image < length ms → Finds (λ x. x.id) slots ms
    → is_loaded (get_or ms image no_module) ≡ true → is_loaded m ≡ false
    → list_any (has_id (get_or ms image no_module).id) (set ms image m) ≡ false
id_gone slots ms image m l finds loaded unloaded =
    let id : ℕ = (get_or ms image no_module).id in
    list_any_none (has_id (get_or ms image no_module).id) (set ms image m)
    (All-from_get_or (λ (x : Module). has_id (get_or ms image no_module).id x ≡ false) (set ms image m) no_module
    (λ k h. elim (cases_eq k image) [
      | inl e ↦ let here : get_or (set ms image m) k no_module ≡ m = rw e (get_or-set_same ms image m no_module l) in
          rw here (and_left (is_loaded m) (m.id == (get_or ms image no_module).id) unloaded)
      | inr ne ↦ let here : get_or (set ms image m) k no_module ≡ get_or ms k no_module =
          get_or-set_other ms image k m no_module ne in
          rw here (false_from_ne_true _ (λ t.
          let parts = and_parts (is_loaded (get_or ms k no_module))
          ((get_or ms k no_module).id == (get_or ms image no_module).id) t in
          ne (sym (finds.at k parts.0)
          ∙ ap (λ (j : ℕ). slice_index slots j)
          (eqb-true (get_or ms k no_module).id (get_or ms image no_module).id parts.1) ∙ finds.at image loaded)))
    ]))

marks_gone : (word word' : ℕ) (slots : List ℕ) (ms : List Module) (image : ℕ) (m : Module) → image < length ms
    → MarksIds word ms → Finds (λ x. x.id) slots ms
    → RemovesId word (get_or ms image no_module).id word' → is_loaded m ≡ false
    → is_loaded (get_or ms image no_module) ≡ true → MarksIds word' (set ms image m)
marks_gone word word' slots ms image m l marks finds removes unloaded loaded = record {
  at = λ k h. elim (cases_eq (k + 1) (get_or ms image no_module).id) [
    | inl e ↦ rw (
      removes k h,
      eq-eqb (k + 1) (get_or ms image no_module).id e,
      e,
      id_gone slots ms image m l finds loaded unloaded,
    ) refl
    | inr ne ↦
        let new : has_id (k + 1) m ≡ false = and_left (is_loaded m) (m.id == (k + 1)) unloaded in
        let old : has_id (k + 1) (get_or ms image no_module) ≡ false =
        and_right (is_loaded (get_or ms image no_module)) ((get_or ms image no_module).id == (k + 1))
        (ne_eqb (get_or ms image no_module).id (k + 1) (λ e. ne (sym e))) in
        rw (
          removes k h,
          ne_eqb (k + 1) (get_or ms image no_module).id ne,
          list_any-set_alike (has_id (k + 1)) ms image m no_module (new ∙ sym old),
        ) (marks.at k h)
  ];
}

-- ---- one event

pub uses_at : (p : Past) (image : ℕ) → IsPast p → image < length p.modules → (module_of p image).uses ≤ p.seen + 1
uses_at p image is l = is.uses image no_module l

-- the image of a loaded instance, held open another number of times
used : Past → ℕ → ℕ → Module
used p image uses = record (module_of p image) { uses = uses }

past_with_uses : (p : Past) (image uses : ℕ) → IsPast p → is_loaded (module_of p image) ≡ true → uses ≤ p.seen + 2
    → IsPast (with_uses p image uses)
past_with_uses p image uses is loaded few =
    let within = loaded_within p image is loaded in
    let old = is.numbered image no_module within.0 in
    past_with p (with_uses p image uses) image (record (module_of p image) { uses = uses }) is within.1 refl refl refl
    (omega arith) is.made is.taken (info_of p image is) (omega arith)
    (record {
      instance = λ _. old.instance loaded;
      id = record { low = λ _. old.id.low loaded; high = λ _. old.id.high loaded };
    })

-- it stays loaded
kept_loaded : (p : Past) (a b : List ℕ) (word image uses : ℕ) → AreTables p a b word
    → is_loaded (module_of p image) ≡ true → 1 ≤ uses → uses ≤ p.seen + 2
    → AreTables (with_uses p image uses) a b word
kept_loaded p a b word image uses is loaded low few =
    let within = loaded_within p image is.past loaded in
    record {
      past = past_with_uses p image uses is.past loaded few;
      instances = is.instances;
      ids = is.ids;
      instance_slots = finds_same (λ x. x.instance) a p.modules image
          (record (module_of p image) { uses = uses }) within.0 is.instance_slots (λ _. loaded) refl;
      id_slots = finds_same (λ x. x.id) b p.modules image
          (record (module_of p image) { uses = uses }) within.0 is.id_slots (λ _. loaded) refl;
      marks = marks_same word p.modules image (record (module_of p image) { uses = uses }) is.marks
          (lt-ltb 0 uses (omega arith) ∙ sym loaded) refl;
    }

pub retained_kept : (p : Past) (a b : List ℕ) (word image : ℕ) → AreTables p a b word
    → is_loaded (module_of p image) ≡ true → AreTables (retained p image) a b word
unfolding retained
retained_kept p a b word image is loaded =
    let uses : (module_of p image).uses ≤ p.seen + 1 =
    uses_at p image is.past (loaded_within p image is.past loaded).0 in
    kept_loaded p a b word image ((module_of p image).uses + 1) is loaded (omega arith) (omega arith)

pub released_kept : (p : Past) (a b : List ℕ) (word image : ℕ) → AreTables p a b word → 1 < (module_of p image).uses
    → AreTables (released p image) a b word
unfolding released
released_kept p a b word image is more =
    let loaded : is_loaded (module_of p image) ≡ true = lt-ltb 0 (module_of p image).uses (omega arith) in
    let uses : (module_of p image).uses ≤ p.seen + 1 =
    uses_at p image is.past (loaded_within p image is.past loaded).0 in
    kept_loaded p a b word image ((module_of p image).uses - 1) is loaded (omega arith) (omega arith)

-- the last close
pub released_gone : (p : Past) (a b : List ℕ) (word word' image : ℕ) → AreTables p a b word
    → (module_of p image).uses ≡ 1 → RemovesId word (module_of p image).id word'
    → AreTables (released p image) a b word'
unfolding released
released_gone p a b word word' image is last removes =
    let loaded : is_loaded (module_of p image) ≡ true = lt-ltb 0 (module_of p image).uses (omega arith) in
    let within = loaded_within p image is.past loaded in
    let gone : is_loaded (record (module_of p image) { uses = (module_of p image).uses - 1 }) ≡ false = rw last refl in
    record {
      past = past_with_uses p image ((module_of p image).uses - 1) is.past loaded (omega arith);
      instances = is.instances;
      ids = is.ids;
      instance_slots = finds_same (λ x. x.instance) a p.modules image
          (record (module_of p image) { uses = (module_of p image).uses - 1 }) within.0 is.instance_slots
          (λ _. loaded) refl;
      id_slots = finds_same (λ x. x.id) b p.modules image
          (record (module_of p image) { uses = (module_of p image).uses - 1 }) within.0 is.id_slots (λ _. loaded) refl;
      marks = marks_gone word word' b p.modules image
          (record (module_of p image)
          { uses = (module_of p image).uses - 1 }) within.0 is.marks is.id_slots removes gone loaded;
    }

taken_kept : (p : Past) (image : ℕ) → IsPast p → CanLoad p image
    → unwrap_or (new_instance p (module_of p image)).offset p.taken ≤ p.limit
taken_kept p image is can = elim (cases_Bool (module_of p image).info.statics) [
  | inl t ↦ rw t (can.room t)
  | inr f ↦ rw f is.taken
]

pub past_loaded : (p : Past) (image : ℕ) → IsPast p → CanLoad p image → IsPast (loaded p image)
unfolding loaded
past_loaded p image is can =
    let within = late_within p image is can.late in
    let few = few_loaded p image is can in
    let least = least_of p few in
    let high : least_free p.modules ≤ 64 = least_high p is few in
    let low : 1 ≤ least_free p.modules = least.low in
    let below : p.made < MOST_INSTANCES = can.below in
    past_with p (loaded p image) image (new_instance p (module_of p image)) is within.1 refl refl refl (omega arith)
    (omega arith) (taken_kept p image is can) (info_of p image is) (omega arith)
    (record { instance = λ _. omega arith; id = record { low = λ _. low; high = λ _. high } })

pub past_retained : (p : Past) (image : ℕ) → IsPast p → is_loaded (module_of p image) ≡ true → IsPast (retained p image)
unfolding retained
past_retained p image is loaded =
    let uses : (module_of p image).uses ≤ p.seen + 1 = uses_at p image is (loaded_within p image is loaded).0 in
    past_with_uses p image ((module_of p image).uses + 1) is loaded (omega arith)

pub past_released : (p : Past) (image : ℕ) → IsPast p → 0 < (module_of p image).uses → IsPast (released p image)
unfolding released
past_released p image is held =
    let loaded : is_loaded (module_of p image) ≡ true = lt-ltb 0 (module_of p image).uses held in
    let uses : (module_of p image).uses ≤ p.seen + 1 = uses_at p image is (loaded_within p image is loaded).0 in
    past_with_uses p image ((module_of p image).uses - 1) is loaded (omega arith)

pub loaded_kept : (p : Past) (a b : List ℕ) (word word' image : ℕ) → AreTables p a b word → CanLoad p image
    → AddsId word (least_free p.modules) word'
    → AreTables (loaded p image) (set a (p.made + 1) image) (set b (least_free p.modules) image) word'
unfolding loaded
loaded_kept p a b word word' image is can adds =
    let m : Module = new_instance p (module_of p image) in
    let within = late_within p image is.past can.late in
    let few = few_loaded p image is.past can in
    let least = least_of p few in
    let high : least_free p.modules ≤ 64 = least_high p is.past few in
    let low : 1 ≤ least_free p.modules = least.low in
    let below : p.made + 1 ≤ MOST_INSTANCES = (let less : p.made < MOST_INSTANCES = can.below in omega arith) in
    let long : MOST_INSTANCES + 1 ≤ length a = omega (arith, is.instances) in
    let wide : 65 ≤ length b = omega (arith, is.ids) in
    record {
      past = past_loaded p image is.past can;
      instances = rw length-set is.instances;
      ids = rw length-set is.ids;
      instance_slots = finds_new (λ x. x.instance) a p.modules image (new_instance p (module_of p image)) within.0
          (omega arith) is.instance_slots
          (λ k t e. let old : (get_or p.modules k no_module).instance ≤ p.made = (numbered_at p k is.past).instance t in
          omega arith);
      id_slots = finds_new (λ x. x.id) b p.modules image (new_instance p (module_of p image)) within.0
          (omega arith) is.id_slots
          (λ k t e. both_ways _ least.free
          (list_any_at (has_id (least_free p.modules)) p.modules k no_module (loaded_within p k is.past t).0
          (and_from _ _ t (eq-eqb _ _ e))));
      marks = marks_new word word' p.modules image
          (new_instance p (module_of p image)) within.0 is.marks adds refl can.unloaded;
    }

-- ---- what the code needs of the marks

bit_false : (b : Bool) → ◌≡◌ {A = ℕ} 0 (if b then 1 else 0) → b ≡ false
bit_false true e = absurd (omega arith)
bit_false false e = refl

bit_true : (b : Bool) → ◌≡◌ {A = ℕ} 1 (if b then 1 else 0) → b ≡ true
bit_true true e = refl
bit_true false e = absurd (omega arith)

mark_of : (word id : ℕ) (ms : List Module) → MarksIds word ms → 1 ≤ id → id ≤ 64
    → bit_at word (id - 1) ≡ (if list_any (has_id id) ms then 1 else 0)
mark_of word id ms marks low high =
    let e : id - 1 + 1 ≡ id = omega arith in
    subst (λ (j : ℕ). bit_at word (id - 1) ≡ (if list_any (has_id j) ms then 1 else 0)) e
    (marks.at (id - 1) (omega arith))

pub room_for : (p : Past) (a b : List ℕ) (word : ℕ) → AreTables p a b word → HasFreeId p → HasRoom word
room_for p a b word is few =
    let least = least_of p few in
    let low : 1 ≤ least_free p.modules = least.low in
    let high : least_free p.modules ≤ 64 = least_high p is.past few in
    record {
      bit = least_free p.modules - 1;
      within = omega arith;
      clear = mark_of word (least_free p.modules) p.modules is.marks low high ∙ (rw least.free refl);
    }

pub least_is : (p : Past) (a b : List ℕ) (word id : ℕ) → AreTables p a b word → HasFreeId p → IsLeastAbsent word id
    → id ≡ least_free p.modules
least_is p a b word id is few absent =
    let low : 1 ≤ id = absent.low in
    let high : id ≤ 64 = absent.high in
    same_least p.modules id (least_free p.modules) (record {
      low = absent.low;
      free = bit_false (list_any (has_id id) p.modules)
          (sym absent.absent ∙ mark_of word id p.modules is.marks low high);
      least = λ k l h. bit_true (list_any (has_id k) p.modules)
          (sym (absent.least (k - 1) (omega arith)) ∙ mark_of word k p.modules is.marks l (omega arith));
    }) (least_of p few)
