-- The tables before any event are those of the start.
use Rattle.std.proofs.Common.{◌≡◌, ℕ, zero, suc, ◌+◌, ◌^◌, ◌<◌, ◌≤◌, true, false, cond, List, [], ◌∷◌, length, get_or}
use Rattle.std.proofs.Common.{sym, refl, ap, ◌∙◌, subst, arith, inl, inr}
use Rattle.std.specs.Prelude.{not, slice_index, All, AllPairs}
use Rattle.std.proofs.lemmas.Bool.{cases_Bool, cases_lt, both_ways, true≢false}
use Rattle.std.proofs.lemmas.List.{get_or_past}
use Rattle.std.proofs.lemmas.List.Elements.{All-cons, All-nil, All-from_get_or}
use Rattle.std.proofs.lemmas.List.Sums.{sum_by-cons, count_by-le-length}
use Rattle.module_table.specs.declared.TheConstants.{MOST_INSTANCES, MOST_IDS}
use Rattle.module_table.specs.declared.modules.ImageInfo.{ImageInfo}
use Rattle.module_table.specs.declared.modules.Module.{Module}
use Rattle.module_table.specs.Modules.{IsInfo, AreInfos, no_module, is_loaded}
use Rattle.module_table.specs.Past.{first_module, first_modules, startup_count, start}
use Rattle.module_table.specs.Start.{HasSmallId, MarksIds}
use Rattle.module_table.specs.Tables.{IsPast, IsNumbered, AreTables}
use Rattle.module_table.proofs.StartLemmas.{length-first_modules}

-- a startup image's number is at most the number of startup images, where late ones are last
startup_low : (infos : List ImageInfo) (k : ℕ) (d : ImageInfo)
    → AllPairs (λ (a b : ImageInfo). a.late ≡ true → b.late ≡ true) infos → k < length infos
    → (get_or infos k d).late ≡ false
    → k + 1 ≤ startup_count infos
startup_low [] k d last l early = absurd (omega arith)
startup_low (x ∷ xs) zero d last l early =
    let here : startup_count (x ∷ xs) ≡ 1 + startup_count xs =
    rw (sum_by-cons (λ (i : ImageInfo). cond (not i.late) 1 0) x xs, early) refl in
    omega arith
startup_low (x ∷ xs) (suc k) d last l early = elim (cases_Bool x.late) [
  | inl late ↦ absurd (both_ways _ early (last 0 (suc k) d (omega arith) l late))
  | inr first ↦
      let here : startup_count (x ∷ xs) ≡ 1 + startup_count xs =
      rw (sum_by-cons (λ (i : ImageInfo). cond (not i.late) 1 0) x xs, first) refl in
      let rest : k + 1 ≤ startup_count xs =
      startup_low xs k d (λ i j e h m. last (suc i) (suc j) e (omega arith) (omega arith)) (omega arith) early in
      omega arith
]

pub get_or-first_modules : (infos : List ImageInfo) (image k : ℕ) (d : ImageInfo) (e : Module) → k < length infos
    → get_or (first_modules infos image) k e ≡ first_module (get_or infos k d) (image + k)
get_or-first_modules [] image k d e l = absurd (omega arith)
get_or-first_modules (x ∷ xs) image zero d e l = ap (first_module x) (omega arith)
get_or-first_modules (x ∷ xs) image (suc k) d e l = get_or-first_modules xs (image + 1) k d e (omega arith)
    ∙ ap (first_module (get_or xs k d)) (omega arith)

-- what holds of one image before any event
first_info : (info : ImageInfo) (image : ℕ) → (first_module info image).info ≡ info
first_info info image = elim (cases_Bool info.late) [ inl t ↦ rw t refl | inr f ↦ rw f refl ]

first_uses : (info : ImageInfo) (image : ℕ) → (first_module info image).uses ≤ 1
first_uses info image = elim (cases_Bool info.late) [ inl t ↦ rw t (omega arith) | inr f ↦ rw f (omega arith) ]

first_loaded : (info : ImageInfo) (image : ℕ) → is_loaded (first_module info image) ≡ true
    → (info.late ≡ false) × ((first_module info image).instance ≡ image) × ((first_module info image).id ≡ image)
first_loaded info image t = elim (cases_Bool info.late) [
  | inl late ↦ absurd (both_ways (is_loaded (first_module info image)) (rw late refl) t)
  | inr early ↦ (early, rw early refl, rw early refl)
]

-- a loaded image before any event: its numbers are its own, and it is a startup image
pub own_number : (infos : List ImageInfo) (image : ℕ) → AreInfos infos
    → is_loaded (get_or (no_module ∷ first_modules infos 1) image no_module) ≡ true
    → ((get_or (no_module ∷ first_modules infos 1) image no_module).instance ≡ image)
    × ((get_or (no_module ∷ first_modules infos 1) image no_module).id ≡ image) × (1 ≤ image)
    × (image ≤ startup_count infos)
own_number infos zero are t = absurd (true≢false (sym t))
own_number infos (suc k) are t =
    let within : k < length infos = elim (cases_lt k (length infos)) [
      | inl l ↦ l
      | inr past ↦ let beyond : length (first_modules infos 1) ≤ k = rw length-first_modules past in
          absurd (both_ways _ (subst (λ (m : Module). is_loaded m ≡ false)
          (sym (get_or_past (first_modules infos 1) k no_module beyond)) refl) t)
    ] in
    let is : get_or (first_modules infos 1) k no_module ≡ first_module (get_or infos k no_module.info) (1 + k) =
    get_or-first_modules infos 1 k no_module.info no_module within in
    let own = first_loaded (get_or infos k no_module.info) (1 + k) (subst (λ (m : Module). is_loaded m ≡ true) is t) in
    let low : k + 1 ≤ startup_count infos = startup_low infos k no_module.info are.late_last within own.0 in
    let number : 1 + k ≡ suc k = omega arith in
    (rw is (own.1 ∙ number), rw is (own.2 ∙ number), omega arith, omega arith)

infos_all : (infos : List ImageInfo) (image : ℕ) → All IsInfo infos
    → All (λ (m : Module). IsInfo m.info) (first_modules infos image)
infos_all [] image all = All-nil (λ (m : Module). IsInfo m.info)
infos_all (x ∷ xs) image all =
    All-cons (λ (m : Module). IsInfo m.info) (first_module x image) (first_modules xs (image + 1))
    (subst IsInfo (sym (first_info x image)) (all 0 x (omega arith)))
    (infos_all xs (image + 1) (λ k d l. all (suc k) d (omega arith)))

uses_all : (infos : List ImageInfo) (image : ℕ) → All (λ (m : Module). m.uses ≤ 1) (first_modules infos image)
uses_all [] image = All-nil (λ (m : Module). m.uses ≤ 1)
uses_all (x ∷ xs) image =
    All-cons (λ (m : Module). m.uses ≤ 1) (first_module x image) (first_modules xs (image + 1)) (first_uses x image)
    (uses_all xs (image + 1))

numbered_all : (infos : List ImageInfo) → AreInfos infos
    → All (IsNumbered (startup_count infos)) (no_module ∷ first_modules infos 1)
numbered_all infos are =
    All-from_get_or (IsNumbered (startup_count infos)) (no_module ∷ first_modules infos 1) no_module (λ image l.
    let few : startup_count infos ≤ 64 =
    omega (arith, count_by-le-length (λ (i : ImageInfo). not i.late) infos, are.few) in
    record {
      instance = λ t. let own = own_number infos image are t in rw own.0 own.3;
      id = record {
        low = λ t. let own = own_number infos image are t in rw own.1 own.2;
        high = λ t. let own = own_number infos image are t in let high : image ≤ startup_count infos = own.3 in
            rw own.1 (omega arith);
      };
    })

pub small_ids : (infos : List ImageInfo) → AreInfos infos → All HasSmallId (no_module ∷ first_modules infos 1)
small_ids infos are = λ k d l. (numbered_all infos are k d l).id

pub past_start : (infos : List ImageInfo) (last_offset : ℕ) → AreInfos infos → last_offset < 2 ^ 27
    → IsPast (start infos last_offset)
unfolding start
past_start infos last_offset are low = record {
  few = omega (arith, length-first_modules infos 1, are.few);
  none = refl;
  made = omega (arith, count_by-le-length (λ (i : ImageInfo). not i.late) infos, are.few);
  taken = omega arith;
  limit = omega arith;
  infos = All-cons (λ (m : Module). IsInfo m.info) no_module (first_modules infos 1)
      (record { small = omega arith; aligned = omega arith; page = omega arith }) (infos_all infos 1 are.each);
  uses = All-cons (λ (m : Module). m.uses ≤ 0 + 1) no_module (first_modules infos 1) (omega arith) (uses_all infos 1);
  numbered = numbered_all infos are;
}

pub tables_start : (infos : List ImageInfo) (last_offset : ℕ) (a b : List ℕ) (word : ℕ) → AreInfos infos
    → last_offset < 2 ^ 27 → length a ≡ MOST_INSTANCES + 1
    → ((k : ℕ) → k < MOST_INSTANCES + 1 → slice_index a k ≡ k) → length b ≡ MOST_IDS + 1
    → ((k : ℕ) → k < MOST_IDS + 1 → slice_index b k ≡ k) → MarksIds word (no_module ∷ first_modules infos 1)
    → AreTables (start infos last_offset) a b word
unfolding start
tables_start infos last_offset a b word are low long own_a wide own_b marks =
    let few : startup_count infos ≤ 64 =
    omega (arith, count_by-le-length (λ (i : ImageInfo). not i.late) infos, are.few) in
    record {
      past = past_start infos last_offset are low;
      instances = long;
      ids = wide;
      instance_slots = record {
        at = λ image t. let own = own_number infos image are t in let high : image ≤ startup_count infos = own.3 in
            rw own.0 (own_a image (omega arith));
      };
      id_slots = record {
        at = λ image t. let own = own_number infos image are t in
            let high : image ≤ startup_count infos = own.3 in rw own.1 (own_b image (omega arith));
      };
      marks = marks;
    }
