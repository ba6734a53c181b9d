-- A vector before any event.
use Rattle.std.proofs.Common.{◌≡◌, ℕ, zero, suc, ◌+◌, ◌-◌, ◌<◌, ◌≤◌, ◌^◌, true, false, List, [], ◌∷◌, length, get_or}
use Rattle.std.proofs.Common.{Option, Some, None, sym, refl, ap, ◌∙◌, subst, arith, inl, inr}
use Rattle.std.specs.Prelude.{not, slice_get}
use Rattle.std.proofs.lemmas.List.Sums.{count_by-le-length}
use Rattle.loaded_modules.specs.declared.instance.Instance.{Instance}
use Rattle.std.proofs.lemmas.Bool.{cases_Bool, cases_eq, cases_lt, both_ways, true≢false, eq-eqb}
use Rattle.std.proofs.lemmas.Option.{same_Some, none-some}
use Rattle.std.proofs.lemmas.List.{get_or_past}
use Rattle.module_table.specs.declared.TheConstants.{SURPLUS}
use Rattle.module_table.specs.declared.modules.ImageInfo.{ImageInfo}
use Rattle.module_table.specs.declared.modules.Module.{Module}
use Rattle.module_table.specs.Modules.{AreInfos, no_module, is_loaded}
use Rattle.module_table.specs.Past.{first_module, first_modules, start, past, is_legal, startup_count}
use Rattle.module_table.specs.PastLaws.{image_of}
use Rattle.module_table.proofs.Starting.{own_number}
use Rattle.loaded_modules.specs.Images.{JobImages, infos, last_offset, size_at}
use Rattle.loaded_modules.specs.Loader.{fresh_block}
use Rattle.thread_vector.specs.Holding.{IsVector}
use Rattle.thread_vector.specs.Starting.{AreFirst, IsFirst, IsFirstOf, if_early, startup_info}
use Rattle.thread_vector.specs.Vectors.{Vector, Piece, no_piece, slot_of, held, fresh}
use Rattle.thread_vector.proofs.Facts.{image_has, listed_size}
use Rattle.thread_vector.proofs.Stepping.{held_at, held_none, fresh_at, fresh_none}

early_is : (o : Option ImageInfo) (info : ImageInfo) → if_early o ≡ Some info → o ≡ Some info
early_is None info e = absurd (none-some info e)
early_is (Some x) info e = elim (cases_Bool x.late) [
  | inl t ↦ absurd (none-some info (sym (rw t refl) ∙ e))
  | inr f ↦ sym (rw f refl) ∙ e
]

pub startup_size : (images : JobImages) (image : ℕ) (info : ImageInfo) → 1 ≤ image
    → startup_info (infos images) image ≡ Some info → info.size ≡ size_at images image
startup_size images image info low e =
    let n : suc (image - 1) ≡ image = omega arith in
    listed_size images (image - 1) info (early_is (slice_get (infos images) (image - 1)) info e) ∙ ap (size_at images) n

-- ---- the slots, one after the other

pub record AreSoFar (images : JobImages) (slots : List Piece) (count : ℕ) : Type 0 where
  pub some : 1 ≤ count
  pub few : count ≤ 65
  pub long : length slots ≡ count
  pub surplus : length (slot_of slots 0).bytes ≡ SURPLUS
  pub none : (slot_of slots 0).instance ≡ None
  pub each : (image : ℕ) → 1 ≤ image → image < count → IsFirst images image (slot_of slots image)

-- ---- images before any event

abbrev first_of : Option ImageInfo → ℕ → Module
first_of None n = no_module
first_of (Some info) n = first_module info n

first_is : (xs : List ImageInfo) (image j : ℕ)
    → get_or (first_modules xs image) j no_module ≡ first_of (slice_get xs j) (image + j)
first_is [] image j = refl
first_is (x ∷ xs) image zero = ap (first_module x) (omega arith)
first_is (x ∷ xs) image (suc j) = first_is xs (image + 1) j ∙ ap (first_of (slice_get xs j)) (omega arith)

record Loaded (o : Option ImageInfo) (m : Module) : Type 0 where
  pub early : if_early o ≡ Some m.info
  pub on_time : m.info.late ≡ false
  pub offset : m.offset ≡ None

loaded_of : (o : Option ImageInfo) (n : ℕ) → is_loaded (first_of o n) ≡ true → Loaded o (first_of o n)
loaded_of None n t = absurd (true≢false (sym t))
loaded_of (Some info) n t = elim (cases_Bool info.late) [
  | inl late ↦ absurd (both_ways (is_loaded (first_module info n)) (rw late refl) t)
  | inr early ↦ record { early = rw early refl; on_time = rw early refl ∙ early; offset = rw early refl }
]

early_loaded : (o : Option ImageInfo) (n : ℕ) (info : ImageInfo) → if_early o ≡ Some info
    → is_loaded (first_of o n) ≡ true
early_loaded None n info e = absurd (none-some info e)
early_loaded (Some x) n info e = elim (cases_Bool x.late) [
  | inl late ↦ absurd (none-some info (sym (rw late refl) ∙ e))
  | inr early ↦ rw early refl
]

-- of the image of a number from 1
module_first : (xs : List ImageInfo) (image : ℕ) → 1 ≤ image
    → get_or (no_module ∷ first_modules xs 1) image no_module ≡ first_of (slice_get xs (image - 1)) image
module_first xs image low =
    let n : suc (image - 1) ≡ image = omega arith in
    let m : 1 + (image - 1) ≡ image = omega arith in
    ap (λ (k : ℕ). get_or (no_module ∷ first_modules xs 1) k no_module) (sym n) ∙ first_is xs 1 (image - 1)
    ∙ ap (first_of (slice_get xs (image - 1))) m

record StartsWith (images : JobImages) (image : ℕ) (m : Module) : Type 0 where
  pub low : 1 ≤ image
  pub high : image ≤ startup_count (infos images)
  pub instance : m.instance ≡ image
  pub id : m.id ≡ image
  pub is : Loaded (slice_get (infos images) (image - 1)) m

starts_with : (images : JobImages) (image : ℕ) → AreInfos (infos images)
    → is_loaded (get_or (no_module ∷ first_modules (infos images) 1) image no_module) ≡ true
    → StartsWith images image (get_or (no_module ∷ first_modules (infos images) 1) image no_module)
starts_with images image are t =
    let own = own_number (infos images) image are t in
    let e = module_first (infos images) image own.2 in
    record {
      low = own.2;
      high = own.3;
      instance = own.0;
      id = own.1;
      is = subst (Loaded (slice_get (infos images) (image - 1))) (sym e)
          (loaded_of (slice_get (infos images) (image - 1)) image (subst (λ (m : Module). is_loaded m ≡ true) e t));
    }

-- ---- the vector

abbrev pub first_vector : ℕ → JobImages → List Piece → Vector
first_vector thread images slots =
    record { thread = thread; images = images; past = start (infos images) (last_offset images); slots = slots }

started_early : (images : JobImages) (image : ℕ) (info : ImageInfo) → 1 ≤ image
    → startup_info (infos images) image ≡ Some info
    → is_loaded (get_or (no_module ∷ first_modules (infos images) 1) image no_module) ≡ true
started_early images image info low e =
    subst (λ (m : Module). is_loaded m ≡ true) (sym (module_first (infos images) image low))
    (early_loaded (slice_get (infos images) (image - 1)) image info e)

first_made : (images : JobImages) (slots : List Piece) → AreInfos (infos images) → AreFirst images slots
    → (k number : ℕ) → (slot_of slots k).instance ≡ Some number → number ≤ startup_count (infos images)
first_made images slots infos_are are k number at = elim (cases_eq k 0) [
  | inl zero_is ↦ absurd (none-some number
      (sym are.none ∙ ap (λ (j : ℕ). (slot_of slots j).instance) (sym zero_is) ∙ at))
  | inr more ↦ elim (cases_lt k 65) [
    | inr past_end ↦ absurd
        (none-some number (sym (ap (λ (x : Piece). x.instance) (get_or_past slots k no_piece (omega (arith, are.long))))
        ∙ at))
    | inl l ↦ by_info (startup_info (infos images) k) refl (are.each k (omega arith) l)
  ]
]
  where
    by_info : (o : Option ImageInfo) → startup_info (infos images) k ≡ o → IsFirstOf images k (slot_of slots k) o
        → number ≤ startup_count (infos images)
    by_info None e is = absurd (none-some number (sym (ap (λ (x : Piece). x.instance) is) ∙ at))
    by_info (Some info) e is =
        let same : k ≡ number = same_Some k number (sym (ap (λ (x : Piece). x.instance) is.0) ∙ at) in
        let with = starts_with images k infos_are
        (started_early images k info
        (elim (cases_lt 0 k) [
          | inl l ↦ omega arith
          | inr z ↦ absurd
              (let zero_is : k ≡ 0 = omega arith in
              none-some number (sym are.none ∙ ap (λ (j : ℕ). (slot_of slots j).instance) (sym zero_is)
              ∙ at))
        ]) e) in
        omega (arith, with.high)

first_slot_of : (images : JobImages) (slots : List Piece) (image : ℕ) → AreInfos (infos images) → AreFirst images slots
    → is_loaded (get_or (no_module ∷ first_modules (infos images) 1) image no_module) ≡ true
    → IsFirstOf images image (slot_of slots image)
    (Some (get_or (no_module ∷ first_modules (infos images) 1) image no_module).info)
first_slot_of images slots image infos_are are loaded =
    let with = starts_with images image infos_are loaded in
    subst (IsFirstOf images image (slot_of slots image)) with.is.early
    (are.each image with.low
    (omega (
      arith,
      with.high,
      count_by-le-length (λ (i : ImageInfo). not i.late) (infos images),
      infos_are.few,
    )))

pub vector_first : (thread : ℕ) (images : JobImages) (slots : List Piece) → 1 ≤ thread → thread ≤ 64
    → AreInfos (infos images) → last_offset images < 2 ^ 27 → AreFirst images slots
    → IsVector (first_vector thread images slots)
unfolding start past is_legal
vector_first thread images slots low high infos_are small are = record {
  low = low;
  high = high;
  left = record { events = []; legal = record { images = infos_are; low = small; each = refl }; left = refl };
  long = are.long;
  surplus = are.surplus;
  made = first_made images slots infos_are are;
  sizes = λ image loaded at.
      let with = starts_with images image infos_are loaded in
      rw with.id (first_slot_of images slots image infos_are are loaded).1;
}

pub held_first : (thread : ℕ) (images : JobImages) (slots : List Piece) → AreInfos (infos images)
    → AreFirst images slots → (i : ℕ)
    → held (first_vector thread images slots) i ≡ fresh images (start (infos images) (last_offset images)) i
unfolding start
held_first thread images slots infos_are are i = by_image (image_of (start (infos images) (last_offset images)) i) refl
  where
    v : Vector
    v = first_vector thread images slots

    by_image : (o : Option ℕ) → image_of (start (infos images) (last_offset images)) i ≡ o
        → held v i ≡ fresh images (start (infos images) (last_offset images)) i
    by_image None e = held_none v i e ∙ sym (fresh_none images (start (infos images) (last_offset images)) i e)
    by_image (Some a) e =
        let has = image_has (start (infos images) (last_offset images)) i a e in
        let with = starts_with images a infos_are has.1 in
        let slot = (first_slot_of images slots a infos_are are has.1).0 in
        held_at v i a e ∙ rw (with.is.offset, with.id, with.instance, slot, eq-eqb a a refl)
        (ap (λ (x : Instance). Some (fresh_block images x)) (rw with.is.on_time refl))
        ∙ sym (fresh_at images (start (infos images) (last_offset images)) i a e)
