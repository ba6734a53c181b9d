-- A table that finds each loaded image under its key answers which image has a key.
use Rattle.std.proofs.Common.{◌≡◌, ℕ, ◌<◌, Bool, true, false, cond, List, length, get_or, Option, Some, None, sym, refl}
use Rattle.std.proofs.Common.{ap, ◌∙◌, subst, arith, inl, inr}
use Rattle.std.specs.Prelude.{◌&&◌, ◌==◌, if◌then◌else◌, position, slice_get, slice_index, slice_index_or, option_map}
use Rattle.std.specs.Prelude.{unwrap_or}
use Rattle.std.specs.List.{position_or_len}
use Rattle.std.proofs.lemmas.Bool.{false_from_ne_true, cases_Bool, cases_lt, both_ways, and_parts, eqb-true, lt-ltb}
use Rattle.std.proofs.lemmas.Bool.{le-ltb}
use Rattle.std.proofs.lemmas.List.{get_or_past}
use Rattle.std.proofs.lemmas.Option.{get_or_from_slice_get, unwrap_or-slice_get}
use Rattle.std.proofs.lemmas.List.Sums.{position_or_len_is}
use Rattle.module_table.specs.declared.modules.Module.{Module}
use Rattle.module_table.specs.Modules.{no_module, is_loaded}
use Rattle.module_table.specs.Past.{Past, has_id, module_of}
use Rattle.module_table.specs.PastLaws.{image_of, instance_of}
use Rattle.module_table.specs.Tables.{Finds, IsTheImage, IsTheImageUnder}

index_at : {X : Type 0} (p : X → Bool) (xs : List X) (i : ℕ) (d : X) → p d ≡ false
    → ((k : ℕ) → p (get_or xs k d) ≡ true → k ≡ i) → p (get_or xs i d) ≡ true → position p xs ≡ Some i
index_at p xs i d none only here =
    let within : i < length xs =
    elim (cases_lt i (length xs)) [
      | inl l ↦ l
      | inr past ↦ absurd
          (both_ways _ (subst (λ x. p x ≡ false) (sym (get_or_past xs i d past)) none) here)
    ] in
    let at : position_or_len p xs ≡ i =
    position_or_len_is p xs i d (omega arith)
    (λ k l. false_from_ne_true _ (λ t. let e : k ≡ i = only k t in omega arith)) (λ _. here) in
    rw at (rw (lt-ltb i (length xs) within) refl)

pub index_none : {X : Type 0} (p : X → Bool) (xs : List X) (i : ℕ) (d : X)
    → ((k : ℕ) → p (get_or xs k d) ≡ true → k ≡ i) → p (get_or xs i d) ≡ false → position p xs ≡ None
index_none p xs i d only here =
    let at : position_or_len p xs ≡ length xs =
    position_or_len_is p xs (length xs) d (omega arith)
    (λ k l. false_from_ne_true _
    (λ t. let e : k ≡ i = only k t in both_ways _ (subst (λ (j : ℕ). p (get_or xs j d) ≡ false) (sym e) here) t))
    (λ l. absurd (omega arith)) in
    rw at (rw (le-ltb (length xs) (length xs) (omega arith)) refl)

-- the index of an element that passes, where only one can
pub position_one : {X : Type 0} (p : X → Bool) (xs : List X) (i : ℕ) (d : X) → p d ≡ false
    → ((k : ℕ) → p (get_or xs k d) ≡ true → k ≡ i) → position p xs ≡ cond (p (get_or xs i d)) (Some i) None
position_one p xs i d none only =
    elim (cases_Bool (p (get_or xs i d)))
    [ inl t ↦ rw t (index_at p xs i d none only t) | inr f ↦ rw f (index_none p xs i d only f) ]

pub found_by_key : (key : Module → ℕ) (slots : List ℕ) (modules : List Module) (x : ℕ) → Finds key slots modules
    → position (λ m. is_loaded m && (key m == x)) modules
    ≡ (if is_loaded (slice_index_or modules (slice_index slots x) no_module)
    && (key (slice_index_or modules (slice_index slots x) no_module) == x) then Some (slice_index slots x)
    else None)
found_by_key key slots modules x finds =
    position_one (λ m. is_loaded m && (key m == x)) modules (slice_index slots x) no_module refl
    (λ k t. let parts = and_parts _ _ t in
    sym (finds.at k parts.0) ∙ ap (λ (j : ℕ). slice_index slots j) (eqb-true _ _ parts.1))

-- what a table names under a key, at no key that it has: the image of no number, which is never loaded
past_the_end : (slots : List ℕ) (key : ℕ) → slice_get slots key ≡ None → slice_index slots key ≡ 0
past_the_end slots key e =
    sym (subst (λ (o : Option ℕ). unwrap_or o 0 ≡ slice_index slots key) e (unwrap_or-slice_get slots key 0))

image_at : (p : Past) (slots : List ℕ) (instance : ℕ) → Finds (λ m. m.instance) slots p.modules
    → IsTheImage p instance (Some (slice_index slots instance))
unfolding image_of
image_at p slots instance finds = found_by_key (λ m. m.instance) slots p.modules instance finds

pub image_found : (p : Past) (slots : List ℕ) (instance : ℕ) → module_of p 0 ≡ no_module
    → Finds (λ m. m.instance) slots p.modules → IsTheImage p instance (slice_get slots instance)
image_found p slots instance none finds = by_slot (slice_get slots instance) refl
  where
    by_slot : (o : Option ℕ) → slice_get slots instance ≡ o → IsTheImage p instance o
    by_slot None e = image_at p slots instance finds ∙ rw (past_the_end slots instance e, none) refl
    by_slot (Some image) e =
        subst (λ (j : ℕ). IsTheImage p instance (Some j)) (get_or_from_slice_get slots instance image 0 e)
        (image_at p slots instance finds)

instance_at : (p : Past) (slots : List ℕ) (id : ℕ) → Finds (λ m. m.id) slots p.modules
    → IsTheImageUnder p id (Some (slice_index slots id))
unfolding instance_of
instance_at p slots id finds =
    rw (found_by_key (λ m. m.id) slots p.modules id finds) (elim (has_id id (module_of p (slice_index slots id))) as
    (λ b. option_map (λ (image : ℕ). (module_of p image).instance) (cond b (Some (slice_index slots id)) None)
    ≡ cond b (Some (module_of p (slice_index slots id)).instance) None)
    [ true ↦ refl | false ↦ refl ])

pub instance_found : (p : Past) (slots : List ℕ) (id : ℕ) → module_of p 0 ≡ no_module
    → Finds (λ m. m.id) slots p.modules → IsTheImageUnder p id (slice_get slots id)
instance_found p slots id none finds = by_slot (slice_get slots id) refl
  where
    by_slot : (o : Option ℕ) → slice_get slots id ≡ o → IsTheImageUnder p id o
    by_slot None e = instance_at p slots id finds ∙ rw (past_the_end slots id e, none) refl
    by_slot (Some image) e =
        subst (λ (j : ℕ). IsTheImageUnder p id (Some j)) (get_or_from_slice_get slots id image 0 e)
        (instance_at p slots id finds)
