-- A part as the first relocations leave it.
use Rattle.std.proofs.Common.{◌≡◌, ◌∙◌, ℕ, zero, suc, [], ◌∷◌, ◌+◌, ◌-◌, ◌<◌, ◌≤◌, Bool, true, false, List, fold, take}
use Rattle.std.proofs.Common.{drop, length, get_or, Option, Some, None, refl, sym, ap, arith, inl, inr}
use Rattle.std.specs.Prelude.{slice_range}
use Rattle.std.specs.List.{slice_get}
use Rattle.std.proofs.lemmas.Bool.{cases_lt}
use Rattle.std.proofs.lemmas.Bool.Decides.{nat_tests}
use Rattle.std.proofs.lemmas.List.{take_all, get_or-take, get_or-drop, same_lists, length-take-le, length-drop}
use Rattle.std.proofs.lemmas.List.Sums.{fold_more}
use Rattle.std.proofs.lemmas.Option.{slice_get_within, get_or_from_slice_get}
use Rattle.elf_records.specs.Laws.{length-splice}
use Rattle.image_file.specs.declared.relocation.ImageRelocation.{ImageRelocation}
use Rattle.image_file.specs.Spelled.{Part, Spelled}
use Rattle.loaded_modules.specs.declared.instance.Instance.{Instance}
use Rattle.loaded_modules.specs.Images.{JobImages}
use Rattle.loaded_modules.specs.Loader.{lies_in, part_bytes, with_relocation, with_written, relocation_bytes}
use Rattle.loaded_modules.specs.Words.{with_numbered, IsWindow}

abbrev pub relocated : JobImages → Spelled → Instance → Part → ℕ → List ℕ
relocated m image x part n = fold (with_relocation m image x part) part.bytes (take n image.relocations)

pub none_past : {X : Type 0} (xs : List X) (n : ℕ) → slice_get xs n ≡ None → length xs ≤ n
none_past xs n is = elim (cases_lt n (length xs)) [
  | inl lt ↦ absurd (within xs n lt is)
  | inr past ↦ past
]
  where
    within : {X : Type 0} (xs : List X) (n : ℕ) → n < length xs → slice_get xs n ≡ None → ⊥
    within [] n lt is = omega (arith, lt)
    within (y ∷ ys) zero lt is = cc
    within (y ∷ ys) (suc n) lt is = within ys n (omega (arith, lt)) is

-- ** nothing grows

pub inside : (part : Part) (place count : ℕ) → lies_in part place count ≡ true
    → (part.address ≤ place) × (place + count ≤ part.address + length part.bytes)
inside part place count h = grind (arith, nat_tests)

written_long : (t : Bool) (part : Part) (bytes : List ℕ) (place : ℕ) (w : List ℕ) → lies_in part place (length w) ≡ t
    → length bytes ≡ length part.bytes
    → length (with_written part bytes place w) ≡ length bytes
written_long true part bytes place w is same =
    rw is (let at = inside part place (length w) is in
    length-splice (place - part.address) w bytes (omega (arith, at.0, at.1, same)))
written_long false part bytes place w is same = rw is refl

fold_long : (m : JobImages) (image : Spelled) (x : Instance) (part : Part) (rs : List ImageRelocation) (bytes : List ℕ)
    → length bytes ≡ length part.bytes
    → length (fold (with_relocation m image x part) bytes rs) ≡ length part.bytes
fold_long m image x part [] bytes same = same
fold_long m image x part (r ∷ rs) bytes same =
    fold_long m image x part rs (with_relocation m image x part bytes r)
    (written_long (lies_in part r.place (length (relocation_bytes m image x r))) part bytes r.place
    (relocation_bytes m image x r) refl same ∙ same)

module _ (m : JobImages) (image : Spelled) (x : Instance) (part : Part) where
  pub length-relocated : (n : ℕ) → length (relocated m image x part n) ≡ length part.bytes
  length-relocated n = fold_long m image x part (take n image.relocations) part.bytes refl

  -- one more
  pub relocated_on : (n : ℕ) (r : Option ImageRelocation) → r ≡ slice_get image.relocations n
      → with_numbered m image x part (relocated m image x part n) r ≡ relocated m image x part (n + 1)
  relocated_on n None is =
      let past = none_past image.relocations n (sym is) in
      ap (fold (with_relocation m image x part) part.bytes)
      (take_all n image.relocations past ∙ sym (take_all (n + 1) image.relocations (omega (arith, past))))
  relocated_on n (Some r) is =
      sym (fold_more (with_relocation m image x part) part.bytes image.relocations n r
      (slice_get_within image.relocations n r (sym is))
      ∙ ap (with_relocation m image x part (relocated m image x part n))
      (get_or_from_slice_get image.relocations n r r (sym is)))

  -- all
  pub relocated_all : (n : ℕ) → length image.relocations ≤ n → relocated m image x part n ≡ part_bytes m image x part
  unfolding part_bytes
  relocated_all n past = ap (fold (with_relocation m image x part) part.bytes) (take_all n image.relocations past)

  pub length-part_bytes : length (part_bytes m image x part) ≡ length part.bytes
  unfolding part_bytes
  length-part_bytes = fold_long m image x part image.relocations part.bytes refl

-- ** what a window is

pub window_is : (whole : List ℕ) (from n : ℕ) (window : List ℕ) → IsWindow whole from window → length window ≡ n
    → window ≡ slice_range whole from (from + n)
window_is whole from n window shows same =
    let long : length (slice_range whole from (from + n)) ≡ n =
    length-take-le (from + n - from) (drop from whole)
    (let rest = length-drop from whole in omega (arith, rest, shows.within, same)) ∙ omega arith in
    same_lists window (slice_range whole from (from + n)) (same ∙ sym long)
    (λ k d lt. shows.same k d lt
    ∙ sym (get_or-take (from + n - from) (drop from whole) k d (omega (arith, lt, same))
    ∙ get_or-drop from whole k d))

pub is_window : (whole : List ℕ) (from n : ℕ) (window : List ℕ) → from + n ≤ length whole
    → window ≡ slice_range whole from (from + n) → IsWindow whole from window
is_window whole from n window inside is =
    let long : length window ≡ n =
    ap length is ∙ length-take-le (from + n - from) (drop from whole)
    (let rest = length-drop from whole in omega (arith, rest, inside)) ∙ omega arith in
    record {
      within = omega (arith, long, inside);
      same = λ k d lt. ap (λ (b : List ℕ). get_or b k d) is
          ∙ get_or-take (from + n - from) (drop from whole) k d (omega (arith, lt, long)) ∙ get_or-drop from whole k d;
    }
