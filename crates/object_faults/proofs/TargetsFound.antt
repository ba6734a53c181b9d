-- The targets of sections of relocations, as far as the sections have been gone through.
use Rattle.std.proofs.Common.{◌≡◌, ◌≢◌, ◌+◌, ◌<◌, ◌⊎◌, ◌∙◌, ℕ, List, length, sym, inl, inr, arith, slice_index}
use Rattle.std.proofs.Common.{slice_set, get_or-set_same, get_or-set_other}
use Rattle.object_faults.specs.Parts.{header, section, relocates}
use Rattle.object_faults.specs.Firsts.{first_below}
use Rattle.object_faults.specs.Tables.{AreTargetsBelow}
use Rattle.object_faults.specs.Searches.{target_same, target_kept, target_new}

same_or_other : (m n : ℕ) → (m ≡ n) ⊎ (m ≡ n → ⊥)
same_or_other m n = grind arith

-- a section that holds no relocations of any of these
pub targets_other : (b : List ℕ) (s : ℕ) (found : List ℕ) → AreTargetsBelow b s found
    → ((t : ℕ) → t < (header b).e_shnum → (section b s).kind ≡ 4 → (section b s).info ≡ t → ⊥)
    → AreTargetsBelow b (s + 1) found
targets_other b s found known other t h = known t h ∙ sym (target_same b t s (other t h))

-- a section that holds relocations of a target that an earlier one has
pub targets_kept : (b : List ℕ) (s : ℕ) (found : List ℕ) → AreTargetsBelow b s found
    → (slice_index found (section b s).info ≡ 0 → ⊥) → AreTargetsBelow b (s + 1) found
targets_kept b s found known some t h =
    elim (same_or_other (section b s).info t) [
      | inl same ↦ known t h ∙ sym (target_kept b t s (λ none. some (rw same (known t h ∙ none))))
      | inr other ↦ known t h ∙ sym (target_same b t s (λ _ same. other same))
    ]

-- a section that holds relocations of a target that no earlier one has
pub targets_new : (b : List ℕ) (s : ℕ) (found : List ℕ) → 0 < s → (section b s).kind ≡ 4 → AreTargetsBelow b s found
    → (section b s).info < length found → slice_index found (section b s).info ≡ 0
    → AreTargetsBelow b (s + 1) (slice_set found (section b s).info s)
targets_new b s found above kind known inside none t h =
    elim (same_or_other (section b s).info t) [
      | inl same ↦
          let first : first_below (relocates b t) s ≡ 0 = sym (known t h) ∙ rw (← same) none in
          let within : t < length found = rw (← same) inside in
          rw same (get_or-set_same found t s 0 within ∙ sym (target_new b t s above first kind same))
      | inr other ↦
          let apart : t ≢ (section b s).info = λ e. other (sym e) in
          get_or-set_other found (section b s).info t s 0 apart ∙ known t h
          ∙ sym (target_same b t s (λ _ same. other same))
    ]
