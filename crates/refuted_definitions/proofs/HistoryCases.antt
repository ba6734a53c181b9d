-- The laws fix the answers: one over a wrong definition would make them the same, and here they are not.
use Rattle.std.proofs.Common.{◌≡◌, ℕ, zero, suc, Bool, true, false, List, [], ◌∷◌, Option, Some, None, refl, arith}
use Rattle.std.specs.Prelude.{AllPairs, length}
use Rattle.std.proofs.lemmas.List.Elements.{All-cons, All-nil}
use Rattle.module_table.specs.declared.events.CloseRefusal.{CloseRefusal}
use Rattle.module_table.specs.declared.events.CloseRefusal.TheVariants.{NotOpen, Permanent}
use Rattle.module_table.specs.declared.events.Event.{Event}
use Rattle.module_table.specs.declared.events.OpenRefusal.{OpenRefusal}
use Rattle.module_table.specs.declared.events.OpenRefusal.TheVariants.{StaticFull, Unknown}
use Rattle.module_table.specs.declared.modules.ImageInfo.{ImageInfo}
use Rattle.module_table.specs.Past.{IsLegal}
use Rattle.module_table.specs.Modules.{AreInfos, IsInfo}
use Rattle.module_table.specs.Past.{Past, accepts, after_one, close_refusal, is_legal, least_free, loaded, open_refusal}
use Rattle.module_table.specs.Past.{opened, past, released, retained, start}
use Rattle.line_laws.specs.Histories.{ClosesAreRuled, HistoriesHaveAccounts, IsCloseAnswer, IsOpenAnswer, OpensAreRuled}
use Rattle.refuted_definitions.proofs.Only.{one_answer}
use Rattle.refuted_definitions.specs.Histories.{ClosesAreRuledBy, HistoriesAreRefuted, IsLegalBy, OpensAreRuledBy}
use Rattle.refuted_definitions.specs.Histories.{is_legal as is_legal_by, past as past_by}

-- ** an image that starts with the program, and a late one whose blocks fill the surplus

abbrev info : Bool → ℕ → ImageInfo
info late size = record { late = late; statics = late; size = size; align = 1 }

abbrev infos : List ImageInfo
infos = info false 0 ∷ info true 4096 ∷ []

are_infos : AreInfos infos
are_infos = record {
  some = omega arith;
  few = omega arith;
  late_last = late_last;
  each = All-cons IsInfo (info false 0) (info true 4096 ∷ [])
      (record { small = omega arith; aligned = omega arith; page = omega arith })
      (All-cons IsInfo (info true 4096) [] (record { small = omega arith; aligned = omega arith; page = omega arith })
      (All-nil IsInfo));
}
  where
    late_last : AllPairs (λ (a b : ImageInfo). a.late ≡ true → b.late ≡ true) infos
    late_last zero j d lt within late = absurd cc
    late_last (suc zero) j d lt within late = absurd (omega (arith, lt, within))
    late_last (suc (suc i)) j d lt within late = absurd (omega (arith, lt, within))

abbrev opens : Event
opens = record { thread = 1; line = 1; opens = true; image = 2 }

abbrev closes : Event
closes = record { thread = 1; line = 1; opens = false; image = 2 }

-- ** where a law over a wrong definition leads

module _ (accounts : HistoriesHaveAccounts) (law : OpensAreRuled) (wrong_open : Past → ℕ → Option OpenRefusal)
    (wrong_after : Past → Event → Past) (wrong : OpensAreRuledBy wrong_open close_refusal wrong_after) where
  same_open : (events : List Event) (image : ℕ) → is_legal (start infos 0) events ≡ true
      → is_legal_by wrong_open close_refusal wrong_after (start infos 0) events ≡ true
      → open_refusal (past infos 0 events) image
      ≡ wrong_open (past_by wrong_open close_refusal wrong_after infos 0 events) image
  same_open events image legal also =
      let is : IsLegal infos 0 events = record { images = are_infos; low = omega arith; each = legal } in
      let is_too : IsLegalBy wrong_open close_refusal wrong_after infos 0 events =
      record { images = are_infos; low = omega arith; each = also } in
      let it = accounts infos 0 events is in
      one_answer
      (IsOpenAnswer infos 0 events (it.0 (length events)) (it.1.0 (length events)) image)
      (open_refusal (past infos 0 events) image)
      (wrong_open (past_by wrong_open close_refusal wrong_after infos 0 events) image)
      (law infos 0 events it.0 it.1.0 image is it.1.1)
      (wrong infos 0 events it.0 it.1.0 image is_too it.1.1)

module _ (law : ClosesAreRuled) (wrong_close : Past → ℕ → Option CloseRefusal) (wrong_after : Past → Event → Past)
    (wrong : ClosesAreRuledBy open_refusal wrong_close wrong_after) where
  same_close : (events : List Event) (image : ℕ) → is_legal (start infos 0) events ≡ true
      → is_legal_by open_refusal wrong_close wrong_after (start infos 0) events ≡ true
      → close_refusal (past infos 0 events) image
      ≡ wrong_close (past_by open_refusal wrong_close wrong_after infos 0 events) image
  same_close events image legal also = one_answer (IsCloseAnswer infos events image)
      (close_refusal (past infos 0 events) image)
      (wrong_close (past_by open_refusal wrong_close wrong_after infos 0 events) image)
      (law infos 0 events image (record { images = are_infos; low = omega arith; each = legal }))
      (wrong infos 0 events image (record { images = are_infos; low = omega arith; each = also }))

pub histories_refuted : HistoriesHaveAccounts → OpensAreRuled → ClosesAreRuled → HistoriesAreRefuted
unfolding start past open_refusal close_refusal after_one opened loaded retained released least_free is_legal accepts
histories_refuted accounts opens_law closes_law = record {
  surplus_ends_a_byte_early = λ wrong.
      let e : None ≡ Some StaticFull = same_open accounts opens_law _ _ wrong [] 2 refl refl in cc;
  loaded_before_unknown = λ wrong.
      let e : Some Unknown ≡ None = same_open accounts opens_law _ _ wrong [] 1 refl refl in cc;
  surplus_is_given_again = λ wrong.
      let e : Some StaticFull ≡ None = same_open accounts opens_law _ _ wrong (opens ∷ closes ∷ []) 2 refl refl in cc;
  opens_are_not_counted = λ wrong.
      let e : None ≡ Some NotOpen =
      same_close closes_law _ _ wrong (opens ∷ opens ∷ closes ∷ []) 2 refl refl in cc;
  permanent_is_not_open = λ wrong.
      let e : Some Permanent ≡ Some NotOpen = same_close closes_law _ _ wrong [] 1 refl refl in cc;
}
