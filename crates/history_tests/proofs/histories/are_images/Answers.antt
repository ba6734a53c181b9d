-- One image more: it fits, and is late where one before it is.
use Rattle.std.proofs.Common.{◌≡◌, ℕ, ◌+◌, ◌<◌, leb, Bool, true, false, List, length, get_or, take, sym, ◌∙◌, subst}
use Rattle.std.proofs.Common.{arith}
use Rattle.std.specs.Prelude.{All, AllPairs}
use Rattle.std.proofs.lemmas.Bool.{both_ways, OnTrue_from, leb-true, eqb-false}
use Rattle.std.proofs.lemmas.List.{take_more, take_all}
use Rattle.std.proofs.lemmas.List.Elements.{All-more}
use Rattle.std.proofs.lemmas.List.Quantifiers.{all_pairs_push}
use Rattle.module_table.specs.declared.modules.ImageInfo.{ImageInfo}
use Rattle.module_table.specs.Modules.{IsInfo, AreInfos}
use Rattle.history_tests.proofs.histories.are_images.Goals as goal
use Rattle.history_tests.proofs.histories.are_images.Goals.{else-late-via-then-late+else-not-info}
use Rattle.history_tests.proofs.histories.are_images.Goals.{else-late-via-else-late}

pairs_more : (infos : List ImageInfo) (i : ℕ) (d : ImageInfo) (late : Bool) → i < length infos
    → AllPairs (λ (a b : ImageInfo). a.late ≡ true → b.late ≡ true) (take i infos)
    → All (λ (a : ImageInfo). a.late ≡ true → late ≡ true) (take i infos)
    → (late ≡ true → (get_or infos i d).late ≡ true)
    → AllPairs (λ (a b : ImageInfo). a.late ≡ true → b.late ≡ true) (take (i + 1) infos)
pairs_more infos i d late l pairs seen stays =
    subst (λ (xs : List ImageInfo). AllPairs (λ (a b : ImageInfo). a.late ≡ true → b.late ≡ true) xs)
    (sym (take_more infos i d l))
    (all_pairs_push (λ (a b : ImageInfo). a.late ≡ true → b.late ≡ true) (take i infos) (get_or infos i d) pairs
    (λ k e h t. stays (seen k e h t)))

seen_more : (infos : List ImageInfo) (i : ℕ) (d : ImageInfo) (late : Bool) → i < length infos
    → All (λ (a : ImageInfo). a.late ≡ true → late ≡ true) (take i infos)
    → (late ≡ true → (get_or infos i d).late ≡ true)
    → All (λ (a : ImageInfo). a.late ≡ true → (get_or infos i d).late ≡ true) (take (i + 1) infos)
seen_more infos i d late l seen stays =
    All-more (λ (a : ImageInfo). a.late ≡ true → (get_or infos i d).late ≡ true) infos i d l
    (λ k e h t. stays (seen k e h t)) (λ t. t)

pub loop-info-preserved : goal.loop-info-preserved
loop-info-preserved c =
    let l : c.loop-info.info-index < length c.args.infos.now = omega arith in
    let stays : c.loop-info.late ≡ true
    → (get_or c.args.infos.now c.loop-info.info-index
    (record { late = false; statics = false; size = 0; align = 0 })).late ≡ true = elim c.else-late.branch [
      | else-late-via-then-late+else-not-info w ↦ λ t. w.if-not-info.false
      | else-late-via-else-late w ↦ λ t. absurd (both_ways _ w.if-late.false t)
    ] in
    record {
      each = All-more (λ (i : ImageInfo). IsInfo i) c.args.infos.now c.loop-info.info-index
          (record { late = false; statics = false; size = 0; align = 0 }) l c.loop-info.invariant.each
          (record { small = omega arith; aligned = omega arith; page = omega arith });
      late_last = pairs_more c.args.infos.now c.loop-info.info-index
          (record {
            late = false;
            statics = false;
            size = 0;
            align = 0;
          }) c.loop-info.late l c.loop-info.invariant.late_last
          c.loop-info.invariant.seen stays;
      seen = seen_more c.args.infos.now c.loop-info.info-index
          (record {
            late = false;
            statics = false;
            size = 0;
            align = 0;
          }) c.loop-info.late l c.loop-info.invariant.seen stays;
    }

pub returns-then-not-is_empty : goal.returns-then-not-is_empty
returns-then-not-is_empty c = OnTrue_from (leb (length c.args.infos.now) 64) (AreInfos c.args.infos.now) (λ t.
    let whole : take c.loop-info.info-index c.args.infos.now ≡ c.args.infos.now =
    take_all c.loop-info.info-index c.args.infos.now c.loop-info-test.false in
    record {
      some = let ne = eqb-false (length c.args.infos.now) 0 (sym c.is_empty.ensures ∙ c.if-not-is_empty.true) in
          omega arith;
      few = leb-true (length c.args.infos.now) 64 t;
      late_last = subst (λ (xs : List ImageInfo). AllPairs
          (λ (a b : ImageInfo). a.late ≡ true → b.late ≡ true) xs) whole c.loop-info.invariant.late_last;
      each = subst (λ (xs : List ImageInfo). All IsInfo xs) whole c.loop-info.invariant.each;
    })
