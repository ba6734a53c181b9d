-- One image more, and all of them.
use Rattle.std.proofs.Common.{◌≡◌, ◌≤◌, ◌<◌, List, length, refl, sym, ap, subst, ◌∙◌, arith}
use Rattle.std.specs.List.{All}
use Rattle.std.proofs.lemmas.List.{take_all}
use Rattle.std.proofs.lemmas.List.Elements.{All-more}
use Rattle.std.proofs.lemmas.Option.{slice_get_read}
use Rattle.job_text.specs.declared.images.Image.{Image}
use Rattle.loaded_modules.specs.Given.{file_kind_of}
use Rattle.race_tests.specs.Plain.{IsPlainImage}
use Rattle.race_tests.proofs.Fitting.{AreOfKind, fitting, one_more}
use Rattle.race_tests.proofs.loading.are_modules.Goals as goal

pub loop-index-preserved : goal.loop-index-preserved
loop-index-preserved c =
    let asked = c.images-asked.result.now in
    let images = c.args.images.now in
    let n = c.loop-index.index in
    let a = c.index-asked-index.result in
    let b = c.index-images-index.result in
    let less : n < length images = omega (arith, c.loop-index-test.true) in
    let more : n < length asked = omega (arith, c.loop-index-test.true, c.if-images-asked.false) in (
      one_more n asked images a b c.loop-index.invariant.0
          (slice_get_read asked (length asked) n a refl more c.index-asked-index.is)
          (slice_get_read images (length images) n b refl less c.index-images-index.is)
          (subst (λ (x : Image). b.kind ≡ file_kind_of x.kind) (sym c.index-asked-index.is)
          (sym c.kind.ensures ∙ c.if-not-is_kind.ensures refl)),
      All-more IsPlainImage images n b less c.loop-index.invariant.1
          (subst IsPlainImage c.index-images-index.is (c.if-not-is_plain_image.ensures refl)),
    )

pub returns : goal.returns
returns c = λ yes.
    let asked = c.images-asked.result.now in
    let images = c.args.images.now in
    let n = c.loop-index.index in
    let past : length images ≤ n = omega (arith, c.loop-index-test.false) in
    let long : length images ≡ length c.args.job.now.images =
    c.if-images-asked.false ∙ ap length c.images-asked.ensures.value in
    let kinds : AreOfKind (length images) asked images =
    λ k less. c.loop-index.invariant.0 k (omega (arith, past, less)) in
    fitting c.args.job.now images c.requires long
    (subst (λ (xs : List Image). AreOfKind (length images) xs images) c.images-asked.ensures.value kinds)
    (subst (All IsPlainImage) (take_all n images past) c.loop-index.invariant.1)
