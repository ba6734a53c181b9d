use Rattle.std.proofs.Common.{◌≡◌, ◌∙◌, ◌+◌, ◌<◌, ◌∷◌, ◌++◌, [], true, false, List, ℕ, append-nil, drop, length, sym}
use Rattle.std.proofs.Common.{ap, arith, not}
use Rattle.std.specs.Global.{Vec}
use Rattle.std.proofs.lemmas.List.{drop_all, drop_more}
use Rattle.tls_symbols.specs.Bindings.{exported_names}
use Rattle.job_link.specs.Given.{Given}
use Rattle.link_faults.specs.ImageKinds.{is_late}
use Rattle.job_link.specs.Linked.{exports_of}
use Rattle.job_link.proofs.Exported.{exports-nil, exports_none, exports_one}
use Rattle.job_link.proofs.preparing.startup_exports.Goals as goal
use Rattle.job_link.proofs.preparing.startup_exports.Goals.{then-is_startup+in_ok-exports+in_ok-push}
use Rattle.job_link.proofs.preparing.startup_exports.Goals.{else-is_startup}

pub loop-image-preserved : goal.loop-image-preserved
loop-image-preserved c =
    let images = c.args.images.now in
    let i = c.loop-image.image-index in
    let g = c.image-item.result in
    let inside : i < length images = omega arith in
    let rest : drop i images ≡ g ∷ drop (i + 1) images =
    drop_more images i g inside ∙ ap (λ (x : Given). x ∷ drop (i + 1) images) (sym c.image-item.is) in
    let kind : not (is_late c.kind.result) ≡ not (is_late g.kind) = ap (λ own. not (is_late own)) c.kind.ensures.kind in
    elim c.if-is_startup.branch [
      | then-is_startup+in_ok-exports+in_ok-push w ↦
          let yes : not (is_late g.kind) ≡ true = sym kind ∙ sym c.is_startup.ensures ∙ w.if-is_startup.true in
          let names = w.in_ok-exports.ensures ∙ ap exported_names w.objects.ensures.objects in
          ap (λ (seen : Vec (List (List ℕ))). seen.items ++ exports_of (drop (i + 1) images)) w.startup-is
          ∙ ap (λ (seen : List (List (List ℕ))). seen ++ exports_of (drop (i + 1) images))
          (w.in_ok-push.ensures.items ∙ ap (λ (ns : List (List ℕ)). c.loop-image.startup.items ++ ns ∷ []) names)
          ∙ exports_one c.loop-image.startup.items images i g rest yes ∙ c.loop-image.invariant
      | else-is_startup w ↦
          let no : not (is_late g.kind) ≡ false = sym kind ∙ sym c.is_startup.ensures ∙ w.if-is_startup.false in
          ap (λ (seen : Vec (List (List ℕ))). seen.items ++ exports_of (drop (i + 1) images)) w.startup-is
          ∙ exports_none c.loop-image.startup.items images i g rest no ∙ c.loop-image.invariant
    ]

pub returns : goal.returns
returns c =
    sym (append-nil c.loop-image.startup.items) ∙ ap (λ r. c.loop-image.startup.items ++ r) (sym exports-nil)
    ∙ ap (λ r. c.loop-image.startup.items ++ exports_of r)
    (sym (drop_all c.loop-image.image-index c.args.images.now c.loop-image-test.false)) ∙ c.loop-image.invariant
