use Rattle.std.proofs.Common.{◌∙◌, ◌+◌, arith, length, subst, List, ℕ}
use Rattle.loaded_modules.specs.Words.{IsWindow}
use Rattle.image_file.specs.Spelled.{lent_part}
use Rattle.loaded_modules.proofs.Relocated.{length-relocated, relocated, relocated_all, relocated_on, is_window}
use Rattle.loaded_modules.proofs.Relocated.{window_is}
use Rattle.loaded_modules.proofs.Untouched.{untouched}
use Rattle.loaded_modules.proofs.parts.LoadedImage.read_window.Goals as goal
use Rattle.std.specs.List.{slice_get}
use Rattle.std.proofs.Common.{refl, inl, inr}

pub loop-number-preserved : goal.loop-number-preserved
loop-number-preserved c =
    let m = c.args.self.now.modules.now in
    let image = c.args.self.now.image.now in
    let x = c.args.self.now.instance.now in
    let part = lent_part c.args.part in
    let n = c.loop-number.number in (
      subst (λ (b : List ℕ). IsWindow b c.args.from c.relocate.new.window)
          (relocated_on m image x part n (slice_get image.relocations n) refl)
          (c.relocate.ensures.shows (relocated m image x part n)
          (length-relocated m image x part n) c.loop-number.invariant.0),
      c.relocate.ensures.len ∙ c.loop-number.invariant.1,
    )

pub loop-number-init : goal.loop-number-init
loop-number-init c =
    let m = c.args.self.now.modules.now in
    let image = c.args.self.now.image.now in
    let x = c.args.self.now.instance.now in
    let part = lent_part c.args.part in
    let w = c.copy_from_slice.new.self in
    let first = c.relocations_below-first.result in
    let raw : IsWindow part.bytes c.args.from w =
    is_window part.bytes c.args.from
    (length c.args.window.now) w c.requires.inside c.copy_from_slice.ensures.after in (
      subst (λ k. IsWindow (relocated m image x part k) c.args.from w) (omega arith)
          (untouched m image x part c.args.from w first 0
          (λ k r ge lt at. let low = c.relocations_below-first.ensures.below k r (omega (arith, lt)) at in
          let a = c.saturating_sub.ensures in let b = c.from.ensures in let d = c.from-2.ensures in
          inl (omega (arith, low, a, b, d)))
          raw),
      c.copy_from_slice.ensures.len,
    )

pub returns-clause-shows : goal.returns-clause-shows
returns-clause-shows c =
    let m = c.args.self.now.modules.now in
    let image = c.args.self.now.image.now in
    let x = c.args.self.now.instance.now in
    let part = lent_part c.args.part in
    let n = c.loop-number.number in
    let w = c.loop-number.window in
    let rest = length image.relocations in
    window_is _ c.args.from (length c.args.window.now) c.loop-number.window
    (subst (λ (b : List ℕ). IsWindow b c.args.from c.loop-number.window)
    (relocated_all m image x part (n + rest) (omega arith))
    (untouched m image x part c.args.from w rest n
    (λ k r ge lt at. let high = c.relocations_below-last.ensures.above k r (omega (arith, ge)) at in
    let b = c.from.ensures in let d = c.from-2.ensures in let e = c.copy_from_slice.ensures.len in
    let g = c.loop-number.invariant.1 in inr (omega (arith, high, b, d, e, g)))
    c.loop-number.invariant.0))
    c.loop-number.invariant.1
