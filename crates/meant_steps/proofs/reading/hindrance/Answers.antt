use Rattle.std.proofs.Common.{◌≡◌, ◌<◌, ◌∙◌, ◌^◌, sym, refl, ap, arith, take, false}
use Rattle.std.proofs.lemmas.List.{length-take-le}
use Rattle.std.specs.Prelude.{ℕ}
use Rattle.amd64_subset.specs.Beginning.{begins_of}
use Rattle.whole_meaning.specs.Reading.{hindrance}
use Rattle.whole_meaning.specs.Threads.{ops}
use Rattle.meant_steps.proofs.Walking.{all-usual, from-marked, from-none, usual-at}
use Rattle.meant_steps.proofs.reading.hindrance.Goals as goal

low-of : (place at : ℕ) → place < 2 ^ 64 → place ≡ at → at < 2 ^ 64
low-of place at low is = omega arith

pub hindrance_from-requires-clause-low : goal.hindrance_from-requires-clause-low
hindrance_from-requires-clause-low g c =
    low-of c.place_of-place.result c.args.state.now.place c.place_of-place.type_inv c.place_of-place.ensures

pub hindrance_from-requires-clause-marked : goal.hindrance_from-requires-clause-marked
hindrance_from-requires-clause-marked g c =
    let m = c.in_ok-k.ensures.marked c.in_ok-k.k refl in
    ap (usual-at (g.M.Marks.mark c.args.marks.now) c.in_ok-k.k) (sym c.place_of-place.ensures) ∙ m.1

pub returns-in_err-k : goal.returns-in_err-k
unfolding hindrance
returns-in_err-k g c = c.from_residual.ensures
    ∙ sym (all-usual ops (g.M.Marks.mark c.args.marks.now) c.args.state.now c.args.bytes.now
    (low-of c.place_of-place.result c.args.state.now.place c.place_of-place.type_inv c.place_of-place.ensures)
    (λ j below. ap (usual-at (g.M.Marks.mark c.args.marks.now) j) (sym c.place_of-place.ensures)
    ∙ c.in_err-k.ensures.usual j below))

pub slice_bounds-begins-end : goal.slice_bounds-begins-end
slice_bounds-begins-end g c =
    let m = c.in_ok-k.ensures.marked c.in_ok-k.k refl in
    sym (length-take-le c.from.result c.args.bytes.now (omega (arith, m.0, c.from.ensures)))

pub hindrance_from-requires-clause-at : goal.hindrance_from-requires-clause-at
hindrance_from-requires-clause-at g c = let m = c.in_ok-k.ensures.marked c.in_ok-k.k refl in omega (arith, m.0)

pub returns-then-begins : goal.returns-then-begins
unfolding hindrance
returns-then-begins g c =
    let m = c.in_ok-k.ensures.marked c.in_ok-k.k refl in
    c.hindrance_from.ensures
    ∙ sym (from-marked ops (g.M.Marks.mark c.args.marks.now) c.args.state.now c.args.bytes.now
    (low-of c.place_of-place.result c.args.state.now.place c.place_of-place.type_inv c.place_of-place.ensures)
    c.in_ok-k.k (omega (arith, m.0))
    (λ j below. ap (usual-at (g.M.Marks.mark c.args.marks.now) j) (sym c.place_of-place.ensures)
    ∙ c.in_ok-k.ensures.usual j below))

pub returns : goal.returns
unfolding hindrance
returns g c =
    let m = c.in_ok-k.ensures.marked c.in_ok-k.k refl in
    let none : begins_of (take c.in_ok-k.k c.args.bytes.now) ≡ false =
    ap (λ (n : ℕ). begins_of (take n c.args.bytes.now)) (sym c.from.ensures)
    ∙ (sym c.begins.ensures.exact ∙ c.if-begins.false) in
    sym (from-marked ops (g.M.Marks.mark c.args.marks.now) c.args.state.now c.args.bytes.now
    (low-of c.place_of-place.result c.args.state.now.place c.place_of-place.type_inv c.place_of-place.ensures)
    c.in_ok-k.k (omega (arith, m.0))
    (λ j below. ap (usual-at (g.M.Marks.mark c.args.marks.now) j) (sym c.place_of-place.ensures)
    ∙ c.in_ok-k.ensures.usual j below)
    ∙ from-none ops (g.M.Marks.mark c.args.marks.now) c.args.state.now c.args.bytes.now
    (low-of c.place_of-place.result c.args.state.now.place c.place_of-place.type_inv c.place_of-place.ensures)
    c.in_ok-k.k (omega (arith, m.0)) none)
