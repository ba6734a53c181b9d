use Rattle.std.proofs.Common.{◌≡◌, ◌<◌, ◌-◌, ◌∙◌, ap, arith, length, subst}
use Rattle.std.specs.List.{AllZip, range_with_len}
use Rattle.std.specs.Prelude.{IfOk}
use Rattle.rayon.specs.Numbers.{nat_range}
use Rattle.rayon.proofs.ToStd.{nat_range-All}
use Rattle.link_needs.specs.Linking.{Linking}
use Rattle.link_needs.specs.Plans.{AreOwn}
use Rattle.link_needs.proofs.NeedsLemmas.{all_ok}
use Rattle.link_needs.proofs.inputs.Inputs.each_wanted.Goals as goal

pub collect-requires-clause-ready : goal.collect-requires-clause-ready
collect-requires-clause-ready g c κs within =
    let ends = c.into_par_iter.ensures in
    let same = ap (λ l. length l.objects) c.self.view_is in
    let inside =
    nat_range-All (λ i. i < length c.args.self.now.objects) 0 (length c.self.inside.objects.now)
    (λ i low high. omega (arith, high, same)) in
    rw (c.map.ensures.base, c.map.ensures.f, c.with_min_len.ensures.base, ends.0, ends.1)
    (λ k d lt. (inside k d lt, λ y p. tt))

pub returns : goal.returns
returns g c =
    let l = c.args.self.now in
    let ends = c.into_par_iter.ensures in
    let results = c.in_ok-collect.ensures.0 in
    let chain = c.in_ok-collect.ensures.1 in
    let long = ap (λ l. length l.objects) c.self.view_is in
    let all : length c.self.inside.objects.now - 0 ≡ length l.objects = omega (arith, long) in
    let numbers =
    chain.1 ∙ (λ i. nat_range (c.map.ensures.base i).base.start (c.map.ensures.base i).base.end)
    ∙ (λ i. nat_range (c.with_min_len.ensures.base i).start (c.with_min_len.ensures.base i).end)
    ∙ (λ i. nat_range (ends.0 i) (ends.1 i)) ∙ ap (range_with_len 0) all in
    let are =
    subst (λ (l : Linking). AllZip (λ o r. IfOk r (AreOwn l o)) chain.0 results)
    (ap (λ f. f.0.now) c.map.ensures.f) chain.2 in
    all_ok (AreOwn l) (range_with_len 0 (length l.objects)) results c.in_ok-collect.field-0 _
    (subst (λ os. AllZip (λ o r. IfOk r (AreOwn l o)) os results) numbers are)
    c.in_ok-collect.ensures.2
