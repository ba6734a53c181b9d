use Rattle.std.proofs.Common.{◌≡◌, ◌-◌, ◌∙◌, ◌++◌, ℕ, List, None, drop, map, sym, ap, subst, arith}
use Rattle.std.specs.List.{All}
use Rattle.std.proofs.lemmas.List.{take-append-drop}
use Rattle.std.proofs.lemmas.List.Elements.{All-drop, All-take}
use Rattle.placed_sections.specs.declared.part.PlacedPart.{PlacedPart}
use Rattle.placed_sections.specs.Files.{filled}
use Rattle.placed_sections.specs.Laws.{IsNear}
use Rattle.tls_relocs.specs.Laid.{end_of}
use Rattle.link_core.specs.Bytes.{linked_section}
use Rattle.link_core.specs.Laying.{Rise, laid_parts}
use Rattle.link_core.proofs.Laying.{cut, last_ends}
use Rattle.link_core.proofs.pieces.halves_of.Goals as goal

pub returns : goal.returns
returns c =
    let l = c.args.plan.now in
    let n = c.count_of_front-count.result in
    let from = c.args.from in
    let parts = c.args.parts.now in
    let split = c.split_at.ensures in
    let front = c.split_at.result.0.now in
    let back = c.split_at.result.1.now in
    let P = IsNear l.objects in
    let whole : parts ≡ front ++ back =
    sym (take-append-drop n parts) ∙ ap (λ (xs : List PlacedPart). xs ++ drop n parts) (sym split.front)
    ∙ ap (λ (ys : List PlacedPart). front ++ ys) (sym split.back) in
    let step = cut l from front back (subst (λ (xs : List PlacedPart). Rise l from xs) whole c.requires.rise) in
    let none : PlacedPart = record { place = 0; section = None } in
    let some = c.count_of_front-count.ensures in
    let ends : end_of from (map (filled (linked_section l)) front) ≡ c.end_of.result =
    last_ends l from front (n - 1) none (omega (arith, split.front_len, some)) ∙ sym c.end_of.ensures.end in
    record {
      near = (
        subst (All P) (sym split.front) (All-take P n parts c.requires.near),
        subst (All P) (sym split.back) (All-drop P n parts c.requires.near),
      );
      rise = (step.front_rise, subst (λ (at : ℕ). Rise l at back) ends step.back_rise);
      ends = step.length_is ∙ ends;
      laid =
          ap (laid_parts l from) whole ∙ step.laid
          ∙ ap (λ (at : ℕ). laid_parts l from front ++ laid_parts l at back) ends;
      fewer = (omega (arith, split.front_len, some), omega (arith, split.back_len, some));
    }
