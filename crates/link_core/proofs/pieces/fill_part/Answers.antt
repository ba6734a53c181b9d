use Rattle.std.proofs.Common.{◌≡◌, ◌-◌, ◌∙◌, ◌++◌, ℕ, List, [], ◌∷◌, append-nil, length, sym, ap, subst, arith}
use Rattle.std.specs.Option.{IfSome}
use Rattle.elf_object.specs.Lent.{section_size}
use Rattle.placed_sections.specs.Files.{bytes_in}
use Rattle.placed_sections.specs.Laws.{IsOwn}
use Rattle.tls_relocs.specs.Laid.{zeros}
use Rattle.link_needs.specs.Linking.{object}
use Rattle.link_core.specs.Bytes.{linked_section}
use Rattle.link_core.specs.Laying.{laid_parts}
use Rattle.link_core.proofs.Laying.{one_length, zeros_behind, zeros_in_front}
use Rattle.link_core.proofs.LengthsKept.{linked_whole}
use Rattle.link_core.proofs.pieces.fill_part.Goals as goal

pub fill_section-requires-clause-zero : goal.fill_section-requires-clause-zero
fill_section-requires-clause-zero c =
    let l = c.args.plan.now in
    let part = c.args.part.now in
    let from = c.args.from in
    let own = c.in-Some.section in
    let is = subst (λ s. IfSome s (IsOwn l.objects)) c.in-Some.is c.requires.near.own in
    let size : length (bytes_in (linked_section l) part.section) ≡ section_size (object l own.object) own.section =
    ap (λ s. length (bytes_in (linked_section l) s)) c.in-Some.is
    ∙ linked_whole l c.is_given.ensures.given own.object own.section is.object in
    zeros_behind (part.place - from) (section_size (object l own.object) own.section)
    (length (laid_parts l from (part ∷ []))) c.split_at_mut-own.result.1.now c.args.bytes.now
    c.split_at_mut-own.ensures.back c.requires.zero (omega (arith, one_length l from part, size))

pub returns-in-Some : goal.returns-in-Some
returns-in-Some c =
    let l = c.args.plan.now in
    let part = c.args.part.now in
    let from = c.args.from in
    let own = bytes_in (linked_section l) part.section in
    let front = zeros_in_front (part.place - from) (length (laid_parts l from (part ∷ [])))
    c.split_at_mut-own.result.0.now c.args.bytes.now c.split_at_mut-own.ensures.front c.requires.zero
    (omega (arith, one_length l from part)) in
    ap (λ (xs : List ℕ). xs ++ c.fill_section.new.bytes) front
    ∙ ap (λ (ys : List ℕ). zeros (part.place - from) ++ ys)
    (c.fill_section.ensures ∙ sym (ap (bytes_in (linked_section l)) c.in-Some.is) ∙ sym (append-nil own))
