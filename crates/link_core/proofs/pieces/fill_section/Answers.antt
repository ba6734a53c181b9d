use Rattle.std.proofs.Common.{◌≡◌, ◌-◌, ◌∙◌, ◌++◌, ℕ, List, drop, length, ap}
use Rattle.std.proofs.lemmas.List.{drop-replicate}
use Rattle.elf_object.specs.Lent.{section_bytes, section_size}
use Rattle.tls_relocs.specs.Laid.{zeros}
use Rattle.link_needs.specs.Linking.{object}
use Rattle.link_core.specs.Bytes.{linked, linked_section}
use Rattle.link_core.proofs.pieces.fill_section.Goals as goal

pub returns : goal.returns
unfolding linked_section
returns c =
    let l = c.args.plan.now in
    let o = c.args.own.object in
    let t = c.args.own.section in
    let b = c.object.ensures ∙ ap (λ l. object l o) c.plan.view_is in
    let own = section_bytes (object l o) t in
    let size = section_size (object l o) t in
    let back = c.split_at_mut-front.result.1.now in
    let bytes = c.in-Some.ensures.part.bytes_are ∙ ap (λ b. section_bytes b t) b in
    let n = length c.in-Some.part.bytes.now in
    let rest : back ≡ zeros (size - length own) =
    c.split_at_mut-front.ensures.back ∙ ap (drop n) c.requires.zero ∙ drop-replicate n size 0
    ∙ ap (λ (xs : List ℕ). zeros (size - length xs)) bytes in
    c.link_section.ensures.written
    ∙ ap (linked l o t) (ap (λ (xs : List ℕ). xs ++ back) (c.copy_from_slice.ensures.after ∙ bytes)
    ∙ ap (λ (ys : List ℕ). own ++ ys) rest)
