use Rattle.std.proofs.Common.{◌≡◌, ◌∙◌, ◌++◌, ◌+◌, List, ℕ, drop, length, refl, sym, ap, arith, take}
use Rattle.std.proofs.Math.Seq.{take-length}
use Rattle.image_writer.specs.Written.{written}
use Rattle.placed_sections.specs.declared.part.PlacedPart.{PlacedPart}
use Rattle.link_needs.specs.Linking.{Linking}
use Rattle.link_core.specs.Bytes.{file}
use Rattle.link_core.specs.Images.{image_of}
use Rattle.link_core.specs.Laying.{laid_parts, made_behind}
use Rattle.link_core.proofs.Laying.{file_behind}
use Rattle.link_core.proofs.PartPieces.{pieces_joined}
use Rattle.link_core.proofs.ready.ReadyLink.pieces.Goals as goal

pub returns-clause-whole : goal.returns-clause-whole
returns-clause-whole g c =
    let l = c.tables.inside.plan in
    let parts = c.in_ok-parts.parts.items in
    let front = c.in_ok-front.field-0.front.items in
    let last = c.in_ok-front.field-0.back.items in
    let own = laid_parts l 4096 parts in
    let all : length (laid_parts l 4096 (take c.len.result c.as_slice.result.now)) ≡ length own =
    ap (λ (ps : List PlacedPart). length (laid_parts l 4096 ps))
    (ap (λ n. take n c.as_slice.result.now) (c.len.ensures ∙ c.in_ok-parts.parts.ok.0)
    ∙ ap (take (length parts)) c.as_slice.ensures.value
    ∙ take-length parts) in
    let none = ap length c.new-back.ensures.items in
    let end : c.start_of.result + length c.new-back.result.items ≡ 4096 + length own =
    omega (arith, c.start_of.ensures.start, all, none) in
    let behind : c.extend_from_slice.new.self.items ≡ made_behind l (4096 + length own) ++ last =
    c.in_ok-extend_from_slice.ensures.items
    ∙ ap (λ (xs : List ℕ). xs ++ c.as_slice-2.result.now) (c.in_ok-push_made.ensures
    ∙ ap (λ (xs : List ℕ). xs
    ++ made_behind l (c.start_of.result + length c.new-back.result.items)) c.new-back.ensures.items
    ∙ ap (made_behind l) end)
    ∙ ap (λ (xs : List ℕ). made_behind l (4096 + length own) ++ xs) c.as_slice-2.ensures.value in
    ap (λ (xs : List ℕ). front ++ (xs ++ c.extend_from_slice.new.self.items)) (pieces_joined l 4096 parts)
    ∙ ap (λ (xs : List ℕ). front ++ (own ++ xs)) behind
    ∙ ap (λ (xs : List ℕ). front ++ xs) (sym (file_behind l parts 4096 last c.in_ok-parts.ensures.placed refl))
    ∙ ap (λ (l' : Linking). front ++ (drop 4096 (file l') ++ last)) c.tables.view_is
    ∙ sym c.in_ok-front.ensures.file
    ∙ ap (λ (l' : Linking). written (image_of l')) c.self.view_is
