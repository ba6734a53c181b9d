use Rattle.std.proofs.Common.{◌≡◌, ◌∙◌, ◌++◌, ◌-◌, ◌<◌, [], ap, sym, refl, subst, append_assoc, arith, rules}
use Rattle.std.specs.Prelude.{replicate}
use Rattle.std.specs.List.{flat_map, range_with_len}
use Rattle.std.proofs.lemmas.List.{append-nil}
use Rattle.elf_object.specs.Lent.{relocations}
use Rattle.elf_object.specs.Noted.{all_relocations, roles_of, traits_of, AreNoted}
use Rattle.elf_object.specs.Object.{section_count}
use Rattle.elf_object.specs.Parts.{symbol_count}
use Rattle.elf_object.proofs.Noting.{noted_none}
use Rattle.elf_object.proofs.Ranges.{range_first}
use Rattle.elf_object.proofs.noted.noted.Goals as goal

pub loop-section-init : goal.loop-section-init
unfolding all_relocations roles_of traits_of
loop-section-init c = (
  [],
  refl,
  noted_none _ _ _ (c.in_ok-vec.ensures.items_if_clones_equal (λ y e. e)
      ∙ ap (λ n. replicate n (roles_of [] 0)) c.args.tables.now.symbols_are.count_is) (search rules),
)

pub loop-section-preserved : goal.loop-section-preserved
loop-section-preserved c =
    let b = c.args.tables.now.bytes.now in
    let s = c.loop-section.section in
    let kept = c.loop-section.invariant in
    let done = kept.0 in
    let more : s < section_count b = omega (arith, c.loop-section-test.true, c.args.tables.now.count_is) in
    let next = ap (flat_map (relocations b)) (range_first s (section_count b) more) in (
      done ++ relocations b s,
      append_assoc done (relocations b s) _ ∙ ap (λ rest. done ++ rest) (sym next) ∙ kept.1,
      c.note_section.ensures (symbol_count b) done kept.2,
    )

pub returns : goal.returns
returns c =
    let b = c.args.tables.now.bytes.now in
    let kept = c.loop-section.invariant in
    let past : section_count b - c.loop-section.section ≡ 0 =
    omega (arith, c.loop-section-test.false, c.args.tables.now.count_is) in
    let all : kept.0 ≡ all_relocations b =
    sym (append-nil kept.0)
    ∙ sym (ap (λ n. kept.0 ++ flat_map (relocations b) (range_with_len c.loop-section.section n)) past) ∙ kept.1 in
    subst (λ done. AreNoted
    (symbol_count b) done c.loop-section.notes.roles.items c.loop-section.notes.traits) all kept.2
