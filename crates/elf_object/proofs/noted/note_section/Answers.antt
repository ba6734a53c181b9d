use Rattle.std.proofs.Common.{◌≡◌, ◌∙◌, ◌++◌, ◌∷◌, [], length, ap, sym, subst, append_assoc, rules}
use Rattle.std.specs.Prelude.{drop, take}
use Rattle.std.proofs.lemmas.List.{append-nil}
use Rattle.std.proofs.Math.Seq.{take-append_seam}
use Rattle.elf_object.specs.Lent.{relocations}
use Rattle.elf_object.specs.Noted.{AreNoted, AreRoles}
use Rattle.elf_object.proofs.Noting.{noted_more}
use Rattle.elf_object.proofs.noted.note_section.Goals as goal

pub loop-relocation-init : goal.loop-relocation-init
loop-relocation-init c = (
  [],
  search rules,
  λ symbols seen was. subst
      (λ all. AreNoted symbols all c.args.notes.now.roles.items c.args.notes.now.traits) (sym (append-nil seen)) was,
)

pub loop-relocation-preserved : goal.loop-relocation-preserved
loop-relocation-preserved c =
    let kept = c.loop-relocation.invariant in
    let r = c.in-Some.relocation in
    let first = c.in-Some.ensures.steps in
    let done = kept.0 in (
      done ++ r ∷ [],
      append_assoc done (r ∷ []) c.next.new.self ∙ ap (λ rest. done ++ rest) (sym first) ∙ kept.1,
      λ symbols seen was.
          let old = kept.2 symbols seen was in
          let value = c.deref_mut.ensures.value in
          let back = take-append_seam c.note_role.new.roles
          (drop (length c.note_role.new.roles) c.loop-relocation.notes.roles.items) in
          let here = subst (λ all. AreNoted symbols all c.note_role.new.roles c.with-notes.result)
          (append_assoc seen done (r ∷ []))
          (noted_more symbols (seen ++ done) r c.loop-relocation.notes.roles.items c.note_role.new.roles
          c.loop-relocation.notes.traits c.with-notes.result c.with-notes.ensures
          (c.note_role.ensures.len ∙ ap length value)
          (λ roles. c.note_role.ensures.roles (seen ++ done)
          (subst (AreRoles (seen ++ done)) (sym value) roles)) old) in
          let len = c.note_role.ensures.len ∙ c.deref_mut.ensures.len in
          subst (λ roles. AreNoted symbols (seen ++ (done ++ r ∷ [])) roles c.with-notes.result)
          (sym (ap (λ n. take n (c.note_role.new.roles
          ++ drop (length c.note_role.new.roles) c.loop-relocation.notes.roles.items)) (sym len) ∙ back)) here,
    )

pub returns : goal.returns
returns c symbols seen was =
    let kept = c.loop-relocation.invariant in
    let all : kept.0 ≡ relocations c.args.tables.now.bytes.now c.args.section =
    sym (append-nil kept.0) ∙ ap (λ rest. kept.0 ++ rest) (sym c.in-None.ensures.steps.0) ∙ kept.1 in
    subst (λ found. AreNoted symbols
    (seen ++ found) c.loop-relocation.notes.roles.items c.loop-relocation.notes.traits) all
    (kept.2 symbols seen was)
