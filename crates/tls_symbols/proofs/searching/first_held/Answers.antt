use Rattle.std.proofs.Common.{◌≡◌, [], sym, subst, arith}
use Rattle.std.proofs.lemmas.List.{get_or_read}
use Rattle.tls_symbols.specs.Bindings.{object_at}
use Rattle.tls_symbols.specs.Walks.{use_at, IsFirstUsed}
use Rattle.tls_symbols.proofs.FirstUses.{holds, next_entry, next_section, skips_section, use_of, used_here}
use Rattle.tls_symbols.proofs.searching.first_held.Goals as goal

pub returns-in_default : goal.returns-in_default
returns-in_default g c =
    let P = g.Q.Question.about c.args.question.now in
    let objects = c.args.objects.now in
    let o = c.args.number in
    let s = c.args.table in
    let b = c.index-objects-number.result in
    let here : b ≡ object_at objects o = get_or_read objects o b c.requires.number c.index-objects-number.is [] in
    skips_section P objects o s b here c.in_default.ensures.target c.requires.before

pub is_about-requires : goal.is_about-requires
is_about-requires g c =
    let objects = c.args.objects.now in
    let o = c.args.number in
    let s = c.args.table in
    let b = c.index-objects-number.result in
    let here : b ≡ object_at objects o = get_or_read objects o b c.requires.number c.index-objects-number.is [] in
    let t = c.in-Some.section in
    let rs = c.relocs-relocs.result in
    let relocs = c.relocs-relocs.ensures in
    let held = holds objects o s t b rs relocs.object here c.in-Some.ensures.target relocs.relocations in
    let e = c.loop-entry.entry in
    let r = c.at.result in
    let found = c.at.ensures in
    c.requires.asked _ (use_of objects o s t rs held e c.from.result r found c.requires.number)

pub returns-then-is_about : goal.returns-then-is_about
returns-then-is_about g c =
    let P = g.Q.Question.about c.args.question.now in
    let objects = c.args.objects.now in
    let o = c.args.number in
    let s = c.args.table in
    let b = c.index-objects-number.result in
    let here : b ≡ object_at objects o = get_or_read objects o b c.requires.number c.index-objects-number.is [] in
    let t = c.in-Some.section in
    let rs = c.relocs-relocs.result in
    let relocs = c.relocs-relocs.ensures in
    let held = holds objects o s t b rs relocs.object here c.in-Some.ensures.target relocs.relocations in
    let e = c.loop-entry.entry in
    let r = c.at.result in
    let found = c.at.ensures in
    let there = c.requires.table in
    subst (λ s. P (use_at o s t e r) → IsFirstUsed P objects o s e) (sym c.from.ensures)
    (λ has. (
      used_here P objects o s t rs held e r c.requires.number there.0 there.1 found has,
      c.loop-entry.invariant,
    )) c.if-is_about.ensures

pub loop-entry-preserved : goal.loop-entry-preserved
loop-entry-preserved g c =
    let P = g.Q.Question.about c.args.question.now in
    let objects = c.args.objects.now in
    let o = c.args.number in
    let s = c.args.table in
    let b = c.index-objects-number.result in
    let here : b ≡ object_at objects o = get_or_read objects o b c.requires.number c.index-objects-number.is [] in
    let t = c.in-Some.section in
    let rs = c.relocs-relocs.result in
    let relocs = c.relocs-relocs.ensures in
    let held = holds objects o s t b rs relocs.object here c.in-Some.ensures.target relocs.relocations in
    let e = c.loop-entry.entry in
    let r = c.at.result in
    let found = c.at.ensures in
    let lacks = subst (λ s. P (use_at o s t e r) → ⊥) c.from.ensures c.if-is_about.ensures in
    next_entry P objects o s t rs held e r found lacks c.loop-entry.invariant

pub returns : goal.returns
returns g c =
    let P = g.Q.Question.about c.args.question.now in
    let objects = c.args.objects.now in
    let o = c.args.number in
    let s = c.args.table in
    let b = c.index-objects-number.result in
    let here : b ≡ object_at objects o = get_or_read objects o b c.requires.number c.index-objects-number.is [] in
    let t = c.in-Some.section in
    let rs = c.relocs-relocs.result in
    let relocs = c.relocs-relocs.ensures in
    let held = holds objects o s t b rs relocs.object here c.in-Some.ensures.target relocs.relocations in
    let past = c.loop-entry-test.false in
    next_section P objects o s t rs held c.loop-entry.entry
    (omega (arith, past, c.len-entry-end.ensures)) c.loop-entry.invariant
