use Rattle.std.proofs.Common.{◌≡◌, [], subst}
use Rattle.std.proofs.lemmas.List.{get_or_read}
use Rattle.elf_object.specs.Faults.{IsObject}
use Rattle.tls_symbols.specs.Bindings.{object_at}
use Rattle.tls_symbols.specs.Searches.{NoneIn}
use Rattle.tls_symbols.proofs.FirstUses.{skips_object}
use Rattle.tls_symbols.proofs.searching.first_in.Goals as goal

pub returns-then-not-may_be_in : goal.returns-then-not-may_be_in
returns-then-not-may_be_in g c =
    let P = g.Q.Question.about c.args.question.now in
    let objects = c.args.objects.now in
    let o = c.args.number in
    let b = c.index-objects-number.result in
    let here : b ≡ object_at objects o = get_or_read objects o b c.requires.number c.index-objects-number.is [] in
    skips_object P objects o (subst IsObject here c.section_count-count.ensures.object)
    (subst (NoneIn P o) here (c.may_be_in.ensures c.if-not-may_be_in.true)) c.requires.before
