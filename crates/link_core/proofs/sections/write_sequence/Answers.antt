use Rattle.std.proofs.Common.{◌∙◌, Some, None, ap, arith}
use Rattle.elf_object.specs.Lent.{section_size}
use Rattle.link_needs.specs.Linking.{object}
use Rattle.link_core.specs.Bytes.{with_new_field}
use Rattle.link_core.proofs.WritingRoom.{site_usable}
use Rattle.link_core.proofs.WritingSites.{entry_has, site_writes}
use Rattle.link_core.proofs.sections.write_sequence.Goals as goal

pub choice-choice-requires-clause-object : goal.choice-choice-requires-clause-object
choice-choice-requires-clause-object c =
    let given = c.is_given.ensures.given in
    omega (arith, given.each, c.requires.object)

pub rewrite-requires : goal.rewrite-requires
rewrite-requires c =
    let l = c.args.plan.now in
    let o = c.args.own.object in
    let site = c.args.site.now in
    let has = entry_has l o c.args.number site c.requires.number c.requires.at in
    let usable = site_usable l o site c.is_given.ensures.given c.requires.object has in
    let size = ap (section_size (object l o)) c.requires.section in
    record {
      inside = omega (arith, usable.inside, size, c.requires.whole);
      whole = usable.whole;
      register = usable.register;
      own = c.choice-choice.ensures.own site c.requires.at;
    }

pub write_new_field-requires-clause-own : goal.write_new_field-requires-clause-own
write_new_field-requires-clause-own c =
    entry_has c.args.plan.now c.args.own.object c.args.number c.args.site.now c.requires.number c.requires.at

pub returns-in-Some-clause-written : goal.returns-in-Some-clause-written
returns-in-Some-clause-written c =
    let l = c.args.plan.now in
    let o = c.args.own.object in
    let site = c.args.site.now in
    c.write_new_field.ensures.written
    ∙ ap (with_new_field l o site (Some c.in-Some.field)) c.rewrite.ensures
    ∙ site_writes l o site c.args.bytes.now c.choice-choice.result (Some c.in-Some.field)
    (c.choice-choice.ensures.choice site c.requires.at) c.in-Some.ensures

pub returns-in_default-clause-written : goal.returns-in_default-clause-written
returns-in_default-clause-written c =
    let site = c.args.site.now in
    c.rewrite.ensures
    ∙ site_writes c.args.plan.now c.args.own.object site c.args.bytes.now c.choice-choice.result None
    (c.choice-choice.ensures.choice site c.requires.at) c.in_default.ensures
