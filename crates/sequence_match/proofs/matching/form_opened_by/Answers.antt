use Rattle.std.proofs.Common.{subst}
use Rattle.elf_records.specs.declared.relocation.RelocationKind.{RelocationKind}
use Rattle.sequence_forms.specs.declared.forms.Form.TheVariants.{Gd, Ld, IeMov, IeAdd, GdInd, LdInd, DescLea, DescCall}
use Rattle.sequence_match.specs.Code.{IsOpened}
use Rattle.sequence_match.proofs.Opened.{IsAmong, among_none, among_of, none_of_one, none_of_two}
use Rattle.sequence_match.proofs.matching.form_opened_by.Goals as goal

pub returns-in-TlsGd : goal.returns-in-TlsGd
returns-in-TlsGd c =
    none_of_two c.args.code.now c.args.entry c.args.first.now c.requires.entry Gd GdInd c.form_of_two.result
    (λ form. IsOpened c.args.code.now form c.args.entry)
    (λ site m. let P : RelocationKind → Type 0 = λ kind. IsAmong site.form kind in
    subst P c.in-TlsGd.is m) c.form_of_two.ensures

pub returns-in-TlsLd : goal.returns-in-TlsLd
returns-in-TlsLd c =
    none_of_two c.args.code.now c.args.entry c.args.first.now c.requires.entry Ld LdInd c.form_of_two-in-TlsLd.result
    (λ form. IsOpened c.args.code.now form c.args.entry)
    (λ site m. let P : RelocationKind → Type 0 = λ kind. IsAmong site.form kind in
    subst P c.in-TlsLd.is m) c.form_of_two-in-TlsLd.ensures

pub returns-in-GotTpOff : goal.returns-in-GotTpOff
returns-in-GotTpOff c =
    none_of_two c.args.code.now c.args.entry c.args.first.now c.requires.entry IeMov IeAdd c.form_of_two-in-GotTpOff.result (λ form. IsOpened c.args.code.now form c.args.entry)
    (λ site m. let P : RelocationKind → Type 0 = λ kind. IsAmong site.form kind in
    subst P c.in-GotTpOff.is m) c.form_of_two-in-GotTpOff.ensures

pub returns-in-GotPc32TlsDesc : goal.returns-in-GotPc32TlsDesc
returns-in-GotPc32TlsDesc c =
    none_of_one c.args.code.now c.args.entry c.args.first.now c.requires.entry DescLea c.form_if.result
    (λ form. IsOpened c.args.code.now form c.args.entry)
    (λ site m. let P : RelocationKind → Type 0 = λ kind. IsAmong site.form kind in
    subst P c.in-GotPc32TlsDesc.is m) c.form_if.ensures.opened

pub returns-in-TlsDescCall : goal.returns-in-TlsDescCall
returns-in-TlsDescCall c =
    none_of_one c.args.code.now c.args.entry c.args.first.now c.requires.entry DescCall c.form_if-in-TlsDescCall.result
    (λ form. IsOpened c.args.code.now form c.args.entry)
    (λ site m. let P : RelocationKind → Type 0 = λ kind. IsAmong site.form kind in
    subst P c.in-TlsDescCall.is m) c.form_if-in-TlsDescCall.ensures.opened

pub returns-in_default : goal.returns-in_default
returns-in_default c = λ site is.
    among_none site.form c.args.first.now.kind
    (among_of c.args.code.now.bytes.now c.args.code.now.relocations.now _ c.args.entry c.args.first.now site c.requires.entry is)
    c.in_default.not-TlsGd c.in_default.not-TlsLd c.in_default.not-GotTpOff c.in_default.not-GotPc32TlsDesc c.in_default.not-TlsDescCall
