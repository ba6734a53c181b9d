-- What was written is the canonical spelling.
use Rattle.std.proofs.Common.{◌≤◌, length, ap, ◌∙◌, arith}
use Rattle.amd64_encoder.specs.Writing.{form_bytes, spliced, spelling_of}
use Rattle.amd64_encoder.proofs.Canon.{canonical}
use Rattle.amd64_encoder.proofs.Encoded.{written}
use Rattle.amd64_encoder.proofs.writing.encode.Goals as goal

pub write-requires : goal.write-requires
unfolding spelling_of
write-requires c =
    let same = ap (λ form. length (form_bytes form c.args.instr.now.displacement)) c.choose.ensures in
    let short : length (spelling_of c.args.instr.now) ≤ 15 = (canonical c.args.instr.now c.requires).short in
    omega arith

pub returns : goal.returns
unfolding spelling_of
returns c =
    let is = c.write.ensures.written
    ∙ ap (λ form. spliced 0 (form_bytes form c.args.instr.now.displacement) c.args.into.now) c.choose.ensures in
    let size = c.write.ensures.next
    ∙ ap (λ form. length (form_bytes form c.args.instr.now.displacement)) c.choose.ensures in
    let w = written c.args.instr.now c.args.into.now c.write.new.into c.write.result c.requires is size in
    record { canonical = w.canonical; again = w.again; some = w.some; most = w.most; kept = w.kept; exact = w.exact }
