-- What was read is what the list of bytes gives, and that is what it spells.
use Rattle.std.proofs.Common.{◌∙◌, ap, sym, take, drop}
use Rattle.std.proofs.lemmas.List.{take-append-drop}
use Rattle.amd64_subset.specs.Decoding.{decoded}
use Rattle.amd64_subset.proofs.Whole.{decoded_again}
use Rattle.amd64_subset.proofs.Places.{decoded_spells, decoded_length, decoded_placed}
use Rattle.amd64_subset.proofs.reading.decode.Goals as goal

pub returns : goal.returns
returns c = record {
  found = decoded_spells c.args.bytes.now c.read.result c.read.ensures;
  only = λ n d spells. c.read.ensures ∙ ap decoded (sym (take-append-drop n c.args.bytes.now))
      ∙ decoded_again (take n c.args.bytes.now) d (drop n c.args.bytes.now) spells;
  length = decoded_length c.args.bytes.now c.read.result c.read.ensures;
  inside = decoded_placed c.args.bytes.now c.read.result c.read.ensures;
  exact = c.read.ensures;
}
