use Rattle.std.proofs.Common.{◌≡◌}
use Rattle.module_data.specs.Lending.{piece_of}
use Rattle.module_data.proofs.Held.{byte_held, byte_within, held_bytes, lent_written}
use Rattle.module_data.proofs.data.Data.set_byte.Goals as goal

pub bytes_mut-bytes-requires : goal.bytes_mut-bytes-requires
bytes_mut-bytes-requires c = byte_held c.args.self.now c.args.instance c.args.image c.args.at c.requires

pub bounds-bytes-at : goal.bounds-bytes-at
bounds-bytes-at c =
    byte_within c.args.self.now c.args.instance c.args.image c.args.at c.bytes_mut-bytes.result.now
    c.bytes_mut-bytes.ensures.value c.requires

pub returns : goal.returns
returns c =
    let d = c.args.self.now in
    let there = byte_held d c.args.instance c.args.image c.args.at c.requires in
    let lent = held_bytes d c.args.instance c.args.image there in
    let value = c.bytes_mut-bytes.ensures.value in
    let same : (piece_of d c.args.image).bytes ≡ c.bytes_mut-bytes.result.now = cc in
    lent_written d c.args.image c.args.at c.args.byte c.bytes_mut-bytes.result.now same
