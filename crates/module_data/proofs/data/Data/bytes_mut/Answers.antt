use Rattle.std.proofs.Common.{◌≡◌, ◌∙◌, length, Some, refl, ap, sym, arith}
use Rattle.std.proofs.lemmas.List.{get_or_default}
use Rattle.module_data.specs.Pieces.{no_piece}
use Rattle.module_data.specs.Lending.{piece_of}
use Rattle.module_data.proofs.Held.{held_bytes, held_within}
use Rattle.module_data.proofs.data.Data.bytes_mut.Goals as goal

pub index_mut-requires : goal.index_mut-requires
index_mut-requires c =
    let ok = c.self.inside.pieces.ok.0 in
    let long = ap length c.self.view_is in
    let within = held_within c.args.self.now c.args.instance c.args.image c.requires in
    omega (arith, ok, long, within)

pub returns : goal.returns
returns c =
    let d = c.args.self.now in
    let within = held_within d c.args.instance c.args.image c.requires in
    let one : piece_of d c.args.image ≡ c.index_mut.result.now =
    rw (← c.self.view_is) (get_or_default c.self.inside.pieces.items c.args.image no_piece c.index_mut.result.now
    (omega (arith, within, ap length c.self.view_is)) ∙ sym c.index_mut.ensures.value) in (
      (refl, λ w. rw (c.self.view_is, one) refl),
      record {
        writes_back = tt;
        value =
            held_bytes d c.args.instance c.args.image c.requires ∙ ap (λ p. Some p.bytes) one
            ∙ ap Some (sym c.bytes_mut.ensures.value);
      },
    )
