-- A vector stays one, whatever is written to a block.
use Rattle.std.proofs.Math.ListN.{set}
use Rattle.std.specs.Prelude.{slice_range}
use Rattle.thread_vector.specs.declared.dtv.Place.{Place}
use Rattle.thread_vector.specs.Places.{bytes_at, slots_with, with_block}
use Rattle.std.proofs.Common.{◌+◌, Some, ◌≡◌, ◌∙◌, ◌<◌, length, sym, ap, refl}
use Rattle.std.proofs.lemmas.List.{get_or_default}
use Rattle.thread_vector.specs.Views.{vector_of}
use Rattle.thread_vector.specs.Vectors.{Vector, Piece, held, no_piece, rewritten, slot_of}
use Rattle.thread_vector.proofs.Lending.{length-rewritten, vector_rewritten, writes_block}
use Rattle.thread_vector.proofs.dtv.Dtv.block_mut.Goals as goal

pub invariant_of-self-lent : goal.invariant_of-self-lent
invariant_of-self-lent c w =
    let low : c.place-place.result.slot < length c.self.inside.slots.items = c.place-place.ensures.low in
    let slot : c.index_mut.result.now ≡ slot_of c.self.inside.slots.items c.place-place.result.slot =
    c.index_mut.ensures.value
    ∙ get_or_default c.self.inside.slots.items c.place-place.result.slot c.index_mut.result.now no_piece low in
    vector_rewritten (vector_of c.self.inside) c.place-place.result.slot
    (record {
      instance = c.index_mut.result.now.instance;
      bytes = rewritten c.index_mut.result.now.bytes c.place-place.result.from w;
    }) c.self.invariant low
    (ap (λ (x : Piece). x.instance) slot)
    (length-rewritten c.index_mut.result.now.bytes c.place-place.result.from w
    ∙ ap (λ (x : Piece). length x.bytes) slot)

pub returns : goal.returns
returns c =
    let v = vector_of c.self.inside in
    let slot : c.index_mut.result.now ≡ slot_of c.self.inside.slots.items c.place-place.result.slot =
    c.index_mut.ensures.value
    ∙ get_or_default c.self.inside.slots.items c.place-place.result.slot c.index_mut.result.now no_piece c.place-place.ensures.low in
    let part : c.part_mut.result.now ≡ bytes_at c.self.inside.slots.items c.place-place.result =
    c.part_mut.ensures.value
    ∙ ap (λ (x : Piece). slice_range x.bytes c.place-place.result.from
    (c.place-place.result.from + c.place-place.result.size)) slot in (
      (
        refl,
        λ w. ap (λ (x : Piece). record v {
          slots = set c.self.inside.slots.items c.place-place.result.slot
              (record { instance = x.instance; bytes = rewritten x.bytes c.place-place.result.from w });
        }) slot
            ∙ ap (λ (p : Place). record v
            { slots = slots_with c.self.inside.slots.items p w }) c.place-place.ensures.place
            ∙ ap (λ (u : Vector). with_block u c.args.instance w) c.self.view_is,
      ),
      record {
        writes_back = tt;
        value = ap (λ (u : Vector). held u c.args.instance) (sym c.self.view_is) ∙ c.place-place.ensures.block
            ∙ ap Some (sym part);
        writes = rw (← c.self.view_is)
            (λ w long. writes_block v c.args.instance c.place-place.result c.self.invariant
            (rw c.self.view_is c.requires) c.place-place.ensures.place w (long ∙ ap length part));
      },
    )
